-- The loop of `stats`: what it keeps is the walk over the lines passed, and at its end the statistics of the box.
-- Assumes nothing.
use Prim.Native.Nat.{ℕ, ◌-◌, ◌≤◌, ◌<◌}
use native.Mathlib.Omega.{arith}
use mathlib.Core.Path.{◌≡◌, refl, sym, ap, ap₂, ◌∙◌, subst}
use mathlib.Core.List.{List, ◌∷◌}
use lib.ListN.{get_or, drop, take, length-drop}
use Rattle.seqs.specs.Tables.{shown}
use Rattle.seqs.proofs.Tables.{shown-length}
use Rattle.seqs.proofs.Downs.{Down, down-start, down-more, down-end}
use Rattle.std.specs.Prelude.{None}
use Rattle.forms.specs.Bytes.{Bytes}
use Rattle.rules.specs.declared.records.Kind.{Kind}
use Rattle.rules.specs.declared.records.Kind.TheVariants.{Put, Delete, Rollback}
use Rattle.rules.specs.declared.room.Load.{Load}
use Rattle.rules.specs.declared.figures.Figures.{Figures}
use Rattle.rules.specs.Box as box
use Rattle.rules.specs.Box.{kind_in}
use Rattle.rules.specs.Room.{load_of}
use Rattle.rules.specs.Figures.{figures, stats}
use Rattle.laws.proofs.Sorted.{fewer-drop, ordered-fewer}
use Rattle.laws.proofs.BoxOrder.{order-lines}
use Rattle.store.specs.View.{line_of, row_in, box_of, no_slot}
use Rattle.store.specs.Made.{Built}
use Rattle.store.proofs.BuiltLaws.{slot-in}
use Rattle.store.specs.declared.table.Slot.{Slot}
use Rattle.store.specs.declared.table.Store.{Store}
use Rattle.figures.specs.declared.runs.Run.{Run}
use Rattle.figures.specs.declared.runs.Runs.{Runs}
use Rattle.figures.specs.Walks.{no_run, ended, Few, if_row, rows_in, records_in, Sight, add_line, key_at, run_of, sight_of, sight_in, KeyIn, NextLine, LineCounted}
use Rattle.figures.proofs.RunLaws.{run-figures, run-few}
use Rattle.figures.proofs.DefaultFigureLaws.{record-keys, stored-keys}

-- ---- one line more

row_one : (k : Kind) → if_row k ≤ 1
row_one Put = omega arith
row_one Delete = omega arith
row_one Rollback = omega arith

record-one : (x : box.Line) → records_in x ≤ 1
record-one (box.Standing l) = omega arith
record-one (box.Finished w) = omega arith

cons : (e : box.KeyLine) (es : List box.KeyLine) → sight_of (e ∷ es) ≡ add_line e (sight_of es)
unfolding key_at run_of
cons e es = refl

-- ---- the loop: the lines from i on have been passed

pub record LinesPassed (area : Bytes) (slots : List Slot) (n i : ℕ) (seen : Runs) : Type 0 where
  pub down : Down sight_of (shown (line_of area) n slots) n i (sight_in area seen)
  pub within : KeyIn area seen.key

module _ {st : Store} {area : Bytes} (m : Built st area) where
  pub lines_start : {r q : Run} → r ≡ no_run → q ≡ no_run → LinesPassed area st.lines st.load.lines st.load.lines (record { key = None; rows = r; records = q })
  unfolding key_at run_of
  lines_start e f = rw (e, f) (record { down = down-start m.lines (line_of area) sight_of refl; within = tt })

  module _ {i : ℕ} {seen : Runs} (w : LinesPassed area st.lines st.load.lines i seen) where
    few : (n : box.Line → ℕ) → ((x : box.Line) → n x ≤ 1) → {r : Run} → r ≡ run_of n (drop i (box_of st area).lines) → Few r.long r.closed
    few n one e =
        let es = (box_of st area).lines in
        subst (λ (r : Run). Few r.long r.closed) (sym e)
        (run-few n one (drop i es) (ordered-fewer box.before (fewer-drop i es) (order-lines (box_of st area) m.kept.sorted)) (omega (arith, length-drop i es, shown-length m.lines (line_of area), m.lines.count_fits)))

    pub few_rows : Few seen.rows.long seen.rows.closed
    few_rows = few rows_in (λ x. row_one (kind_in x)) (ap (λ (s : Sight). s.rows) w.down.is)

    pub few-records : Few seen.records.long seen.records.closed
    few-records = few records_in record-one (ap (λ (s : Sight). s.records) w.down.is)

    pub lines-ready : 0 < i → NextLine area seen (get_or st.lines (i - 1) no_slot)
    lines-ready h = record { before_in = w.within; key_in = omega (arith, slot-in m (i - 1) (omega (arith, w.down.low))); rows = few_rows; records = few-records }

    pub lines_more : {q : Runs} → 0 < i → LineCounted area seen (get_or st.lines (i - 1) no_slot) q → LinesPassed area st.lines st.load.lines (i - 1) q
    lines_more h k = record { down = down-more m.lines (line_of area) sight_of add_line cons w.down h k.is; within = k.within }

    pub stats-end : {f g : Figures} → i ≤ 0 → f ≡ ended seen.rows.long seen.rows.closed → g ≡ ended seen.records.long seen.records.closed
        → record { defaults = f; locks = st.load.locks; records = g } ≡ stats (box_of st area)
    unfolding stats load_of shown
    stats-end {f} {g} h p q =
        let o = order-lines (box_of st area) m.kept.sorted in
        let e : sight_in area seen ≡ sight_of (box_of st area).lines = down-end w.down h in
        let a = p ∙ ap (λ (s : Sight). ended s.rows.long s.rows.closed) e ∙ run-figures rows_in (box_of st area).lines o ∙ sym (ap figures (stored-keys (line_of area) (row_in area) (take st.load.lines st.lines) o)) in
        let b = q ∙ ap (λ (s : Sight). ended s.records.long s.records.closed) e ∙ run-figures records_in (box_of st area).lines o ∙ sym (ap figures (record-keys (box_of st area).lines)) in
        ap₂ (λ (f g : Figures). record { defaults = f; locks = st.load.locks; records = g }) a b ∙ ap (λ (l : Load). record { defaults = (stats (box_of st area)).defaults; locks = l.locks; records = (stats (box_of st area)).records }) m.kept.load_is
