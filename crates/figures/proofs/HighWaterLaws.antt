-- The loop of `allocator_high_water_marks`: what it keeps is the largest among the lines passed, and at its end the marks of the box.
-- Assumes nothing.
use Prim.Native.Nat.{ℕ, ◌+◌, ◌-◌, ◌≤◌, ◌<◌}
use native.Mathlib.Omega.{arith}
use mathlib.Core.Path.{◌≡◌, refl, ap, ◌∙◌}
use mathlib.Core.List.{List, ◌∷◌}
use lib.ListN.{length, get_or, take}
use Rattle.seqs.specs.Tables.{shown}
use Rattle.seqs.proofs.Downs.{Down, down-start, down-more, down-end}
use Rattle.forms.specs.Bytes.{Bytes}
use Rattle.rules.specs.Box as box
use Rattle.rules.specs.Figures.{largest, marks}
use Rattle.rules.specs.declared.figures.Marks.{Marks}
use Rattle.store.specs.View.{place_of, line_of, row_in, box_of, no_slot}
use Rattle.store.specs.Made.{Built}
use Rattle.store.proofs.BuiltLaws.{slot-in}
use Rattle.store.proofs.ViewLaws.{past-numbers}
use Rattle.store.specs.declared.table.Slot.{Slot}
use Rattle.store.specs.declared.table.Store.{Store}
use Rattle.figures.specs.Walks.{add_mark, line_marks}
use Rattle.figures.proofs.DefaultFigureLaws.{stored-starts}

-- ---- the loop

cons : (e : box.KeyLine) (es : List box.KeyLine) → line_marks (e ∷ es) ≡ add_mark e (line_marks es)
unfolding line_marks largest
cons e es = refl

abbrev pub LinesMarked : Bytes → List Slot → ℕ → ℕ → Marks → Type 0
LinesMarked area slots n i m = Down line_marks (shown (line_of area) n slots) n i m

module _ {st : Store} {area : Bytes} (made : Built st area) where
  pub marks-start : LinesMarked area st.lines st.load.lines st.load.lines (record { txn = 0; stamp = 0 })
  unfolding line_marks largest
  marks-start = down-start made.lines (line_of area) line_marks refl

  pub marks-ready : {i : ℕ} {m : Marks} → LinesMarked area st.lines st.load.lines i m → 0 < i → place_of (get_or st.lines (i - 1) no_slot) + (get_or st.lines (i - 1) no_slot).len + 16 ≤ length area
  marks-ready {i} w h = omega (arith, slot-in made (i - 1) (omega (arith, w.low)), past-numbers (get_or st.lines (i - 1) no_slot).line)

  pub marks-more : {i : ℕ} {m r : Marks} → LinesMarked area st.lines st.load.lines i m → 0 < i → r ≡ add_mark (line_of area (get_or st.lines (i - 1) no_slot)) m → LinesMarked area st.lines st.load.lines (i - 1) r
  marks-more w h e = down-more made.lines (line_of area) line_marks add_mark cons w h e

  -- no default starts later than its line
  pub marks-end : {i : ℕ} {m : Marks} → LinesMarked area st.lines st.load.lines i m → i ≤ 0 → m ≡ marks (box_of st area)
  unfolding marks line_marks shown
  marks-end w h =
      let s = stored-starts (line_of area) (row_in area) (take st.load.lines st.lines) in
      let e : (line_marks (box_of st area).lines).stamp ≡ (marks (box_of st area)).stamp = omega arith in
      down-end w h ∙ ap (λ (t : ℕ). record { txn = (line_marks (box_of st area).lines).txn; stamp = t }) e
