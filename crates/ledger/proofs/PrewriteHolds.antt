-- The claim on pairs is kept by an accepted entry of a prewrite. Assumes nothing.
use Prim.Native.Nat.{ℕ}
use mathlib.Core.Path.{◌≡◌, refl, ap}
use mathlib.Core.Bool.{true, false, ◌&&◌}
use mathlib.Core.List.{List, [], ◌∷◌}
use mathlib.Core.Option.{Option, none, some}
use lib.Dec.{eqb}
use Rattle.forms.specs.Key.{Key}
use Rattle.forms.specs.Row.{Row}
use Rattle.forms.specs.Bytes.{eq_bytes}
use Rattle.forms.specs.Batch.{Mutation}
use Rattle.forms.proofs.Orders.{eq_bytes-true}
use Rattle.rules.specs.Answers.{Accepted}
use Rattle.rules.specs.Box.{Box, Lock, Standing, KeyLine, Default, before, records_of, lock_of, row_of, insert_line}
use Rattle.rules.specs.Sound.{all_sound}
use Rattle.rules.specs.Calls.{kind_of, all_below, row_stands}
use Rattle.rules.specs.Prewrite.{PrewriteTerms, lock_for, store_if, lock_line, unless_locked, apply_prewrite, prewrite_entry, lock_step}
use Rattle.laws.proofs.RecordLaws.{below-started}
use Rattle.laws.proofs.PrewriteLaws.{prewrite-passed, free-row, own-lock, own_row}
use Rattle.ledger.specs.Ledger.{Named, of_mutation, last_row, or_older, lines_at, rows_at, line_is, RowFits, present, Holds}
use Rattle.ledger.proofs.ChosenLaws.{chosen-other, chosen-new}
use Rattle.ledger.proofs.PairLineLaws.{lock-in, no_lines}
use Rattle.ledger.proofs.PairRowLaws.{first_of, row_first, no_rows, rows_other, rows_new, self}
use Rattle.ledger.proofs.PairLaws.{extend, has_one, Apart, Own}

-- ---- a line comes

pub lines_other : (k : Key) (s : ℕ) (e : KeyLine) (es : List KeyLine) → line_is k s e ≡ false → lines_at k s (insert_line e es) ≡ lines_at k s es
lines_other k s e es h = chosen-other (line_is k s) (λ (e : KeyLine). e.line) before e es h

pub lines_new : (k : Key) (s : ℕ) (e : KeyLine) (es : List KeyLine) → line_is k s e ≡ true → lines_at k s es ≡ [] → lines_at k s (insert_line e es) ≡ e.line ∷ []
lines_new k s e es h n = chosen-new (line_is k s) (λ (e : KeyLine). e.line) before e es h n

-- ---- a row that is stored with its entry

store-own : (k : Key) (s : ℕ) (r last : Option Row) (ds : List Default) → rows_at k s ds ≡ [] → RowFits (kind_of r) (or_older r last) (rows_at k s (store_if k s r ds))
unfolding store_if or_older
store-own k s none last ds h = h
store-own k s (some r) last ds h = rows_new k s r ds h

store_apart : (i k : Key) (q s : ℕ) (r : Option Row) (ds : List Default) → eq_bytes k i && eqb s q ≡ false → rows_at k s (store_if i q r ds) ≡ rows_at k s ds
unfolding store_if
store_apart i k q s none ds h = refl
store_apart i k q s (some r) ds h = rows_other i k q s h r ds

-- the stored row is the entry's own
pub row_same : (r last : Option Row) (rs : List Row) → RowFits (kind_of r) last rs → row_stands r (first_of rs) ≡ true → RowFits (kind_of r) (or_older r last) rs
unfolding or_older
row_same none last rs f h = f
row_same (some r) none rs f h = absurd f
row_same (some r) (some q) rs f h =
    let e : eq_bytes r q ≡ true = rw f at h in
    rw (eq_bytes-true r q e) f

-- ---- the entry

module _ (h : PrewriteTerms) (m : Mutation) (b : Box) (log : List Named) where
  abbrev entry : KeyLine
  entry = record { key = m.key; line = Standing (lock_for h (kind_of m.row)) }

  new-lock : Holds b log → all_sound (records_of m.key b.lines) ≡ true → all_below h.start (records_of m.key b.lines) ≡ true
      → lock_of m.key b.lines ≡ none → row_of m.key h.start b.defaults ≡ none → Holds (lock_line h m b) (of_mutation h.start m ∷ log)
  unfolding lock_line
  new-lock hs sound below none-there no_row = extend b (lock_line h m b) (of_mutation h.start m) log hs others own
    where
      none-at : lines_at m.key h.start b.lines ≡ []
      none-at = no_lines m.key h.start b.lines none-there (below-started h.start _ sound below)

      others : Apart b (lock_line h m b) (of_mutation h.start m)
      others k s e = (lines_other k s entry b.lines e, store_apart m.key k h.start s m.row b.defaults e)

      own : Own (lock_line h m b) (of_mutation h.start m) log
      own =
          present (Standing (lock_for h (kind_of m.row))) (lines_new m.key h.start entry b.lines (self m.key h.start) none-at)
          (store-own m.key h.start m.row _ b.defaults (no_rows m.key h.start b.defaults no_row))

  old-lock : Holds b log → lock_of m.key b.lines ≡ some (lock_for h (kind_of m.row)) → row_stands m.row (row_of m.key h.start b.defaults) ≡ true
      → Holds b (of_mutation h.start m ∷ log)
  old-lock hs there rows = extend b b (of_mutation h.start m) log hs (λ k s e. (refl, refl)) own
    where
      one : (lines_at m.key h.start b.lines ≡ Standing (lock_for h (kind_of m.row)) ∷ [])
          × RowFits (kind_of m.row) (last_row m.key h.start log) (rows_at m.key h.start b.defaults)
      one = has_one b m.key h.start _ _ (Standing (lock_for h (kind_of m.row))) (hs m.key h.start) (lock-in m.key b.lines _ there)

      own : Own b (of_mutation h.start m) log
      own = present (Standing (lock_for h (kind_of m.row))) one.0 (row_same m.row _ _ one.1 (rw row_first at rows))

  pub prewrite-holds : prewrite_entry h b m ≡ Accepted → Holds b log → Holds (apply_prewrite h m b) (of_mutation h.start m ∷ log)
  unfolding apply_prewrite unless_locked
  prewrite-holds p hs = go (lock_of m.key b.lines) refl (prewrite-passed h b m p).lock
    where
      go : (o : Option Lock) → lock_of m.key b.lines ≡ o → lock_step h m.row (row_of m.key h.start b.defaults) o ≡ Accepted
          → Holds (unless_locked o (lock_line h m b) b) (of_mutation h.start m ∷ log)
      go none e q = new-lock hs (prewrite-passed h b m p).sound (prewrite-passed h b m p).below e (free-row h m.row _ none q refl)
      go (some l) e q =
          old-lock hs (rw e (ap {B = Option Lock} some (own-lock h m.row _ l q))) (own_row h m.row _ l q)
