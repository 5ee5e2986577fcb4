-- What document 02's CR 3 asks of every store is true of one that is built: a pair of key and start has at most one line, a row is stored for
-- exactly the Put lines, and lines and rows are sound. The second follows from the form of the store: rows are what Put lines carry.
-- Assumes nothing.
use Prim.Native.Nat.{ℕ}
use mathlib.Core.Path.{◌≡◌, refl, sym, ◌∙◌, subst}
use mathlib.Core.Bool.{Bool, true, false, not, ◌&&◌, true≢false}
use mathlib.Core.List.{List, [], ◌∷◌, map}
use mathlib.Core.Option.{Option}
use lib.Dec.{eqb}
use lib.ListN.{take}
use Rattle.seqs.specs.Tables.{shown}
use Rattle.forms.specs.Bytes.{Bytes}
use Rattle.forms.specs.Key.{Key, key_form}
use Rattle.forms.specs.Row.{Row}
use Rattle.rules.specs.declared.records.Kind.{Kind}
use Rattle.rules.specs.declared.records.Kind.TheVariants.{Put, Delete, Rollback}
use Rattle.rules.specs.Box as box
use Rattle.rules.specs.Sound.{sound_lock}
use Rattle.rules.specs.Restore.{all_good, none_like, no_second, like_line}
use Rattle.laws.proofs.Sorted.{all_insert}
use Rattle.laws.proofs.StepLaws.{passed, by-test, and_left, and_right, and_both}
use Rattle.ledger.specs.Ledger.{lines_at, rows_at, chosen, cons_if}
use Rattle.ledger.specs.Tidy as tidy
use Rattle.ledger.proofs.ChosenLaws.{none-chosen}
use Rattle.ledger.proofs.PairRowLaws.{pair_is, pair-alike, rows_other, rows_new}
use Rattle.store.specs.declared.table.Store.{Store}
use Rattle.store.specs.View.{if_put, carries, add_if, stored, line_of, row_in, box_of}
use Rattle.store.specs.Made.{good_line, good_row, Built}

-- ---- pairs

no_rows : {b : box.Box} {k : Key} {s : ℕ} → tidy.Paired b k s → lines_at k s b.lines ≡ [] → rows_at k s b.defaults ≡ []
no_rows (tidy.free a d) e = d
no_rows (tidy.taken x a d) e = absurd (true≢false (cc))

-- the same lines and the same rows
same-pair : {b c : box.Box} {k : Key} {s : ℕ} → lines_at k s c.lines ≡ lines_at k s b.lines → rows_at k s c.defaults ≡ rows_at k s b.defaults → tidy.Paired b k s → tidy.Paired c k s
same-pair p q (tidy.free a d) = tidy.free (p ∙ a) (q ∙ d)
same-pair p q (tidy.taken x a d) = tidy.taken x (p ∙ a) (subst (tidy.RowsOf (box.kind_in (x))) (sym q) d)

-- one line more, with the row that it carries
module _ (e : box.KeyLine) (r : Row) (es : List box.KeyLine) (ds : List box.Default) (k : Key) (s : ℕ) where
  abbrev less : box.Box
  less = record { lines = es; defaults = ds }

  abbrev more : box.Box
  more = record { lines = e ∷ es; defaults = add_if (carries e r) ds }

  -- of this pair, which had none
  own-rows : (kind : Kind) → box.line_is k s e ≡ true → rows_at k s ds ≡ [] → tidy.RowsOf kind (rows_at k s (add_if (if_put kind (record { key = e.key; start = box.start_of e.line; row = r })) ds))
  unfolding add_if
  own-rows Put t n = let p = pair_is k e.key s (box.start_of e.line) t in (r, rw (sym p.0, sym p.1) (rows_new k s r ds n))
  own-rows Delete t n = n
  own-rows Rollback t n = n

  -- of another
  other-rows : (kind : Kind) → box.line_is k s e ≡ false → rows_at k s (add_if (if_put kind (record { key = e.key; start = box.start_of e.line; row = r })) ds) ≡ rows_at k s ds
  unfolding add_if
  other-rows Put t = rows_other e.key k (box.start_of e.line) s t r ds
  other-rows Delete t = refl
  other-rows Rollback t = refl

  pair-more : none_like like_line e es ≡ true → tidy.Paired less k s → tidy.Paired more k s
  unfolding chosen cons_if
  pair-more n v =
      by-test (λ t. box.line_is k s e ≡ t → tidy.Paired more k s) (box.line_is k s e)
      (λ q t. let none = none-chosen (box.line_is k s) (λ (x : box.KeyLine). x.line) like_line (λ x y. pair-alike k s _ _ _ _) e es q n in
      tidy.taken e.line (rw (q, none)) (own-rows (box.kind_in e.line) q (no_rows v none)))
      (λ q t. same-pair (rw q) (other-rows (box.kind_in e.line) q) v) refl

abbrev of_good : box.Default → Bool
of_good d = key_form d.key && not (eqb d.start 0)

start-there : (x : box.Line) → tidy.sound_line x ≡ true → not (eqb (box.start_of x) 0) ≡ true
unfolding sound_lock
start-there (box.Standing l) g = search passed
start-there (box.Finished w) g = search passed

rows-sound : (ds : List box.Default) → all_good of_good ds ≡ true → all_good good_row ds ≡ true → all_good tidy.good_row ds ≡ true
unfolding all_good
rows-sound [] a g = refl
rows-sound (d ∷ ds) a g = and_both (tidy.good_row d) _ (and_both (of_good d) _ (and_left _ _ a) (and_left _ _ g)) (rows-sound ds (and_right (of_good d) _ a) (and_right (good_row d) _ g))

module _ {A : Type 0} (line : A → box.KeyLine) (row : A → Row) where
  abbrev rows : List A → List (Option box.Default)
  rows xs = map (λ (x : A). carries (line x) (row x)) xs

  pairs : (xs : List A) → no_second like_line (map line xs) ≡ true → (k : Key) (s : ℕ) → tidy.Paired (record { lines = map line xs; defaults = stored (rows xs) }) k s
  unfolding no_second stored chosen
  pairs [] o k s = tidy.free refl refl
  pairs (x ∷ xs) o k s = pair-more (line x) (row x) (map line xs) (stored (rows xs)) k s (and_left _ _ o) (pairs xs (and_right (none_like like_line (line x) (map line xs)) _ o) k s)

  -- ---- a row's key and start are those of a sound line

  rows-of-good : (xs : List A) → all_good good_line (map line xs) ≡ true → all_good of_good (stored (rows xs)) ≡ true
  unfolding all_good stored add_if
  rows-of-good [] g = refl
  rows-of-good (x ∷ xs) g = go (box.kind_in (line x).line) (rows-of-good xs (and_right (good_line (line x)) _ g))
    where
      go : (kind : Kind) → all_good of_good (stored (rows xs)) ≡ true → all_good of_good (add_if (if_put kind (record { key = (line x).key; start = box.start_of (line x).line; row = row x })) (stored (rows xs))) ≡ true
      go Put ih = all_insert box.row_before _ of_good (stored (rows xs)) (and_both (key_form (line x).key) _ (and_left _ _ (and_left _ _ g)) (start-there (line x).line (and_right (key_form (line x).key) _ (and_left _ _ g)))) ih
      go Delete ih = ih
      go Rollback ih = ih

pub built-tidy : {st : Store} {area : Bytes} → Built st area → tidy.Tidy (box_of st area)
unfolding shown
built-tidy {st} {area} b = record {
  pairs = pairs (line_of area) (row_in area) (take st.load.lines st.lines) b.kept.once;
  sound = record { lines = b.kept.good; rows = rows-sound (box_of st area).defaults (rows-of-good (line_of area) (row_in area) (take st.load.lines st.lines) b.kept.good) b.kept.rows };
}
