-- A table's part of a tidy box is tidy: what stands at a pair of key and start stands in the part if the key is of the table, and nothing
-- stands there if it is not. Assumes nothing.
use Prim.Native.Nat.{ℕ}
use mathlib.Core.Path.{◌≡◌, refl, sym, ◌∙◌, subst}
use mathlib.Core.Bool.{Bool, true, false, true≢false}
use mathlib.Core.List.{List, [], ◌∷◌}
use Rattle.forms.specs.Key.{Key}
use Rattle.rules.specs.Box.{Box, KeyLine, Default, kind_in, line_is, at_pair, start_of}
use Rattle.rules.specs.Read.{keep_if, those}
use Rattle.rules.specs.Restore.{of_table}
use Rattle.rules.specs.Capture.{line_of_table, row_of_table, part_of}
use Rattle.laws.proofs.StepLaws.{by-test}
use Rattle.laws.proofs.Sorted.{fewer-good}
use Rattle.laws.proofs.PlaceLaws.{those-fewer}
use Rattle.ledger.specs.Ledger.{cons_if, chosen, lines_at, rows_at}
use Rattle.ledger.specs.Tidy.{RowsOf, Paired, free, taken, good_line, good_row, Tidy}
use Rattle.ledger.proofs.PairRowLaws.{pair_is}

module _ {A B : Type 0} (p : A → Bool) (f : A → B) (q : A → Bool) where
  -- those that are chosen are those
  pub chosen-those : ((x : A) → p x ≡ true → q x ≡ true) → (xs : List A) → chosen p f (those q xs) ≡ chosen p f xs
  unfolding chosen cons_if those keep_if
  chosen-those h [] = refl
  chosen-those h (x ∷ xs) =
      by-test (λ t. p x ≡ t → chosen p f (keep_if (q x) x (those q xs)) ≡ cons_if t (f x) (chosen p f xs)) (p x)
      (λ e r. rw (h x e, r, chosen-those h xs))
      (λ e r. by-test (λ t. chosen p f (keep_if t x (those q xs)) ≡ chosen p f xs) (q x) (λ g. rw (r, chosen-those h xs)) (λ g. chosen-those h xs)) refl

  -- those that are chosen are not those
  pub chosen-left : ((x : A) → p x ≡ true → q x ≡ false) → (xs : List A) → chosen p f (those q xs) ≡ []
  unfolding chosen cons_if those keep_if
  chosen-left h [] = refl
  chosen-left h (x ∷ xs) =
      by-test (λ t. q x ≡ t → chosen p f (keep_if t x (those q xs)) ≡ []) (q x)
      (λ e r. by-test (λ t. p x ≡ t → cons_if t (f x) (chosen p f (those q xs)) ≡ []) (p x) (λ g s. absurd (true≢false (sym e ∙ h x s))) (λ g s. chosen-left h xs) refl)
      (λ e r. chosen-left h xs) refl

pub same-pair : {b c : Box} {k : Key} {s : ℕ} → lines_at k s c.lines ≡ lines_at k s b.lines → rows_at k s c.defaults ≡ rows_at k s b.defaults → Paired b k s → Paired c k s
same-pair p q (free a d) = free (p ∙ a) (q ∙ d)
same-pair p q (taken x a d) = taken x (p ∙ a) (subst (RowsOf (kind_in x)) (sym q) d)

module _ (t : ℕ) (b : Box) where
  line-table : (k : Key) (s : ℕ) (v : Bool) → of_table t k ≡ v → (e : KeyLine) → line_is k s e ≡ true → line_of_table t e ≡ v
  line-table k s v h e l = let j = pair_is k e.key s (start_of e.line) l in rw (sym j.0) h

  row-table : (k : Key) (s : ℕ) (v : Bool) → of_table t k ≡ v → (d : Default) → at_pair k s d ≡ true → row_of_table t d ≡ v
  row-table k s v h d l = let j = pair_is k d.key s d.start l in rw (sym j.0) h

  part-pairs : Tidy b → (k : Key) (s : ℕ) → Paired (part_of t b) k s
  unfolding part_of
  part-pairs v k s =
      by-test (λ r. of_table t k ≡ r → Paired (part_of t b) k s) (of_table t k)
      (λ e h. same-pair (chosen-those (line_is k s) _ (line_of_table t) (line-table k s true h) b.lines) (chosen-those (at_pair k s) _ (row_of_table t) (row-table k s true h) b.defaults) (v.pairs k s))
      (λ e h. free (chosen-left (line_is k s) _ (line_of_table t) (line-table k s false h) b.lines) (chosen-left (at_pair k s) _ (row_of_table t) (row-table k s false h) b.defaults)) refl

  pub part-tidy : Tidy b → Tidy (part_of t b)
  unfolding part_of
  part-tidy v = record {
    pairs = part-pairs v;
    sound = record {
      lines = fewer-good good_line (those-fewer (line_of_table t) b.lines) v.sound.lines;
      rows = fewer-good good_row (those-fewer (row_of_table t) b.defaults) v.sound.rows;
    };
  }
