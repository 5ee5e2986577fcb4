-- Keys: the ways out of `key_in_form`, and what a key in form is.
-- Assumes nothing.
use Prim.Native.Nat.{ℕ, ◌≤◌}
use native.Mathlib.Omega.{arith}
use mathlib.Core.Path.{◌≡◌, ◌∙◌, ap}
use mathlib.Core.Bool.{true, not, ◌&&◌}
use lib.ListN.{length}
use lib.Dec.{leb, eqb}
use borrow.Author.Tests.{le-leb, leb-true, eqb-false, not-true}
use Rattle.seqs.proofs.Tests.{and_left, and_right}
use Rattle.forms.specs.Key.{Key, table_of, key_form}
use Rattle.forms.specs.Places.{NumberAt}
use Rattle.std.specs.Prelude.{None, Some}
use Rattle.std.specs.Prelude.{Option as Maybe}
use Rattle.std.specs.Option.{option_eq}
use Rattle.forms.proofs.NumberLaws.{number-value, number_short}

-- a number at the front of a key that is long enough is its table
pub key_table : (k : Key) (o : Maybe ℕ) → NumberAt 4 k 0 o → 5 ≤ length k → length k ≤ 48 → not (option_eq eqb o (Some 0)) ≡ key_form k
unfolding key_form table_of
key_table k None e l h = let m = number_short 4 k 0 e in absurd (omega arith)
key_table k (Some v) n l h = ap (λ (t : ℕ). not (eqb t 0)) (number-value n) ∙ simp (le-leb _ _ l, le-leb _ _ h)

-- "Length 5 to 48", "table number, 4 bytes, not zero"
pub record KeyBounds (k : Key) : Type 0 where
  pub length_is : 5 ≤ length k
  pub short : length k ≤ 48
  pub table : table_of k ≡ 0 → ⊥

pub key-bounds : (k : Key) → key_form k ≡ true → KeyBounds k
unfolding key_form
key-bounds k h =
    let g : leb 5 (length k) && leb (length k) 48 ≡ true = and_left _ _ h in
    record {
      length_is = leb-true _ _ (and_left _ _ g);
      short = leb-true _ _ (and_right (leb 5 (length k)) _ g);
      table = eqb-false _ _ (not-true _ (and_right (leb 5 (length k) && leb (length k) 48) _ h));
    }
