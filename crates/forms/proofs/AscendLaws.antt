-- "Keys strictly ascend": what that says of a list's head, of the rest and of every later key.
-- Assumes nothing.
use mathlib.Core.Path.{◌≡◌, refl}
use mathlib.Core.Bool.{true, false}
use mathlib.Core.List.{List, [], ◌∷◌}
use Rattle.seqs.proofs.Tests.{and_left, and_right, and_both}
use Rattle.forms.specs.Bytes.{lt_bytes, eq_bytes}
use Rattle.forms.specs.Key.{Key}
use Rattle.forms.specs.Batch.{above, ascend}
use Rattle.forms.proofs.Orders.{lt_bytes-trans, lt_bytes-not-eq'}

module _ {A : Type 0} (key : A → Key) where
  pub above-head : (k : Key) (x : A) (xs : List A) → above key k (x ∷ xs) ≡ true → lt_bytes k (key x) ≡ true
  unfolding above
  above-head k x xs h = and_left _ _ h

  pub above-rest : (k : Key) (x : A) (xs : List A) → above key k (x ∷ xs) ≡ true → above key (key x) xs ≡ true
  unfolding above
  above-rest k x xs h = and_right (lt_bytes k (key x)) _ h

  -- what is above a key is above every lower one
  pub above_lower : (i j : Key) (xs : List A) → lt_bytes i j ≡ true → above key j xs ≡ true → above key i xs ≡ true
  unfolding above
  above_lower i j [] h a = refl
  above_lower i j (x ∷ xs) h a = and_both _ _ (lt_bytes-trans i j (key x) h (above-head j x xs a)) (above-rest j x xs a)

  pub above-tail : (k : Key) (x : A) (xs : List A) → above key k (x ∷ xs) ≡ true → above key k xs ≡ true
  above-tail k x xs h = above_lower k (key x) xs (above-head k x xs h) (above-rest k x xs h)

  pub ascend-head : (x : A) (xs : List A) → ascend key (x ∷ xs) ≡ true → above key (key x) xs ≡ true
  unfolding ascend
  ascend-head x xs h = h

  pub ascend-tail : (x : A) (xs : List A) → ascend key (x ∷ xs) ≡ true → ascend key xs ≡ true
  unfolding ascend above
  ascend-tail x [] h = refl
  ascend-tail x (y ∷ xs) h = and_right (lt_bytes (key x) (key y)) _ h

  -- no entry has the key k
  abbrev pub Apart : Key → List A → Type 0
  Apart k [] = Unit {0}
  Apart k (x ∷ xs) = (eq_bytes (key x) k ≡ false) × Apart k xs

  pub above_apart : (k : Key) (xs : List A) → above key k xs ≡ true → Apart k xs
  above_apart k [] h = tt
  above_apart k (x ∷ xs) h = (lt_bytes-not-eq' k (key x) (above-head k x xs h), above_apart k xs (above-tail k x xs h))

  pub ascend-apart : (x : A) (xs : List A) → ascend key (x ∷ xs) ≡ true → Apart (key x) xs
  ascend-apart x xs h = above_apart (key x) xs (ascend-head x xs h)
