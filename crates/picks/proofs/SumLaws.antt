-- Lists of which a test takes some: how many these are, and how many bytes they have.
-- Assumes nothing.
use Prim.Native.Nat.{ℕ, ◌+◌}
use native.Mathlib.Omega.{arith}
use mathlib.Core.Path.{◌≡◌, refl, ap}
use mathlib.Core.Bool.{Bool}
use mathlib.Core.List.{List, [], ◌∷◌, ◌++◌, map}
use lib.ListN.{length, length-append}
use Rattle.forms.specs.Bytes.{Bytes}
use Rattle.forms.specs.Numbers.{only_if}
use Rattle.rules.specs.Read.{keep_if, those}
use Rattle.rules.specs.Room.{sum_of}
use Rattle.rules.specs.Written.{all_bytes}
use Rattle.laws.proofs.StepLaws.{by-test}

module _ {A : Type 0} (p : A → Bool) where
  -- how many they are, and how many bytes they have
  pub those-count : (xs : List A) → sum_of (λ (x : A). only_if (p x) 1) xs ≡ length (those p xs)
  unfolding those keep_if sum_of
  those-count [] = refl
  those-count (x ∷ xs) = by-test (λ t. only_if t 1 + sum_of (λ (x : A). only_if (p x) 1) xs ≡ length (keep_if t x (those p xs))) (p x) (λ e. omega (arith, those-count xs)) (λ e. omega (arith, those-count xs))

  pub those-bytes : (f : A → Bytes) (xs : List A) → sum_of (λ (x : A). only_if (p x) (length (f x))) xs ≡ length (all_bytes f (those p xs))
  unfolding those keep_if sum_of all_bytes
  those-bytes f [] = refl
  those-bytes f (x ∷ xs) =
      by-test (λ t. only_if t (length (f x)) + sum_of (λ (x : A). only_if (p x) (length (f x))) xs ≡ length (all_bytes f (keep_if t x (those p xs)))) (p x)
      (λ e. omega (arith, those-bytes f xs, length-append (f x) (all_bytes f (those p xs)))) (λ e. omega (arith, those-bytes f xs))

pub sum-map : {A B : Type 0} (g : A → B) (f : B → ℕ) (xs : List A) → sum_of f (map g xs) ≡ sum_of (λ (x : A). f (g x)) xs
unfolding sum_of
sum-map g f [] = refl
sum-map g f (x ∷ xs) = ap (λ (n : ℕ). f (g x) + n) (sum-map g f xs)

pub sum-snoc : {A : Type 0} (f : A → ℕ) (xs : List A) (y : A) → sum_of f (xs ++ (y ∷ [])) ≡ sum_of f xs + f y
unfolding sum_of
sum-snoc f [] y = omega arith
sum-snoc f (x ∷ xs) y = omega (arith, sum-snoc f xs y)
