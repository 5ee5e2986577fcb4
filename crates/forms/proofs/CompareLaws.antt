-- The library's order and equality of slices are those of this crate's definitions.
-- Assumes nothing.
use mathlib.Core.Path.{◌≡◌, refl, sym, ◌∙◌, ap}
use mathlib.Core.Bool.{Bool, true, false}
use mathlib.Core.List.{[], ◌∷◌}
use Prim.Native.Nat.{ℕ}
use native.Mathlib.Omega.{arith}
use lib.Dec.{ltb, eqb}
use borrow.Author.Tests.{ltb-true, ltb-false, eq-eqb, ne_eqb}
use Rattle.std.specs.declared.cmp.Ordering.{Ordering}
use Rattle.std.specs.declared.cmp.Ordering.TheVariants.{Less, Equal, Greater}
use Rattle.std.specs.Ordering.{nat_cmp, ordering_then, is_lt}
use Rattle.std.specs.Cmp.Lexicographic.{slice_cmp}
use Rattle.std.specs.Str.{bytes_eq}
use Rattle.std.proofs.lemmas.Slice.Eq.{bytes_eq-Decides}
use Rattle.forms.specs.Bytes.{Bytes, cmp, pick, is_less, eq_bytes, lt_bytes}
use Rattle.forms.proofs.Orders.{eq_bytes-refl, eq_bytes-true}

step : (x y : ℕ) (o : Ordering) → ordering_then (nat_cmp x y) o ≡ pick (ltb x y) (ltb y x) o
step x y o = go (ltb x y) refl (ltb y x) refl
  where
    go : (p : Bool) → ltb x y ≡ p → (q : Bool) → ltb y x ≡ q → ordering_then (nat_cmp x y) o ≡ pick (ltb x y) (ltb y x) o
    go true a q b = simp a
    go false a true b = let n : eqb x y ≡ false = ne_eqb x y (λ e. omega (arith, ltb-true y x b)) in simp (a, b, n)
    go false a false b = let e : eqb x y ≡ true = eq-eqb x y (omega (arith, ltb-false x y a, ltb-false y x b)) in simp (a, b, e)

pub cmp_is : (a b : Bytes) → slice_cmp nat_cmp a b ≡ cmp a b
unfolding cmp
cmp_is [] [] = refl
cmp_is [] (y ∷ ys) = refl
cmp_is (x ∷ xs) [] = refl
cmp_is (x ∷ xs) (y ∷ ys) = ap (ordering_then (nat_cmp x y)) (cmp_is xs ys) ∙ step x y (cmp xs ys)

pub eq_is : (a b : Bytes) → bytes_eq a b ≡ eq_bytes a b
eq_is a b = go (bytes_eq a b) refl (eq_bytes a b) refl
  where
    go : (p : Bool) → bytes_eq a b ≡ p → (q : Bool) → eq_bytes a b ≡ q → p ≡ q
    go true e true f = refl
    go true e false f = sym (eq_bytes-refl a) ∙ ap (eq_bytes a) ((bytes_eq-Decides a b).0 e) ∙ f
    go false e true f = sym e ∙ (bytes_eq-Decides a b).1 (eq_bytes-true a b f)
    go false e false f = refl

pub lt_is : (a b : Bytes) → is_lt (cmp a b) ≡ lt_bytes a b
unfolding lt_bytes
lt_is a b = go (cmp a b)
  where
    go : (o : Ordering) → is_lt o ≡ is_less o
    go Less = refl
    go Equal = refl
    go Greater = refl
