-- The order of byte lists is an order: what is equal, what follows, and the other way round; then the same of equal and less, its two tests.
-- Assumes nothing.
use mathlib.Core.Path.{◌≡◌, refl, sym, ap, ◌∙◌}
use mathlib.Core.Logic.{◌⊎◌, inl, inr}
use mathlib.Core.Bool.{Bool, true, false, true≢false, false≢true}
use mathlib.Core.List.{[], ◌∷◌}
use Prim.Native.Nat.{ℕ, ◌≤◌, ◌<◌}
use native.Mathlib.Omega.{arith}
use lib.Dec.{ltb}
use borrow.Author.Tests.{lt-ltb, le-ltb, ltb-true, ltb-false}
use Rattle.std.specs.declared.cmp.Ordering.{Ordering}
use Rattle.std.specs.declared.cmp.Ordering.TheVariants.{Less, Equal, Greater}
use Rattle.forms.specs.Bytes.{Bytes, cmp, pick, is_less, is_equal, eq_bytes, lt_bytes}

pub not-less-equal : {X : Type 0} → Less ≡ Equal → X
not-less-equal e = let z : ◌≡◌ {A = ℕ} 0 1 = cc in absurd (omega arith)

pub not-less-greater : {X : Type 0} → Less ≡ Greater → X
not-less-greater e = let z : ◌≡◌ {A = ℕ} 0 1 = cc in absurd (omega arith)

pub not-equal-greater : {X : Type 0} → Equal ≡ Greater → X
not-equal-greater e = let z : ◌≡◌ {A = ℕ} 0 1 = cc in absurd (omega arith)

pub less-is : (o : Ordering) → is_less o ≡ true → o ≡ Less
less-is Less e = refl
less-is Equal e = let z : ◌≡◌ {A = ℕ} 0 1 = cc in absurd (omega arith)
less-is Greater e = let z : ◌≡◌ {A = ℕ} 0 1 = cc in absurd (omega arith)

-- what a step of the order says
pick_less : (x y : ℕ) (o : Ordering) → pick (ltb x y) (ltb y x) o ≡ Less → (x < y) ⊎ ((x ≡ y) × (o ≡ Less))
pick_less x y o e = go (ltb x y) (ltb y x) refl refl e
  where
    go : (p q : Bool) → ltb x y ≡ p → ltb y x ≡ q → pick p q o ≡ Less → (x < y) ⊎ ((x ≡ y) × (o ≡ Less))
    go true q a b e = inl (ltb-true x y a)
    go false true a b e = not-less-greater (sym e)
    go false false a b e =
        let s : x ≡ y = omega (arith, ltb-false x y a, ltb-false y x b) in
        inr (s, e)

pick-equal : (x y : ℕ) (o : Ordering) → pick (ltb x y) (ltb y x) o ≡ Equal → (x ≡ y) × (o ≡ Equal)
pick-equal x y o e = go (ltb x y) (ltb y x) refl refl e
  where
    go : (p q : Bool) → ltb x y ≡ p → ltb y x ≡ q → pick p q o ≡ Equal → (x ≡ y) × (o ≡ Equal)
    go true q a b e = not-less-equal e
    go false true a b e = not-equal-greater (sym e)
    go false false a b e =
        let s : x ≡ y = omega (arith, ltb-false x y a, ltb-false y x b) in
        (s, e)

pub pick-lt : (x y : ℕ) (o : Ordering) → x < y → pick (ltb x y) (ltb y x) o ≡ Less
pick-lt x y o h = simp (lt-ltb _ _ h)

pick_same : (x : ℕ) (o : Ordering) → pick (ltb x x) (ltb x x) o ≡ o
pick_same x o = let h : x ≤ x = omega arith in simp (le-ltb _ _ h)

pub cmp-refl : (a : Bytes) → cmp a a ≡ Equal
unfolding cmp
cmp-refl [] = refl
cmp-refl (x ∷ xs) = pick_same x (cmp xs xs) ∙ cmp-refl xs

pub cmp-equal : (a b : Bytes) → cmp a b ≡ Equal → a ≡ b
unfolding cmp
cmp-equal [] [] e = refl
cmp-equal [] (y ∷ ys) e = not-less-equal e
cmp-equal (x ∷ xs) [] e = not-equal-greater (sym e)
cmp-equal (x ∷ xs) (y ∷ ys) e =
    let p = pick-equal x y (cmp xs ys) e in
    cc (p.0, cmp-equal xs ys p.1)

pub cmp-trans : (a b c : Bytes) → cmp a b ≡ Less → cmp b c ≡ Less → cmp a c ≡ Less
unfolding cmp
cmp-trans a [] [] p q = not-less-equal (sym q)
cmp-trans [] [] (z ∷ zs) p q = refl
cmp-trans (x ∷ xs) [] (z ∷ zs) p q = not-less-greater (sym p)
cmp-trans a (y ∷ ys) [] p q = not-less-greater (sym q)
cmp-trans [] (y ∷ ys) (z ∷ zs) p q = refl
cmp-trans (x ∷ xs) (y ∷ ys) (z ∷ zs) p q = go (cmp-trans xs ys zs) (pick_less x y (cmp xs ys) p) (pick_less y z (cmp ys zs) q)
  where
    go : (cmp xs ys ≡ Less → cmp ys zs ≡ Less → cmp xs zs ≡ Less) → (x < y) ⊎ ((x ≡ y) × (cmp xs ys ≡ Less)) → (y < z) ⊎ ((y ≡ z) × (cmp ys zs ≡ Less)) → pick (ltb x z) (ltb z x) (cmp xs zs) ≡ Less
    go rest (inl h) (inl g) = pick-lt x z (cmp xs zs) (omega arith)
    go rest (inl h) (inr g) = pick-lt x z (cmp xs zs) (omega arith)
    go rest (inr h) (inl g) = pick-lt x z (cmp xs zs) (omega arith)
    go rest (inr h) (inr g) =
        let e : x ≡ z = h.0 ∙ g.0 in
        ap (λ (w : ℕ). pick (ltb w z) (ltb z w) (cmp xs zs)) e ∙ pick_same z (cmp xs zs) ∙ rest h.1 g.1

abbrev pub flip : Ordering → Ordering
flip Less = Greater
flip Equal = Equal
flip Greater = Less

pub cmp-flip : (a b : Bytes) → cmp b a ≡ flip (cmp a b)
unfolding cmp
cmp-flip [] [] = refl
cmp-flip [] (y ∷ ys) = refl
cmp-flip (x ∷ xs) [] = refl
cmp-flip (x ∷ xs) (y ∷ ys) = ap (pick (ltb y x) (ltb x y)) (cmp-flip xs ys) ∙ go (ltb x y) (ltb y x) refl refl
  where
    go : (p q : Bool) → ltb x y ≡ p → ltb y x ≡ q → pick q p (flip (cmp xs ys)) ≡ flip (pick p q (cmp xs ys))
    go true true a b = absurd (omega (arith, ltb-true x y a, ltb-true y x b))
    go true false a b = refl
    go false true a b = refl
    go false false a b = refl

-- ---- equal

pub eq_bytes-refl : (a : Bytes) → eq_bytes a a ≡ true
unfolding eq_bytes
eq_bytes-refl a = ap is_equal (cmp-refl a)

pub eq_bytes-true : (a b : Bytes) → eq_bytes a b ≡ true → a ≡ b
unfolding eq_bytes
eq_bytes-true a b e = cmp-equal a b (go (cmp a b) e)
  where
    go : (o : Ordering) → is_equal o ≡ true → o ≡ Equal
    go Less e = absurd (false≢true e)
    go Equal e = refl
    go Greater e = absurd (false≢true e)

pub eq_bytes-sym : (a b : Bytes) → eq_bytes a b ≡ eq_bytes b a
unfolding eq_bytes
eq_bytes-sym a b = go (cmp a b) ∙ sym (ap is_equal (cmp-flip a b))
  where
    go : (o : Ordering) → is_equal o ≡ is_equal (flip o)
    go Less = refl
    go Equal = refl
    go Greater = refl

-- ---- less

pub lt_bytes-less : (a b : Bytes) → lt_bytes a b ≡ true → cmp a b ≡ Less
unfolding lt_bytes
lt_bytes-less a b e = less-is (cmp a b) e

pub lt_bytes-irrefl : (a : Bytes) → lt_bytes a a ≡ false
unfolding lt_bytes
lt_bytes-irrefl a = ap is_less (cmp-refl a)

pub lt_bytes-trans : (a b c : Bytes) → lt_bytes a b ≡ true → lt_bytes b c ≡ true → lt_bytes a c ≡ true
unfolding lt_bytes
lt_bytes-trans a b c p q = ap is_less (cmp-trans a b c (lt_bytes-less a b p) (lt_bytes-less b c q))

pub lt_bytes-not-eq : (a b : Bytes) → lt_bytes a b ≡ true → eq_bytes a b ≡ false
unfolding eq_bytes
lt_bytes-not-eq a b p = ap is_equal (lt_bytes-less a b p)

-- the same, where the greater is named first
pub lt_bytes-not-eq' : (a b : Bytes) → lt_bytes a b ≡ true → eq_bytes b a ≡ false
lt_bytes-not-eq' a b p = eq_bytes-sym b a ∙ lt_bytes-not-eq a b p

pub eq_bytes-not-lt : (a b : Bytes) → eq_bytes a b ≡ true → lt_bytes a b ≡ false
eq_bytes-not-lt a b e = ap (lt_bytes a) (sym (eq_bytes-true a b e)) ∙ lt_bytes-irrefl a

-- neither equal nor less
pub lt_bytes-else : (a b : Bytes) → eq_bytes a b ≡ false → lt_bytes a b ≡ false → lt_bytes b a ≡ true
unfolding eq_bytes lt_bytes
lt_bytes-else a b p q = ap is_less (cmp-flip a b) ∙ go (cmp a b) p q
  where
    go : (o : Ordering) → is_equal o ≡ false → is_less o ≡ false → is_less (flip o) ≡ true
    go Less p q = absurd (true≢false q)
    go Equal p q = absurd (true≢false p)
    go Greater p q = refl

-- at most b, which is less than c
pub lt_bytes-le-lt : (a b c : Bytes) → lt_bytes b a ≡ false → lt_bytes b c ≡ true → lt_bytes a c ≡ true
lt_bytes-le-lt a b c n p = go (eq_bytes a b) refl
  where
    go : (t : Bool) → eq_bytes a b ≡ t → lt_bytes a c ≡ true
    go true e = ap (λ (k : Bytes). lt_bytes k c) (eq_bytes-true a b e) ∙ p
    go false e = lt_bytes-trans a b c (lt_bytes-else b a (eq_bytes-sym b a ∙ e) n) p
