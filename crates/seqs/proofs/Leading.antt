-- The elements of a list that stand before the first at which a test fails: the walk that counts them, and what is known of them.
-- Assumes nothing.
use Prim.Native.Nat.{ℕ, zero, suc, ◌+◌, ◌≤◌}
use native.Mathlib.Omega.{arith}
use native.Mathlib.Numerals.{add-one}
use mathlib.Core.Path.{◌≡◌, refl, ap, ◌∙◌}
use mathlib.Core.Bool.{Bool, true, false}
use mathlib.Core.List.{List, [], ◌∷◌}
use lib.ListN.{length, take, drop}
use Rattle.seqs.specs.Tables.{All, leading, more_if}

module _ {A : Type 0} where
  -- the first i pass
  pub record Leading (p : A → Bool) (v : List A) (i : ℕ) : Type 0 where
    pub is : leading p v ≡ i + leading p (drop i v)

  pub leading-start : (p : A → Bool) (v : List A) → Leading p v 0
  leading-start p v = record { is = omega arith }

  module _ {p : A → Bool} {v : List A} {i : ℕ} (w : Leading p v i) where
    step : {x : A} {xs : List A} → drop i v ≡ x ∷ xs → leading p v ≡ i + more_if (p x) (leading p xs)
    unfolding leading
    step e = w.is ∙ ap (λ (l : List A). i + leading p l) e

    pub leading-more : {x : A} → drop i v ≡ x ∷ drop (suc i) v → p x ≡ true → Leading p v (i + 1)
    leading-more e h =
        let s : leading p v ≡ i + suc (leading p (drop (suc i) v)) = step e ∙ ap (λ (b : Bool). i + more_if b (leading p (drop (suc i) v))) h in
        record { is = rw add-one (omega arith) }

    pub leading-here : {x : A} {xs : List A} → drop i v ≡ x ∷ xs → p x ≡ false → leading p v ≡ i
    leading-here {xs = xs} e h =
        let s : leading p v ≡ i + 0 = step e ∙ ap (λ (b : Bool). i + more_if b (leading p xs)) h in
        omega arith

    pub leading_end : drop i v ≡ [] → leading p v ≡ i
    unfolding leading
    leading_end e =
        let s : leading p v ≡ i + 0 = w.is ∙ ap (λ (l : List A). i + leading p l) e in
        omega arith

  -- those that stand before pass
  pub leading-all : (p : A → Bool) (v : List A) (i : ℕ) → i ≤ leading p v → All (λ (x : A). p x ≡ true) (take i v)
  unfolding All leading
  leading-all p v zero h = tt
  leading-all p [] (suc i) h = tt
  leading-all p (x ∷ xs) (suc i) h = go (p x) refl h (leading-all p xs i)
    where
      go : (b : Bool) → p x ≡ b → suc i ≤ more_if b (leading p xs) → (i ≤ leading p xs → All (λ (x : A). p x ≡ true) (take i xs)) → (p x ≡ true) × All (λ (x : A). p x ≡ true) (take i xs)
      go true e h r = (e, r (omega arith))
      go false e h r = absurd (omega arith)

  leading-skip : (p : A → Bool) (v : List A) (i : ℕ) → i ≤ length v → All (λ (x : A). p x ≡ true) (take i v) → leading p v ≡ i + leading p (drop i v)
  unfolding All leading
  leading-skip p v zero h a = omega arith
  leading-skip p [] (suc i) h a = absurd (omega arith)
  leading-skip p (x ∷ xs) (suc i) h a =
      let r : leading p xs ≡ i + leading p (drop i xs) = leading-skip p xs i (omega arith) a.1 in
      ap (λ (b : Bool). more_if b (leading p xs)) a.0 ∙ omega arith

  -- and where some pass, the walk may start after them
  pub leading-after : (p : A → Bool) (v : List A) (i : ℕ) → i ≤ length v → All (λ (x : A). p x ≡ true) (take i v) → Leading p v i
  leading-after p v i h a = record { is = leading-skip p v i h a }

  pub leading-few : (p : A → Bool) (v : List A) → leading p v ≤ length v
  unfolding leading
  leading-few p [] = omega arith
  leading-few p (x ∷ xs) = go (p x) (leading-few p xs)
    where
      go : (b : Bool) → leading p xs ≤ length xs → more_if b (leading p xs) ≤ suc (length xs)
      go true h = omega arith
      go false h = omega arith

  -- none passes
  pub leading-none : (p : A → Bool) (v : List A) → All (λ (x : A). p x ≡ false) v → leading p v ≡ 0
  unfolding All leading
  leading-none p [] a = refl
  leading-none p (x ∷ xs) a = ap (λ (b : Bool). more_if b (leading p xs)) a.0

  -- two tests that agree
  pub leading-same : (p q : A → Bool) (v : List A) → All (λ (x : A). p x ≡ q x) v → leading p v ≡ leading q v
  unfolding All leading
  leading-same p q [] a = refl
  leading-same p q (x ∷ xs) a = ap (λ (b : Bool). more_if b (leading p xs)) a.0 ∙ ap (more_if (q x)) (leading-same p q xs a.1)
