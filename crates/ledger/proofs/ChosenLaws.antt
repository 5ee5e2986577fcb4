-- What is chosen from a list: what it is known by, what it becomes after one more came in at its place, and where it is at most one.
-- Assumes nothing.
use Prim.Native.Nat.{suc, ◌+◌}
use native.Mathlib.Omega.{arith}
use mathlib.Core.Path.{◌≡◌, refl, sym, ap, ◌∙◌, subst}
use mathlib.Core.Logic.{◌⊎◌, inl, inr}
use mathlib.Core.Bool.{Bool, true, false, not, true≢false}
use mathlib.Core.List.{List, [], ◌∷◌}
use lib.ListN.{length}
use Rattle.rules.specs.Box.{put_in, insert_by}
use Rattle.rules.specs.Restore.{all_good, none_like, no_second}
use Rattle.laws.proofs.StepLaws.{and_left, and_right, not-true, by-test}
use Rattle.laws.proofs.Sorted.{In}
use Rattle.laws.proofs.ImageBoxLaws.{placed}
use Rattle.ledger.specs.Ledger.{cons_if, chosen}

-- ---- one more or not

pub cons-nil : {A : Type 0} (b : Bool) (x : A) (xs : List A) → cons_if b x xs ≡ [] → (b ≡ false) × (xs ≡ [])
unfolding cons_if
cons-nil true x xs h = (cc, cc)
cons-nil false x xs h = (refl, h)

pub in-cons : {A : Type 0} (c : Bool) (x y : A) (ys : List A) → In x ys → In x (cons_if c y ys)
unfolding cons_if
in-cons true x y ys h = inr h
in-cons false x y ys h = h

pub in-nil : {A : Type 0} (z : A) (xs : List A) → In z xs → xs ≡ [] → ⊥
in-nil z [] h e = h
in-nil z (x ∷ xs) h e = true≢false (cc)

pub sole : {A : Type 0} (z x : A) (xs : List A) → In z xs → xs ≡ x ∷ [] → z ≡ x
sole z x (y ∷ ys) (inl p) e = cc
sole z x (y ∷ ys) (inr m) e = absurd (in-nil z ys m (cc))
sole {A = A} z x [] x3 e = elim x3 [ ]

-- ---- one of those that are chosen

module _ {A B : Type 0} (p : A → Bool) (f : A → B) where
  -- what every good one brings that is chosen
  pub chosen-good : (q : A → Bool) (P : B → Type 0) → ((x : A) → p x ≡ true → q x ≡ true → P (f x)) → (xs : List A) (z : B) → all_good q xs ≡ true → In z (chosen p f xs) → P z
  unfolding all_good chosen cons_if
  chosen-good q P h (x ∷ xs) z g m = go (p x) refl m (chosen-good q P h xs z (and_right (q x) _ g))
    where
      go : (t : Bool) → p x ≡ t → In z (cons_if t (f x) (chosen p f xs)) → (In z (chosen p f xs) → P z) → P z
      go true e (inl s) ih = subst P (sym s) (h x e (and_left _ _ g))
      go true e (inr m) ih = ih m
      go false e m ih = ih m
  chosen-good q P h [] z g m = elim m [ ]

-- ---- those that are not chosen

abbrev pub without : {A : Type 0} → (A → Bool) → List A → List A
without p xs = chosen (λ x. not (p x)) (λ x. x) xs

module _ {A B : Type 0} (p : A → Bool) (f : A → B) where
  -- none of them is
  pub without_gone : (xs : List A) → chosen p f (without p xs) ≡ []
  unfolding chosen cons_if
  without_gone [] = refl
  without_gone (x ∷ xs) = by-test (λ t. chosen p f (cons_if (not t) x (without p xs)) ≡ []) (p x) (λ e. without_gone xs) (λ e. rw e (without_gone xs))

  -- what else was chosen stays
  pub without-stays : (q : A → Bool) → ((x : A) → q x ≡ true → p x ≡ false) → (xs : List A) → chosen p f (without q xs) ≡ chosen p f xs
  unfolding chosen cons_if
  without-stays q h [] = refl
  without-stays q h (x ∷ xs) =
      let ih = without-stays q h xs in
      by-test (λ t. chosen p f (cons_if (not t) x (without q xs)) ≡ cons_if (p x) (f x) (chosen p f xs)) (q x) (λ e. rw (h x e) ih) (λ e. rw ih)

  -- they and the others are all
  pub without-length : (xs : List A) → length xs ≡ length (chosen p f xs) + length (without p xs)
  unfolding chosen cons_if
  without-length [] = refl
  without-length (x ∷ xs) =
      let ih = without-length xs in
      by-test (λ t. suc (length xs) ≡ length (cons_if t (f x) (chosen p f xs)) + length (cons_if (not t) x (without p xs))) (p x) (λ e. omega (arith, ih)) (λ e. omega (arith, ih))

-- ---- one more came in

module _ {A B : Type 0} (p : A → Bool) (f : A → B) (lt : A → A → Bool) (x : A) where
  put_other : (b : Bool) (y : A) (ys rest : List A) → p x ≡ false → chosen p f rest ≡ chosen p f ys → chosen p f (put_in b x y ys rest) ≡ chosen p f (y ∷ ys)
  unfolding put_in chosen cons_if
  put_other true y ys rest h ih = rw h
  put_other false y ys rest h ih = rw ih

  -- one that is not chosen
  pub chosen-other : (ys : List A) → p x ≡ false → chosen p f (insert_by lt x ys) ≡ chosen p f ys
  unfolding insert_by chosen cons_if
  chosen-other [] h = rw h
  chosen-other (y ∷ ys) h = put_other (lt x y) y ys (insert_by lt x ys) h (chosen-other ys h)

  put-new : (b : Bool) (y : A) (ys rest : List A) → p x ≡ true → chosen p f (y ∷ ys) ≡ [] → (chosen p f ys ≡ [] → chosen p f rest ≡ f x ∷ []) → chosen p f (put_in b x y ys rest) ≡ f x ∷ []
  unfolding put_in chosen cons_if
  put-new true y ys rest h n ih = rw (h, n)
  put-new false y ys rest h n ih =
      let q : (p y ≡ false) × (chosen p f ys ≡ []) = cons-nil _ _ _ n in
      rw (q.0, ih q.1)

  -- one that is chosen, where none was
  pub chosen-new : (ys : List A) → p x ≡ true → chosen p f ys ≡ [] → chosen p f (insert_by lt x ys) ≡ f x ∷ []
  unfolding insert_by chosen cons_if
  chosen-new [] h n = rw h
  chosen-new (y ∷ ys) h n = put-new (lt x y) y ys (insert_by lt x ys) h n (chosen-new ys h)

-- ---- no second of its like, and those that are chosen are alike: at most one is

abbrev pub Few : {B : Type 0} → List B → Type 0
Few {B} xs = (xs ≡ []) ⊎ ((z : B) × (xs ≡ z ∷ []))

module _ {A B : Type 0} (p : A → Bool) (f : A → B) (like : A → A → Bool) (alike : (x y : A) → p x ≡ true → p y ≡ true → like x y ≡ true) where
  pub none-chosen : (x : A) (ys : List A) → p x ≡ true → none_like like x ys ≡ true → chosen p f ys ≡ []
  unfolding none_like chosen cons_if
  none-chosen x [] h n = refl
  none-chosen x (y ∷ ys) h n =
      by-test (λ t. cons_if t (f y) (chosen p f ys) ≡ []) (p y) (λ q. absurd (true≢false (sym (alike x y h q) ∙ not-true _ (and_left _ _ n))))
      (λ q. none-chosen x ys h (and_right (not (like x y)) _ n))

  pub count_fits : (xs : List A) → no_second like xs ≡ true → Few (chosen p f xs)
  unfolding no_second chosen cons_if
  count_fits [] n = inl refl
  count_fits (x ∷ xs) n =
      by-test (λ t. Few (cons_if t (f x) (chosen p f xs))) (p x) (λ q. inr (f x, ap (λ (ys : List B). f x ∷ ys) (none-chosen x xs q (and_left _ _ n))))
      (λ q. count_fits xs (and_right (none_like like x xs) _ n))

  -- each at its place
  pub chosen-placed : (lt : A → A → Bool) (xs : List A) → no_second like xs ≡ true → chosen p f (placed lt xs) ≡ chosen p f xs
  unfolding no_second placed chosen cons_if
  chosen-placed lt [] n = refl
  chosen-placed lt (x ∷ xs) n =
      let ih = chosen-placed lt xs (and_right (none_like like x xs) _ n) in
      let nil : p x ≡ true → chosen p f xs ≡ [] = λ q. none-chosen x xs q (and_left _ _ n) in
      by-test (λ t. chosen p f (insert_by lt x (placed lt xs)) ≡ cons_if t (f x) (chosen p f xs)) (p x)
      (λ q. rw (nil q) (chosen-new p f lt x (placed lt xs) q (ih ∙ nil q))) (λ q. chosen-other p f lt x (placed lt xs) q ∙ ih)
