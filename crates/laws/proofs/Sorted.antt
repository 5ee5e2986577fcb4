-- Lists in order, over every test `lt`: what comes at its place and what goes leave the order, and two lists in order with the same members
-- are equal. Assumes nothing.
use Prim.Native.Nat.{ℕ, zero, suc, ◌+◌}
use native.Mathlib.Omega.{arith}
use mathlib.Core.Path.{◌≡◌, refl, ap, sym, ◌∙◌}
use mathlib.Core.Logic.{◌⊎◌, inl, inr}
use mathlib.Core.Bool.{Bool, true, false, true≢false}
use mathlib.Core.List.{List, [], ◌∷◌}
use lib.ListN.{length, drop}
use Rattle.rules.specs.Box.{all_after, ordered, put_in, insert_by}
use Rattle.rules.specs.Room.{sum_of}
use Rattle.rules.specs.Restore.{all_good}
use Rattle.laws.proofs.StepLaws.{and_left, and_right, and_both}

-- one of the list
abbrev pub In : {A : Type 0} → A → List A → Type 0
In x [] = ⊥
In x (y ∷ ys) = (x ≡ y) ⊎ In x ys

-- a list of which some have gone
pub data Fewer {A : Type 0} : List A → List A → Type 0 where
  empty : Fewer [] []
  gone : {x : A} {ys xs : List A} → Fewer ys xs → Fewer ys (x ∷ xs)
  kept : {x : A} {ys xs : List A} → Fewer ys xs → Fewer (x ∷ ys) (x ∷ xs)

pub fewer-all : {A : Type 0} (xs : List A) → Fewer xs xs
fewer-all [] = empty
fewer-all (x ∷ xs) = kept (fewer-all xs)

pub fewer-drop : {A : Type 0} (n : ℕ) (xs : List A) → Fewer (drop n xs) xs
fewer-drop zero xs = fewer-all xs
fewer-drop (suc n) [] = empty
fewer-drop (suc n) (x ∷ xs) = gone (fewer-drop n xs)

-- ---- one more, at its place

module _ {A : Type 0} (lt : A → A → Bool) (x : A) where
  pub length-insert : (l : List A) → length (insert_by lt x l) ≡ suc (length l)
  unfolding insert_by put_in
  length-insert [] = refl
  length-insert (y ∷ ys) = go (lt x y) (length-insert ys)
    where
      go : (b : Bool) → length (insert_by lt x ys) ≡ suc (length ys) → length (put_in b x y ys (insert_by lt x ys)) ≡ suc (suc (length ys))
      go true h = refl
      go false h = ap suc h

  pub sum-insert : (f : A → ℕ) (l : List A) → sum_of f (insert_by lt x l) ≡ f x + sum_of f l
  unfolding insert_by sum_of put_in
  sum-insert f [] = refl
  sum-insert f (y ∷ ys) = go (lt x y) (sum-insert f ys)
    where
      go : (b : Bool) → sum_of f (insert_by lt x ys) ≡ f x + sum_of f ys → sum_of f (put_in b x y ys (insert_by lt x ys)) ≡ f x + (f y + sum_of f ys)
      go true h = refl
      go false h = omega (arith, h)

  pub all_insert : (p : A → Bool) (l : List A) → p x ≡ true → all_good p l ≡ true → all_good p (insert_by lt x l) ≡ true
  unfolding insert_by all_good put_in
  all_insert p [] h a = rw h
  all_insert p (y ∷ ys) h a = go (lt x y) (all_insert p ys h (and_right (p y) _ a))
    where
      go : (b : Bool) → all_good p (insert_by lt x ys) ≡ true → all_good p (put_in b x y ys (insert_by lt x ys)) ≡ true
      go true r = rw h a
      go false r = and_both (p y) _ (and_left _ _ a) r

  pub insert-in : (l : List A) (z : A) → In z (insert_by lt x l) → (z ≡ x) ⊎ In z l
  unfolding insert_by put_in
  insert-in [] z h = h
  insert-in (y ∷ ys) z h = go (lt x y) h (insert-in ys z)
    where
      late : (z ≡ x) ⊎ In z ys → (z ≡ x) ⊎ ((z ≡ y) ⊎ In z ys)
      late (inl e) = inl e
      late (inr m) = inr (inr m)

      rest : (In z (insert_by lt x ys) → (z ≡ x) ⊎ In z ys) → (z ≡ y) ⊎ In z (insert_by lt x ys) → (z ≡ x) ⊎ ((z ≡ y) ⊎ In z ys)
      rest ih (inl e) = inr (inl e)
      rest ih (inr m) = late (ih m)

      go : (b : Bool) → In z (put_in b x y ys (insert_by lt x ys)) → (In z (insert_by lt x ys) → (z ≡ x) ⊎ In z ys) → (z ≡ x) ⊎ In z (y ∷ ys)
      go true h ih = h
      go false h ih = rest ih h

  pub in_insert : (l : List A) (z : A) → (z ≡ x) ⊎ In z l → In z (insert_by lt x l)
  unfolding insert_by put_in
  in_insert [] z h = h
  in_insert (y ∷ ys) z h = go (lt x y) h (in_insert ys z)
    where
      rest : ((z ≡ x) ⊎ In z ys → In z (insert_by lt x ys)) → (z ≡ x) ⊎ ((z ≡ y) ⊎ In z ys) → (z ≡ y) ⊎ In z (insert_by lt x ys)
      rest ih (inl e) = inr (ih (inl e))
      rest ih (inr (inl e)) = inl e
      rest ih (inr (inr m)) = inr (ih (inr m))

      go : (b : Bool) → (z ≡ x) ⊎ In z (y ∷ ys) → ((z ≡ x) ⊎ In z ys → In z (insert_by lt x ys)) → In z (put_in b x y ys (insert_by lt x ys))
      go true h ih = h
      go false h ih = rest ih h

pub fewer-good : {A : Type 0} (p : A → Bool) {ys xs : List A} → Fewer ys xs → all_good p xs ≡ true → all_good p ys ≡ true
unfolding all_good
fewer-good p empty a = refl
fewer-good p (gone {x = x} {xs = xs} q) a = fewer-good p q (and_right (p x) (all_good p xs) a)
fewer-good p (kept {x = x} {xs = xs} q) a = and_both (p x) _ (and_left (p x) (all_good p xs) a) (fewer-good p q (and_right (p x) (all_good p xs) a))

pub good-weaken : {A : Type 0} (p q : A → Bool) → ((x : A) → p x ≡ true → q x ≡ true) → (xs : List A) → all_good p xs ≡ true → all_good q xs ≡ true
unfolding all_good
good-weaken p q h [] a = refl
good-weaken p q h (x ∷ xs) a = and_both (q x) _ (h x (and_left _ _ a)) (good-weaken p q h xs (and_right (p x) _ a))

-- ---- the order

module _ {A : Type 0} (lt : A → A → Bool) where
  pub ordered-first : (x : A) (v : List A) → ordered lt (x ∷ v) ≡ true → all_after lt x v ≡ true
  unfolding ordered
  ordered-first x v o = and_left _ _ o

  pub ordered-rest : (x : A) (v : List A) → ordered lt (x ∷ v) ≡ true → ordered lt v ≡ true
  unfolding ordered
  ordered-rest x v o = and_right (all_after lt x v) _ o

  pub after-in : (x : A) (v : List A) (z : A) → all_after lt x v ≡ true → In z v → lt x z ≡ true
  unfolding all_after
  after-in x (y ∷ ys) z a (inl e) = ap (lt x) e ∙ and_left _ _ a
  after-in x (y ∷ ys) z a (inr m) = after-in x ys z (and_right (lt x y) _ a) m
  after-in x [] z a x3 = elim x3 [ ]

  -- x has no equal in the list: where it is not before, it is after
  abbrev pub Clear : A → List A → Type 0
  Clear x [] = Unit {0}
  Clear x (y ∷ ys) = (lt x y ≡ false → lt y x ≡ true) × Clear x ys

  pub clear-insert : (x y : A) (v : List A) → (lt x y ≡ false → lt y x ≡ true) → Clear x v → Clear x (insert_by lt y v)
  unfolding insert_by put_in
  clear-insert x y [] h c = (h, tt)
  clear-insert x y (z ∷ zs) h c = go (lt y z) (clear-insert x y zs h c.1)
    where
      go : (b : Bool) → Clear x (insert_by lt y zs) → Clear x (put_in b y z zs (insert_by lt y zs))
      go true r = (h, c)
      go false r = (c.0, r)

  pub clear-fewer : (x : A) {ys xs : List A} → Fewer ys xs → Clear x xs → Clear x ys
  clear-fewer x empty c = tt
  clear-fewer x (gone p) c = clear-fewer x p c.1
  clear-fewer x (kept p) c = (c.0, clear-fewer x p c.1)

  after-insert : (y x : A) (v : List A) → lt y x ≡ true → all_after lt y v ≡ true → all_after lt y (insert_by lt x v) ≡ true
  unfolding all_after insert_by put_in
  after-insert y x [] h a = rw h
  after-insert y x (z ∷ zs) h a = go (lt x z) (after-insert y x zs h (and_right (lt y z) _ a))
    where
      go : (b : Bool) → all_after lt y (insert_by lt x zs) ≡ true → all_after lt y (put_in b x z zs (insert_by lt x zs)) ≡ true
      go true r = rw h a
      go false r = and_both (lt y z) _ (and_left _ _ a) r

  pub after_fewer : (x : A) {ys xs : List A} → Fewer ys xs → all_after lt x xs ≡ true → all_after lt x ys ≡ true
  unfolding all_after
  after_fewer x empty a = refl
  after_fewer x (gone {x = y} {xs = xs} p) a = after_fewer x p (and_right (lt x y) (all_after lt x xs) a)
  after_fewer x (kept {x = y} {xs = xs} p) a = and_both (lt x y) _ (and_left (lt x y) (all_after lt x xs) a) (after_fewer x p (and_right (lt x y) (all_after lt x xs) a))

  -- where some go, the others stay in order
  pub ordered-fewer : {ys xs : List A} → Fewer ys xs → ordered lt xs ≡ true → ordered lt ys ≡ true
  unfolding ordered
  ordered-fewer empty o = refl
  ordered-fewer (gone {x = x} {xs = xs} p) o = ordered-fewer p (and_right (all_after lt x xs) (ordered lt xs) o)
  ordered-fewer (kept {x = x} {xs = xs} p) o = and_both _ _ (after_fewer x p (and_left (all_after lt x xs) (ordered lt xs) o)) (ordered-fewer p (and_right (all_after lt x xs) (ordered lt xs) o))

  module _ (trans : (a b c : A) → lt a b ≡ true → lt b c ≡ true → lt a c ≡ true) where
    pub after-down : (x y : A) (v : List A) → lt x y ≡ true → all_after lt y v ≡ true → all_after lt x v ≡ true
    unfolding all_after
    after-down x y [] h a = refl
    after-down x y (z ∷ zs) h a = and_both (lt x z) _ (trans x y z h (and_left _ _ a)) (after-down x y zs h (and_right (lt y z) _ a))

    -- one that has no equal comes at its place
    pub ordered-insert : (x : A) (v : List A) → Clear x v → ordered lt v ≡ true → ordered lt (insert_by lt x v) ≡ true
    unfolding ordered insert_by put_in all_after
    ordered-insert x [] c o = refl
    ordered-insert x (y ∷ ys) c o = go (lt x y) refl (ordered-insert x ys c.1 (and_right (all_after lt y ys) _ o))
      where
        go : (b : Bool) → lt x y ≡ b → ordered lt (insert_by lt x ys) ≡ true → ordered lt (put_in b x y ys (insert_by lt x ys)) ≡ true
        go true h r = and_both _ (ordered lt (y ∷ ys)) (and_both (lt x y) _ h (after-down x y ys h (and_left _ _ o))) o
        go false h r = and_both _ _ (after-insert y x ys (c.0 h) (and_left _ _ o)) r

    -- the same members, and in order: the same list
    module _ (irrefl : (a : A) → lt a a ≡ false) where
      not_after : (x : A) (v : List A) → all_after lt x v ≡ true → In x v → ⊥
      not_after x v a m = true≢false (sym (after-in x v x a m) ∙ irrefl x)

      same_first : (x y : A) (xs ys : List A) → all_after lt x xs ≡ true → all_after lt y ys ≡ true → In x (y ∷ ys) → In y (x ∷ xs) → x ≡ y
      same_first x y xs ys a b (inl e) n = e
      same_first x y xs ys a b (inr m) (inl e) = sym e
      same_first x y xs ys a b (inr m) (inr n) = absurd (true≢false (sym (trans x y x (after-in x xs y a n) (after-in y ys x b m)) ∙ irrefl x))

      rest_in : (x y : A) (xs ys : List A) → x ≡ y → all_after lt x xs ≡ true → ((z : A) → In z (x ∷ xs) → In z (y ∷ ys)) → (z : A) → In z xs → In z ys
      rest_in x y xs ys e a f z m = go (f z (inr m))
        where
          go : (z ≡ y) ⊎ In z ys → In z ys
          go (inl q) = absurd (not_after x xs a (rw (e ∙ sym q) m))
          go (inr n) = n

      pub ordered_same : (xs ys : List A) → ordered lt xs ≡ true → ordered lt ys ≡ true → ((z : A) → In z xs → In z ys) → ((z : A) → In z ys → In z xs) → xs ≡ ys
      ordered_same [] [] o p f g = refl
      ordered_same [] (y ∷ ys) o p f g = absurd (g y (inl refl))
      ordered_same (x ∷ xs) [] o p f g = absurd (f x (inl refl))
      ordered_same (x ∷ xs) (y ∷ ys) o p f g =
          let e : x ≡ y = same_first x y xs ys (ordered-first x xs o) (ordered-first y ys p) (f x (inl refl)) (g y (inl refl)) in
          let r : xs ≡ ys = ordered_same xs ys (ordered-rest x xs o) (ordered-rest y ys p) (rest_in x y xs ys e (ordered-first x xs o) f) (rest_in y x ys xs (sym e) (ordered-first y ys p) g) in
          cc
