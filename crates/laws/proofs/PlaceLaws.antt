-- Places in a list in order, over every test `lt`: a test that holds of all before one that it holds of holds of the first `how_many`, and of
-- no other. So a search by halves or by steps finds that number, and what comes goes in there. Assumes nothing.
use Prim.Native.Nat.{ℕ, zero, suc, ◌-◌, ◌≤◌, ◌<◌}
use native.Mathlib.Omega.{arith}
use mathlib.Core.Path.{◌≡◌, refl, ap, sym, ◌∙◌}
use mathlib.Core.Bool.{Bool, true, false, not, ◌&&◌, true≢false}
use mathlib.Core.List.{List, [], ◌∷◌, ◌++◌}
use lib.Dec.{ltb}
use lib.ListN.{length, take, drop, get_or}
use borrow.Author.Tests.{lt-ltb, le-ltb, ltb-true, ltb-false}
use Rattle.rules.specs.Box.{all_after, ordered, put_in, insert_by}
use Rattle.rules.specs.Read.{keep_if, those}
use Rattle.rules.specs.Restore.{all_good}
use Rattle.laws.specs.Places.{one_more, how_many}
use Rattle.laws.proofs.StepLaws.{and_left, and_right, and_both}
use Rattle.laws.proofs.Sorted.{Clear, Fewer, empty, gone, kept, ordered-first, ordered-rest}

-- ---- counting, with no order

module _ {A : Type 0} (p : A → Bool) where
  pub how_many-le : (xs : List A) → how_many p xs ≤ length xs
  unfolding how_many
  how_many-le [] = omega arith
  how_many-le (x ∷ xs) = go (p x) (how_many-le xs)
    where
      go : (t : Bool) → how_many p xs ≤ length xs → one_more t (how_many p xs) ≤ suc (length xs)
      go true h = omega arith
      go false h = omega arith

  pub length-those : (xs : List A) → length (those p xs) ≡ how_many p xs
  unfolding how_many those keep_if
  length-those [] = refl
  length-those (x ∷ xs) = go (p x) (length-those xs)
    where
      go : (t : Bool) → length (those p xs) ≡ how_many p xs → length (keep_if t x (those p xs)) ≡ one_more t (how_many p xs)
      go true h = ap suc h
      go false h = h

  pub those-fewer : (xs : List A) → Fewer (those p xs) xs
  unfolding those keep_if
  those-fewer [] = empty
  those-fewer (x ∷ xs) = go (p x) (those-fewer xs)
    where
      go : (t : Bool) → Fewer (those p xs) xs → Fewer (keep_if t x (those p xs)) (x ∷ xs)
      go true h = kept h
      go false h = gone h

  pub those-hold : (xs : List A) → all_good p (those p xs) ≡ true
  unfolding those keep_if all_good
  those-hold [] = refl
  those-hold (x ∷ xs) = go (p x) refl (those-hold xs)
    where
      go : (t : Bool) → p x ≡ t → all_good p (those p xs) ≡ true → all_good p (keep_if t x (those p xs)) ≡ true
      go true e h = and_both (p x) _ e h
      go false e h = h

pub how_many-ext : {A : Type 0} (p q : A → Bool) → ((x : A) → p x ≡ q x) → (xs : List A) → how_many p xs ≡ how_many q xs
unfolding how_many
how_many-ext p q e [] = refl
how_many-ext p q e (x ∷ xs) = rw (e x, how_many-ext p q e xs)

pub those-ext : {A : Type 0} (p q : A → Bool) → ((x : A) → p x ≡ q x) → (xs : List A) → those p xs ≡ those q xs
unfolding those
those-ext p q e [] = refl
those-ext p q e (x ∷ xs) = rw (e x, those-ext p q e xs)

pub those-those : {A : Type 0} (p q : A → Bool) (xs : List A) → those q (those p xs) ≡ those (λ (x : A). p x && q x) xs
unfolding those keep_if
those-those p q [] = refl
those-those p q (x ∷ xs) = go (p x) (those-those p q xs)
  where
    go : (t : Bool) → those q (those p xs) ≡ those (λ x. p x && q x) xs → those q (keep_if t x (those p xs)) ≡ keep_if (t && q x) x (those (λ x. p x && q x) xs)
    go true h = rw h
    go false h = h

ltb-suc : (i n : ℕ) → ltb (suc i) (suc n) ≡ ltb i n
ltb-suc i n = go (ltb i n) refl
  where
    go : (t : Bool) → ltb i n ≡ t → ltb (suc i) (suc n) ≡ t
    go true e = lt-ltb (suc i) (suc n) (omega (arith, ltb-true i n e))
    go false e = le-ltb (suc i) (suc n) (omega (arith, ltb-false i n e))

-- ---- in order

module _ {A : Type 0} (lt : A → A → Bool) where
  -- what holds of one holds of all before it
  abbrev pub Down : (A → Bool) → Type 0
  Down p = (x y : A) → lt x y ≡ true → p y ≡ true → p x ≡ true

  module _ (p : A → Bool) (down : Down p) where
    fails : (x y : A) → p x ≡ false → lt x y ≡ true → p y ≡ false
    fails x y n h = go (p y) refl
      where
        go : (t : Bool) → p y ≡ t → t ≡ false
        go true e = sym (down x y h e) ∙ n
        go false e = refl

    -- where the first fails, all fail
    pub none_after : (x : A) (xs : List A) → p x ≡ false → all_after lt x xs ≡ true → how_many p xs ≡ 0
    unfolding how_many all_after
    none_after x [] n a = refl
    none_after x (y ∷ ys) n a = rw (fails x y n (and_left _ _ a)) (none_after x ys n (and_right (lt x y) _ a))

    -- the test at a place
    pub at_place : (xs : List A) (i : ℕ) (d : A) → ordered lt xs ≡ true → i < length xs → p (get_or xs i d) ≡ ltb i (how_many p xs)
    unfolding how_many
    at_place [] i d o h = absurd (omega arith)
    at_place (x ∷ xs) zero d o h = go (p x) refl
      where
        go : (t : Bool) → p x ≡ t → p x ≡ ltb 0 (one_more t (how_many p xs))
        go true e = e ∙ sym (lt-ltb 0 (suc (how_many p xs)) (omega arith))
        go false e = e ∙ sym (le-ltb 0 (how_many p xs) (omega (arith, none_after x xs e (ordered-first lt x xs o))))
    at_place (x ∷ xs) (suc i) d o h = at_place xs i d (ordered-rest lt x xs o) (omega arith) ∙ go (p x) refl
      where
        go : (t : Bool) → p x ≡ t → ltb i (how_many p xs) ≡ ltb (suc i) (one_more t (how_many p xs))
        go true e = sym (ltb-suc i (how_many p xs))
        go false e =
            let z : how_many p xs ≡ 0 = none_after x xs e (ordered-first lt x xs o) in
            le-ltb i (how_many p xs) (omega arith) ∙ sym (le-ltb (suc i) (how_many p xs) (omega arith))

    pub below-place : (xs : List A) (i : ℕ) (d : A) → ordered lt xs ≡ true → i < how_many p xs → p (get_or xs i d) ≡ true
    below-place xs i d o h = at_place xs i d o (omega (arith, how_many-le p xs)) ∙ lt-ltb i (how_many p xs) h

    pub from_place : (xs : List A) (i : ℕ) (d : A) → ordered lt xs ≡ true → how_many p xs ≤ i → i < length xs → p (get_or xs i d) ≡ false
    from_place xs i d o h l = at_place xs i d o l ∙ le-ltb i (how_many p xs) h

    -- a search found the place: the test holds before it, and fails there
    pub place_is : (xs : List A) (n : ℕ) (d : A) → ordered lt xs ≡ true → n ≤ length xs → (0 < n → p (get_or xs (n - 1) d) ≡ true) → (n < length xs → p (get_or xs n d) ≡ false) → n ≡ how_many p xs
    place_is xs n d o l f g = le-both (not_more (ltb n (how_many p xs)) refl) (not-less (ltb (how_many p xs) n) refl)
      where
        le-both : how_many p xs ≤ n → n ≤ how_many p xs → n ≡ how_many p xs
        le-both a b = omega arith

        not_more : (t : Bool) → ltb n (how_many p xs) ≡ t → how_many p xs ≤ n
        not_more true e =
            let h : n < how_many p xs = ltb-true _ _ e in
            absurd (true≢false (sym (below-place xs n d o h) ∙ g (omega (arith, how_many-le p xs))))
        not_more false e = ltb-false _ _ e

        not-less : (t : Bool) → ltb (how_many p xs) n ≡ t → n ≤ how_many p xs
        not-less true e =
            let h : how_many p xs < n = ltb-true _ _ e in
            absurd (true≢false (sym (f (omega arith)) ∙ from_place xs (n - 1) d o (omega arith) (omega arith)))
        not-less false e = ltb-false _ _ e

    -- the first ones, and the others
    pub take-place : (xs : List A) → ordered lt xs ≡ true → take (how_many p xs) xs ≡ those p xs
    unfolding how_many those keep_if
    take-place [] o = refl
    take-place (x ∷ xs) o = go (p x) refl (take-place xs (ordered-rest lt x xs o))
      where
        go : (t : Bool) → p x ≡ t → take (how_many p xs) xs ≡ those p xs → take (one_more t (how_many p xs)) (x ∷ xs) ≡ keep_if t x (those p xs)
        go true e h = ap (λ (l : List A). x ∷ l) h
        go false e h =
            let z : how_many p xs ≡ 0 = none_after x xs e (ordered-first lt x xs o) in
            ap (λ (n : ℕ). take n (x ∷ xs)) z ∙ sym (ap (λ (n : ℕ). take n xs) z) ∙ h

    pub drop-place : (xs : List A) → ordered lt xs ≡ true → drop (how_many p xs) xs ≡ those (λ (x : A). not (p x)) xs
    unfolding how_many those keep_if
    drop-place [] o = refl
    drop-place (x ∷ xs) o = go (p x) refl (drop-place xs (ordered-rest lt x xs o))
      where
        go : (t : Bool) → p x ≡ t → drop (how_many p xs) xs ≡ those (λ x. not (p x)) xs → drop (one_more t (how_many p xs)) (x ∷ xs) ≡ keep_if (not t) x (those (λ x. not (p x)) xs)
        go true e h = h
        go false e h =
            let z : how_many p xs ≡ 0 = none_after x xs e (ordered-first lt x xs o) in
            ap (λ (n : ℕ). drop n (x ∷ xs)) z ∙ ap (λ (l : List A). x ∷ l) (sym (ap (λ (n : ℕ). drop n xs) z) ∙ h)

  -- ---- what comes goes in at its place

  module _ (trans : (a b c : A) → lt a b ≡ true → lt b c ≡ true → lt a c ≡ true) (irrefl : (a : A) → lt a a ≡ false) (x : A) where
    pub before-down : Down (λ (y : A). lt y x)
    before-down y z h g = trans y z x h g

    pub insert-place : (xs : List A) → Clear lt x xs → ordered lt xs ≡ true → insert_by lt x xs ≡ take (how_many (λ (y : A). lt y x) xs) xs ++ x ∷ drop (how_many (λ (y : A). lt y x) xs) xs
    unfolding insert_by put_in how_many
    insert-place [] c o = refl
    insert-place (y ∷ ys) c o = go (lt x y) refl (insert-place ys c.1 (ordered-rest lt y ys o))
      where
        not_back : lt x y ≡ true → lt y x ≡ false
        not_back h = back (lt y x) refl
          where
            back : (t : Bool) → lt y x ≡ t → t ≡ false
            back true e = sym (trans x y x h e) ∙ irrefl x
            back false e = refl

        go : (t : Bool) → lt x y ≡ t → insert_by lt x ys ≡ take (how_many (λ y. lt y x) ys) ys ++ x ∷ drop (how_many (λ y. lt y x) ys) ys
            → put_in t x y ys (insert_by lt x ys) ≡ take (one_more (lt y x) (how_many (λ y. lt y x) ys)) (y ∷ ys) ++ x ∷ drop (one_more (lt y x) (how_many (λ y. lt y x) ys)) (y ∷ ys)
        go true h ih = rw (not_back h, none_after (λ y. lt y x) before-down y ys (not_back h) (ordered-first lt y ys o))
        go false h ih = rw (c.0 h) (ap (λ (l : List A). y ∷ l) ih)
