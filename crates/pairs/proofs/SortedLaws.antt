-- Lists sorted by insertion: what holds of each or of one of them is the same in whatever turn they stand; they ascend where none has a second
-- of its like; and they may be sorted by what another order says of what they show.
-- Assumes nothing.
use mathlib.Core.Path.{◌≡◌, refl, sym, ◌∙◌, ap, ap₂}
use mathlib.Core.Bool.{Bool, true, false, not, ◌&&◌, and-false, true≢false, false≢true}
use mathlib.Core.List.{List, [], ◌∷◌, map}
use Rattle.seqs.specs.Tables.{All}
use Rattle.seqs.proofs.Tests.{and_left, and_right, and_both}
use Rattle.rules.specs.Box.{put_in, insert_by, all_after, ordered}
use Rattle.rules.specs.Restore.{all_good, none_like, no_second}
use Rattle.laws.proofs.Sorted.{ordered-first, after-down}
use Rattle.orders.specs.Sorts.{sorted}

-- ---- two tests joined

and_same : (a b c : Bool) → (c ≡ true → a ≡ b) → a && c ≡ b && c
and_same a b true f = ap (λ (d : Bool). d && true) (f refl)
and_same a b false f = and-false a ∙ sym (and-false b)

pub and-cross : (a b c d : Bool) → (a && b) && (c && d) ≡ (a && c) && (b && d)
and-cross false b c d = refl
and-cross true true c d = refl
and-cross true false c d = sym (and-false c)

-- ---- what holds of each

module _ {A : Type 0} (lt : A → A → Bool) where
  module _ (P : A → Type 0) where
    put_all : (x : A) (l : List A) → P x → All P l → All P (insert_by lt x l)
    unfolding All insert_by put_in
    put_all x [] p h = (p, tt)
    put_all x (y ∷ ys) p h = go (lt x y) (put_all x ys p h.1)
      where
        go : (b : Bool) → All P (insert_by lt x ys) → All P (put_in b x y ys (insert_by lt x ys))
        go true r = (p, h)
        go false r = (h.0, r)

    pub sorted_all : (l : List A) → All P l → All P (sorted lt l)
    unfolding All sorted
    sorted_all [] h = tt
    sorted_all (x ∷ xs) h = put_all x (sorted lt xs) h.0 (sorted_all xs h.1)

  module _ (p : A → Bool) where
    put-good : (x : A) (l : List A) → all_good p (insert_by lt x l) ≡ p x && all_good p l
    unfolding all_good insert_by put_in
    put-good x [] = refl
    put-good x (y ∷ ys) = go (lt x y) (put-good x ys)
      where
        go : (b : Bool) → all_good p (insert_by lt x ys) ≡ p x && all_good p ys → all_good p (put_in b x y ys (insert_by lt x ys)) ≡ p x && (p y && all_good p ys)
        go true r = refl
        go false r = ap (λ (b : Bool). p y && b) r ∙ and-cross true (p y) (p x) (all_good p ys)

    pub sorted-good : (l : List A) → all_good p (sorted lt l) ≡ all_good p l
    unfolding all_good sorted
    sorted-good [] = refl
    sorted-good (x ∷ xs) = put-good x (sorted lt xs) ∙ ap (λ (b : Bool). p x && b) (sorted-good xs)

-- ---- no second of its like

after-good : {A : Type 0} (lt : A → A → Bool) (x : A) (l : List A) → all_after lt x l ≡ all_good (lt x) l
unfolding all_after all_good
after-good lt x [] = refl
after-good lt x (y ∷ ys) = ap (λ (b : Bool). lt x y && b) (after-good lt x ys)

pub none-good : {A : Type 0} (like : A → A → Bool) (x : A) (l : List A) → none_like like x l ≡ all_good (λ (y : A). not (like x y)) l
unfolding none_like all_good
none-good like x [] = refl
none-good like x (y ∷ ys) = ap (λ (b : Bool). not (like x y) && b) (none-good like x ys)

-- an order in which one of two that are not alike is before the other, and none of two that are
pub record Likes {A : Type 0} (lt like : A → A → Bool) : Type 0 where
  pub trans : (x y z : A) → lt x y ≡ true → lt y z ≡ true → lt x z ≡ true
  pub other : (x y : A) → like x y ≡ false → lt x y ≡ false → lt y x ≡ true
  pub apart : (x y : A) → lt x y ≡ true → like x y ≡ false
  pub apart' : (x y : A) → lt x y ≡ true → like y x ≡ false

module _ {A : Type 0} {lt like : A → A → Bool} (o : Likes lt like) where
  not-like : (x y : A) → lt x y ≡ false → lt y x ≡ not (like x y)
  not-like x y h = go (like x y) (lt y x) refl refl
    where
      go : (c d : Bool) → like x y ≡ c → lt y x ≡ d → d ≡ not c
      go true true e f = absurd (true≢false (sym e ∙ o.apart' y x f))
      go true false e f = refl
      go false true e f = refl
      go false false e f = absurd (false≢true (sym f ∙ o.other x y e h))

  pub none_after : (x : A) (l : List A) → all_after lt x l ≡ true → none_like like x l ≡ true
  unfolding all_after none_like
  none_after x [] a = refl
  none_after x (y ∷ ys) a = and_both (not (like x y)) _ (ap not (o.apart x y (and_left _ _ a))) (none_after x ys (and_right (lt x y) _ a))

  put-once : (x : A) (l : List A) → ordered lt (insert_by lt x l) ≡ none_like like x l && ordered lt l
  unfolding ordered all_after none_like insert_by put_in
  put-once x [] = refl
  put-once x (y ∷ ys) = go (lt x y) refl (put-once x ys)
    where
      all : lt x y ≡ true → ordered lt (y ∷ ys) ≡ true → all_after lt x (y ∷ ys) ≡ true
      all h e = and_both (lt x y) _ h (after-down lt o.trans x y ys h (ordered-first lt y ys e))

      after : all_after lt y (insert_by lt x ys) ≡ lt y x && all_after lt y ys
      after = after-good lt y (insert_by lt x ys) ∙ put-good lt (lt y) x ys ∙ ap (λ (b : Bool). lt y x && b) (sym (after-good lt y ys))

      go : (b : Bool) → lt x y ≡ b → ordered lt (insert_by lt x ys) ≡ none_like like x ys && ordered lt ys → ordered lt (put_in b x y ys (insert_by lt x ys)) ≡ none_like like x (y ∷ ys) && ordered lt (y ∷ ys)
      go true h r = and_same _ _ (ordered lt (y ∷ ys)) (λ e. all h e ∙ sym (none_after x (y ∷ ys) (all h e)))
      go false h r =
          ap₂ ◌&&◌ (after ∙ ap (λ (b : Bool). b && all_after lt y ys) (not-like x y h)) r
          ∙ and-cross (not (like x y)) (all_after lt y ys) (none_like like x ys) (ordered lt ys)

  pub sorted-once : (l : List A) → ordered lt (sorted lt l) ≡ no_second like l
  unfolding sorted ordered no_second
  sorted-once [] = refl
  sorted-once (x ∷ xs) =
      put-once x (sorted lt xs) ∙ ap₂ ◌&&◌ (none-good like x (sorted lt xs) ∙ sorted-good lt (λ (y : A). not (like x y)) xs ∙ sym (none-good like x xs)) (sorted-once xs)

-- ---- two orders that agree where P holds

module _ {A B : Type 0} (lt : A → A → Bool) (lt' : B → B → Bool) (f : A → B) (P : A → Type 0) (same : (x y : A) → P x → P y → lt x y ≡ lt' (f x) (f y)) where
  put_map : (x : A) (l : List A) → P x → All P l → map f (insert_by lt x l) ≡ insert_by lt' (f x) (map f l)
  unfolding All insert_by put_in
  put_map x [] p h = refl
  put_map x (y ∷ ys) p h = go (lt x y) (put_map x ys p h.1) ∙ ap (λ (b : Bool). put_in b (f x) (f y) (map f ys) (insert_by lt' (f x) (map f ys))) (same x y p h.0)
    where
      go : (b : Bool) → map f (insert_by lt x ys) ≡ insert_by lt' (f x) (map f ys) → map f (put_in b x y ys (insert_by lt x ys)) ≡ put_in b (f x) (f y) (map f ys) (insert_by lt' (f x) (map f ys))
      go true r = refl
      go false r = ap (λ (l : List B). f y ∷ l) r

  pub sorted-map : (l : List A) → All P l → map f (sorted lt l) ≡ sorted lt' (map f l)
  unfolding All sorted
  sorted-map [] h = refl
  sorted-map (x ∷ xs) h = put_map x (sorted lt xs) h.0 (sorted_all lt P xs h.1) ∙ ap (insert_by lt' (f x)) (sorted-map xs h.1)

  after_map : (x : A) (l : List A) → P x → All P l → all_after lt x l ≡ all_after lt' (f x) (map f l)
  unfolding All all_after
  after_map x [] p h = refl
  after_map x (y ∷ ys) p h = ap₂ ◌&&◌ (same x y p h.0) (after_map x ys p h.1)

  pub ordered-map : (l : List A) → All P l → ordered lt l ≡ ordered lt' (map f l)
  unfolding All ordered
  ordered-map [] h = refl
  ordered-map (x ∷ xs) h = ap₂ ◌&&◌ (after_map x xs h.0 h.1) (ordered-map xs h.1)

  pub map-once : {like : B → B → Bool} → Likes lt' like → (l : List A) → All P l → ordered lt (sorted lt l) ≡ no_second like (map f l)
  map-once o l h = ordered-map (sorted lt l) (sorted_all lt P l h) ∙ ap (ordered lt') (sorted-map l h) ∙ sorted-once o (map f l)
