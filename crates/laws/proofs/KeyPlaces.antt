-- The entries of one key stand together in a list that is in order by key: first those below it, then its own, then those above.
-- Assumes nothing.
use Prim.Native.Nat.{ℕ, ◌+◌}
use mathlib.Core.Path.{◌≡◌, refl, ap, sym, ◌∙◌}
use mathlib.Core.Bool.{Bool, true, false, not, ◌&&◌, true≢false}
use mathlib.Core.List.{List, ◌++◌}
use lib.ListN.{length, take, drop, take-append-drop}
use lib.Seq.{drop-drop, drop-append_seam}
use Rattle.forms.specs.Key.{Key}
use Rattle.forms.specs.Bytes.{cmp, eq_bytes, lt_bytes, is_less, is_equal}
use Rattle.std.specs.declared.cmp.Ordering.{Ordering}
use Rattle.std.specs.declared.cmp.Ordering.TheVariants.{Less, Equal, Greater}
use Rattle.forms.proofs.Orders.{cmp-flip, flip, lt_bytes-le-lt, lt_bytes-trans, lt_bytes-else, eq_bytes-true}
use Rattle.rules.specs.Read.{those}
use Rattle.rules.specs.Box.{ordered}
use Rattle.laws.specs.Places.{how_many}
use Rattle.laws.proofs.StepLaws.{not-true}
use Rattle.laws.proofs.Sorted.{ordered-fewer}
use Rattle.laws.proofs.PlaceLaws.{Down, take-place, drop-place, those-fewer, those-ext, those-those}

-- less than b, which is at most c
pub lt_bytes-lt-le : (a b c : Key) → lt_bytes a b ≡ true → lt_bytes c b ≡ false → lt_bytes a c ≡ true
lt_bytes-lt-le a b c p n = go (eq_bytes c b) refl
  where
    go : (t : Bool) → eq_bytes c b ≡ t → lt_bytes a c ≡ true
    go true e = ap (lt_bytes a) (eq_bytes-true c b e) ∙ p
    go false e = lt_bytes-trans a b c p (lt_bytes-else c b e n)

-- neither below nor above is equal; not below and not at most is above
neither : (j k : Key) → not (lt_bytes j k) && not (lt_bytes k j) ≡ eq_bytes k j
unfolding lt_bytes eq_bytes
neither j k = ap (λ (o : Ordering). not (is_less (cmp j k)) && not (is_less o)) (cmp-flip j k) ∙ go (cmp j k) ∙ sym (ap is_equal (cmp-flip j k))
  where
    go : (o : Ordering) → not (is_less o) && not (is_less (flip o)) ≡ is_equal (flip o)
    go Less = refl
    go Equal = refl
    go Greater = refl

only_above : (j k : Key) → not (lt_bytes j k) && not (not (lt_bytes k j)) ≡ lt_bytes k j
unfolding lt_bytes
only_above j k = ap (λ (o : Ordering). not (is_less (cmp j k)) && not (not (is_less o))) (cmp-flip j k) ∙ go (cmp j k) ∙ sym (ap is_less (cmp-flip j k))
  where
    go : (o : Ordering) → not (is_less o) && not (not (is_less (flip o))) ≡ is_less (flip o)
    go Less = refl
    go Equal = refl
    go Greater = refl

module _ {A : Type 0} (key : A → Key) (lt : A → A → Bool) (not-above : (x y : A) → lt x y ≡ true → lt_bytes (key y) (key x) ≡ false) (k : Key) where
  pub below-down : Down lt (λ (x : A). lt_bytes (key x) k)
  below-down x y h p = lt_bytes-le-lt (key x) (key y) k (not-above x y h) p

  up-to-down : Down lt (λ (x : A). not (lt_bytes k (key x)))
  up-to-down x y h p = go (lt_bytes k (key x)) refl
    where
      go : (t : Bool) → lt_bytes k (key x) ≡ t → not t ≡ true
      go true e = absurd (true≢false (sym (lt_bytes-lt-le k (key x) (key y) e (not-above x y h)) ∙ not-true _ p))
      go false e = refl

  module _ (xs : List A) (o : ordered lt xs ≡ true) where
    rest-split : those (λ (x : A). not (lt_bytes (key x) k)) xs ≡ those (λ (x : A). eq_bytes k (key x)) xs ++ those (λ (x : A). lt_bytes k (key x)) xs
    rest-split =
        let r : List A = those (λ (x : A). not (lt_bytes (key x) k)) xs in
        let ro : ordered lt r ≡ true = ordered-fewer lt (those-fewer (λ (x : A). not (lt_bytes (key x) k)) xs) o in
        let q : A → Bool = λ x. not (lt_bytes k (key x)) in
        let t : take (how_many q r) r ≡ those (λ (x : A). eq_bytes k (key x)) xs =
        take-place lt q up-to-down r ro ∙ those-those (λ (x : A). not (lt_bytes (key x) k)) q xs ∙ those-ext _ _ (λ x. neither (key x) k) xs in
        let d : drop (how_many q r) r ≡ those (λ (x : A). lt_bytes k (key x)) xs =
        drop-place lt q up-to-down r ro ∙ those-those (λ (x : A). not (lt_bytes (key x) k)) (λ x. not (q x)) xs ∙ those-ext _ _ (λ x. only_above (key x) k) xs in
        sym (take-append-drop (how_many q r) r) ∙ ap (λ (l : List A). l ++ drop (how_many q r) r) t ∙ ap (λ (l : List A). those (λ (x : A). eq_bytes k (key x)) xs ++ l) d

    -- from the place of the key on: its own, and those above
    pub from_key : drop (how_many (λ (x : A). lt_bytes (key x) k) xs) xs ≡ those (λ (x : A). eq_bytes k (key x)) xs ++ those (λ (x : A). lt_bytes k (key x)) xs
    from_key = drop-place lt (λ (x : A). lt_bytes (key x) k) below-down xs o ∙ rest-split

    -- past its own: those above
    pub past-key : drop (how_many (λ (x : A). lt_bytes (key x) k) xs + length (those (λ (x : A). eq_bytes k (key x)) xs)) xs ≡ those (λ (x : A). lt_bytes k (key x)) xs
    past-key =
        sym (drop-drop (length (those (λ (x : A). eq_bytes k (key x)) xs)) (how_many (λ (x : A). lt_bytes (key x) k) xs) xs)
        ∙ ap (drop (length (those (λ (x : A). eq_bytes k (key x)) xs))) from_key
        ∙ drop-append_seam (those (λ (x : A). eq_bytes k (key x)) xs) (those (λ (x : A). lt_bytes k (key x)) xs)

    pub key_split : xs ≡ take (how_many (λ (x : A). lt_bytes (key x) k) xs) xs ++ (those (λ (x : A). eq_bytes k (key x)) xs ++ drop (how_many (λ (x : A). lt_bytes (key x) k) xs + length (those (λ (x : A). eq_bytes k (key x)) xs)) xs)
    key_split =
        let n : ℕ = how_many (λ (x : A). lt_bytes (key x) k) xs in
        sym (take-append-drop n xs) ∙ ap (λ (l : List A). take n xs ++ l) (from_key ∙ ap (λ (l : List A). those (λ (x : A). eq_bytes k (key x)) xs ++ l) (sym past-key))
