-- A page of rows is told by the reads of its keys: two boxes in order that show the same at every key show the same page. A key that shows nothing may be
-- a key of one box alone: a walk that passes over such keys is the same walk.
-- Assumes nothing.
use Prim.Native.Nat.{ℕ, suc, ◌+◌}
use native.Mathlib.Omega.{arith}
use mathlib.Core.Path.{◌≡◌, refl, ap, sym, ◌∙◌}
use mathlib.Core.Logic.{◌⊎◌, inl, inr}
use mathlib.Core.Bool.{Bool, true, false, not, true≢false}
use mathlib.Core.List.{List, [], ◌∷◌}
use mathlib.Core.Option.{Option, none}
use lib.Dec.{leb, eqb}
use borrow.Author.Tests.{le-leb}
use Rattle.forms.specs.Key.{Key, key_form}
use Rattle.forms.specs.Bytes.{eq_bytes, lt_bytes}
use Rattle.forms.proofs.Orders.{eq_bytes-true, eq_bytes-sym, lt_bytes-irrefl, lt_bytes-trans, lt_bytes-else}
use Rattle.rules.specs.Answers.{◌▸◌, need, Reply, nothing, shown, refused, if_passed}
use Rattle.rules.specs.Box.{Box, KeyLine, before, all_after, ordered, in_order, records_of, add_record, lock_of, add_lock}
use Rattle.rules.specs.Read.{keep_if, those, lock_lets, newest_first, walk, read_steps, examine, read, at_or_below}
use Rattle.rules.specs.Page.{Bounds, Limits, Page, in_bounds, is_first, keys_of, keys_within, cost_step, limit_step, on_judged, page_walk, with_key, read_key, row_cost}
use Rattle.laws.proofs.StepLaws.{by-test, and_left, and_right, and_both}
use Rattle.laws.proofs.Sorted.{In, after-in, after-down, ordered-fewer, ordered_same}
use Rattle.laws.proofs.PlaceLaws.{those-fewer}
use Rattle.laws.proofs.BoxOrder.{order-lines, before-not-above}
use Rattle.laws.proofs.CollectLaws.{Thinned, no_more, went, stayed}
use Rattle.laws.proofs.CollectPageLaws.{walk-thinned, keys-ordered, key-or-none}

-- ---- the walk

module _ {A : Type 0} (p : A → Bool) where
  those-in : (xs : List A) (z : A) → In z (those p xs) → In z xs × (p z ≡ true)
  unfolding those keep_if
  those-in (x ∷ xs) z m = go (p x) refl m (those-in xs z)
    where
      go : (t : Bool) → p x ≡ t → In z (keep_if t x (those p xs)) → (In z (those p xs) → In z xs × (p z ≡ true)) → ((z ≡ x) ⊎ In z xs) × (p z ≡ true)
      go true h (inl e) ih = (inl e, ap p e ∙ h)
      go true h (inr n) ih = (inr (ih n).0, (ih n).1)
      go false h n ih = (inr (ih n).0, (ih n).1)
  those-in [] z m = elim m [ ]

  in-those : (xs : List A) (z : A) → In z xs → p z ≡ true → In z (those p xs)
  unfolding those keep_if
  in-those (x ∷ xs) z (inl e) h = rw (ap p (sym e) ∙ h) (inl e)
  in-those (x ∷ xs) z (inr m) h = by-test (λ t. In z (keep_if t x (those p xs))) (p x) (λ q. inr (in-those xs z m h)) (λ q. in-those xs z m h)
  in-those [] z x'' h = elim x'' [ ]

  -- what goes is such as P says
  those-thinned : (P : A → Type 0) → ((x : A) → p x ≡ false → P x) → (xs : List A) → Thinned P (those p xs) xs
  unfolding those keep_if
  those-thinned P h [] = no_more
  those-thinned P h (x ∷ xs) = by-test (λ t. p x ≡ t → Thinned P (keep_if t x (those p xs)) (x ∷ xs)) (p x) (λ _ e. stayed (those-thinned P h xs)) (λ _ e. went (h x e) (those-thinned P h xs)) refl

-- a reply that is not nothing
abbrev is_there : {A : Type 0} → Reply A → Bool
is_there nothing = false
is_there (shown x) = true
is_there (refused v) = true

not_there : {A : Type 0} (r : Reply A) → is_there r ≡ false → r ≡ nothing
not_there nothing e = refl
not_there (shown x) e = absurd (true≢false e)
not_there (refused v) e = absurd (true≢false e)

-- two lists in order that have the same members that show something
module _ {X A : Type 0} (lt : X → X → Bool) (trans : (a b c : X) → lt a b ≡ true → lt b c ≡ true → lt a c ≡ true) (irrefl : (a : X) → lt a a ≡ false) (judge other : X → Reply A) (same : (x : X) → other x ≡ judge x) (cost : A → ℕ) (l : Limits) where
  abbrev seen : X → Bool
  seen x = is_there (judge x)

  walk-seen : (xs ys : List X) → ordered lt xs ≡ true → ordered lt ys ≡ true → ((x : X) → In x xs → seen x ≡ true → In x ys) → ((x : X) → In x ys → seen x ≡ true → In x xs) → (n s : ℕ)
      → page_walk other cost l ys n s ≡ page_walk judge cost l xs n s
  walk-seen xs ys o p f g n s =
      let e : those seen ys ≡ those seen xs =
      ordered_same lt trans irrefl (those seen ys) (those seen xs) (ordered-fewer lt (those-fewer seen ys) p) (ordered-fewer lt (those-fewer seen xs) o)
      (λ z i. let r = those-in seen ys z i in in-those seen xs z (g z r.0 r.1) r.1) (λ z i. let r = those-in seen xs z i in in-those seen ys z (f z r.0 r.1) r.1) in
      sym (walk-thinned l cost other judge (λ x. sym (same x)) (those-thinned seen (λ x. other x ≡ nothing) (λ x h. same x ∙ not_there (judge x) h) ys) n s)
      ∙ ap (λ (zs : List X). page_walk judge cost l zs n s) e
      ∙ walk-thinned l cost judge judge (λ x. refl) (those-thinned seen (λ x. judge x ≡ nothing) (λ x h. not_there (judge x) h) xs) n s

-- ---- the keys

within-those : (a : Bounds) (ks : List Key) → keys_within a ks ≡ those (in_bounds a) ks
unfolding keys_within those
within-those a [] = refl
within-those a (k ∷ ks) = ap (keep_if (in_bounds a k) k) (within-those a ks)

-- ---- the page

-- a key in form without a record and without a lock shows nothing
nothing-at : (k : Key) (m : ℕ) (b : Box) → key_form k ≡ true → records_of k b.lines ≡ [] → lock_of k b.lines ≡ none → read 0 k m b ≡ nothing
unfolding read examine read_steps lock_lets need ◌▸◌ if_passed walk newest_first at_or_below
nothing-at k m b form r l = rw (form, le-leb 0 m (omega arith), l, r)

-- a box in order whose keys are in form
pub record KeysIn (b : Box) : Type 0 where
  pub order : in_order b ≡ true
  pub form : (k : Key) → In k (keys_of b.lines) → key_form k ≡ true

module _ (m : ℕ) (b c : Box) (u : KeysIn b) (v : KeysIn c) (same : (k : Key) → read 0 k m c ≡ read 0 k m b) where
  same_key : (k : Key) → read_key m c k ≡ read_key m b k
  unfolding read_key
  same_key k = ap (with_key k) (same k)

  -- a key that shows something is a key of the other box
  there : (x : Box) (k : Key) → key_form k ≡ true → (read 0 k m x ≡ read 0 k m b) → is_there (read_key m b k) ≡ true → In k (keys_of x.lines)
  unfolding read_key
  there x k form e h = go (key-or-none k x.lines)
    where
      go : In k (keys_of x.lines) ⊎ ((records_of k x.lines ≡ []) × (lock_of k x.lines ≡ none)) → In k (keys_of x.lines)
      go (inl i) = i
      go (inr n) = absurd (true≢false (sym h ∙ ap (λ r. is_there (with_key k r)) (sym e ∙ nothing-at k m x form n.0 n.1)))

  pub page-walk-same : (a : Bounds) (l : Limits) → page_walk (read_key m c) row_cost l (keys_within a (keys_of c.lines)) 0 0 ≡ page_walk (read_key m b) row_cost l (keys_within a (keys_of b.lines)) 0 0
  page-walk-same a l =
      ap (λ (ks : List Key). page_walk (read_key m c) row_cost l ks 0 0) (within-those a (keys_of c.lines))
      ∙ walk-seen lt_bytes lt_bytes-trans lt_bytes-irrefl (read_key m b) (read_key m c) same_key row_cost l (those (in_bounds a) (keys_of b.lines)) (those (in_bounds a) (keys_of c.lines))
      (ordered-fewer lt_bytes (those-fewer (in_bounds a) _) (keys-ordered b.lines (order-lines b u.order))) (ordered-fewer lt_bytes (those-fewer (in_bounds a) _) (keys-ordered c.lines (order-lines c v.order)))
      (λ k i h. let r = those-in (in_bounds a) (keys_of b.lines) k i in in-those (in_bounds a) (keys_of c.lines) k (there c k (u.form k r.0) (same k) h) r.1)
      (λ k i h. let r = those-in (in_bounds a) (keys_of c.lines) k i in in-those (in_bounds a) (keys_of b.lines) k (there b k (v.form k r.0) refl h) r.1) 0 0
      ∙ sym (ap (λ (ks : List Key). page_walk (read_key m b) row_cost l ks 0 0) (within-those a (keys_of b.lines)))
