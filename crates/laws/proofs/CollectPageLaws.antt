-- "Reads and pages at moments at or above F answer as before", the page: a key all of whose records went is no longer visited, and showed
-- nothing. A walk over fewer keys, where only such have gone that are judged nothing, is the same walk; and the keys of a box of which some lines
-- have gone are fewer, in their order. Assumes nothing.
use Prim.Native.Nat.{ℕ, suc, ◌+◌}
use mathlib.Core.Path.{◌≡◌, refl, ap, sym, ◌∙◌}
use mathlib.Core.Logic.{◌⊎◌, inl, inr}
use mathlib.Core.Bool.{Bool, true, false, not, true≢false}
use mathlib.Core.List.{List, [], ◌∷◌}
use mathlib.Core.Option.{none}
use lib.Dec.{leb, eqb}
use Rattle.forms.specs.Key.{Key}
use Rattle.forms.specs.Bytes.{eq_bytes, lt_bytes}
use Rattle.forms.proofs.Orders.{eq_bytes-true, eq_bytes-sym, lt_bytes-trans, lt_bytes-else}
use Rattle.rules.specs.Answers.{Reply, nothing, shown, refused}
use Rattle.rules.specs.Box.{KeyLine, before, all_after, ordered, records_of, add_record, lock_of, add_lock}
use Rattle.rules.specs.Read.{keep_if}
use Rattle.rules.specs.Page.{Bounds, Limits, Page, in_bounds, is_first, keys_of, keys_within, cost_step, limit_step, on_judged, page_walk}
use Rattle.laws.proofs.StepLaws.{by-test, and_left, and_right, and_both}
use Rattle.laws.proofs.Sorted.{In, Fewer, empty, gone, kept, ordered-first, ordered-rest, after-in, after-down}
use Rattle.laws.proofs.BoxOrder.{before-not-above}
use Rattle.laws.proofs.FewerLaws.{fewer-in}
use Rattle.laws.proofs.CollectLaws.{Thinned, no_more, went, stayed}

-- ---- the walk

module _ {A : Type 0} (l : Limits) (cost : A → ℕ) where
  -- only the rest may differ
  on_same : (count sum : ℕ) (rest other : ℕ → ℕ → Reply (Page A)) → ((c s : ℕ) → other c s ≡ rest c s) → (r : Reply A) → on_judged l cost count sum other r ≡ on_judged l cost count sum rest r
  unfolding on_judged
  on_same count sum rest other h nothing = h count sum
  on_same count sum rest other h (refused v) = refl
  on_same count sum rest other h (shown x) =
      ap (λ (p : Reply (Page A)). limit_step (leb l.rows count) (cost_step (leb (sum + cost x) l.bytes) (eqb count 0) x p)) (h (suc count) (sum + cost x))

  pub walk-thinned : {X : Type 0} (judge other : X → Reply A) → ((x : X) → other x ≡ judge x) → {ys xs : List X} → Thinned (λ x. judge x ≡ nothing) ys xs → (count sum : ℕ)
      → page_walk other cost l ys count sum ≡ page_walk judge cost l xs count sum
  unfolding page_walk on_judged
  walk-thinned judge other e no_more count sum = refl
  walk-thinned judge other e (went {x = x} {xs = xs} p t) count sum =
      walk-thinned judge other e t count sum ∙ sym (ap (on_judged l cost count sum (λ c s. page_walk judge cost l xs c s)) p)
  walk-thinned judge other e (stayed {x = x} {ys = ys} {xs = xs} t) count sum =
      ap (on_judged l cost count sum (λ c s. page_walk other cost l ys c s)) (e x) ∙ on_same count sum _ _ (λ c s. walk-thinned judge other e t c s) (judge x)

-- those that have gone from a list in order are such as P says, if all others are there
pub fewer-thinned : {A : Type 0} (lt : A → A → Bool) → ((a : A) → lt a a ≡ false) → (P : A → Type 0) {ys xs : List A} → Fewer ys xs → ordered lt xs ≡ true → ((x : A) → In x xs → In x ys ⊎ P x) → Thinned P ys xs
fewer-thinned lt irrefl P empty o h = no_more
fewer-thinned lt irrefl P (gone {x = x} {ys = ys} {xs = xs} q) o h = go (h x (inl refl)) (fewer-thinned lt irrefl P q (ordered-rest lt x xs o) (λ z m. h z (inr m)))
  where
    go : In x ys ⊎ P x → Thinned P ys xs → Thinned P ys (x ∷ xs)
    go (inl m) t = absurd (true≢false (sym (after-in lt x xs x (ordered-first lt x xs o) (fewer-in x q m)) ∙ irrefl x))
    go (inr p) t = went p t
fewer-thinned lt irrefl P (kept {x = x} {ys = ys} {xs = xs} q) o h =
    stayed (fewer-thinned lt irrefl P q (ordered-rest lt x xs o) (λ z m. go z m (h z (inr m))))
  where
    go : (z : _) → In z xs → ((z ≡ x) ⊎ In z ys) ⊎ P z → In z ys ⊎ P z
    go z m (inl (inl e)) = absurd (true≢false (sym (ap (lt x) (sym e) ∙ after-in lt x xs z (ordered-first lt x xs o) m) ∙ irrefl x))
    go z m (inl (inr n)) = inl n
    go z m (inr p) = inr p

-- ---- the keys

-- a first key stays first
pub keys-fewer : {ys xs : List KeyLine} → Fewer ys xs → Fewer (keys_of ys) (keys_of xs)
unfolding keys_of keep_if
keys-fewer empty = empty
keys-fewer (gone {x = x} {ys = ys} {xs = xs} q) =
    by-test (λ t. Fewer (keys_of ys) (keep_if t x.key (keys_of xs))) (not (is_first x.key (keys_of xs))) (λ e. gone (keys-fewer q)) (λ e. keys-fewer q)
keys-fewer (kept {x = x} {ys = ys} {xs = xs} q) = go (keys_of ys) (keys_of xs) (keys-fewer q)
  where
    first : (k j : Key) (js is : List Key) → eq_bytes k j ≡ true → is_first k is ≡ false → Fewer is (j ∷ js) → Fewer (k ∷ is) (j ∷ js)
    first k j js is e n (gone r) = rw (eq_bytes-true k j e) (kept r)
    first k j js is e n (kept r) = absurd (true≢false (sym e ∙ n))

    go : (is js : List Key) → Fewer is js → Fewer (keep_if (not (is_first x.key is)) x.key is) (keep_if (not (is_first x.key js)) x.key js)
    go is js r =
        by-test (λ t. is_first x.key is ≡ t → Fewer (keep_if (not t) x.key is) (keep_if (not (is_first x.key js)) x.key js)) (is_first x.key is)
        (λ d e. by-test (λ u. Fewer is (keep_if u x.key js)) (not (is_first x.key js)) (λ g. gone r) (λ g. r)) (λ d e. here js r e) refl
      where
        here : (js : List Key) → Fewer is js → is_first x.key is ≡ false → Fewer (x.key ∷ is) (keep_if (not (is_first x.key js)) x.key js)
        here [] r e = kept r
        here (j ∷ js) r e =
            by-test (λ t. eq_bytes x.key j ≡ t → Fewer (x.key ∷ is) (keep_if (not t) x.key (j ∷ js))) (eq_bytes x.key j) (λ d g. first x.key j js is g e r) (λ d g. kept r) refl

-- a key is that of a line
pub key_of : (es : List KeyLine) (k : Key) → In k (keys_of es) → (e : KeyLine) × In e es × (k ≡ e.key)
unfolding keys_of keep_if
key_of (e ∷ es) k m = go (not (is_first e.key (keys_of es))) m (key_of es k)
  where
    late : (g : KeyLine) × In g es × (k ≡ g.key) → (g : KeyLine) × In g (e ∷ es) × (k ≡ g.key)
    late r = (r.0, inr r.1, r.2)

    go : (t : Bool) → In k (keep_if t e.key (keys_of es)) → (In k (keys_of es) → (g : KeyLine) × In g es × (k ≡ g.key)) → (g : KeyLine) × In g (e ∷ es) × (k ≡ g.key)
    go true (inl q) ih = (e, inl refl, q)
    go true (inr m) ih = late (ih m)
    go false m ih = late (ih m)
key_of [] k m = elim m [ ]

-- they ascend
pub keys-ordered : (es : List KeyLine) → ordered before es ≡ true → ordered lt_bytes (keys_of es) ≡ true
unfolding keys_of keep_if ordered all_after
keys-ordered [] o = refl
keys-ordered (e ∷ es) o = go (keys_of es) (λ j m. not-below j (key_of es j m)) (keys-ordered es (and_right (all_after before e es) _ o))
  where
    not-below : (j : Key) → (g : KeyLine) × In g es × (j ≡ g.key) → lt_bytes j e.key ≡ false
    not-below j r = ap (λ (i : Key). lt_bytes i e.key) r.2 ∙ before-not-above e r.0 (after-in before e es r.0 (and_left _ _ o) r.1)

    go : (ks : List Key) → ((j : Key) → In j ks → lt_bytes j e.key ≡ false) → ordered lt_bytes ks ≡ true → ordered lt_bytes (keep_if (not (is_first e.key ks)) e.key ks) ≡ true
    go [] h p = refl
    go (j ∷ js) h p =
        by-test (λ t. eq_bytes e.key j ≡ t → ordered lt_bytes (keep_if (not t) e.key (j ∷ js)) ≡ true) (eq_bytes e.key j) (λ d g. p)
        (λ d g. let l : lt_bytes e.key j ≡ true = lt_bytes-else j e.key (eq_bytes-sym j e.key ∙ g) (h j (inl refl)) in
        and_both _ _ (and_both _ _ l (after-down lt_bytes lt_bytes-trans e.key j js l (and_left _ _ p))) p) refl

-- a key that is not among them has no record and no lock
pub key-or-none : (k : Key) (es : List KeyLine) → In k (keys_of es) ⊎ ((records_of k es ≡ []) × (lock_of k es ≡ none))
unfolding keys_of keep_if records_of add_record lock_of add_lock
key-or-none k [] = inr (refl, refl)
key-or-none k (e ∷ es) =
    by-test (λ t. eq_bytes k e.key ≡ t → In k (keep_if (not (is_first e.key (keys_of es))) e.key (keys_of es)) ⊎ ((add_record t e.line (records_of k es) ≡ []) × (add_lock t e.line (lock_of k es) ≡ none))) (eq_bytes k e.key)
    (λ d g. inl (own (keys_of es) (eq_bytes-true k e.key g))) (λ d g. other (not (is_first e.key (keys_of es))) (key-or-none k es)) refl
  where
    own : (ks : List Key) → k ≡ e.key → In k (keep_if (not (is_first e.key ks)) e.key ks)
    own [] q = inl q
    own (j ∷ js) q = by-test (λ t. eq_bytes e.key j ≡ t → In k (keep_if (not t) e.key (j ∷ js))) (eq_bytes e.key j) (λ d g. inl (q ∙ eq_bytes-true e.key j g)) (λ d g. inl q) refl

    other : (t : Bool) → In k (keys_of es) ⊎ ((records_of k es ≡ []) × (lock_of k es ≡ none)) → In k (keep_if t e.key (keys_of es)) ⊎ ((records_of k es ≡ []) × (lock_of k es ≡ none))
    other true (inl m) = inl (inr m)
    other false (inl m) = inl m
    other t (inr r) = inr r

pub within-thinned : (P : Key → Type 0) (a : Bounds) {ys xs : List Key} → Thinned P ys xs → Thinned P (keys_within a ys) (keys_within a xs)
unfolding keys_within keep_if
within-thinned P a no_more = no_more
within-thinned P a (went {x = x} {ys = ys} {xs = xs} p t) =
    by-test (λ u. Thinned P (keys_within a ys) (keep_if u x (keys_within a xs))) (in_bounds a x) (λ e. went p (within-thinned P a t)) (λ e. within-thinned P a t)
within-thinned P a (stayed {x = x} {ys = ys} {xs = xs} t) =
    by-test (λ u. Thinned P (keep_if u x (keys_within a ys)) (keep_if u x (keys_within a xs))) (in_bounds a x) (λ e. stayed (within-thinned P a t)) (λ e. within-thinned P a t)
