-- The defaults of a key stand together, by start. The row of a key and a start, if there is one, stands at the place `pairs_before`: a lookup
-- finds it there, it goes from there, and a default that comes goes in there. Assumes nothing.
use Prim.Native.Nat.{ℕ, zero, suc, ◌+◌, ◌≤◌, ◌<◌}
use native.Mathlib.Omega.{arith}
use mathlib.Core.Path.{◌≡◌, refl, ap, sym, ◌∙◌}
use mathlib.Core.Bool.{Bool, true, false}
use mathlib.Core.List.{List, [], ◌∷◌, ◌++◌}
use mathlib.Core.Option.{none, some}
use lib.Dec.{ltb}
use lib.ListN.{length, take, drop, get_or}
use Rattle.forms.specs.Key.{Key}
use Rattle.forms.specs.Row.{Row}
use Rattle.forms.specs.Bytes.{lt_bytes}
use Rattle.rules.specs.Read.{those}
use Rattle.rules.specs.Box.{Default, row_of, add_row, at_pair, row_before, insert_default, drop_row, unless_row, ordered, all_after}
use Rattle.laws.specs.Places.{one_more, how_many, defaults_before, pairs_before, defaults_of, row_first}
use Rattle.laws.proofs.Sorted.{ordered-first, ordered-rest, after-down}
use Rattle.laws.proofs.BoxOrder.{row_before-trans, row_before-irrefl, row_before-else, row_before-apart', row_before-not-above, clear-default}
use Rattle.laws.proofs.KeyLaws.{row-after, pair-after, drop_row-none}
use Rattle.laws.proofs.PlaceLaws.{none_after, at_place, insert-place}
use Rattle.laws.proofs.KeyPlaces.{below-down, from_key, past-key, key_split}

-- a default of a key and a start; its row says nothing of the order
abbrev pub pair_of : Key → ℕ → Default
pair_of k s = record { key = k; start = s; row = [] }

module _ (k : Key) (ds : List Default) (o : ordered row_before ds ≡ true) where
  -- from the key's place on: its defaults, and then those of keys above
  pub defaults-from : drop (defaults_before k ds) ds ≡ defaults_of k ds ++ those (λ (d : Default). lt_bytes k d.key) ds
  defaults-from = from_key (λ (d : Default). d.key) row_before row_before-not-above k ds o

  pub defaults-past : drop (defaults_before k ds + length (defaults_of k ds)) ds ≡ those (λ (d : Default). lt_bytes k d.key) ds
  defaults-past = past-key (λ (d : Default). d.key) row_before row_before-not-above k ds o

  -- the defaults are those before the key, its own, and those after it
  pub defaults-split : ds ≡ take (defaults_before k ds) ds ++ (defaults_of k ds ++ drop (defaults_before k ds + length (defaults_of k ds)) ds)
  defaults-split = key_split (λ (d : Default). d.key) row_before row_before-not-above k ds o

  pub default_below : (i : ℕ) (d : Default) → i < length ds → lt_bytes (get_or ds i d).key k ≡ ltb i (defaults_before k ds)
  default_below i d h = at_place row_before (λ (d : Default). lt_bytes d.key k) (below-down (λ (d : Default). d.key) row_before row_before-not-above k) ds i d o h

module _ (k : Key) (s : ℕ) where
  pair-down : (x y : Default) → row_before x y ≡ true → row_before y (pair_of k s) ≡ true → row_before x (pair_of k s) ≡ true
  pair-down x y = row_before-trans x y (pair_of k s)

  -- the test of a search
  pub pair-below : (ds : List Default) (i : ℕ) (d : Default) → ordered row_before ds ≡ true → i < length ds → row_before (get_or ds i d) (pair_of k s) ≡ ltb i (pairs_before k s ds)
  pair-below ds i d o h = at_place row_before (λ (d : Default). row_before d (pair_of k s)) pair-down ds i d o h

  -- the defaults before the place say nothing of the pair
  pub skip-defaults : (ds : List Default) (i : ℕ) → ordered row_before ds ≡ true → i ≤ pairs_before k s ds → row_of k s (drop i ds) ≡ row_of k s ds
  unfolding how_many row_of add_row
  skip-defaults ds zero o h = refl
  skip-defaults [] (suc i) o h = refl
  skip-defaults (d ∷ ds) (suc i) o h = go (row_before d (pair_of k s)) refl h (λ g. skip-defaults ds i (ordered-rest row_before d ds o) g)
    where
      go : (t : Bool) → row_before d (pair_of k s) ≡ t → suc i ≤ one_more t (pairs_before k s ds) → (i ≤ pairs_before k s ds → row_of k s (drop i ds) ≡ row_of k s ds) → row_of k s (drop i ds) ≡ add_row (at_pair k s d) d.row (row_of k s ds)
      go true p g ih = rw (row_before-apart' d (pair_of k s) p) (ih (omega arith))
      go false p g ih =
          let z : pairs_before k s ds ≡ 0 = none_after row_before (λ (d : Default). row_before d (pair_of k s)) pair-down d ds p (ordered-first row_before d ds o) in
          absurd (omega arith)

  -- what stands past the place of a pair is not the pair's
  past-pair : (d : Default) (ds : List Default) → row_before d (pair_of k s) ≡ false → at_pair k s d ≡ false → all_after row_before d ds ≡ true → row_of k s ds ≡ none
  past-pair d ds p n a = row-after (pair_of k s) ds (after-down row_before row_before-trans (pair_of k s) d ds (row_before-else' (row_before (pair_of k s) d) refl) a)
    where
      row_before-else' : (t : Bool) → row_before (pair_of k s) d ≡ t → t ≡ true
      row_before-else' true e = refl
      row_before-else' false e = sym p ∙ row_before-else (pair_of k s) d n e

  -- the default at the place tells the row
  pub row_is : (ds : List Default) → ordered row_before ds ≡ true → row_of k s ds ≡ row_first k s (drop (pairs_before k s ds) ds)
  unfolding how_many row_of add_row row_first
  row_is [] o = refl
  row_is (d ∷ ds) o = go (row_before d (pair_of k s)) refl (row_is ds (ordered-rest row_before d ds o))
    where
      here : (t : Bool) → at_pair k s d ≡ t → row_before d (pair_of k s) ≡ false → add_row t d.row (row_of k s ds) ≡ add_row t d.row none
      here true e p = refl
      here false e p = past-pair d ds p e (ordered-first row_before d ds o)

      go : (t : Bool) → row_before d (pair_of k s) ≡ t → row_of k s ds ≡ row_first k s (drop (pairs_before k s ds) ds) → add_row (at_pair k s d) d.row (row_of k s ds) ≡ row_first k s (drop (one_more t (pairs_before k s ds)) (d ∷ ds))
      go true p ih = rw (row_before-apart' d (pair_of k s) p) ih
      go false p ih =
          let z : pairs_before k s ds ≡ 0 = none_after row_before (λ (d : Default). row_before d (pair_of k s)) pair-down d ds p (ordered-first row_before d ds o) in
          here (at_pair k s d) refl p ∙ sym (ap (λ (n : ℕ). row_first k s (drop n (d ∷ ds))) z)

  -- a row goes from its place
  pub drop_row-place : (r : Row) (ds : List Default) → ordered row_before ds ≡ true → row_of k s ds ≡ some r → drop_row k s ds ≡ take (pairs_before k s ds) ds ++ drop (suc (pairs_before k s ds)) ds
  unfolding how_many row_of add_row drop_row unless_row
  drop_row-place r [] o h = cc
  drop_row-place r (d ∷ ds) o h = go (row_before d (pair_of k s)) refl (drop_row-place r ds (ordered-rest row_before d ds o))
    where
      here : (t : Bool) → at_pair k s d ≡ t → row_before d (pair_of k s) ≡ false → add_row t d.row (row_of k s ds) ≡ some r → unless_row t d (drop_row k s ds) ≡ ds
      here true e p q = drop_row-none k s ds (pair-after k s d ds e (ordered-first row_before d ds o))
      here false e p q = let n : row_of k s ds ≡ none = past-pair d ds p e (ordered-first row_before d ds o) in cc

      go : (t : Bool) → row_before d (pair_of k s) ≡ t → (row_of k s ds ≡ some r → drop_row k s ds ≡ take (pairs_before k s ds) ds ++ drop (suc (pairs_before k s ds)) ds)
          → unless_row (at_pair k s d) d (drop_row k s ds) ≡ take (one_more t (pairs_before k s ds)) (d ∷ ds) ++ drop (suc (one_more t (pairs_before k s ds))) (d ∷ ds)
      go true p ih =
          let n : at_pair k s d ≡ false = row_before-apart' d (pair_of k s) p in
          let q : row_of k s ds ≡ some r = rw n at h in
          rw n (ap (λ (x : List Default). d ∷ x) (ih q))
      go false p ih =
          let z : pairs_before k s ds ≡ 0 = none_after row_before (λ (d : Default). row_before d (pair_of k s)) pair-down d ds p (ordered-first row_before d ds o) in
          here (at_pair k s d) refl p h ∙ sym (ap (λ (n : ℕ). take n (d ∷ ds) ++ drop (suc n) (d ∷ ds)) z)

-- a default comes at the place of its pair
pub default-comes : (d : Default) (ds : List Default) → ordered row_before ds ≡ true → row_of d.key d.start ds ≡ none
    → insert_default d ds ≡ take (pairs_before d.key d.start ds) ds ++ d ∷ drop (pairs_before d.key d.start ds) ds
unfolding row_before
default-comes d ds o n = insert-place row_before row_before-trans row_before-irrefl d ds (clear-default d ds n) o
