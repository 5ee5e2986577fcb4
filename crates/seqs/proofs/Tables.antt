-- A table after an element came in, went out, moved or was replaced: what it shows, and that it is a table still.
-- Assumes nothing.
use Prim.Native.Nat.{ℕ, zero, suc, ◌+◌, ◌-◌, ◌≤◌, ◌<◌}
use native.Mathlib.Omega.{arith}
use native.Mathlib.Numerals.{add-one}
use native.Mathlib.Nat.{zero-add, suc-add, le_of_lt}
use mathlib.Core.Path.{◌≡◌, refl, sym, ap, ap₂, ◌∙◌}
use mathlib.Core.List.{List, [], ◌∷◌, ◌++◌, map, map-append, append_assoc}
use lib.ListN.{length, get_or, take, drop, set, replicate, length-map, get_or-map, length-append, length-drop, length-set, length-replicate, drop_of_length-le}
use lib.Seq.{length-take-le, get_or-take, take-nil, drop-cons, drop_at, drop-drop, slice, take_at, take-take, length-slice, take-append-add, drop-append-add, take-set-lt, drop-set-lt, take-suc-set}
use Rattle.seqs.specs.Tables.{All, Table, shown, insert_at, remove_at, move_to, inserted}
use Rattle.seqs.proofs.Alls.{all-at, all_none, all_append, all_cons, all_take, all_drop, all_insert, all_remove, all-weaken, map_same}

module _ {A : Type 0} where
  drop-take-add : (i m : ℕ) (l : List A) → drop i (take (i + m) l) ≡ take m (drop i l)
  drop-take-add zero m l = rw zero-add
  drop-take-add (suc i) m [] = rw suc-add (sym (take-nil m))
  drop-take-add (suc i) m (x ∷ xs) = rw suc-add (drop-take-add i m xs)

  pub drop-take : (i n : ℕ) (l : List A) → i ≤ n → drop i (take n l) ≡ take (n - i) (drop i l)
  drop-take i n l h =
      let e : n ≡ i + (n - i) = omega arith in
      ap (λ (m : ℕ). drop i (take m l)) e ∙ drop-take-add i (n - i) l

  -- a part that lies in a front
  pub part_in : (l : List A) (i k n : ℕ) → i + k ≤ n → take k (drop i (take n l)) ≡ take k (drop i l)
  part_in l i k n h = let g : i ≤ n = omega arith in ap (take k) (drop-take i n l g) ∙ take-take k (n - i) (drop i l) (omega arith)

-- ---- through a function

module _ {A B : Type 0} (f : A → B) where
  pub take-map : (i : ℕ) (l : List A) → take i (map f l) ≡ map f (take i l)
  take-map zero l = refl
  take-map (suc i) [] = refl
  take-map (suc i) (x ∷ xs) = ap (λ (r : List B). f x ∷ r) (take-map i xs)

  pub drop-map : (i : ℕ) (l : List A) → drop i (map f l) ≡ map f (drop i l)
  drop-map zero l = refl
  drop-map (suc i) [] = refl
  drop-map (suc i) (x ∷ xs) = drop-map i xs

  pub map-insert : (i : ℕ) (x : A) (l : List A) → map f (insert_at i x l) ≡ insert_at i (f x) (map f l)
  unfolding insert_at
  map-insert i x l =
      map-append f (take i l) (x ∷ drop i l) ∙ ap₂ (λ (a b : List B). a ++ f x ∷ b) (sym (take-map i l)) (sym (drop-map i l))

  pub map-remove : (i : ℕ) (l : List A) → map f (remove_at i l) ≡ remove_at i (map f l)
  unfolding remove_at
  map-remove i l = map-append f (take i l) (drop (suc i) l) ∙ ap₂ (λ (a b : List B). a ++ b) (sym (take-map i l)) (sym (drop-map (suc i) l))

  pub map-move : (i j : ℕ) (x : A) (l : List A) → map f (move_to i j x l) ≡ move_to i j (f x) (map f l)
  unfolding move_to
  map-move i j x l =
      map-append f (take i l ++ slice (suc i) j l) (x ∷ drop j l)
      ∙ ap₂ (λ (a b : List B). a ++ f x ∷ b) (map-append f (take i l) (slice (suc i) j l) ∙ ap₂ (λ (a b : List B). a ++ b) (sym (take-map i l)) middle) (sym (drop-map j l))
    where
      middle : map f (slice (suc i) j l) ≡ slice (suc i) j (map f l)
      middle = sym (ap (drop (suc i)) (take-map j l) ∙ drop-map (suc i) (take j l))

  pub map-set : (i : ℕ) (x : A) (l : List A) → map f (set l i x) ≡ set (map f l) i (f x)
  map-set i x [] = refl
  map-set zero x (y ∷ ys) = refl
  map-set (suc i) x (y ∷ ys) = ap (λ (r : List B). f y ∷ r) (map-set i x ys)

-- ---- the elements that count, and those past them

module _ {A : Type 0} (l : List A) (i n : ℕ) (x : A) (h : i ≤ n) (room : n < length l) where
  front-in : length (take i l ++ x ∷ slice i n l) ≡ n + 1
  front-in =
      let hi : i ≤ length l = omega arith in
      omega (arith, length-append (take i l) (x ∷ slice i n l), length-take-le i l hi, length-slice i n l (le_of_lt room))

  apart_in : inserted i n x l ≡ (take i l ++ x ∷ slice i n l) ++ drop (suc n) l
  unfolding inserted
  apart_in = sym (append_assoc (take i l) (x ∷ slice i n l) (drop (suc n) l))

  pub take_inserted : take (n + 1) (inserted i n x l) ≡ insert_at i x (take n l)
  unfolding insert_at
  take_inserted =
      ap (take (n + 1)) apart_in ∙ take_at (take i l ++ x ∷ slice i n l) (drop (suc n) l) (n + 1) front-in
      ∙ ap (λ (a : List A). a ++ x ∷ slice i n l) (sym (take-take i n l h))

  pub drop-inserted : drop (n + 1) (inserted i n x l) ≡ drop (suc n) l
  drop-inserted = ap (drop (n + 1)) apart_in ∙ drop_at (take i l ++ x ∷ slice i n l) (drop (suc n) l) (n + 1) front-in

  pub length_inserted : length (inserted i n x l) ≡ length l
  length_inserted = ap length apart_in ∙ omega (arith, length-append (take i l ++ x ∷ slice i n l) (drop (suc n) l), front-in, length-drop (suc n) l)

module _ {A : Type 0} (l : List A) (i j : ℕ) (x : A) (h : i < j) (length_is : j ≤ length l) where
  front_out : length (take i l ++ slice (suc i) j l) ≡ j - 1
  front_out =
      let hi : i ≤ length l = omega arith in
      omega (arith, length-append (take i l) (slice (suc i) j l), length-take-le i l hi, length-slice (suc i) j l length_is)

  pub length_moved : length (move_to i j x l) ≡ length l
  unfolding move_to
  length_moved = omega (arith, length-append (take i l ++ slice (suc i) j l) (x ∷ drop j l), front_out, length-drop j l)

  pub drop-out : drop (j - 1) (move_to i j x l) ≡ x ∷ drop j l
  unfolding move_to
  drop-out = drop_at (take i l ++ slice (suc i) j l) (x ∷ drop j l) (j - 1) front_out

  pub take_out : take (j - 1) (move_to i j x l) ≡ remove_at i (take j l)
  unfolding move_to remove_at
  take_out =
      let g : i ≤ j = omega arith in
      take_at (take i l ++ slice (suc i) j l) (x ∷ drop j l) (j - 1) front_out ∙ ap (λ (a : List A). a ++ slice (suc i) j l) (sym (take-take i j l g))

  module _ (n : ℕ) (k : j ≤ n) where
    at_n : (length (take i l ++ slice (suc i) j l)) + suc (n - j) ≡ n
    at_n = omega (arith, front_out)

    pub drop-moved : drop n (move_to i j x l) ≡ drop n l
    unfolding move_to
    drop-moved =
        let e : j + (n - j) ≡ n = omega arith in
        ap (λ (m : ℕ). drop m (take i l ++ slice (suc i) j l ++ x ∷ drop j l)) (sym at_n)
        ∙ drop-append-add (take i l ++ slice (suc i) j l) (x ∷ drop j l) (suc (n - j))
        ∙ drop-drop (n - j) j l
        ∙ ap (λ (m : ℕ). drop m l) e

    pub take-moved : take n (move_to i j x l) ≡ move_to i j x (take n l)
    unfolding move_to
    take-moved =
        let g : i ≤ n = omega arith in
        ap (λ (m : ℕ). take m (take i l ++ slice (suc i) j l ++ x ∷ drop j l)) (sym at_n)
        ∙ take-append-add (take i l ++ slice (suc i) j l) (x ∷ drop j l) (suc (n - j))
        ∙ ap₂ (λ (a b : List A). a ++ slice (suc i) j l ++ x ∷ b) (sym (take-take i n l g)) (sym (drop-take j n l k))
        ∙ ap (λ (m : List A). take i (take n l) ++ drop (suc i) m ++ x ∷ drop j (take n l)) (sym (take-take j n l k))

pub all-move : {A : Type 0} (P : A → Type 0) (i j : ℕ) (x : A) (l : List A) → P x → All P l → All P (move_to i j x l)
unfolding move_to
all-move P i j x l p a =
    all_append P (take i l ++ slice (suc i) j l) (x ∷ drop j l)
    (all_append P (take i l) (slice (suc i) j l) (all_take P i l a) (all_drop P (suc i) (take j l) (all_take P j l a)))
    (all_cons P x (drop j l) p (all_drop P j l a))

pub all_set : {A : Type 0} (P : A → Type 0) (i : ℕ) (x : A) (l : List A) → P x → All P l → All P (set l i x)
unfolding All
all_set P i x [] p a = a
all_set P zero x (y ∷ ys) p a = (p, a.1)
all_set P (suc i) x (y ∷ ys) p a = (a.0, all_set P i x ys p a.1)

-- ---- what a table shows

module _ {A B : Type 0} (f : A → B) (l : List A) where
  pub shown-inserted : (i n : ℕ) (x : A) → i ≤ n → n < length l → shown f (n + 1) (inserted i n x l) ≡ insert_at i (f x) (shown f n l)
  unfolding shown
  shown-inserted i n x h room = ap (map f) (take_inserted l i n x h room) ∙ map-insert f i x (take n l)

  pub shown-removed : (i n : ℕ) (x : A) → i < n → n ≤ length l → shown f (n - 1) (move_to i n x l) ≡ remove_at i (shown f n l)
  unfolding shown
  shown-removed i n x h length_is = ap (map f) (take_out l i n x h length_is) ∙ map-remove f i (take n l)

  pub shown-moved : (i j n : ℕ) (x : A) → i < j → j ≤ n → n ≤ length l → shown f n (move_to i j x l) ≡ move_to i j (f x) (shown f n l)
  unfolding shown
  shown-moved i j n x h k length_is = ap (map f) (take-moved l i j x h (omega arith) n k) ∙ map-move f i j x (take n l)

  pub shown-set : (i n : ℕ) (x : A) → i < n → shown f n (set l i x) ≡ set (shown f n l) i (f x)
  unfolding shown
  shown-set i n x h = ap (map f) (take-set-lt n l i x h) ∙ map-set f i x (take n l)

  pub shown-added : (n : ℕ) (x : A) → n < length l → shown f (n + 1) (set l n x) ≡ shown f n l ++ (f x ∷ [])
  unfolding shown
  shown-added n x h = rw (add-one, take-suc-set l n x h) (map-append f (take n l) (x ∷ []))

-- two ways of showing that agree where P holds
pub shown-same : {A B : Type 0} (f g : A → B) (P : A → Type 0) → ((x : A) → P x → f x ≡ g x) → (n : ℕ) (l : List A) → All P (take n l) → shown f n l ≡ shown g n l
unfolding shown
shown-same f g P same n l a = map_same f g P same (take n l) a

-- ---- a table

module _ {A : Type 0} {P : A → Type 0} {empty : A} {size n : ℕ} {l : List A} (t : Table P empty size n l) where
  pub table-long : n ≤ length l
  table-long = omega (arith, t.length_is, t.count_fits)

  pub table_at : (i : ℕ) → i < n → P (get_or l i empty)
  table_at i h =
      let e : length (take n l) ≡ n = length-take-le n l table-long in
      rw get_or-take at (all-at P empty (take n l) i t.holds (omega arith))

  module _ {B : Type 0} (f : A → B) where
    pub shown-length : length (shown f n l) ≡ n
    unfolding shown
    shown-length = length-map (take n l) f ∙ length-take-le n l table-long

    pub shown-at : (i : ℕ) → i < n → get_or (shown f n l) i (f empty) ≡ f (get_or l i empty)
    unfolding shown
    shown-at i h = get_or-map f (take n l) i empty ∙ ap f (get_or-take n l i empty h)

    pub shown-drop : (i : ℕ) → i < n → drop i (shown f n l) ≡ f (get_or l i empty) ∷ drop (suc i) (shown f n l)
    shown-drop i h =
        let g : i < length (shown f n l) = omega (arith, shown-length) in
        drop-cons (shown f n l) i (f empty) g ∙ ap (λ (e : B). e ∷ drop (suc i) (shown f n l)) (shown-at i h)

    -- what is left from i on: an element and what is left after it
    pub shown-next : (i : ℕ) → i < n → drop i (shown f n l) ≡ f (get_or l i empty) ∷ drop (i + 1) (shown f n l)
    shown-next i h = shown-drop i h ∙ ap (λ (j : ℕ). f (get_or l i empty) ∷ drop j (shown f n l)) (sym (add-one i))

    pub shown-past : (i : ℕ) → n ≤ i → drop i (shown f n l) ≡ []
    shown-past i h = let g : length (shown f n l) ≤ i = omega (arith, shown-length) in drop_of_length-le (shown f n l) g

  pub table-wider : (Q : A → Type 0) → ((x : A) → P x → Q x) → Table Q empty size n l
  table-wider Q w = record { length_is = t.length_is; count_fits = t.count_fits; holds = all-weaken P Q (take n l) w t.holds; rest = t.rest }

  module _ (i : ℕ) (x : A) (p : P x) where
    pub table-inserted : i ≤ n → n < size → Table P empty size (n + 1) (inserted i n x l)
    table-inserted h room =
        let g : n < length l = omega (arith, t.length_is) in
        let k : size - n ≡ suc (size - (n + 1)) = omega arith in
        record {
          length_is = length_inserted l i n x h g ∙ t.length_is;
          count_fits = omega arith;
          holds = rw (take_inserted l i n x h g) (all_insert P i x (take n l) p t.holds);
          rest =
              drop-inserted l i n x h g ∙ ap (λ (m : ℕ). drop m l) (sym (add-one n)) ∙ sym (drop-drop 1 n l) ∙ ap (drop 1) (t.rest ∙ ap (λ (m : ℕ). replicate m empty) k);
        }

    pub table-moved : (j : ℕ) → i < j → j ≤ n → Table P empty size n (move_to i j x l)
    table-moved j h k =
        let g : j ≤ length l = omega (arith, table-long) in
        record {
          length_is = length_moved l i j x h g ∙ t.length_is;
          count_fits = t.count_fits;
          holds = rw (take-moved l i j x h g n k) (all-move P i j x (take n l) p t.holds);
          rest = drop-moved l i j x h g n k ∙ t.rest;
        }

    pub table-set : i < n → Table P empty size n (set l i x)
    table-set h = record {
      length_is = length-set l i x ∙ t.length_is;
      count_fits = t.count_fits;
      holds = rw (take-set-lt n l i x h) (all_set P i x (take n l) p t.holds);
      rest = drop-set-lt n l i x h ∙ t.rest;
    }

  -- one more comes past those that count
  pub table-added : (x : A) → P x → n < size → Table P empty size (n + 1) (set l n x)
  table-added x p room =
      let g : n < length l = omega (arith, t.length_is) in
      let k : size - n ≡ suc (size - (n + 1)) = omega arith in
      record {
        length_is = length-set l n x ∙ t.length_is;
        count_fits = omega arith;
        holds = rw (add-one, take-suc-set l n x g) (all_append P (take n l) (x ∷ []) t.holds (all_cons P x [] p (all_none P)));
        rest = drop-set-lt (n + 1) l n x (omega arith) ∙ sym (drop-drop 1 n l) ∙ ap (drop 1) (t.rest ∙ ap (λ (m : ℕ). replicate m empty) k);
      }

  pub table-removed : (i : ℕ) → i < n → Table P empty size (n - 1) (move_to i n empty l)
  table-removed i h =
      let k : size - (n - 1) ≡ suc (size - n) = omega (arith, t.count_fits) in
      record {
        length_is = length_moved l i n empty h table-long ∙ t.length_is;
        count_fits = omega (arith, t.count_fits);
        holds = rw (take_out l i n empty h table-long) (all_remove P i (take n l) t.holds);
        rest = drop-out l i n empty h table-long ∙ ap (λ (m : List A). empty ∷ m) t.rest ∙ ap (λ (m : ℕ). replicate m empty) (sym k);
      }

-- nothing counts yet
pub table_empty : {A : Type 0} (P : A → Type 0) (empty : A) (size : ℕ) → Table P empty size 0 (replicate size empty)
unfolding All
table_empty P empty size =
    let e : size ≡ size - 0 = omega arith in
    record { length_is = length-replicate size empty; count_fits = omega arith; holds = tt; rest = ap (λ (m : ℕ). replicate m empty) e }
