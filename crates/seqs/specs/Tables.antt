-- Tables: a list of a fixed length of which the first n elements count, and are shown through a function; and the places at which an
-- element comes in, goes out or is another.
-- Assumes nothing.
use Rattle.std.specs.Prelude.{ℕ, suc, ◌-◌, ◌≤◌, ◌≡◌, Bool, true, false, List, [], ◌∷◌, ◌++◌, map, length, take, drop, replicate}
use Rattle.std.proofs.Math.Seq.{slice}

-- one more, where the test holds
abbrev pub more_if : Bool → ℕ → ℕ
more_if true n = suc n
more_if false n = 0

module _ {A : Type 0} where
  -- P holds of each element
  unfoldable pub All : (A → Type 0) → List A → Type 0
  All P [] = Unit {0}
  All P (x ∷ xs) = P x × All P xs

  -- how many elements stand before the first at which the test fails
  unfoldable pub leading : (A → Bool) → List A → ℕ
  leading p [] = 0
  leading p (x ∷ xs) = more_if (p x) (leading p xs)

  -- x at i, and what stood from i on after it
  unfoldable pub insert_at : ℕ → A → List A → List A
  insert_at i x l = take i l ++ x ∷ drop i l

  -- without what stood at i
  unfoldable pub remove_at : ℕ → List A → List A
  remove_at i l = take i l ++ drop (suc i) l

  -- without what stood at i, and with x before what stood at j
  unfoldable pub move_to : ℕ → ℕ → A → List A → List A
  move_to i j x l = take i l ++ slice (suc i) j l ++ x ∷ drop j l

  -- x at i of a table of which n elements count: what stood at i .. n-1 is one place on
  unfoldable pub inserted : ℕ → ℕ → A → List A → List A
  inserted i n x l = take i l ++ x ∷ (slice i n l ++ drop (suc n) l)

  -- a table of `size` places: P holds of the first n, and the rest are the empty one
  pub record Table (P : A → Type 0) (empty : A) (size n : ℕ) (l : List A) : Type 0 where
    pub length_is : length l ≡ size
    pub count_fits : n ≤ size
    pub holds : All P (take n l)
    pub rest : drop n l ≡ replicate (size - n) empty

-- what the elements that count show
unfoldable pub shown : {A B : Type 0} → (A → B) → ℕ → List A → List B
shown f n l = map f (take n l)
