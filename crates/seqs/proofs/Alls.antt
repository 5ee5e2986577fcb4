-- What holds of each element of a list: at an index, in parts, of two lists together, and of what is shown.
-- Assumes nothing.
use Prim.Native.Nat.{ℕ, zero, suc, ◌<◌}
use native.Mathlib.Omega.{arith}
use mathlib.Core.Path.{◌≡◌, refl, sym, subst}
use mathlib.Core.List.{List, [], ◌∷◌, ◌++◌, map}
use lib.ListN.{length, get_or, take, drop, take-append-drop}
use Rattle.seqs.specs.Tables.{All, insert_at, remove_at}

module _ {A : Type 0} where
  pub all-at : (P : A → Type 0) (d : A) (l : List A) (i : ℕ) → All P l → i < length l → P (get_or l i d)
  unfolding All
  all-at P d [] i a h = absurd (omega arith)
  all-at P d (x ∷ xs) zero a h = a.0
  all-at P d (x ∷ xs) (suc i) a h = all-at P d xs i a.1 (omega arith)

  pub all_none : (P : A → Type 0) → All P []
  unfolding All
  all_none P = tt

  pub all_cons : (P : A → Type 0) (x : A) (xs : List A) → P x → All P xs → All P (x ∷ xs)
  unfolding All
  all_cons P x xs p a = (p, a)

  pub all_tail : (P : A → Type 0) (x : A) (xs : List A) → All P (x ∷ xs) → All P xs
  unfolding All
  all_tail P x xs a = a.1

  pub all_append : (P : A → Type 0) (l m : List A) → All P l → All P m → All P (l ++ m)
  unfolding All
  all_append P [] m a b = b
  all_append P (x ∷ xs) m a b = (a.0, all_append P xs m a.1 b)

  pub all_left : (P : A → Type 0) (l m : List A) → All P (l ++ m) → All P l
  unfolding All
  all_left P [] m a = tt
  all_left P (x ∷ xs) m a = (a.0, all_left P xs m a.1)

  pub all_right : (P : A → Type 0) (l m : List A) → All P (l ++ m) → All P m
  unfolding All
  all_right P [] m a = a
  all_right P (x ∷ xs) m a = all_right P xs m a.1

  pub all-weaken : (P Q : A → Type 0) (l : List A) → ((x : A) → P x → Q x) → All P l → All Q l
  unfolding All
  all-weaken P Q [] f a = tt
  all-weaken P Q (x ∷ xs) f a = (f x a.0, all-weaken P Q xs f a.1)

  -- of a part
  pub all_take : (P : A → Type 0) (i : ℕ) (l : List A) → All P l → All P (take i l)
  all_take P i l a = all_left P (take i l) (drop i l) (subst (All P) (sym (take-append-drop i l)) a)

  pub all_drop : (P : A → Type 0) (i : ℕ) (l : List A) → All P l → All P (drop i l)
  all_drop P i l a = all_right P (take i l) (drop i l) (subst (All P) (sym (take-append-drop i l)) a)

  -- of one more, and of one less
  pub all_insert : (P : A → Type 0) (i : ℕ) (x : A) (l : List A) → P x → All P l → All P (insert_at i x l)
  unfolding insert_at
  all_insert P i x l p a = all_append P (take i l) (x ∷ drop i l) (all_take P i l a) (all_cons P x (drop i l) p (all_drop P i l a))

  pub all_remove : (P : A → Type 0) (i : ℕ) (l : List A) → All P l → All P (remove_at i l)
  unfolding remove_at
  all_remove P i l a = all_append P (take i l) (drop (suc i) l) (all_take P i l a) (all_drop P (suc i) l a)

-- two ways of showing that agree where P holds
pub map_same : {A B : Type 0} (f g : A → B) (P : A → Type 0) → ((x : A) → P x → f x ≡ g x) → (l : List A) → All P l → map f l ≡ map g l
unfolding All
map_same f g P same [] a = refl
map_same f g P same (x ∷ xs) a = cc (same x a.0, map_same f g P same xs a.1)
