-- Parts of a list: the rest from a place on, one element more, and a front that is written over.
-- Assumes nothing.
use Prim.Native.Nat.{ℕ, suc, ◌-◌, ◌<◌}
use native.Mathlib.Omega.{arith}
use mathlib.Core.Path.{◌≡◌, ◌∙◌, ap}
use mathlib.Core.List.{List, ◌∷◌}
use lib.ListN.{length, set, take, drop, length-drop, length-set}
use lib.Seq.{take_all, drop-cons, get_or-set_same, drop-set-lt}

-- a part up to the end is the rest of the list
pub part_end {ℓ} : {A : Type ℓ} (a : ℕ) (s : List A) → take (length s - a) (drop a s) ≡ drop a s
part_end a s = take_all (length s - a) (drop a s) (omega (arith, length-drop a s))

-- a store, seen from its place on
pub drop-set {ℓ} : {A : Type ℓ} (s : List A) (i : ℕ) (x : A) → i < length s → drop i (set s i x) ≡ x ∷ drop (suc i) s
drop-set {A = A} s i x l =
    drop-cons (set s i x) i x (omega (arith, length-set s i x))
    ∙ ap (λ (y : A). y ∷ drop (suc i) (set s i x)) (get_or-set_same s i x x l)
    ∙ ap (λ (r : List A). x ∷ r) (drop-set-lt (suc i) s i x (omega arith))
