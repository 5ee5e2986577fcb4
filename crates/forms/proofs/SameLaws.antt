-- What lengths and last bytes tell `same`: where they differ, so do the bytes.
-- Assumes nothing.
use Prim.Native.Nat.{ℕ, ◌-◌}
use mathlib.Core.Path.{◌≡◌, refl, sym, ◌∙◌, ap}
use mathlib.Core.Bool.{Bool, true, false, not}
use lib.ListN.{length}
use lib.Dec.{eqb}
use borrow.Author.Tests.{eq-eqb}
use Rattle.std.specs.Prelude.{Option, Some, None}
use Rattle.std.specs.Option.{option_eq}
use Rattle.std.specs.Prelude.{slice_get}
use Rattle.forms.specs.Bytes.{Bytes, eq_bytes}
use Rattle.forms.proofs.Orders.{eq_bytes-true}

option-same : (x : Option ℕ) → option_eq eqb x x ≡ true
option-same None = refl
option-same (Some n) = eq-eqb n n refl

abbrev last : Bytes → Option ℕ
last s = slice_get s (length s - 1)

pub long_unlike : (a b : Bytes) → (length a ≡ length b → ⊥) → false ≡ eq_bytes a b
long_unlike a b n = go (eq_bytes a b) refl
  where
    go : (t : Bool) → eq_bytes a b ≡ t → false ≡ t
    go true h = absurd (n (ap length (eq_bytes-true a b h)))
    go false h = refl

pub ends-unlike : (a b : Bytes) {x y : Option ℕ} → x ≡ last a → y ≡ last b → not (option_eq eqb x y) ≡ true → false ≡ eq_bytes a b
ends-unlike a b e f n = go (eq_bytes a b) refl
  where
    go : (t : Bool) → eq_bytes a b ≡ t → false ≡ t
    go true h = sym (ap not (option-same (last b))) ∙ sym (ap (λ (l : Bytes). not (option_eq eqb (last l) (last b))) (eq_bytes-true a b h)) ∙ sym (rw (e, f)) ∙ n
    go false h = refl
