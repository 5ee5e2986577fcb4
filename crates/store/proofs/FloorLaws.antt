-- The floor beside a store: locks stay above it as long as it and the box are the same.
-- Assumes nothing.
use Prim.Native.Nat.{ℕ}
use mathlib.Core.Path.{◌≡◌, sym, subst}
use Rattle.forms.specs.Bytes.{Bytes}
use Rattle.rules.specs.Box.{Box}
use Rattle.ledger.specs.Tidy.{LocksAbove}

pub above_same : {f g : ℕ} {b c : Box} → g ≡ f → c ≡ b → LocksAbove f b → LocksAbove g c
above_same {f} {g} {b} {c} p q v = subst (λ (n : ℕ). LocksAbove n c) (sym p) (subst (LocksAbove f) (sym q) v)
