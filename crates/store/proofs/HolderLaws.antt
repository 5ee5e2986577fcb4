-- Whether a lock is the call's own: both its transaction and its start are the call's.
-- Assumes nothing.
use Prim.Native.Nat.{ℕ}
use mathlib.Core.Path.{◌≡◌, sym, ap}
use mathlib.Core.Bool.{Bool, false, ◌&&◌}
use lib.Dec.{eqb}
use borrow.Author.Tests.{eq-eqb, ne_eqb}
use Rattle.forms.specs.Bytes.{Bytes}
use Rattle.rules.specs.Calls.{owns}
use Rattle.store.specs.declared.views.LockView.{LockView}
use Rattle.store.specs.Views.{lock_in}

module _ (area : Bytes) (l : LockView) (txn start : ℕ) where
  pub owns-other : (l.txn ≡ txn → ⊥) → false ≡ owns txn start (lock_in area l)
  owns-other n = sym (ap (λ (b : Bool). b && eqb l.start start) (ne_eqb _ _ n))

  pub owns-txn : l.txn ≡ txn → eqb l.start start ≡ owns txn start (lock_in area l)
  owns-txn e = sym (ap (λ (b : Bool). b && eqb l.start start) (eq-eqb _ _ e))
