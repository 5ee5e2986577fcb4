-- `forms::row::spares_zero` meets its contract: the byte that the bones do not fill is what `BoneLaws` says of it.
-- Assumes nothing.
use Rattle.forms.proofs.BoneLaws.{spares-filled, spares-last, last-in}
use native.Mathlib.Omega.{arith}
use Prim.Native.Nat.{◌+◌, ◌/◌}
use Rattle.forms.proofs.row.spares_zero.Goals as goal

pub returns-then-filled-eq0 : goal.returns-then-filled-eq0
returns-then-filled-eq0 c = spares-filled _ _ _ c.requires c.if-filled-eq0.true

pub bounds-s-at : goal.bounds-s-at
bounds-s-at c = last-in _ _ _ c.requires c.if-filled-eq0.false

pub returns-else-filled-eq0 : goal.returns-else-filled-eq0
returns-else-filled-eq0 c = spares-last c.args.s.now _ _ c.requires c.if-filled-eq0.false (omega (arith, c.type_inv.s (c.args.at + c.args.n / 8)))
