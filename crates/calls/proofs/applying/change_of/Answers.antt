-- `calls::applying::change_of` meets its contract.
-- Assumes nothing.
use Rattle.calls.proofs.applying.change_of.Goals as goal
use Rattle.actions.specs.declared.action.Point.{Point}
use Rattle.lookups.specs.KeyStates.{KeyStateAt}
use mathlib.Core.Path.{subst}

pub apply_entry-requires : goal.apply_entry-requires
apply_entry-requires c = (rw (c.of-key.ensures, c.row_of-row.ensures) c.requires.asks, subst (λ (p : Point). KeyStateAt c.args.store.now c.args.area.now c.of-key.result.now p.start p.stamp c.look_up-seen.result) c.point_of-point.ensures c.look_up-seen.ensures)

pub returns : goal.returns
returns c = (c.apply_entry.ensures.0, rw (c.of-key.ensures, c.row_of-row.ensures) at c.apply_entry.ensures.1)
