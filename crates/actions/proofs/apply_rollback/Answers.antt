-- `actions::apply_rollback` meets its contract.
-- Assumes nothing.
use mathlib.Core.List.{[]}
use Rattle.actions.proofs.ApplyEntryLaws.{rollback-asks, rollback-done, rollback-stays}
use Prim.Native.Nat.{◌-◌}
use mathlib.Core.Path.{refl}
use Rattle.actions.proofs.apply_rollback.Goals as goal

pub put_record-requires : goal.put_record-requires
put_record-requires c = rollback-asks c.requires.0 c.requires.1 c.in-None.is _ refl

pub returns-in-None : goal.returns-in-None
returns-in-None c = let q = c.put_record.ensures in (q.0, rollback-done c.requires.0 c.requires.1 c.in-None.is [] refl q.1)

pub returns-in-Some : goal.returns-in-Some
returns-in-Some c = (tt, rollback-stays c.requires.0 c.requires.1 c.in-Some.is)
