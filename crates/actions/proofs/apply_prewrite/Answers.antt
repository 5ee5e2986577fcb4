-- `actions::apply_prewrite` meets its contract.
-- Assumes nothing.
use Rattle.actions.proofs.ApplyEntryLaws.{prewrite-asks, prewrite-done, prewrite-stays}
use Prim.Native.Nat.{◌-◌}
use Rattle.actions.proofs.apply_prewrite.Goals as goal

pub put_lock-requires : goal.put_lock-requires
put_lock-requires c = prewrite-asks c.requires.0 c.requires.1 c.in-None.is

pub returns-in-None : goal.returns-in-None
returns-in-None c = let q = c.put_lock.ensures in (q.0, prewrite-done c.requires.0 c.requires.1 c.in-None.is q.1)

pub returns-in-Some : goal.returns-in-Some
returns-in-Some c = (tt, prewrite-stays c.requires.0 c.requires.1 c.in-Some.is)
