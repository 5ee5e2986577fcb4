-- `actions::apply_commit` meets its contract.
-- Assumes nothing.
use Rattle.actions.proofs.ApplyEntryLaws.{commit-asks, commit-done, commit-stays}
use Prim.Native.Nat.{◌-◌}
use Rattle.actions.proofs.apply_commit.Goals as goal

pub end_lock-requires : goal.end_lock-requires
end_lock-requires c = commit-asks c.requires.0 c.requires.1 c.in-None.is

pub returns-in-None : goal.returns-in-None
returns-in-None c = let q = c.end_lock.ensures in (q.0, commit-done c.requires.0 c.requires.1 c.in-None.is q.1)

pub returns-in-Some : goal.returns-in-Some
returns-in-Some c = (tt, commit-stays c.requires.0 c.requires.1 c.in-Some.is)
