-- `calls::checking::check_each` meets its contract.
-- Assumes nothing.
use Rattle.calls.proofs.CheckEachLaws.{EachSeen}
use Rattle.calls.proofs.checking.check_each.Given as goal

abbrev pub invariant-loop-e : goal.invariant-loop-e
invariant-loop-e g l = EachSeen l.store.load l.entries (goal.F-post g l.check) l.e-index l.sum
