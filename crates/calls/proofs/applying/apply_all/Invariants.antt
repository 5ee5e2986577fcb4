-- `calls::applying::apply_all` meets its contract: the entries are applied in turn (`Underway` of ApplyAllLaws).
-- Assumes nothing.
use Rattle.calls.proofs.ApplyAllLaws.{Underway}
use Rattle.calls.proofs.applying.apply_all.Given as goal

abbrev pub invariant-loop-e : goal.invariant-loop-e
invariant-loop-e l = Underway l.action l.primary l.fn.store l.fn.area l.batch l.entries l.e-index l.area l.store
