-- `onesteps::passes::check_all` meets its contract.
-- Assumes nothing.
use Rattle.store.specs.View.{box_of}
use Rattle.onesteps.specs.Checks.{met}
use Rattle.onesteps.proofs.StepPassLaws.{MeetingAll}
use Rattle.onesteps.proofs.passes.check_all.Given as goal

abbrev pub invariant-loop-e : goal.invariant-loop-e
invariant-loop-e l = MeetingAll l.terms (box_of l.store l.area) l.batch l.entries l.e-index (met l.all)
