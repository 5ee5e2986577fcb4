-- `driving::changing::run_step` meets its contract: the answer is told with its count (`step-ran`).
-- Assumes nothing.
use Rattle.driving.proofs.RunCallLaws.{step-ran}
use Rattle.driving.proofs.changing.run_step.Goals as goal

pub returns : goal.returns
returns c = step-ran c.args.args.now c.commit_batch-done.ensures c.written.ensures c.requires.length_is c.tell.ensures
