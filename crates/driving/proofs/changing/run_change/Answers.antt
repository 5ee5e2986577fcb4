-- `driving::changing::run_change` meets its contract: the answer is told, as every changing call's is (`change-ran`).
-- Assumes nothing.
use Rattle.driving.proofs.RunCallLaws.{change-ran}
use Rattle.driving.proofs.changing.run_change.Goals as goal

pub returns : goal.returns
returns c = change-ran c.args.args.now _ c.args.op c.change-done.ensures c.requires.length_is c.put_answer.ensures
