-- `demands::ties::prewrite` meets its contract: a single form is its batch of one. Assumes nothing.
use Rattle.rules.specs.Prewrite.{prewrite}
use Rattle.demands.proofs.ties.prewrite.Goals as goal

pub returns : goal.returns
unfolding prewrite
returns c buffer = c.prewrite.ensures
