-- `demands::ties::rollback_intent` meets its contract: a single form is its batch of one. Assumes nothing.
use Rattle.rules.specs.Rollback.{rollback}
use Rattle.demands.proofs.ties.rollback_intent.Goals as goal

pub returns : goal.returns
unfolding rollback
returns c buffer = c.rollback_intent.ensures
