-- `demands::ties::commit_intent` meets its contract: a single form is its batch of one. Assumes nothing.
use Rattle.rules.specs.Commit.{commit}
use Rattle.demands.proofs.ties.commit_intent.Goals as goal

pub returns : goal.returns
unfolding commit
returns c buffer = c.commit_intent.ensures
