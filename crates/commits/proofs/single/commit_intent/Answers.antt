-- `commits::single::commit_intent` meets its contract: what the batch of one promises.
-- Assumes nothing.
use Rattle.forms.proofs.WriterLaws.{laid-front, laid-long}
use Rattle.rules.specs.Commit.{commit}
use Rattle.commits.proofs.single.commit_intent.Goals as goal

pub slice_bounds-commit_intents_batch-end : goal.slice_bounds-commit_intents_batch-end
slice_bounds-commit_intents_batch-end c = laid-long c.one_key-n.ensures

pub returns : goal.returns
unfolding commit
returns c = rw (laid-front c.one_key-n.ensures) at c.commit_intents_batch.ensures
