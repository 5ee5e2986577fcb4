-- `rollbacks::single::rollback_intent` meets its contract: what the batch of one promises. Assumes nothing.
use Rattle.forms.proofs.WriterLaws.{laid-front, laid-long}
use Rattle.rules.specs.Rollback.{rollback}
use Rattle.rollbacks.proofs.single.rollback_intent.Goals as goal

pub slice_bounds-rollback_intents_batch-end : goal.slice_bounds-rollback_intents_batch-end
slice_bounds-rollback_intents_batch-end c = laid-long c.one_key-n.ensures

pub returns : goal.returns
unfolding rollback
returns c = rw (laid-front c.one_key-n.ensures) at c.rollback_intents_batch.ensures
