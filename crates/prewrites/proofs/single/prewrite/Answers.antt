-- `prewrites::single::prewrite` meets its contract: what the batch of one promises. Assumes nothing.
use Rattle.forms.proofs.WriterLaws.{laid-front, laid-long}
use Rattle.rules.specs.Prewrite.{prewrite}
use Rattle.prewrites.proofs.single.prewrite.Goals as goal

pub slice_bounds-prewrite_batch-end : goal.slice_bounds-prewrite_batch-end
slice_bounds-prewrite_batch-end c = laid-long c.one_mutation-n.ensures

pub returns : goal.returns
unfolding prewrite
returns c = rw (laid-front c.one_mutation-n.ensures) at c.prewrite_batch.ensures
