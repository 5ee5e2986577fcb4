-- `demands::ties::fresh` meets its contract: by the promise of `fresh`, at the area. Assumes nothing.
use Rattle.demands.proofs.ties.fresh.Goals as goal

pub returns : goal.returns
returns c w length_is = c.fresh.ensures w.area length_is
