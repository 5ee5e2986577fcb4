-- `calls::applying::apply_all` meets its contract.
-- Assumes nothing.
use Rattle.calls.proofs.ApplyAllLaws.{underway-at, underway-more, underway-end}
use Rattle.calls.proofs.applying.apply_all.Goals as goal

pub change_of-change-requires : goal.change_of-change-requires
change_of-change-requires c = underway-at c.requires c.loop-e.invariant _ c.loop-e-test.true

pub loop-e-preserved : goal.loop-e-preserved
loop-e-preserved c = underway-more c.requires c.loop-e.invariant _ c.loop-e-test.true c.change_of-change.result c.make_change.ensures c.change_of-change.ensures.1

pub returns : goal.returns
returns c = underway-end c.requires c.loop-e.invariant c.loop-e-test.false
