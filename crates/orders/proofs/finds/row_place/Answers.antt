use Rattle.orders.proofs.FindLaws.{search-start, search-up, search-down}
use Rattle.orders.proofs.finds.row_place.Goals as goal

pub loop-low-init : goal.loop-low-init
loop-low-init c = search-start c.requires

pub loop-low-preserved-then-mark_before : goal.loop-low-preserved-then-mark_before
loop-low-preserved-then-mark_before c = search-up c.requires c.loop-low.invariant c.probe-middle.ensures.1 c.stood_at-found.ensures c.mark_before.ensures c.if-mark_before.true

pub loop-low-preserved : goal.loop-low-preserved
loop-low-preserved c = search-down c.requires c.loop-low.invariant c.probe-middle.ensures.1 c.stood_at-found.ensures c.mark_before.ensures c.if-mark_before.false
