-- An image that was written lies in the buffer.
use Rattle.std.proofs.Common.{sym, length-take-le}
use Rattle.visits.proofs.WrittenPageLaws.{image-fits}
use Rattle.session.proofs.copying.copies_hall.Goals as goal

pub slice_bounds-out-end : goal.slice_bounds-out-end
slice_bounds-out-end g c = image-fits _ _ _ _ _ c.capture_snapshot_table.ensures.captured c.unwrap_or-n.ensures c.capture_snapshot_table.auto.out

pub slice_bounds-second_box-end : goal.slice_bounds-second_box-end
slice_bounds-second_box-end g c = sym (length-take-le _ _ (image-fits _ _ _ _ _ c.capture_snapshot_table.ensures.captured c.unwrap_or-n.ensures c.capture_snapshot_table.auto.out))
