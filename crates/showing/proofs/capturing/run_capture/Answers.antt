-- `showing::capturing::run_capture` meets its contract: the lent buffer is the front of a longer one (`capture-shown`), and it is told (`showed`).
-- Assumes nothing.
use lib.Seq.{length-take-le}
use Rattle.showing.specs.Told.{lent}
use Rattle.showing.proofs.PagingLaws.{fits-long, capture-shown, capture-short}
use Rattle.showing.proofs.ShowLaws.{showed}
use mathlib.Core.Path.{refl, sym}
use Rattle.showing.proofs.capturing.run_capture.Goals as goal

pub slice_bounds-image-end : goal.slice_bounds-image-end
slice_bounds-image-end c = sym (length-take-le _ (lent 262144) (fits-long _ c.requires.small))

pub returns : goal.returns
returns c = showed _ c.requires.made (capture-shown _ c.args.table c.args.len _ c.requires.small {buffer = lent 262144} refl c.capture_snapshot_table-done.ensures.captured c.written.ensures) (capture-short _ c.args.table c.args.len _ c.requires.small) c.requires.length_is c.tell.ensures
