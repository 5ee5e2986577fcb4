-- `driving::asks::tell_convert` meets its contract: the lent buffer is the front of a longer one (`convert-told`).
-- Assumes nothing.
use lib.Seq.{length-take-le}
use Rattle.showing.specs.Told.{lent}
use Rattle.showing.proofs.PagingLaws.{fits-long}
use Rattle.driving.proofs.AskLaws.{convert-told}
use mathlib.Core.Path.{refl, sym}
use Rattle.driving.proofs.asks.tell_convert.Goals as goal

pub slice_bounds-converted-end : goal.slice_bounds-converted-end
slice_bounds-converted-end c = sym (length-take-le _ (lent 262144) (fits-long _ c.requires))

pub returns : goal.returns
returns c = convert-told c.args.image.now c.args.len {buffer = lent 262144} refl c.requires c.convert_image-done.ensures.wrote c.written.ensures c.tell.ensures
