-- `picks::sizes::with_row` meets its contract: the pieces of a default, added up.
-- Assumes nothing.
use Rattle.picks.proofs.SizeLaws.{put-added}
use Rattle.picks.proofs.sizes.with_row.Goals as goal

pub returns-in-Put : goal.returns-in-Put
returns-in-Put c = λ area q. put-added q c.args.z (c.kind_of.ensures area) c.in-Put.is c.row_len.ensures
