-- `images::entries::tail_at` meets its contract: a default has no tail.
-- Assumes nothing.
use Rattle.images.proofs.ImageEntryLaws.{tail_none}
use Rattle.images.proofs.entries.tail_at.Goals as goal

pub returns-in-Default : goal.returns-in-Default
returns-in-Default c = rw c.in-Default.is (tail_none _ _ c.requires)
