-- `images::entries::stood_at` meets its contract.
-- Assumes nothing.
use Rattle.images.proofs.ImageEntryLaws.{stood-by}
use Rattle.images.proofs.entries.stood_at.Goals as goal

pub returns : goal.returns
returns c = rw c.unwrap_or.ensures (stood-by _ _ _ _ c.entry_at.ensures)
