-- `captures::entries::put_key` meets its contract.
-- Assumes nothing.
use Rattle.captures.proofs.CaptureEntryLaws.{key-laid}
use Rattle.captures.proofs.entries.put_key.Goals as goal

pub returns : goal.returns
returns c = key-laid c.args.area.now c.args.s c.requires.within c.place_of-p.ensures c.put_piece.ensures
