-- `captures::entries::put_line` meets its contract: the key's piece, and the lock or the record.
-- Assumes nothing.
use Rattle.picks.proofs.CaptureLineLaws.{key_in}
use Rattle.captures.proofs.CaptureEntryLaws.{line-key, told-asks, line-laid}
use Rattle.captures.proofs.entries.put_line.Goals as goal

pub put_key-a-requires : goal.put_key-a-requires
put_key-a-requires c = record { within = key_in c.requires.slot; room = line-key c.requires }

pub put_intent-requires : goal.put_intent-requires
put_intent-requires c = told-asks c.requires c.put_key-a.ensures c.view_of-line.ensures c.in-Standing.is

pub put_record-requires : goal.put_record-requires
put_record-requires c = told-asks c.requires c.put_key-a.ensures c.view_of-line.ensures c.in-Finished.is

pub returns-in-Standing : goal.returns-in-Standing
returns-in-Standing c = line-laid c.requires c.put_key-a.ensures c.view_of-line.ensures c.in-Standing.is c.put_intent.ensures

pub returns-in-Finished : goal.returns-in-Finished
returns-in-Finished c = line-laid c.requires c.put_key-a.ensures c.view_of-line.ensures c.in-Finished.is c.put_record.ensures
