-- `changes::writes::append_record` meets its contract: the head and the row.
-- Assumes nothing.
use Rattle.changes.proofs.WriteLaws.{record-stands}
use Rattle.changes.proofs.writes.append_record.Goals as goal

pub returns : goal.returns
returns c = record-stands c.append_head-at.ensures c.put_bytes.ensures
