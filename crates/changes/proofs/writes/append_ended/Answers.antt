-- `changes::writes::append_ended` meets its contract: the head, and the row of the lock before it.
-- Assumes nothing.
use Rattle.changes.proofs.WriteLaws.{record-own}
use Rattle.changes.proofs.writes.append_ended.Goals as goal

pub returns : goal.returns
returns c = record-own c.append_head-at.ensures _ _ c.requires.0 c.put_own.ensures
