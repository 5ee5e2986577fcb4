-- `restores::fill::write_record` meets its contract.
-- Assumes nothing.
use Rattle.restores.proofs.PutLineLaws.{record-written}
use Rattle.restores.proofs.fill.write_record.Goals as goal

pub returns : goal.returns
returns c = rw c.record_slot.ensures (record-written c.requires c.kind_of-kind.ensures c.pairs_in-at.ensures c.of.ensures c.of-2.ensures c.append_record-end.ensures)
