-- `changes::entries::put_record` meets its contract.
-- Assumes nothing.
use Rattle.changes.proofs.PutRecordLaws.{record-room, slot-asks, record-put}
use native.Mathlib.Omega.{arith}
use Rattle.changes.proofs.entries.put_record.Goals as goal

pub append_record-top-requires : goal.append_record-top-requires
append_record-top-requires c = omega (arith, record-room c.requires c.pairs_in-at.ensures, c.requires.built.area_long)

pub place_record-requires : goal.place_record-requires
place_record-requires c = slot-asks c.requires c.pairs_in-at.ensures

pub returns : goal.returns
returns c = record-put c.requires c.pairs_in-at.ensures c.append_record-top.ensures c.place_record.ensures
