-- `changes::entries::end_lock` meets its contract.
-- Assumes nothing.
use Rattle.changes.proofs.EndLaws.{end-nobody, end_row, end-few, end-slot, lock-ended}
use native.Mathlib.Omega.{arith}
use Rattle.changes.proofs.entries.end_lock.Goals as goal

pub append_ended-top-requires : goal.append_ended-top-requires
append_ended-top-requires c = (omega (arith, end_row c.requires c.in-Some.is, c.pairs_in-at.ensures.holds), omega (arith, end-few c.requires c.in-Some.is, c.pairs_in-at.ensures.fewest, c.requires.area_room, c.requires.built.area_long))

pub place_record-requires : goal.place_record-requires
place_record-requires c = end-slot c.requires c.in-Some.is c.pairs_in-at.ensures

pub returns-in-None : goal.returns-in-None
returns-in-None c = (tt, end-nobody c.requires c.in-None.is)

pub returns-in-Some : goal.returns-in-Some
returns-in-Some c = lock-ended c.requires c.in-Some.is c.pairs_in-at.ensures c.append_ended-top.ensures c.place_record.ensures
