-- `restores::fill::write_lock` meets its contract.
-- Assumes nothing.
use Rattle.restores.proofs.PutLineLaws.{lock-written}
use Rattle.restores.proofs.fill.write_lock.Goals as goal

pub returns : goal.returns
returns c = rw c.lock_slot.ensures (lock-written c.requires c.kind_of-kind.ensures c.pairs_in-at.ensures c.of.ensures c.of-2.ensures c.of-3.ensures c.append_lock-end.ensures)
