-- `changes::writes::append_lock` meets its contract: the head, the row, the time to live and the primary.
-- Assumes nothing.
use Rattle.changes.proofs.WriteLaws.{lock-stands}
use native.Mathlib.Omega.{arith}
use Rattle.changes.proofs.writes.append_lock.Goals as goal

pub returns : goal.returns
returns c = lock-stands c.append_head-at.ensures c.put_bytes-mid.ensures c.put_digits-last.ensures c.put_bytes.ensures (omega (arith, c.ranges))
