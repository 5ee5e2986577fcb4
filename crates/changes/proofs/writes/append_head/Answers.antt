-- `changes::writes::append_head` meets its contract: a key and two numbers, one after the other.
-- Assumes nothing.
use Rattle.changes.proofs.WriteLaws.{headed}
use native.Mathlib.Omega.{arith}
use Rattle.changes.proofs.writes.append_head.Goals as goal

pub returns : goal.returns
returns c = headed c.put_bytes-at.ensures c.put_digits-next.ensures c.put_digits.ensures (omega (arith, c.ranges)) (omega (arith, c.ranges))
