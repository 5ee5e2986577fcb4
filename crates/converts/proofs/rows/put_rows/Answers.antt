-- `converts::rows::put_rows` meets its contract: each step is a law of `GrownLaws`.
-- Assumes nothing.
use Rattle.std.proofs.Common.{◌≡◌, ◌+◌, ◌-◌, ◌<◌, ◌≤◌}
use native.Mathlib.Omega.{arith}
use Rattle.seqs.proofs.Parts.{part_end}
use Rattle.converts.proofs.GrownLaws.{growing-start, growing-stands, growing-asks, growing-more, growing-room, growing-end}
use Rattle.converts.proofs.rows.put_rows.Goals as goal

pub loop-init : goal.loop-init
loop-init c = growing-start (omega arith) c.requires

pub unreachable-requires : goal.unreachable-requires
unreachable-requires c = growing-stands c.requires c.loop.invariant (omega arith) c.in_default.ensures

pub put_default-at-requires : goal.put_default-at-requires
put_default-at-requires c = growing-asks c.requires c.loop.invariant c.in-Some.ensures (omega arith)

pub loop-preserved : goal.loop-preserved
loop-preserved c = growing-more c.requires c.loop.invariant c.in-Some.ensures (omega arith) (omega arith) c.put_default-at.ensures

pub put_bytes-requires : goal.put_bytes-requires
put_bytes-requires c = growing-room c.requires c.loop.invariant (omega arith) (part_end c.loop.from c.args.s.now)

pub returns : goal.returns
returns c = growing-end c.requires c.loop.invariant (omega arith) (part_end c.loop.from c.args.s.now) c.put_bytes.ensures
