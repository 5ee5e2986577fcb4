-- `converts::calls::convert_image` meets its contract: each way out is a law of `CallLaws`.
-- Assumes nothing.
use native.Mathlib.Omega.{arith}
use Rattle.converts.proofs.CallLaws.{converts-none, converts-short, converts-asks, converts-put}
use Rattle.converts.proofs.calls.convert_image.Goals as goal
use Rattle.converts.proofs.calls.convert_image.Goals.{then-out-size-via-then-out-size, then-out-size-via-else-out-size+then-out-size-2}

pub returns-in_default : goal.returns-in_default
returns-in_default c = converts-none c.args.image.now c.args.out.now c.in_default.ensures

pub returns-then-out-size : goal.returns-then-out-size
returns-then-out-size c =
    elim c.then-out-size.branch [
      | then-out-size-via-then-out-size w ↦ converts-short c.args.out.now c.in-Some.ensures (omega (arith, w.if-out-size.true))
      | then-out-size-via-else-out-size+then-out-size-2 w ↦ converts-short c.args.out.now c.in-Some.ensures (omega (arith, w.if-out-size.false, w.if-out-size-2.true))
    ]

pub put_converted-requires : goal.put_converted-requires
put_converted-requires c = converts-asks c.args.out.now c.in-Some.ensures (omega (arith, c.if-out-size.false, c.if-out-size-2.false))

pub returns : goal.returns
returns c = converts-put c.args.out.now c.in-Some.ensures (omega (arith, c.if-out-size.false, c.if-out-size-2.false)) (λ i. omega (arith, c.type_inv.image i)) c.put_converted.ensures
