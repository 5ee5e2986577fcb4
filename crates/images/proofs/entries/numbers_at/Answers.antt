-- `images::entries::numbers_at` meets its contract: each way out is a law of `ImageEntryLaws`.
-- Assumes nothing.
use Rattle.images.proofs.ImageEntryLaws.{tail-no-two, tail-no-three, tail-no-kind, tail-good}
use Rattle.images.proofs.entries.numbers_at.Goals as goal

pub returns-in_err-second : goal.returns-in_err-second
returns-in_err-second c = rw c.from_residual.ensures (tail-no-two c.args.s.now c.args.at c.in_err-second.ensures)

pub returns-in_err-third : goal.returns-in_err-third
returns-in_err-third c = rw c.from_residual-in_err-third.ensures (tail-no-three _ _ c.in_ok-second.ensures c.in_err-third.ensures)

pub returns-then-s-b : goal.returns-then-s-b
returns-then-s-b c = tail-no-kind _ _ c.in_ok-second.ensures c.in_ok-third.ensures c.if-s-b.true

pub returns : goal.returns
returns c = tail-good _ _ c.in_ok-second.ensures c.in_ok-third.ensures c.kind_from-kind.ensures c.if-s-b.false
