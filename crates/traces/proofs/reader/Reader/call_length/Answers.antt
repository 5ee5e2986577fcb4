-- `traces::reader::Reader::call_length` meets its contract: 2 bytes, or after 65,535 the 4 that follow.
-- Assumes nothing.
use borrow.Author.Tests.{eq-eqb, ne_eqb}
use Rattle.traces.specs.Trace.{length_if, call_length}
use Rattle.traces.proofs.TakenLaws.{stops, goes_on, hands_on}
use Rattle.traces.proofs.reader.Reader.call_length.Goals as goal

pub returns-in_err-len : goal.returns-in_err-len
unfolding call_length
returns-in_err-len c = rw c.from_residual.ensures (stops _ c.in_err-len.ensures.taken)

pub returns-then-len-eq65535 : goal.returns-then-len-eq65535
unfolding call_length length_if
returns-then-len-eq65535 c = goes_on _ c.in_ok-len.ensures.taken (rw (eq-eqb _ _ c.if-len-eq65535.true) c.number-then-len-eq65535.ensures.taken)

pub returns : goal.returns
unfolding call_length length_if
returns c = goes_on _ c.in_ok-len.ensures.taken (rw (ne_eqb _ _ c.if-len-eq65535.false) (hands_on _))
