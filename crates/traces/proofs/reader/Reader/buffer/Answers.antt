-- `traces::reader::Reader::buffer` meets its contract: the long buffer within its limit, or that of a page.
-- Assumes nothing.
use mathlib.Core.Path.{refl, sym, ◌∙◌}
use Rattle.traces.specs.Arguments.{long_buffer, long_if}
use borrow.Author.Tests.{le-leb, lt-leb}
use Rattle.traces.proofs.TakenLaws.{stops, goes_on, hands_on}
use Rattle.traces.proofs.reader.Reader.buffer.Goals as goal

pub returns-in_err-len-clause-taken : goal.returns-in_err-len-clause-taken
unfolding long_buffer
returns-in_err-len-clause-taken c = rw ((sym c.is_long.ensures ∙ c.if-not-is_long.false), c.from_residual-in_err-len.ensures) (stops _ c.in_err-len.ensures.taken)

pub returns-then-len-le-LONG-clause-taken : goal.returns-then-len-le-LONG-clause-taken
unfolding long_buffer long_if
returns-then-len-le-LONG-clause-taken c = rw (sym c.is_long.ensures ∙ c.if-not-is_long.false) (goes_on _ c.in_ok-len.ensures.taken (rw (le-leb _ _ c.if-len-le-LONG.true) (hands_on _)))

pub returns-else-len-le-LONG-clause-taken : goal.returns-else-len-le-LONG-clause-taken
unfolding long_buffer long_if
returns-else-len-le-LONG-clause-taken c = rw (sym c.is_long.ensures ∙ c.if-not-is_long.false) (goes_on _ c.in_ok-len.ensures.taken (rw (lt-leb _ _ c.if-len-le-LONG.false) (record { is = refl })))
