-- `traces::trace::trace_in_form` meets its contract: a trace that is too long, or the verdict on its calls.
-- Assumes nothing.
use mathlib.Core.Path.{◌∙◌}
use borrow.Author.Tests.{lt-leb}
use Rattle.traces.proofs.TraceLaws.{trace-long, trace-short}
use Rattle.traces.proofs.trace.trace_in_form.Goals as goal

pub returns-then-trace-le-MOST : goal.returns-then-trace-le-MOST
returns-then-trace-le-MOST c = c.is_some.ensures ∙ c.read_calls.ensures ∙ trace-short _ c.if-trace-le-MOST.true

pub returns-else-trace-le-MOST : goal.returns-else-trace-le-MOST
returns-else-trace-le-MOST c = lt-leb _ _ c.if-trace-le-MOST.false ∙ trace-long _ c.if-trace-le-MOST.false
