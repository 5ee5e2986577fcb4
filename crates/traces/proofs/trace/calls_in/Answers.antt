-- `traces::trace::calls_in` meets its contract: a trace in form has a count (`trace-driven`).
-- Assumes nothing.
use mathlib.Core.Path.{◌∙◌, ap}
use Rattle.std.specs.Option.{is_some as tells}
use Rattle.traces.proofs.WalkLaws.{trace-driven, starts-some}
use Rattle.traces.proofs.trace.calls_in.Goals as goal

pub returns-then-trace_in_form : goal.returns-then-trace_in_form
returns-then-trace_in_form c = record {
  form = ap tells (trace-driven c.of.ensures c.if-trace_in_form.ensures).found ∙ c.if-trace_in_form.ensures;
  calls = starts-some _ c.of.ensures;
}
