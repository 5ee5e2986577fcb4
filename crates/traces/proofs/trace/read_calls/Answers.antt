use native.Mathlib.Omega.{arith}
use mathlib.Core.Path.{sym, ◌∙◌, ap}
use Rattle.std.specs.Option.{is_some as tells}
use Rattle.std.proofs.lemmas.Grind.{common_steps}
use Rattle.forms.specs.Readers.{is_some}
use Rattle.traces.proofs.TraceLaws.{call-cut, call-reads, counting-start, counting-bad, counting_more, counting-end, counting-over, calls-none, calls-counted}
use Rattle.traces.proofs.trace.read_calls.Goals as goal

pub returns-in_err-calls : goal.returns-in_err-calls
returns-in_err-calls c = ap tells c.from_residual.ensures ∙ sym (ap is_some (calls-none c.in_err-calls.ensures))

pub loop-init : goal.loop-init
loop-init c = counting-start _ _ _ _ (omega arith)

pub returns-in_err-framed : goal.returns-in_err-framed
returns-in_err-framed c = ap tells c.from_residual-in_err-framed.ensures ∙ counting-bad c.loop.invariant (omega arith) (call-cut c.in_err-framed.ensures) ∙ sym (ap is_some (calls-counted c.in_ok-calls.ensures))

pub returns-in_err-args_of : goal.returns-in_err-args_of
returns-in_err-args_of c = ap tells c.from_residual-in_err-args_of.ensures ∙ counting-bad c.loop.invariant (omega arith) (call-reads c.in_ok-framed.ensures c.in_err-args_of.ensures) ∙ sym (ap is_some (calls-counted c.in_ok-calls.ensures))

pub loop-preserved : goal.loop-preserved
loop-preserved c = counting_more c.loop.invariant (omega arith) (call-reads c.in_ok-framed.ensures c.in_ok-args_of.ensures)

pub returns-then-is_empty : goal.returns-then-is_empty
returns-then-is_empty c = counting-end c.loop.invariant (omega arith) (grind (arith, common_steps)) ∙ sym (ap is_some (calls-counted c.in_ok-calls.ensures))

pub returns-else-is_empty : goal.returns-else-is_empty
returns-else-is_empty c = counting-over c.loop.invariant (omega arith) (grind (arith, common_steps)) ∙ sym (ap is_some (calls-counted c.in_ok-calls.ensures))
