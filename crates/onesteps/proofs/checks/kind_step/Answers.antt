-- `onesteps::checks::kind_step` meets its contract.
-- Assumes nothing.
use mathlib.Core.Path.{sym, ◌∙◌}
use borrow.Author.Tests.{not-true, not-false}
use Rattle.calls.proofs.SettledLaws.{same-kind}
use Rattle.onesteps.proofs.StepCheckLaws.{kind-differs, kind-same}
use Rattle.onesteps.proofs.checks.kind_step.Goals as goal

pub returns-then-ne : goal.returns-then-ne
returns-then-ne c = λ area. kind-differs c.args.kind area c.in-Some.is (sym (same-kind _ _) ∙ not-true _ (sym c.ne.ensures ∙ c.if-ne.true))

pub returns-else-ne : goal.returns-else-ne
returns-else-ne c = λ area. kind-same c.args.kind area c.in-Some.is (sym (same-kind _ _) ∙ not-false _ (sym c.ne.ensures ∙ c.if-ne.false))
