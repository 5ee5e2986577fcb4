-- `prewrites::checks::entry_step` meets its contract.
-- Assumes nothing.
use mathlib.Core.Path.{refl, ◌∙◌}
use Rattle.laws.proofs.StepLaws.{then-assoc}
use Rattle.laws.proofs.ChainLaws.{chain, call-on}
use Rattle.calls.specs.Steps.{argument_step}
use Rattle.calls.proofs.SettledLaws.{handed, first-out}
use Rattle.prewrites.proofs.checks.entry_step.Goals as goal

pub returns-in_err-argument_step : goal.returns-in_err-argument_step
unfolding argument_step
returns-in_err-argument_step c = handed _ _ c.from_residual.ensures.1 ∙ first-out _ _ c.in_err-argument_step.ensures ∙ then-assoc _ _ _

pub returns-then-not-below : goal.returns-then-not-below
unfolding argument_step
returns-then-not-below c = call-on _ _ _ _ c.in_ok-argument_step.ensures refl (search chain) ∙ then-assoc _ _ _

pub returns : goal.returns
unfolding argument_step
returns c = call-on _ _ _ _ c.in_ok-argument_step.ensures refl (search chain) ∙ then-assoc _ _ _
