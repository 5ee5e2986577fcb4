-- `onesteps::checks::lock_step` meets its contract.
-- Assumes nothing.
use mathlib.Core.Path.{refl, ◌∙◌}
use Rattle.lookups.specs.KeyStates.{locked_by}
use Rattle.laws.proofs.ChainLaws.{call-on}
use Rattle.calls.proofs.SettledLaws.{handed, first-out}
use Rattle.onesteps.proofs.StepCheckLaws.{lock_is}
use Rattle.onesteps.proofs.checks.lock_step.Goals as goal

pub returns-in_err-own_step : goal.returns-in_err-own_step
returns-in_err-own_step c = λ area. handed _ _ c.from_residual.ensures.1 ∙ first-out _ _ (c.in_err-own_step.ensures area) ∙ lock_is c.args.terms c.args.kind (locked_by area c.args.lock)

pub returns : goal.returns
returns c = λ area. call-on _ _ _ _ (c.in_ok-own_step.ensures area) refl (c.kind_step.ensures area) ∙ lock_is c.args.terms c.args.kind (locked_by area c.args.lock)
