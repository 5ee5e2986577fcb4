-- `prewrites::heads::terms_step` meets its contract.
-- Assumes nothing.
use mathlib.Core.Path.{refl, sym, ◌∙◌}
use Rattle.rules.specs.Calls.{zero_step}
use Rattle.rules.proofs.FloorLaws.{prewrite-on-0}
use Rattle.laws.proofs.StepLaws.{then-assoc}
use Rattle.laws.proofs.ChainLaws.{chain, call-on}
use Rattle.calls.proofs.SettledLaws.{handed, first-out}
use Rattle.prewrites.proofs.heads.terms_step.Goals as goal

pub returns-in_err-zero_step : goal.returns-in_err-zero_step
unfolding zero_step
returns-in_err-zero_step c = handed _ _ c.from_residual.ensures.1 ∙ first-out _ _ c.in_err-zero_step.ensures ∙ then-assoc _ _ _ ∙ sym (prewrite-on-0 _)

pub returns-then-not-key_in_form : goal.returns-then-not-key_in_form
unfolding zero_step
returns-then-not-key_in_form c = call-on _ _ _ _ c.in_ok-zero_step.ensures refl (search chain) ∙ then-assoc _ _ _ ∙ sym (prewrite-on-0 _)

pub returns-then-terms-eq0 : goal.returns-then-terms-eq0
unfolding zero_step
returns-then-terms-eq0 c = call-on _ _ _ _ c.in_ok-zero_step.ensures refl (search chain depth 8) ∙ then-assoc _ _ _ ∙ sym (prewrite-on-0 _)

pub returns : goal.returns
unfolding zero_step
returns c = call-on _ _ _ _ c.in_ok-zero_step.ensures refl (search chain depth 8) ∙ then-assoc _ _ _ ∙ sym (prewrite-on-0 _)
