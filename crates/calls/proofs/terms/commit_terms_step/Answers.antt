-- `calls::terms::commit_terms_step` meets its contract.
-- Assumes nothing.
use Rattle.rules.specs.Commit.{commit_terms_step}
use Rattle.laws.proofs.ChainLaws.{chain, on, call-on}
use borrow.Author.Tests.{lt-ltb}
use mathlib.Core.Path.{refl, ◌∙◌}
use Rattle.calls.proofs.SettledLaws.{handed, first-out}
use Rattle.calls.proofs.terms.commit_terms_step.Goals as goal

pub returns-in_err-zero_step : goal.returns-in_err-zero_step
unfolding commit_terms_step
returns-in_err-zero_step c = handed _ _ c.from_residual.ensures.1 ∙ first-out _ _ c.in_err-zero_step.ensures

pub returns-then-terms : goal.returns-then-terms
unfolding commit_terms_step
returns-then-terms c = call-on _ _ _ _ c.in_ok-zero_step.ensures refl (search chain)

pub returns : goal.returns
unfolding commit_terms_step
returns c = call-on _ _ _ _ c.in_ok-zero_step.ensures refl (on _ 3 _ _ (lt-ltb _ _ c.if-terms.false) c.floor_step.ensures)
