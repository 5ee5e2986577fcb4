-- `onesteps::passes::judge` meets its contract.
-- Assumes nothing.
use mathlib.Core.Path.{sym, ap, ◌∙◌}
use borrow.Author.Tests.{not-true, not-false}
use Rattle.rules.specs.Outcomes.{outcome}
use Rattle.rules.proofs.OutcomeLaws.{refusal-not}
use Rattle.calls.proofs.SettledLaws.{handed}
use Rattle.onesteps.specs.Checks.{met}
use Rattle.onesteps.proofs.StepPassLaws.{judge-argument, judge-all, judge-some, judge-entry, judge-full, judge-fits}
use Rattle.onesteps.proofs.passes.judge.Goals as goal

pub returns-in_err-all : goal.returns-in_err-all
returns-in_err-all c = handed _ _ c.from_residual.ensures.1 ∙ sym (ap outcome c.in_err-all.was) ∙ judge-argument (met c.args.all) c.args.load (λ p. refusal-not _ (sym (ap outcome c.in_err-all.was) ∙ p))

pub returns-then-all : goal.returns-then-all
returns-then-all c = judge-all (met c.args.all) c.args.load (ap outcome c.in_ok-all.was) c.if-all.true

pub returns-then-not-all : goal.returns-then-not-all
returns-then-not-all c = judge-some (met c.args.all) c.args.load (ap outcome c.in_ok-all.was) c.if-all.false (not-true _ c.if-not-all.true)

pub returns-in_err-all-2 : goal.returns-in_err-all-2
returns-in_err-all-2 c = handed _ _ c.from_residual-in_err-all-2.ensures.1 ∙ sym (ap outcome c.in_err-all-2.was) ∙ judge-entry (met c.args.all) c.args.load (ap outcome c.in_ok-all.was) c.if-all.false (not-false _ c.if-not-all.false) (λ p. refusal-not _ (sym (ap outcome c.in_err-all-2.was) ∙ p))

pub left_load-left-requires : goal.left_load-left-requires
left_load-left-requires c = c.requires (ap outcome c.in_ok-all-2.was)

pub returns-then-not-load_fits : goal.returns-then-not-load_fits
returns-then-not-load_fits c = judge-full (met c.args.all) c.args.load (ap outcome c.in_ok-all.was) c.if-all.false (not-false _ c.if-not-all.false) (ap outcome c.in_ok-all-2.was) c.left_load-left.ensures c.load_fits.ensures c.if-not-load_fits.true

pub returns : goal.returns
returns c = judge-fits (met c.args.all) c.args.load (ap outcome c.in_ok-all.was) c.if-all.false (not-false _ c.if-not-all.false) (ap outcome c.in_ok-all-2.was) c.left_load-left.ensures c.load_fits.ensures c.if-not-load_fits.false
