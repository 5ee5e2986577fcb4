-- `onesteps::passes::first` meets its contract.
-- Assumes nothing.
use mathlib.Core.Path.{refl, sym, ap, ◌∙◌}
use Rattle.rules.specs.Outcomes.{outcome}
use Rattle.laws.proofs.ChainLaws.{call-on}
use Rattle.calls.proofs.SettledLaws.{handed, first-out}
use Rattle.onesteps.proofs.passes.first.Goals as goal

pub returns-in_err-a : goal.returns-in_err-a
returns-in_err-a c = handed _ _ c.from_residual.ensures.1 ∙ first-out _ (outcome c.args.b) (sym (ap outcome c.in_err-a.was))

pub returns : goal.returns
returns c = call-on _ _ _ _ (sym (ap outcome c.in_ok-a.was)) refl refl
