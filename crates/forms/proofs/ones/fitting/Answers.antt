-- `forms::ones::fitting` meets its contract: each way out is a law of `OneLaws`.
-- Assumes nothing.
use Rattle.forms.proofs.OneLaws.{fitting_none, fitting_all}
use native.Mathlib.Omega.{arith}
use Rattle.forms.proofs.ones.fitting.Goals as goal

pub returns-then-s-gt255 : goal.returns-then-s-gt255
returns-then-s-gt255 c = fitting_none _ c.if-s-gt255.true

pub returns : goal.returns
returns c = fitting_all _ (omega arith)
