-- `commits::passes::check_all` meets its contract.
-- Assumes nothing.
use mathlib.Core.Path.{refl, sym}
use Rattle.calls.proofs.SettledLaws.{handed-is}
use Rattle.calls.proofs.PassLaws.{pass-in}
use Rattle.commits.proofs.CommitPassLaws.{late-judged, checking-more, checking-out, checking-end}
use Rattle.commits.proofs.passes.check_all.Goals as goal

pub returns-in_err-floor_step : goal.returns-in_err-floor_step
returns-in_err-floor_step c = rw (handed-is _ _ c.from_residual.ensures.1) (late-judged _ _ c.in_err-floor_step.ensures)

pub of-key-requires : goal.of-key-requires
of-key-requires c = (pass-in c.loop-e.invariant _ c.loop-e-test.true).key_in.within

pub returns-in_err-moves : goal.returns-in_err-moves
returns-in_err-moves c = rw (handed-is _ _ c.from_residual-in_err-moves.ensures.1) (checking-out c.loop-e.invariant _ c.loop-e-test.true _ (rw c.of-key.ensures at c.in_err-moves.ensures) (sym c.in_ok-floor_step.ensures))

pub loop-e-preserved : goal.loop-e-preserved
loop-e-preserved c = checking-more c.loop-e.invariant _ c.loop-e-test.true (rw c.of-key.ensures at c.in_ok-moves.ensures) refl

pub returns : goal.returns
returns c = checking-end c.loop-e.invariant c.loop-e-test.false (sym c.in_ok-floor_step.ensures)
