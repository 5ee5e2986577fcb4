-- `onesteps::checks::new_entry_step` meets its contract.
-- Assumes nothing.
use Rattle.forms.specs.Readers.{given}
use Rattle.calls.proofs.SettledLaws.{handed-is}
use Rattle.onesteps.proofs.StepCheckLaws.{entry-locked, entry-late, entry-passes}
use Rattle.onesteps.proofs.checks.new_entry_step.Goals as goal

pub returns-in_err-lock_step : goal.returns-in_err-lock_step
returns-in_err-lock_step c = rw (handed-is _ _ c.from_residual.ensures.1) (entry-locked c.args.terms (given c.args.row) c.args.lock c.args.below _ _ (rw c.kind_for-kind.ensures at c.in_err-lock_step.ensures))

pub returns-then-not-below : goal.returns-then-not-below
returns-then-not-below c = entry-late c.args.terms (given c.args.row) c.args.lock c.args.below _ (rw c.kind_for-kind.ensures at c.in_ok-lock_step.ensures) c.if-not-below.true

pub returns : goal.returns
returns c = entry-passes c.args.terms (given c.args.row) c.args.lock c.args.below _ (rw c.kind_for-kind.ensures at c.in_ok-lock_step.ensures) c.if-not-below.false (rw (c.kind_for-kind.ensures, c.bytes_of-bytes.ensures) at c.record_load.ensures) c.freed_by.ensures
