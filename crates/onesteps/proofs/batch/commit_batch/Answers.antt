-- `onesteps::batch::commit_batch` meets its contract.
-- Assumes nothing.
use mathlib.Core.Path.{refl}
use Rattle.rules.proofs.OutcomeLaws.{refusal-not}
use Rattle.calls.proofs.SettledLaws.{handed-is}
use Rattle.onesteps.proofs.StepBatchLaws.{not-form, head-out, batch-asks, batch-done}
use Rattle.onesteps.proofs.batch.commit_batch.Goals as goal

pub returns-in_default : goal.returns-in_default
returns-in_default c = not-form c.requires (record { txn = c.args.txn; start = c.args.start; commit = c.args.commit }) c.args.batch.now c.in_default.ensures

pub returns-in_err-commit_terms_step : goal.returns-in_err-commit_terms_step
returns-in_err-commit_terms_step c = rw (handed-is _ _ c.from_residual.ensures.1) (head-out c.requires (record { txn = c.args.txn; start = c.args.start; commit = c.args.commit }) c.args.batch.now c.in-Some.ensures c.in_err-commit_terms_step.ensures (refusal-not _))

pub step_all-requires : goal.step_all-requires
step_all-requires c = rw c.as_slice.ensures (batch-asks c.requires (record { txn = c.args.txn; start = c.args.start; commit = c.args.commit }) c.args.batch.now c.in-Some.ensures c.in_ok-commit_terms_step.ensures refl)

pub returns : goal.returns
returns c = batch-done c.requires (record { txn = c.args.txn; start = c.args.start; commit = c.args.commit }) c.args.batch.now c.in-Some.ensures c.in_ok-commit_terms_step.ensures refl (rw c.as_slice.ensures at c.step_all.ensures)
