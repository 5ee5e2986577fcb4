-- `commits::batch::commit_intents_batch` meets its contract: 6, 5, its head, or its keys decide (`CommitBatchLaws`).
-- Assumes nothing.
use mathlib.Core.Path.{refl}
use Rattle.forms.proofs.DecodeLaws.{keys-in-form}
use Rattle.actions.specs.EntryAsks.{commit_terms_for}
use Rattle.rules.proofs.OutcomeLaws.{refusal-not}
use Rattle.calls.proofs.SettledLaws.{handed}
use Rattle.commits.proofs.CommitBatchLaws.{decoded-refused, decoded-entries, decoded-head, decoded-done}
use Rattle.commits.proofs.batch.commit_intents_batch.Goals as goal

pub returns-in_err-entries : goal.returns-in_err-entries
returns-in_err-entries c = let a = c.args in rw (handed _ _ c.from_residual.ensures.1) (decoded-refused c.requires (commit_terms_for a.txn a.start a.commit) a.batch.now c.keys_of-decoded.result c.keys_of-decoded.ensures (rw c.commit_terms_step.ensures at c.in_err-entries.ensures.answer) (refusal-not _))

pub commit_all-requires : goal.commit_all-requires
commit_all-requires c = let a = c.args in let e = rw c.commit_terms_step.ensures at c.in_ok-entries.ensures.answer in (record { made = c.requires; form = rw c.in_ok-entries.ensures.entries (keys-in-form (decoded-entries c.requires (commit_terms_for a.txn a.start a.commit) a.batch.now c.keys_of-decoded.result c.keys_of-decoded.ensures e refl)) }, decoded-head c.requires (commit_terms_for a.txn a.start a.commit) a.batch.now c.keys_of-decoded.result c.keys_of-decoded.ensures e refl)

pub returns : goal.returns
returns c = let a = c.args in decoded-done c.requires (commit_terms_for a.txn a.start a.commit) a.batch.now c.keys_of-decoded.result c.keys_of-decoded.ensures (rw c.commit_terms_step.ensures at c.in_ok-entries.ensures.answer) refl (rw c.in_ok-entries.ensures.entries at c.commit_all.ensures)
