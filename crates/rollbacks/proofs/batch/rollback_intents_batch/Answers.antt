-- `rollbacks::batch::rollback_intents_batch` meets its contract.
-- Assumes nothing.
use mathlib.Core.Path.{refl}
use Rattle.forms.specs.Batch.{keys}
use Rattle.forms.specs.Places.{key_at}
use Rattle.forms.proofs.DecodeLaws.{keys-in-form}
use Rattle.rules.specs.Rollback.{rollback_batch}
use Rattle.rules.proofs.OutcomeLaws.{refusal-not}
use Rattle.calls.proofs.SettledLaws.{handed}
use Rattle.calls.proofs.DoneLaws.{decoded-refused, decoded-entries, decoded-head, decoded-done}
use Rattle.rollbacks.proofs.RollbackApplyLaws.{by-keys}
use Rattle.rollbacks.proofs.batch.rollback_intents_batch.Goals as goal

pub returns-in_err-entries : goal.returns-in_err-entries
unfolding rollback_batch
returns-in_err-entries c = let a = c.args in rw (handed _ _ c.from_residual.ensures.1) (decoded-refused (by-keys a.store.now.floor a.txn a.start) c.requires (key_at a.batch.now) a.batch.now (keys a.batch.now) c.keys_of-decoded.result c.keys_of-decoded.ensures (rw c.zero_step.ensures at c.in_err-entries.ensures.answer) (refusal-not _))

pub rollback_all-requires : goal.rollback_all-requires
rollback_all-requires c = let a = c.args in let e = rw c.zero_step.ensures at c.in_ok-entries.ensures.answer in (record { made = c.requires; form = rw c.in_ok-entries.ensures.entries (keys-in-form (decoded-entries (by-keys a.store.now.floor a.txn a.start) c.requires (key_at a.batch.now) a.batch.now (keys a.batch.now) c.keys_of-decoded.result c.keys_of-decoded.ensures e refl)) }, decoded-head (by-keys a.store.now.floor a.txn a.start) c.requires (key_at a.batch.now) a.batch.now (keys a.batch.now) c.keys_of-decoded.result c.keys_of-decoded.ensures e refl)

pub returns : goal.returns
unfolding rollback_batch
returns c = let a = c.args in decoded-done (by-keys a.store.now.floor a.txn a.start) c.requires (key_at a.batch.now) a.batch.now (keys a.batch.now) c.keys_of-decoded.result c.keys_of-decoded.ensures (rw c.zero_step.ensures at c.in_ok-entries.ensures.answer) refl (rw c.in_ok-entries.ensures.entries at c.rollback_all.ensures)
