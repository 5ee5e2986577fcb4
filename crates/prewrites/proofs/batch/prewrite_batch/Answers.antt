-- `prewrites::batch::prewrite_batch` meets its contract.
-- Assumes nothing.
use Rattle.forms.specs.Batch.{mutations}
use Rattle.forms.proofs.DecodeLaws.{mutations-in-form}
use Rattle.rules.specs.Prewrite.{prewrite_batch}
use Rattle.rules.proofs.OutcomeLaws.{refusal-not}
use Rattle.calls.proofs.SettledLaws.{handed}
use Rattle.calls.proofs.DoneLaws.{decoded-refused, decoded-entries, decoded-head, decoded-done}
use Rattle.prewrites.proofs.PrewriteApplyLaws.{by_entries}
use Rattle.forms.specs.Places.{mutation_of}
use Rattle.prewrites.specs.Checks.{with_primary}
use mathlib.Core.Path.{refl}
use Rattle.prewrites.proofs.batch.prewrite_batch.Goals as goal

pub returns-in_err-entries : goal.returns-in_err-entries
unfolding prewrite_batch
returns-in_err-entries c = let a = c.args in rw (handed _ _ c.from_residual.ensures.1) (decoded-refused (by_entries a.store.now.floor (with_primary (record { txn = a.txn; start = a.start; ttl = a.ttl }) a.primary.now)) c.requires (mutation_of a.batch.now) a.batch.now (mutations a.batch.now) c.mutations_of-decoded.result c.mutations_of-decoded.ensures (rw c.terms_step.ensures at c.in_err-entries.ensures.answer) (refusal-not _))

pub prewrite_all-requires : goal.prewrite_all-requires
prewrite_all-requires c = let a = c.args in let e = rw c.terms_step.ensures at c.in_ok-entries.ensures.answer in (record { made = c.requires; form = rw c.in_ok-entries.ensures.entries (mutations-in-form (decoded-entries (by_entries a.store.now.floor (with_primary (record { txn = a.txn; start = a.start; ttl = a.ttl }) a.primary.now)) c.requires (mutation_of a.batch.now) a.batch.now (mutations a.batch.now) c.mutations_of-decoded.result c.mutations_of-decoded.ensures e refl)) }, decoded-head (by_entries a.store.now.floor (with_primary (record { txn = a.txn; start = a.start; ttl = a.ttl }) a.primary.now)) c.requires (mutation_of a.batch.now) a.batch.now (mutations a.batch.now) c.mutations_of-decoded.result c.mutations_of-decoded.ensures e refl)

pub returns : goal.returns
unfolding prewrite_batch
returns c = let a = c.args in decoded-done (by_entries a.store.now.floor (with_primary (record { txn = a.txn; start = a.start; ttl = a.ttl }) a.primary.now)) c.requires (mutation_of a.batch.now) a.batch.now (mutations a.batch.now) c.mutations_of-decoded.result c.mutations_of-decoded.ensures (rw c.terms_step.ensures at c.in_ok-entries.ensures.answer) refl (rw c.in_ok-entries.ensures.entries at c.prewrite_all.ensures)
