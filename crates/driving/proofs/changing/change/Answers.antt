-- `driving::changing::change` meets its contract: `by-change` for each op that changes the store, by the promise of its call.
-- Assumes nothing.
use mathlib.Core.Path.{◌∙◌}
use Rattle.rules.specs.declared.records.Kind.TheVariants.{Put}
use Rattle.rules.specs.Commit.{commit}
use Rattle.rules.specs.Rollback.{rollback}
use Rattle.rules.specs.Call.{perform}
use Rattle.traces.specs.declared.op.ChangeOp.{ChangeOp}
use Rattle.calls.proofs.SettledLaws.{same-kind}
use Rattle.driving.proofs.RunCallLaws.{settled, replaced, prewritten, by-change}
use Rattle.driving.proofs.changing.change.Goals as goal

pub returns-in-Prewrite : goal.returns-in-Prewrite
returns-in-Prewrite c = by-change _ ChangeOp.Prewrite c.args.args.now _ c.in-Prewrite.is (prewritten _ _ _ c.args.args.now.kind (rw (c.eq-put.ensures ∙ same-kind _ Put) at c.prewrite.ensures))

pub returns-in-PrewriteBatch : goal.returns-in-PrewriteBatch
unfolding perform
returns-in-PrewriteBatch c = by-change _ ChangeOp.PrewriteBatch c.args.args.now _ c.in-PrewriteBatch.is (settled c.prewrite_batch.ensures)

pub returns-in-Commit : goal.returns-in-Commit
unfolding commit perform
returns-in-Commit c = by-change _ ChangeOp.Commit c.args.args.now _ c.in-Commit.is (settled c.commit_intent.ensures)

pub returns-in-CommitBatch : goal.returns-in-CommitBatch
unfolding perform
returns-in-CommitBatch c = by-change _ ChangeOp.CommitBatch c.args.args.now _ c.in-CommitBatch.is (settled c.commit_intents_batch.ensures)

pub returns-in-Rollback : goal.returns-in-Rollback
unfolding rollback perform
returns-in-Rollback c = by-change _ ChangeOp.Rollback c.args.args.now _ c.in-Rollback.is (settled c.rollback_intent.ensures)

pub returns-in-RollbackBatch : goal.returns-in-RollbackBatch
unfolding perform
returns-in-RollbackBatch c = by-change _ ChangeOp.RollbackBatch c.args.args.now _ c.in-RollbackBatch.is (settled c.rollback_intents_batch.ensures)

pub returns-in-Collect : goal.returns-in-Collect
unfolding perform
returns-in-Collect c = by-change _ ChangeOp.Collect c.args.args.now _ c.in-Collect.is (replaced c.collect.ensures.replaced)

pub returns-in-Restore : goal.returns-in-Restore
returns-in-Restore c = by-change _ ChangeOp.Restore c.args.args.now _ c.in-Restore.is (replaced c.restore.ensures)
