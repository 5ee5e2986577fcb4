-- `actions::apply_entry` meets its contract.
-- Assumes nothing.
use Rattle.actions.proofs.ApplyEntryLaws.{asked-as, done-as}
use Prim.Native.Nat.{◌-◌}
use Rattle.actions.proofs.apply_entry.Goals as goal

pub apply_prewrite-requires : goal.apply_prewrite-requires
apply_prewrite-requires c = asked-as c.in-Prewrite.is _ _ _ _ _ c.requires

pub apply_commit-requires : goal.apply_commit-requires
apply_commit-requires c = asked-as c.in-Commit.is _ _ _ _ _ c.requires

pub apply_rollback-requires : goal.apply_rollback-requires
apply_rollback-requires c = asked-as c.in-Rollback.is _ _ _ _ _ c.requires

pub apply_step-requires : goal.apply_step-requires
apply_step-requires c = asked-as c.in-Step.is _ _ _ _ _ c.requires

pub returns-in-Prewrite : goal.returns-in-Prewrite
returns-in-Prewrite c = let a = c.args in done-as c.in-Prewrite.is a.primary.now _ _ a.key.now _ c.apply_prewrite.result c.apply_prewrite.ensures

pub returns-in-Commit : goal.returns-in-Commit
returns-in-Commit c = let a = c.args in done-as c.in-Commit.is a.primary.now _ _ a.key.now _ c.apply_commit.result c.apply_commit.ensures

pub returns-in-Rollback : goal.returns-in-Rollback
returns-in-Rollback c = let a = c.args in done-as c.in-Rollback.is a.primary.now _ _ a.key.now _ c.apply_rollback.result c.apply_rollback.ensures

pub returns-in-Step : goal.returns-in-Step
returns-in-Step c = let a = c.args in done-as c.in-Step.is a.primary.now _ _ a.key.now _ c.apply_step.result c.apply_step.ensures
