-- `onesteps::batch::step_all` meets its contract.
-- Assumes nothing.
use mathlib.Core.Path.{refl}
use Rattle.rules.proofs.OutcomeLaws.{refusal-not}
use Rattle.calls.proofs.SettledLaws.{handed-is}
use Rattle.onesteps.proofs.StepBatchLaws.{all_left, all-refused, all-applied, batch-ready, all-stepped}
use Rattle.onesteps.proofs.batch.step_all.Goals as goal

pub judge-requires : goal.judge-requires
judge-requires c = all_left c.requires.0 c.requires.1 c.check_all-all.ensures

pub returns-in_err-judge : goal.returns-in_err-judge
returns-in_err-judge c = rw (handed-is _ _ c.from_residual.ensures.1) (all-refused c.requires.0 c.requires.1 c.check_all-all.ensures c.in_err-judge.ensures (refusal-not _))

pub returns-then-all : goal.returns-then-all
returns-then-all c = all-applied c.requires.0 c.requires.1 c.check_all-all.ensures c.in_ok-judge.ensures refl c.if-all.true

pub apply_all-requires : goal.apply_all-requires
apply_all-requires c = batch-ready c.requires.0 c.requires.1 c.check_all-all.ensures c.in_ok-judge.ensures refl c.if-all.false _

pub returns : goal.returns
returns c = all-stepped c.requires.0 c.requires.1 c.check_all-all.ensures c.in_ok-judge.ensures refl c.if-all.false c.apply_all.ensures
