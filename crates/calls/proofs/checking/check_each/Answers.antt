-- `calls::checking::check_each` meets its contract.
-- Assumes nothing.
use mathlib.Core.Path.{sym}
use Rattle.seqs.proofs.Alls.{all-at}
use Rattle.forms.specs.Places.{item_of}
use Rattle.calls.proofs.SettledLaws.{handed-is}
use Rattle.calls.proofs.SeenLaws.{seeing-start, seeing-more, seeing-out, seeing-end}
use Rattle.calls.proofs.RoomJudgeLaws.{late-judged, all-refused, all-judged}
use Rattle.calls.proofs.CheckEachLaws.{each-checked, each-small, each-left}
use Rattle.calls.proofs.checking.check_each.Goals as goal

pub returns-in_err-floor_step : goal.returns-in_err-floor_step
returns-in_err-floor_step g c = λ p f. rw (handed-is _ _ c.from_residual.ensures.1) (late-judged _ c.in_err-floor_step.ensures)

pub loop-e-init : goal.loop-e-init
loop-e-init g c = λ p f. seeing-start p.steps (item_of p.rows p.batch) p.box f.listed

pub check-requires : goal.check-requires
check-requires g c = all-at _ _ _ _ c.requires.callable c.loop-e-test.true

pub returns-in_err-weight : goal.returns-in_err-weight
returns-in_err-weight g c = λ p f. rw (handed-is _ _ c.from_residual-in_err-weight.ensures.1) (all-refused f.weighed _ f.ascends f.tallied (sym c.in_ok-floor_step.ensures) _ (seeing-out (c.loop-e.invariant p f) _ c.loop-e-test.true _ (each-checked f _ c.loop-e-test.true c.in_err-weight.ensures)))

pub plus_weight-sum-requires : goal.plus_weight-sum-requires
plus_weight-sum-requires g c = each-small c.loop-e.invariant _ c.loop-e-test.true c.in_ok-weight.ensures c.requires.planned

pub loop-e-preserved : goal.loop-e-preserved
loop-e-preserved g c = λ p f. seeing-more (c.loop-e.invariant p f) _ c.loop-e-test.true (each-checked f _ c.loop-e-test.true c.in_ok-weight.ensures) c.plus_weight-sum.ensures

pub judge-requires : goal.judge-requires
judge-requires g c = each-left c.loop-e.invariant c.loop-e-test.false c.requires.planned

pub returns : goal.returns
returns g c = λ p f. all-judged f.weighed _ f.ascends f.tallied (sym c.in_ok-floor_step.ensures) (seeing-end (c.loop-e.invariant p f) c.loop-e-test.false) c.judge.ensures
