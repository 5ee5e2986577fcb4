use Rattle.forms.proofs.ReadAllLaws.{reading-start, reading-bad, reading-low, reading-more, reading-over, reading-end}
use Rattle.forms.proofs.batch.read_all.Goals as goal

pub loop-init : goal.loop-init
loop-init g c = rw c.new-list.ensures (reading-start g.F.Form.rows c.args.s.now c.args.count c.requires.0 c.requires.1)

pub returns-in_err-step : goal.returns-in_err-step
returns-in_err-step g c = rw c.from_residual.ensures (reading-bad _ _ _ c.loop.invariant c.loop-test.true c.in_err-step.ensures)

pub returns-then-not-follows : goal.returns-then-not-follows
returns-then-not-follows g c = reading-low _ _ _ c.loop.invariant c.loop-test.true c.in_ok-step.ensures c.follows.ensures c.if-not-follows.true

pub loop-preserved : goal.loop-preserved
loop-preserved g c = rw c.push.ensures (reading-more _ _ _ c.loop.invariant c.loop-test.true c.in_ok-step.ensures c.follows.ensures c.if-not-follows.false)

pub returns-then-at-s : goal.returns-then-at-s
returns-then-at-s g c = reading-over _ _ _ c.loop.invariant c.loop-test.false c.if-at-s.true

pub returns : goal.returns
returns g c = reading-end _ _ _ c.loop.invariant c.loop-test.false c.if-at-s.false
