use Rattle.std.proofs.Common.{ap, refl}
use Rattle.turns.specs.Turns.{turn_in}
use Rattle.walks.specs.Walked.{lines_in}
use Rattle.walks.proofs.WalkLineLaws.{key_in, pass-start, pass-end, pass-waits, pass_on, pass-stop, pass-refuse, pass-add}
use Rattle.store.proofs.BuiltLaws.{slot-in}
use Rattle.walks.proofs.walk.walk_lines.Goals as goal
use Rattle.walks.proofs.walk.walk_lines.Goals.{in-On, in-Add}

pub loop-i-init : goal.loop-i-init
loop-i-init c = pass-start c.requires _ c.no_slot-found.ensures c.no_due-due.ensures

pub view_of-requires : goal.view_of-requires
view_of-requires c = slot-in c.requires.built c.loop-i.i c.loop-i-test.true

pub loop-i-preserved-then-waits : goal.loop-i-preserved-then-waits
loop-i-preserved-then-waits c = pass-waits c.requires _ c.loop-i.invariant c.loop-i-test.true c.view_of.ensures c.with-seen.ensures c.waits.ensures c.if-waits.true

pub hold_slot-requires : goal.hold_slot-requires
hold_slot-requires c = key_in c.requires.built c.loop-i.i c.loop-i-test.true

pub returns-in-Stop : goal.returns-in-Stop
returns-in-Stop c = pass-stop c.requires _ c.loop-i.invariant c.loop-i-test.true c.view_of.ensures c.with-seen.ensures c.waits.ensures c.if-waits.false c.hold_slot.ensures c.turn_of.ensures (ap turn_in c.in-Stop.is) (ap lines_in c.listed.ensures)

pub returns-in-Refuse : goal.returns-in-Refuse
returns-in-Refuse c = pass-refuse c.requires _ c.loop-i.invariant c.loop-i-test.true c.view_of.ensures c.with-seen.ensures c.waits.ensures c.if-waits.false c.hold_slot.ensures c.turn_of.ensures (ap turn_in c.in-Refuse.is) refl

pub loop-i-preserved : goal.loop-i-preserved
loop-i-preserved c =
    elim c.match-turn_of.branch [
      | in-On w ↦ rw (w.found-is, w.count-is, w.sum-is) (pass_on c.requires _ c.loop-i.invariant c.loop-i-test.true c.view_of.ensures c.with-seen.ensures c.waits.ensures c.if-waits.false c.hold_slot.ensures c.turn_of.ensures c.no_due-due-in-loop-i.ensures (ap turn_in w.in-On.is))
      | in-Add w ↦ rw (w.found-is, w.count-is, w.sum-is) (pass-add c.requires _ c.loop-i.invariant c.loop-i-test.true c.view_of.ensures c.with-seen.ensures c.waits.ensures c.if-waits.false c.hold_slot.ensures c.turn_of.ensures c.no_due-due-in-loop-i.ensures (ap turn_in w.in-Add.is))
    ]

pub returns : goal.returns
returns c = pass-end c.requires _ c.loop-i.invariant c.loop-i-test.false (ap lines_in c.listed-2.ensures)
