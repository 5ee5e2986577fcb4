use Rattle.figures.proofs.HighWaterLaws.{marks-start, marks-ready, marks-more, marks-end}
use Rattle.figures.proofs.marks.allocator_high_water_marks.Goals as goal

pub loop-i-init : goal.loop-i-init
loop-i-init c = marks-start c.requires.built

pub mark_line-m-requires : goal.mark_line-m-requires
mark_line-m-requires c = marks-ready c.requires.built c.loop-i.invariant c.loop-i-test.true

pub loop-i-preserved : goal.loop-i-preserved
loop-i-preserved c = marks-more c.requires.built c.loop-i.invariant c.loop-i-test.true c.mark_line-m.ensures

pub returns : goal.returns
returns c = marks-end c.requires.built c.loop-i.invariant c.loop-i-test.false
