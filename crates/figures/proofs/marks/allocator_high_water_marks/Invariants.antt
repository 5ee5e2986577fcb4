-- `figures::marks::allocator_high_water_marks` meets its contract. The loop's invariant: what is kept is the largest among the lines from
-- `i` on. Assumes nothing.
use Rattle.figures.proofs.HighWaterLaws.{LinesMarked}
use Rattle.figures.proofs.marks.allocator_high_water_marks.Given as goal

abbrev pub invariant-loop-i : goal.invariant-loop-i
invariant-loop-i l = LinesMarked l.area l.store.lines l.store.load.lines l.i l.m
