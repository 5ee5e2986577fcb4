-- `figures::statistics::stats` meets its contract. The loop's invariant: what is kept is the walk over the lines from `i` on.
-- Assumes nothing.
use Rattle.figures.proofs.StatLaws.{LinesPassed}
use Rattle.figures.proofs.statistics.stats.Given as goal

abbrev pub invariant-loop-i : goal.invariant-loop-i
invariant-loop-i l = LinesPassed l.area l.store.lines l.store.load.lines l.i l.seen
