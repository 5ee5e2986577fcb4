-- `collects::collecting::collect` meets its contract. Its loops: the walk down the table (`Walked`), and the lines that stay close up
-- (`Packing`).
-- Assumes nothing.
use Rattle.collects.proofs.WalkLaws.{Walked}
use Rattle.collects.proofs.CollectedLaws.{Packing}
use Rattle.std.proofs.Common.{take}
use Rattle.collects.proofs.collecting.collect.Given as goal

abbrev pub invariant-loop-i : goal.invariant-loop-i
invariant-loop-i l = Walked l.floor l.area (take l.store.load.lines l.store.lines) l.i l.kept l.p

abbrev pub invariant-loop-i-2 : goal.invariant-loop-i-2
invariant-loop-i-2 l = Packing l.floor l.area l.initial.store l.i l.k l.store
