-- `changes::packing::pack` meets its contract.
-- Assumes nothing.
use Rattle.changes.proofs.PackLaws.{Packing}
use Rattle.changes.proofs.packing.pack.Given as goal

abbrev pub invariant-loop-i : goal.invariant-loop-i
invariant-loop-i l = Packing l.initial.store l.area l.n l.i l.at l.store l.into
