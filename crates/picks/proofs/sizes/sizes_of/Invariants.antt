-- `picks::sizes::sizes_of` meets its contract: the loop's invariant is `Counting` of `SizeLaws`: the sizes of the lines so far.
-- Assumes nothing.
use Rattle.picks.proofs.SizeLaws.{Counting}
use Rattle.picks.proofs.sizes.sizes_of.Given as goal

abbrev pub invariant-loop-s : goal.invariant-loop-s
invariant-loop-s l = Counting l.slots l.area l.table l.z l.s-index
