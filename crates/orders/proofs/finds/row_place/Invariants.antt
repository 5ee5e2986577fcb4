-- `orders::finds::row_place` meets its contract. The loop's invariant: the place is at least `low` and at most `high` (`Searching` of
-- `FindLaws`). The measure is how far they are apart.
-- Assumes nothing.
use Rattle.orders.proofs.FindLaws.{Searching}
use Prim.Native.Nat.{◌-◌}
use Rattle.forms.specs.Places.{part_of}
use Rattle.orders.proofs.finds.row_place.Given as goal

abbrev pub invariant-loop-low : goal.invariant-loop-low
invariant-loop-low l = Searching l.s l.rows (part_of l.s l.pair.key) l.pair.value l.low l.high

abbrev pub decreases-loop-low : goal.decreases-loop-low
decreases-loop-low l = l.high - l.low
