-- `lookups::lookup::first_line` meets its contract. The loop's invariant: the place of the key's first line is at least `low` and at most `high`
-- (`Halving` of `LookUpLaws`), and so many rounds as are left, each of which halves the range, leave nothing of it. 11 rounds suffice for 1,024
-- lines.
-- Assumes nothing.
use Rattle.lookups.proofs.LookUpLaws.{Halving}
use Prim.Native.Nat.{◌-◌, ◌^◌, ◌<◌}
use Rattle.lookups.proofs.lookup.first_line.Given as goal

abbrev pub invariant-loop-low : goal.invariant-loop-low
invariant-loop-low l = record { halving : Halving l.area l.key l.store.lines l.store.load.lines l.low l.high; enough : l.high - l.low < 2 ^ l.rounds }

abbrev pub decreases-loop-low : goal.decreases-loop-low
decreases-loop-low l = l.high - l.low
