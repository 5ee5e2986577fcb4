-- `lookups::lookup::look_up` meets its contract. The loop's invariant: what was seen is what the lines before `i` say of the key (`Looking` of
-- `LookUpLaws`).
-- Assumes nothing.
use Rattle.lookups.proofs.LookUpLaws.{Looking}
use Rattle.lookups.proofs.lookup.look_up.Given as goal

abbrev pub invariant-loop-i : goal.invariant-loop-i
invariant-loop-i l = Looking l.area l.key l.start l.stamp l.store.lines l.store.load.lines l.i l.seen
