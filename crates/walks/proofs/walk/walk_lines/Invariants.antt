-- `walks::walk::walk_lines` meets its contract.
-- Assumes nothing.
use Rattle.bounds.specs.Bounds.{bounds_of}
use Rattle.turns.specs.Dues.{due_in}
use Rattle.walks.proofs.WalkLineLaws.{Pass}
use Rattle.walks.proofs.walk.walk_lines.Given as goal

abbrev pub invariant-loop-i : goal.invariant-loop-i
invariant-loop-i l = Pass l.store l.area l.asked (bounds_of l.bounds) (due_in l.due) l.i l.count l.sum l.found
