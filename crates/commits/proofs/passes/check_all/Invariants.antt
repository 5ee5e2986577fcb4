-- `commits::passes::check_all` meets its contract. The loop's invariant: the keys that are left, and whether one was new (`CommitPassLaws`).
-- Assumes nothing.
use Rattle.store.specs.View.{box_of}
use Rattle.commits.proofs.CommitPassLaws.{CheckingAll}
use Rattle.commits.proofs.passes.check_all.Given as goal

abbrev pub invariant-loop-e : goal.invariant-loop-e
invariant-loop-e l = CheckingAll l.terms (box_of l.store l.area) l.batch l.entries l.e-index l.moves
