-- `restores::replace::restore` meets its contract. The loop's invariant: the first k places of the table are filled (`Filling` of
-- `RestoreLaws`).
-- Assumes nothing.
use Rattle.restores.proofs.RestoreLaws.{Filling}
use Rattle.restores.proofs.replace.restore.Given as goal

abbrev pub invariant-loop-k : goal.invariant-loop-k
invariant-loop-k l = Filling l.image l.accepted.load l.accepted.floor l.accepted.writesat l.rows l.places l.initial.store l.end l.k l.top l.area l.store
