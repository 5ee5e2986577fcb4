-- `forms::batch::read_all` meets its contract. The loop's invariant: what was read, and what is still to be read after the key before, are
-- what the whole says (`Reading` of `ReadAllLaws`).
-- Assumes nothing.
use Rattle.forms.specs.Places.{counting}
use Rattle.forms.proofs.ReadAllLaws.{Reading}
use Rattle.forms.proofs.batch.read_all.Given as goal

abbrev pub invariant-loop : goal.invariant-loop
invariant-loop g l = Reading g.F.Form.rows l.s l.count l.at l.counter l.last (counting l.list)
