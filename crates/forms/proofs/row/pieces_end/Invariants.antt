-- `forms::row::pieces_end` meets its contract. The loop's invariant: the pieces still to come from `end` on leave what all of them leave
-- (`Passing` of `RowLaws`).
-- Assumes nothing.
use Rattle.forms.proofs.RowLaws.{Passing}
use Rattle.forms.proofs.row.pieces_end.Given as goal

abbrev pub invariant-loop : goal.invariant-loop
invariant-loop l = Passing l.s l.at l.count l.end l.counter
