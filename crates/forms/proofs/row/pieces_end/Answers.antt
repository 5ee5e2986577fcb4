use Rattle.forms.proofs.RowLaws.{passing-start, passing-bad, passing-more, passing-end}
use Rattle.forms.proofs.row.pieces_end.Goals as goal

pub loop-init : goal.loop-init
loop-init c = passing-start _ c.requires

pub returns-in_err-part_at : goal.returns-in_err-part_at
returns-in_err-part_at c = rw c.from_residual.ensures (passing-bad c.loop.invariant c.loop-test.true c.in_err-part_at.ensures)

pub loop-preserved : goal.loop-preserved
loop-preserved c = rw c.end-end.ensures (passing-more c.loop.invariant c.loop-test.true c.in_ok-part_at.ensures)

pub returns : goal.returns
returns c = passing-end c.loop.invariant c.loop-test.false
