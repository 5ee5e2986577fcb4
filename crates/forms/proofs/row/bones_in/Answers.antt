-- `forms::row::bones_in` meets its contract: each way out is a law of `BoneLaws`.
-- Assumes nothing.
use Rattle.forms.proofs.BoneLaws.{row_tiny, row_long, row_fields, row_bare, row_more, row_bones}
use Rattle.forms.proofs.row.bones_in.Goals as goal
use Rattle.forms.proofs.row.bones_in.Goals.{then-row-lt3-via-then-row-lt3, then-row-lt3-via-else-row-lt3+then-row-gt255}

pub returns-then-row-lt3 : goal.returns-then-row-lt3
returns-then-row-lt3 c = elim c.then-row-lt3.branch [
  | then-row-lt3-via-then-row-lt3 w ↦ row_tiny c.args.row.now w.if-row-lt3.true
  | then-row-lt3-via-else-row-lt3+then-row-gt255 w ↦ row_long c.args.row.now w.if-row-gt255.true
]

pub returns-in_err-end : goal.returns-in_err-end
returns-in_err-end c = rw c.from_residual.ensures (row_fields c.args.row.now c.if-row-lt3.false c.if-row-gt255.false c.in_err-end.ensures)

pub returns-in_err-mask : goal.returns-in_err-mask
returns-in_err-mask c = rw c.from_residual-in_err-mask.ensures (row_bare c.args.row.now c.if-row-lt3.false c.if-row-gt255.false c.in_ok-end.ensures c.in_err-mask.ensures)

pub returns-then-mask-row : goal.returns-then-mask-row
returns-then-mask-row c = row_more c.args.row.now c.if-row-lt3.false c.if-row-gt255.false c.in_ok-end.ensures c.in_ok-mask.ensures c.if-mask-row.true

pub returns : goal.returns
returns c = row_bones c.args.row.now c.if-row-lt3.false c.if-row-gt255.false c.in_ok-end.ensures c.in_ok-mask.ensures c.if-mask-row.false
