-- `images::sections::head_at` meets its contract: each way out is a law of `ImageLaws`.
-- Assumes nothing.
use Rattle.images.proofs.ImageLaws.{head-no-table, head-old, head-no-floor, head-new}
use Rattle.images.proofs.sections.head_at.Goals as goal

pub returns-in_err-table : goal.returns-in_err-table
returns-in_err-table c = rw c.from_residual.ensures (head-no-table c.args.s.now c.args.form c.in_err-table.ensures)

pub returns-in-Old : goal.returns-in-Old
returns-in-Old c = head-old _ c.in_ok-table.ensures c.in-Old.is

pub returns-in_err-floor-in-New : goal.returns-in_err-floor-in-New
returns-in_err-floor-in-New c = rw c.from_residual-in_err-floor-in-New.ensures (head-no-floor _ c.in_ok-table.ensures c.in-New.is c.in_err-floor-in-New.ensures)

pub returns-in_ok-floor-in-New : goal.returns-in_ok-floor-in-New
returns-in_ok-floor-in-New c = head-new _ c.in_ok-table.ensures c.in-New.is c.in_ok-floor-in-New.ensures
