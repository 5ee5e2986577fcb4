-- `picks::sizes::count_line` meets its contract; no sum overflows, as an entry has at most 400 bytes.
-- Assumes nothing.
use Rattle.picks.proofs.SizeLaws.{line_small, row-asks, counted, passed_over}
use Rattle.picks.proofs.sizes.count_line.Goals as goal

pub with_line-requires : goal.with_line-requires
with_line-requires c = line_small c.requires

pub with_row-requires : goal.with_row-requires
with_row-requires c = row-asks c.requires (c.with_line.ensures c.args.area.now c.requires.slot)

pub returns-then-of_table : goal.returns-then-of_table
returns-then-of_table c = counted c.requires c.of_table.ensures c.if-of_table.true (c.with_line.ensures c.args.area.now c.requires.slot) (c.with_row.ensures c.args.area.now c.requires.slot)

pub returns-else-of_table : goal.returns-else-of_table
returns-else-of_table c = passed_over c.requires c.of_table.ensures c.if-of_table.false
