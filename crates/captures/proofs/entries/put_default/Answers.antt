-- `captures::entries::put_default` meets its contract: the default, with what was cut out of the area for its key and its row.
-- Assumes nothing.
use Rattle.picks.proofs.CaptureLineLaws.{row-in, start-in, row_short}
use Rattle.captures.proofs.CaptureEntryLaws.{default-asks, default-laid}
use native.Mathlib.Omega.{arith}
use Rattle.captures.proofs.entries.put_default.Goals as goal

pub eight_at-start-requires : goal.eight_at-start-requires
eight_at-start-requires c = omega (arith, c.place_of-k.ensures, start-in c.requires.slot)

pub overflow_add-e : goal.overflow_add-e
overflow_add-e c = omega (arith, c.row_len.ensures, row_short c.requires.slot)

pub slice_bounds-put_default-end-2 : goal.slice_bounds-put_default-end-2
slice_bounds-put_default-end-2 c = omega (arith, c.row_len.ensures, c.place_of-k.ensures, row-in c.requires.slot)

pub put_default-requires : goal.put_default-requires
put_default-requires c = default-asks c.requires c.place_of-k.ensures c.row_len.ensures

pub returns : goal.returns
returns c = default-laid c.requires c.place_of-k.ensures c.row_len.ensures c.eight_at-start.ensures c.put_default.ensures
