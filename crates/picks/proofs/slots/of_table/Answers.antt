-- `picks::slots::of_table` meets its contract: a key in form begins with its table number.
-- Assumes nothing.
use mathlib.Core.Path.{◌∙◌}
use Rattle.picks.proofs.CaptureLineLaws.{table_is}
use Rattle.picks.proofs.slots.of_table.Goals as goal

pub returns : goal.returns
returns c = rw c.from.ensures at c.eq.ensures ∙ table_is c.requires _ c.number_at.result c.place_of.ensures c.number_at.ensures
