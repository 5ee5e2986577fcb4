-- `converts::puts::entry_has` meets its contract: each way out is a law of `OldImageLaws`.
-- Assumes nothing.
use Rattle.std.proofs.Common.{sym, ◌∙◌}
use borrow.Author.Tests.{le-ltb}
use Rattle.converts.proofs.OldImageLaws.{has-none, has-told}
use Rattle.converts.proofs.puts.entry_has.Goals as goal

pub returns-then-at-defaults : goal.returns-then-at-defaults
returns-then-at-defaults c = has-told c.requires (sym c.is_put.ensures ∙ c.if-not-is_put.false) c.row_place-at.ensures c.if-at-defaults.true c.points_to.ensures

pub returns-else-at-defaults : goal.returns-else-at-defaults
returns-else-at-defaults c = le-ltb _ _ c.if-at-defaults.false ∙ has-none c.requires (sym c.is_put.ensures ∙ c.if-not-is_put.false) c.row_place-at.ensures c.if-at-defaults.false
