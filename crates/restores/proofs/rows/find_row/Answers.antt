-- `restores::rows::find_row` meets its contract (`FindRowLaws`).
-- Assumes nothing.
use Rattle.std.proofs.Common.{sym, ◌∙◌}
use Rattle.restores.proofs.FindRowLaws.{row_inside, row-found}
use borrow.Author.Rules.{rules}
use Rattle.restores.proofs.rows.find_row.Goals as goal

pub offset_bounds-rows-at : goal.offset_bounds-rows-at
offset_bounds-rows-at c = let h = row_inside c.requires (sym c.is_put.ensures ∙ c.if-not-is_put.false) c.row_place-at.ensures in search rules

pub bounds-rows-at : goal.bounds-rows-at
bounds-rows-at c = row_inside c.requires (sym c.is_put.ensures ∙ c.if-not-is_put.false) c.row_place-at.ensures

pub returns : goal.returns
returns c = row-found c.requires (sym c.is_put.ensures ∙ c.if-not-is_put.false) c.row_place-at.ensures c.stood_at-found.ensures
