-- `store::table::fresh_over` meets its contract: by the promise of `fresh`, at the area. Assumes nothing.
use borrow.Author.Rules.{rules}
use Rattle.store.proofs.table.fresh_over.Goals as goal

pub returns : goal.returns
returns c = c.fresh.ensures _ (search rules)
