-- `store::table::fresh` meets its contract.
-- Assumes nothing.
use Rattle.store.proofs.FreshLaws.{fresh-store}
use Rattle.store.proofs.table.fresh.Goals as goal

pub returns : goal.returns
returns c = fresh-store _ c.no_slot.ensures
