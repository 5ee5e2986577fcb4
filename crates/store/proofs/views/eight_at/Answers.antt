-- `store::views::eight_at` meets its contract.
-- Assumes nothing.
use Rattle.store.proofs.ViewLaws.{eight-cut-there, eight-cut-is}
use Rattle.store.proofs.views.eight_at.Goals as goal

pub unwrap-requires : goal.unwrap-requires
unwrap-requires c = eight-cut-there _ _ c.requires _ c.number_at.ensures

pub returns : goal.returns
returns c = eight-cut-is _ _ c.requires c.number_at.ensures c.unwrap.ensures
