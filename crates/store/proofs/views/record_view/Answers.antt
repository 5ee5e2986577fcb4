-- `store::views::record_view` meets its contract.
-- Assumes nothing.
use Rattle.store.proofs.ViewLaws.{record-read}
use Rattle.store.proofs.views.record_view.Goals as goal

pub returns : goal.returns
returns c = record-read _ _ _ c.eight_at.ensures c.eight_at-2.ensures
