-- `store::views::lock_view` meets its contract.
-- Assumes nothing.
use Rattle.store.proofs.ViewLaws.{lock-read}
use Rattle.store.proofs.views.lock_view.Goals as goal

pub returns : goal.returns
returns c = lock-read _ _ _ c.eight_at.ensures c.eight_at-2.ensures c.eight_at-3.ensures
