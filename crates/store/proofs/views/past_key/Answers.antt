-- `store::views::past_key` meets its contract.
-- Assumes nothing.
use Rattle.store.specs.View.{past}
use mathlib.Core.Path.{sym, ap}
use Rattle.store.proofs.views.past_key.Goals as goal

pub returns-in-Standing : goal.returns-in-Standing
returns-in-Standing c = sym (ap past c.in-Standing.is)

pub returns-in-Finished : goal.returns-in-Finished
returns-in-Finished c = sym (ap past c.in-Finished.is)
