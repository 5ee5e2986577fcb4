-- What `fresh` gives is made with every area.
use Rattle.std.proofs.Common.{ℕ}
use lib.ListN.{length-replicate}
use Rattle.drive.proofs.answer_trace.Goals as goal

pub answer_calls-requires : goal.answer_calls-requires
answer_calls-requires g c = (c.fresh.ensures _ (length-replicate {A = ℕ} 131072 0)).made
