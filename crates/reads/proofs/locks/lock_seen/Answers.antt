-- `reads::locks::lock_seen` meets its contract: no lock, one above the moment, or the lock. Assumes nothing.
use Rattle.std.proofs.Common.{◌∙◌}
use Rattle.reads.proofs.IntentLaws.{point-nobody, point-above, point-lock}
use Rattle.reads.proofs.locks.lock_seen.Goals as goal

pub returns-in_default : goal.returns-in_default
returns-in_default c = λ st area k found b form f e. point-nobody b form f (e ∙ c.in_default.is)

pub returns-then-moment-l : goal.returns-then-moment-l
returns-then-moment-l c = λ st area k found b form f e. point-above b form f (e ∙ c.in-Some.is) c.if-moment-l.true

pub returns : goal.returns
returns c = λ st area k found b form f e. point-lock b form f (e ∙ c.in-Some.is) c.if-moment-l.false
