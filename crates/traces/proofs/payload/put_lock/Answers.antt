-- `traces::payload::put_lock` meets its contract: a primary too long, a buffer too short, or a byte and the lock, by `FormLaws`.
-- Assumes nothing.
use Rattle.traces.proofs.FormLaws.{primary-long, lock-short, lock-put}
use Rattle.traces.proofs.payload.put_lock.Goals as goal
use Rattle.traces.proofs.payload.put_lock.Goals.{then-primary-gt255-via-then-primary-gt255, then-primary-gt255-via-else-primary-gt255+then-out-primary}

pub returns-then-primary-gt255 : goal.returns-then-primary-gt255
returns-then-primary-gt255 c = elim c.then-primary-gt255.branch [
  | then-primary-gt255-via-then-primary-gt255 w ↦ primary-long _ _ _ _ _ w.if-primary-gt255.true
  | then-primary-gt255-via-else-primary-gt255+then-out-primary w ↦ lock-short _ _ _ _ _ w.if-primary-gt255.false w.if-out-primary.true
]

pub returns : goal.returns
returns c = lock-put _ _ _ _ _ c.if-primary-gt255.false c.put_byte-a.ensures c.put_lock.ensures
