-- `traces::answer::put_answer` meets its contract: too short, or the pieces one after the other, by `FormLaws`.
-- Assumes nothing.
use Rattle.traces.proofs.FormLaws.{answer-short, answer-put, answer-as}
use Rattle.traces.proofs.answer.put_answer.Goals as goal

pub returns-then-out-payload : goal.returns-then-out-payload
returns-then-out-payload c = answer-short _ _ _ _ c.if-out-payload.true

pub returns : goal.returns
returns c = answer-as _ _ _ c.head_of-head.ensures (answer-put _ _ _ _ c.put_byte-a.ensures c.put_digits-b.ensures c.put_digits-c.ensures c.put_digits-d.ensures c.put_byte-e.ensures c.put_digits-f.ensures c.put_digits-g.ensures c.put_bytes.ensures)
