-- `faults::judge::judge` meets its contract: each way out is a law of `JudgeLaws`.
-- Assumes nothing.
use Rattle.faults.proofs.JudgeLaws.{judged-none, judged-good}
use Rattle.faults.proofs.judge.judge.Goals as goal

pub returns-in_err-found : goal.returns-in_err-found
returns-in_err-found c = rw c.from_residual.ensures (judged-none c.args.s.now c.in_err-found.ensures)

pub returns : goal.returns
returns c = judged-good c.in_ok-found.ensures c.entries_agree.ensures _ c.if-not-entries_agree.false-raw
