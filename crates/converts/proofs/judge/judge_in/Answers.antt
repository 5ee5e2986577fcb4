-- `converts::judge::judge_in` meets its contract: each way out is a law of `OldImageLaws`.
-- Assumes nothing.
use Rattle.pairs.proofs.AskLaws.{judge-asks}
use Rattle.converts.proofs.OldImageLaws.{judged-none, judged-bad, judged}
use Rattle.converts.proofs.judge.judge_in.Goals as goal

pub returns-in_err-found : goal.returns-in_err-found
returns-in_err-found c = rw c.from_residual.ensures (judged-none c.args.s.now c.in_err-found.ensures)

pub returns-then-not-entries_good : goal.returns-then-not-entries_good
returns-then-not-entries_good c = judged-bad c.in_ok-found.ensures c.entries_good.ensures c.if-not-entries_good.true-raw

pub returns : goal.returns
returns c = judged c.in_ok-found.ensures c.entries_good.ensures c.if-not-entries_good.false-raw
