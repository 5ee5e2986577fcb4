-- `calls::judged::judge` meets its contract.
-- Assumes nothing.
use Rattle.calls.proofs.RoomJudgeLaws.{judge-full, judge-passed}
use Rattle.calls.proofs.judged.judge.Goals as goal

pub returns-then-not-load_fits : goal.returns-then-not-load_fits
returns-then-not-load_fits c = judge-full _ _ c.left_load-left.ensures c.load_fits.ensures c.if-not-load_fits.true

pub returns : goal.returns
returns c = judge-passed _ _ c.left_load-left.ensures c.load_fits.ensures c.if-not-load_fits.false
