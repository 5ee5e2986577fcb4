-- `converts::judge::old_image` meets its contract: 65,536 places are enough for every section.
-- Assumes nothing.
use Rattle.pairs.proofs.AskLaws.{judge-room}
use mathlib.Core.Logic.{inr}
use native.Mathlib.Omega.{arith}
use Rattle.converts.proofs.judge.old_image.Goals as goal

pub judge_in-requires : goal.judge_in-requires
judge_in-requires c = judge-room 65536 131072 (inr (omega arith)) (omega arith)
