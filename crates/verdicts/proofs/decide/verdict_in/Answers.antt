-- `verdicts::decide::verdict_in` meets its contract.
-- Assumes nothing.
use Rattle.pairs.proofs.AskLaws.{judge-room}
use Rattle.verdicts.proofs.VerdictLaws.{decided-bad}
use Rattle.verdicts.proofs.decide.verdict_in.Goals as goal

pub judge-requires : goal.judge-requires
judge-requires g c = judge-room _ _ c.requires.enough c.requires.both

pub returns-in-None : goal.returns-in-None
returns-in-None g c = decided-bad c.args.s.now c.in-None.ensures
