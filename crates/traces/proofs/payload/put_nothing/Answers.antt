-- `traces::payload::put_nothing` meets its contract: too short, or one byte.
-- Assumes nothing.
use native.Mathlib.Omega.{arith}
use Rattle.std.proofs.lemmas.Grind.{common_steps}
use Rattle.traces.proofs.PutLaws.{put-none, put_all}
use Rattle.traces.proofs.payload.put_nothing.Goals as goal

pub returns-then-is_empty : goal.returns-then-is_empty
returns-then-is_empty c = put-none (grind (arith, common_steps))

pub returns : goal.returns
returns c = put_all c.put_byte.ensures
