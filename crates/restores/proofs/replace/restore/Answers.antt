-- `restores::replace::restore` meets its contract: each step and each way out is a law of `RestoreLaws`.
-- Assumes nothing.
use Rattle.restores.proofs.RestoreLaws.{filling-start, line-asks, filling-more, restore-refused, restore-done}
use Rattle.calls.proofs.SettledLaws.{handed}
use native.Mathlib.Omega.{arith}
use Rattle.restores.proofs.replace.restore.Goals as goal

pub returns-in_err-accepted : goal.returns-in_err-accepted
returns-in_err-accepted c = rw (handed c.from_residual.result _ c.from_residual.ensures.1) (restore-refused _ _ c.in_err-accepted.ensures c.requires)

pub loop-k-init : goal.loop-k-init
loop-k-init c = filling-start c.in_ok-accepted.ensures c.requires c.max-end.ensures

pub put_line-filled-requires : goal.put_line-filled-requires
put_line-filled-requires c = line-asks c.loop-k.invariant c.place_at-place.ensures

pub loop-k-preserved : goal.loop-k-preserved
loop-k-preserved c = filling-more c.loop-k.invariant c.place_at-place.ensures _ _ _ c.put_line-filled.ensures (omega arith)

pub returns : goal.returns
returns c = restore-done c.in_ok-accepted.ensures c.requires c.loop-k.invariant c.max-end.ensures (omega arith)
