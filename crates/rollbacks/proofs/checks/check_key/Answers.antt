-- `rollbacks::checks::check_key` meets its contract.
-- Assumes nothing.
use mathlib.Core.Path.{refl}
use Rattle.calls.proofs.SettledLaws.{handed-is}
use Rattle.calls.proofs.StoreLaws.{freed_asks}
use Rattle.rollbacks.proofs.RollbackKeyLaws.{key-refused, key-checked}
use Rattle.rollbacks.proofs.checks.check_key.Goals as goal

pub returns-in_err-key_step : goal.returns-in_err-key_step
returns-in_err-key_step c = let a = c.args in rw (handed-is _ _ c.from_residual.ensures.1) (key-refused c.requires.built a.txn a.start a.key.now c.look_up-found.ensures c.in_err-key_step.ensures _ refl)

pub weight_of-requires : goal.weight_of-requires
weight_of-requires c = record { short = c.requires.short; freed = freed_asks c.requires.built c.args.key.now c.look_up-found.ensures c.requires.short }

pub returns : goal.returns
returns c = let a = c.args in key-checked c.requires.built a.txn a.start a.key.now c.look_up-found.ensures c.in_ok-key_step.ensures refl c.requires.short c.weight_of.ensures
