-- `prewrites::checks::check_entry` meets its contract.
-- Assumes nothing.
use mathlib.Core.Path.{refl}
use Rattle.forms.specs.Readers.{given}
use Rattle.prewrites.specs.Checks.{with_primary}
use Rattle.calls.proofs.SettledLaws.{handed-is}
use Rattle.prewrites.proofs.PrewriteEntryLaws.{lock-reach, entry-refused, entry-checked}
use Rattle.prewrites.proofs.checks.check_entry.Goals as goal

pub look_up-found-requires : goal.look_up-found-requires
look_up-found-requires c = c.requires.built

pub entry_step-requires : goal.entry_step-requires
entry_step-requires c = lock-reach c.requires.built (with_primary c.args.terms c.args.primary.now) c.args.key.now (given c.args.row) c.look_up-found.ensures

pub returns-in_err-entry_step : goal.returns-in_err-entry_step
returns-in_err-entry_step c = rw (handed-is _ _ c.from_residual.ensures.1) (entry-refused c.requires.built (with_primary c.args.terms c.args.primary.now) c.args.key.now (given c.args.row) c.look_up-found.ensures c.in_err-entry_step.ensures _ refl)

pub returns : goal.returns
returns c = entry-checked c.requires.built (with_primary c.args.terms c.args.primary.now) c.args.key.now (given c.args.row) c.look_up-found.ensures c.in_ok-entry_step.ensures refl c.weight_of.ensures
