-- `onesteps::checks::check_entry` meets its contract.
-- Assumes nothing.
use Rattle.forms.specs.Readers.{given}
use Rattle.onesteps.proofs.StepCheckLaws.{at-reach, entry-asked, met_at}
use Rattle.onesteps.proofs.checks.check_entry.Goals as goal

pub tally_entry-tally-requires : goal.tally_entry-tally-requires
tally_entry-tally-requires c = at-reach c.requires.0.made c.args.terms c.args.key.now (given c.args.row) c.requires.1

pub new_entry_step-requires : goal.new_entry_step-requires
new_entry_step-requires c = entry-asked c.requires.0.made c.args.terms c.args.key.now (given c.args.row) c.requires.1 c.requires.0.key_short c.requires.0.row_short

pub returns-in-Ok : goal.returns-in-Ok
returns-in-Ok c = met_at c.requires.0.made c.args.terms c.args.key.now (given c.args.row) c.requires.1 c.requires.0.key_short c.requires.0.row_short c.argument_step-argument.ensures c.tally_entry-tally.ensures c.in-Ok.ensures

pub returns-in-Err : goal.returns-in-Err
returns-in-Err c = met_at c.requires.0.made c.args.terms c.args.key.now (given c.args.row) c.requires.1 c.requires.0.key_short c.requires.0.row_short c.argument_step-argument.ensures c.tally_entry-tally.ensures c.in-Err.ensures
