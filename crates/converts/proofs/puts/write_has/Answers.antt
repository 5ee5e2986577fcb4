-- `converts::puts::write_has` meets its contract.
-- Assumes nothing.
use Rattle.converts.proofs.OldImageLaws.{told}
use Rattle.converts.proofs.puts.write_has.Goals as goal

pub returns : goal.returns
returns c = told c.args.defaults.now c.stood_at-e.ensures c.entry_has.ensures
