-- `showing::shows::run_shown` meets its contract: what is shown is told, and the store is as it was (`showed`).
-- Assumes nothing.
use Rattle.showing.proofs.ShowLaws.{showed, shown-small, shown-short}
use mathlib.Core.Path.{refl}
use Rattle.showing.proofs.shows.run_shown.Goals as goal

pub show-requires : goal.show-requires
show-requires c = record { made = c.requires.made; small = shown-small c.args.args.now c.requires.op_is c.args.args.now.buffer_fits; lent_is = refl }

pub returns : goal.returns
returns c = showed _ c.requires.made c.show.ensures (shown-short c.args.args.now _ (shown-small c.args.args.now c.requires.op_is c.args.args.now.buffer_fits) _) c.requires.length_is c.tell.ensures
