-- `forms::ones::put_fitting` meets its contract: the piece of what fits.
-- Assumes nothing.
use Rattle.forms.proofs.OneLaws.{piece_asks}
use Rattle.forms.proofs.ones.put_fitting.Goals as goal

pub put_piece-requires : goal.put_piece-requires
put_piece-requires c = rw c.fitting.ensures (piece_asks c.args.s.now c.requires)

pub returns : goal.returns
returns c = rw c.fitting.ensures at c.put_piece.ensures
