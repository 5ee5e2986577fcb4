-- `images::entries::piece_at` meets its contract.
-- Assumes nothing.
use Rattle.images.specs.Entries.{has_piece}
use Rattle.images.proofs.ImageEntryLaws.{piece-has, piece-none}
use mathlib.Core.Path.{ap}
use Rattle.std.proofs.Common.{⊎_elim}
use Rattle.images.proofs.entries.piece_at.Goals as goal

pub returns-in-Default : goal.returns-in-Default
returns-in-Default c = piece-has _ c.args.s.now c.args.at _ (⊎_elim (λ e. ap has_piece e) (λ e. ap has_piece e) c.in-Default.is) c.part_at.ensures

pub returns-in-Write : goal.returns-in-Write
returns-in-Write c = piece-none _ _ _ (ap has_piece c.in-Write.is) c.requires
