-- `rules::writers::put_default` meets its contract: three writers, each where the one before ended.
-- Assumes nothing.
use Rattle.rules.proofs.EntryWriterLaws.{default-laid}
use Rattle.rules.proofs.writers.put_default.Goals as goal

pub returns : goal.returns
returns c = default-laid _ c.put_piece-a.ensures c.put_digits-b.ensures c.put_piece.ensures
