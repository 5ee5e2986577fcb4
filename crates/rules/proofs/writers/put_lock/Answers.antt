-- `rules::writers::put_lock` meets its contract: five writers, each where the one before ended.
-- Assumes nothing.
use Rattle.rules.proofs.EntryWriterLaws.{lock-laid}
use Rattle.rules.proofs.writers.put_lock.Goals as goal

pub returns : goal.returns
returns c = lock-laid _ c.put_digits-a.ensures c.put_piece-b.ensures c.put_digits-c.ensures c.put_digits-d.ensures c.put_byte.ensures c.from.ensures
