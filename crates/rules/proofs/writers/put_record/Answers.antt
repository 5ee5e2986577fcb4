-- `rules::writers::put_record` meets its contract: four writers, each where the one before ended.
-- Assumes nothing.
use Rattle.rules.proofs.EntryWriterLaws.{record-laid}
use Rattle.rules.proofs.writers.put_record.Goals as goal

pub returns : goal.returns
returns c = record-laid _ c.put_digits-a.ensures c.put_digits-b.ensures c.put_digits-c.ensures c.put_byte.ensures c.from.ensures
