-- `prewrites::checks::weight_of` meets its contract.
-- Assumes nothing.
use Rattle.prewrites.proofs.PrewriteEntryLaws.{new-weighs, old-weighs}
use Rattle.prewrites.proofs.checks.weight_of.Goals as goal

pub returns-in-None : goal.returns-in-None
returns-in-None c = new-weighs _ c.requires c.kind_for-kind.ensures c.in-None.is (rw c.bytes_of-bytes.ensures at c.lock_load.ensures)

pub returns-in-Some : goal.returns-in-Some
returns-in-Some c = old-weighs _ _ _ c.in-Some.is
