-- `changes::change::make_change` meets its contract.
-- Assumes nothing.
use Rattle.changes.proofs.TableLaws.{inserted-is, replaced-is}
use Rattle.changes.proofs.change.make_change.Goals as goal

pub returns-in-Inserts : goal.returns-in-Inserts
returns-in-Inserts c = inserted-is _ c.in-Inserts.is c.requires c.copy_within.ensures.after

pub returns-in-Replaces : goal.returns-in-Replaces
returns-in-Replaces c = replaced-is _ c.in-Replaces.is c.requires c.copy_within-in-Replaces.ensures.after
