-- `actions::apply_step` meets its contract.
-- Assumes nothing.
use Rattle.actions.proofs.ApplyEntryLaws.{step-asks, step-done}
use Prim.Native.Nat.{◌-◌}
use Rattle.actions.proofs.apply_step.Goals as goal

pub put_record-requires : goal.put_record-requires
put_record-requires c = rw c.bytes_of-bytes.ensures (step-asks c.requires.0 c.requires.1 c.kind_for-kind.ensures)

pub returns : goal.returns
returns c = let q = c.put_record.ensures in (q.0, step-done c.requires.0 c.requires.1 c.kind_for-kind.ensures (rw c.bytes_of-bytes.ensures at q.1))
