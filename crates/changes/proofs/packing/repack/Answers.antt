-- `changes::packing::repack` meets its contract.
-- Assumes nothing.
use Rattle.changes.proofs.PackLaws.{pack-asks, repacked}
use Prim.Native.Nat.{ℕ}
use lib.ListN.{length-replicate}
use Rattle.changes.proofs.packing.repack.Goals as goal

pub pack-requires : goal.pack-requires
pack-requires c = pack-asks c.requires (length-replicate {A = ℕ} 68608 0)

pub returns : goal.returns
returns c = repacked c.requires c.pack.ensures c.put_bytes.ensures
