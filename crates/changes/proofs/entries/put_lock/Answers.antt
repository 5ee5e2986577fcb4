-- `changes::entries::put_lock` meets its contract.
-- Assumes nothing.
use Rattle.changes.proofs.PutLockLaws.{put-insert, put-key, put-row, put-primary, put_small, put-added, put-room, put-at, lock-put}
use native.Mathlib.Omega.{arith}
use Rattle.changes.proofs.entries.put_lock.Goals as goal

pub append_lock-top-requires : goal.append_lock-top-requires
append_lock-top-requires c = rw c.bytes_of-bytes.ensures (omega (arith, put-room c.requires c.pairs_in-at.ensures, c.requires.built.area_long))

pub lock_slot-requires : goal.lock_slot-requires
lock_slot-requires c = record { at_bound = put-at c.requires c.pairs_in-at.ensures; key_bound = rw c.bytes_of-bytes.ensures (put-key c.requires, put-primary c.requires, put-row c.requires) }

pub lock_load-added-requires : goal.lock_load-added-requires
lock_load-added-requires c = rw c.bytes_of-bytes.ensures (omega (arith, put-key c.requires, put-primary c.requires, put-row c.requires))

pub more-requires : goal.more-requires
more-requires c = (put_small c.requires, put-added c.requires c.kind_for-kind.result (rw c.bytes_of-bytes.ensures at c.lock_load-added.ensures))

pub returns : goal.returns
returns c = (put-insert c.requires, rw (c.lock_slot.ensures, c.bytes_of-bytes.ensures) (lock-put c.requires c.pairs_in-at.ensures c.kind_for-kind.ensures (rw c.bytes_of-bytes.ensures at c.append_lock-top.ensures) (rw c.bytes_of-bytes.ensures at c.lock_load-added.ensures) c.more.ensures))
