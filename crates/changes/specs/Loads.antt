-- What a line adds to the tallies of a box, by how long its parts are.
-- Assumes nothing.
use Rattle.lookups.specs.KeyStates.{Locked}
use Rattle.std.specs.Prelude.{ℕ, ◌+◌, ◌≤◌, None, Some}
use Rattle.rules.specs.declared.records.Kind.{Kind}
use Rattle.rules.specs.declared.records.Kind.TheVariants.{Put, Delete, Rollback}
use Rattle.rules.specs.declared.room.Load.{Load}
use Rattle.laws.specs.Adds.{no_load, plus, minus}

abbrev pub row_size : Kind → ℕ → ℕ → Load
row_size Put key row = record { lines = 0; locks = 0; defaults = 1; bytes = key + row }
row_size Delete key row = no_load
row_size Rollback key row = no_load

abbrev pub lock_size : Kind → ℕ → ℕ → ℕ → Load
lock_size kind key primary row = record { lines = 1; locks = 1; defaults = (row_size kind key row).defaults; bytes = key + primary + (row_size kind key row).bytes }

abbrev pub record_size : Kind → ℕ → ℕ → Load
record_size kind key row = record { lines = 1; locks = 0; defaults = (row_size kind key row).defaults; bytes = key + (row_size kind key row).bytes }

-- a lock that goes, with its row
abbrev pub freed_by : Locked → ℕ → Load
freed_by None key = no_load
freed_by (Some i) key = lock_size i.kind key i.len i.rowlen

abbrev pub FreedAsks : Locked → ℕ → Type 0
FreedAsks None key = Unit {0}
FreedAsks (Some i) key = key + i.len + (key + i.rowlen) ≤ 1000000

-- ---- sums and differences

pub record Small (l : Load) : Type 0 where
  pub lines : l.lines ≤ 1000000000
  pub locks : l.locks ≤ 1000000000
  pub defaults : l.defaults ≤ 1000000000
  pub bytes : l.bytes ≤ 1000000000

pub record Within (a b : Load) : Type 0 where
  pub lines : a.lines ≤ b.lines
  pub locks : a.locks ≤ b.locks
  pub defaults : a.defaults ≤ b.defaults
  pub bytes : a.bytes ≤ b.bytes

-- ---- a record comes, and its key's lock goes, if it has one

pub record LoadAsks (old : Load) (lock : Locked) (key row : ℕ) : Type 0 where
  pub key_in : key ≤ 255
  pub row-in : row ≤ 255
  pub small : Small old
  pub freed_asks : FreedAsks lock key
  pub freed_in : Within (freed_by lock key) old

abbrev pub load_after : Load → Locked → ℕ → Kind → ℕ → Load
load_after old lock key kind row = plus (minus old (freed_by lock key)) (record_size kind key row)
