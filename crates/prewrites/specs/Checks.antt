-- What the check of an entry of a prewrite asks and finds.
-- Assumes nothing.
use Rattle.std.specs.Prelude.{ℕ, ◌+◌, ◌≤◌, ◌≡◌, Bool, length, None, Some}
use Rattle.std.proofs.Math.Option.{Option, none, some}
use Rattle.forms.specs.Bytes.{Bytes, bytes_at}
use Rattle.forms.specs.Key.{Key, key_form}
use Rattle.forms.specs.Row.{Row}
use Rattle.forms.specs.Readers.{when}
use Rattle.forms.specs.Batch.{Mutation}
use Rattle.rules.specs.Answers.{Answer, ◌▸◌, need}
use Rattle.rules.specs.declared.room.Load.{Load}
use Rattle.rules.specs.Box.{Lock}
use Rattle.rules.specs.Calls.{row_argument}
use Rattle.rules.specs.Prewrite.{PrewriteTerms, lock_step, prewrite_entry, unless_locked}
use Rattle.laws.specs.Adds.{no_load, plus, lock_load, of_row, prewrite_adds}
use Rattle.store.specs.declared.table.Store.{Store}
use Rattle.store.specs.declared.views.LockView.{LockView}
use Rattle.store.specs.Made.{Built}
use Rattle.lookups.specs.KeyStates.{Locked, locked_by}
use Rattle.calls.specs.Weights.{Light, Steps}
use Rattle.calls.specs.declared.weights.Weight.{Weight}
use Rattle.prewrites.specs.declared.heads.LockTerms.{LockTerms}

abbrev pub with_primary : LockTerms → Key → PrewriteTerms
with_primary t p = record { txn = t.txn; start = t.start; primary = p; ttl = t.ttl }

abbrev pub entry_of : Bytes → Bool → Bytes → Mutation
entry_of k put r = record { key = k; row = when put r }

-- the steps of a prewrite at one entry, which frees nothing; it adds a key twice, a primary and a row at most, each in a part of 255 bytes
abbrev pub steps_of : PrewriteTerms → Steps Mutation
steps_of h = record { check = prewrite_entry h; adds = prewrite_adds h; frees = λ b m. no_load; add = 1020; free = 0 }

-- ---- what an entry adds

-- what an entry adds where the key has this lock or none
abbrev pub adds_of : Key → Key → Option Row → Option Lock → Load
adds_of k p row lock = unless_locked lock (plus (lock_load k p) (of_row k row)) no_load

pub record PartsShort (key primary row : Bytes) : Type 0 where
  pub key_short : length key ≤ 255
  pub primary_short : length primary ≤ 255
  pub row_short : length row ≤ 255

pub record Weighs (key primary : Bytes) (row : Option Row) (lock : Locked) (r : Weight) : Type 0 where
  pub added_is : (area : Bytes) → r.added ≡ adds_of key primary row (locked_by area lock)
  pub freed_is : r.freed ≡ no_load
  pub light : Light 1 1020 0 r

-- ---- the lock that was found

-- primary and row end by n
pub record IntentIn (n : ℕ) (i : LockView) : Type 0 where
  pub primary_in : i.at + i.len ≤ n
  pub row-in : i.rowat + i.rowlen ≤ n

abbrev pub LockIn : ℕ → Locked → Type 0
LockIn n None = Unit {0}
LockIn n (Some i) = IntentIn n i

-- the bytes at a lock's row
abbrev pub row_held : Bytes → Locked → Option Row
row_held area None = none
row_held area (Some i) = some (bytes_at area i.rowat i.rowlen)

-- ---- one entry

-- "1, 2; ..; any record stamp at or above start, 8; ..", by what was found at the key
abbrev pub entry_steps : PrewriteTerms → Mutation → Bool → Option Row → Option Lock → Answer
entry_steps h m below stored lock =
    need (key_form m.key) 1 ▸
    need (row_argument m.row) 2 ▸
    need below 8 ▸
    lock_step h m.row stored lock

pub record EntryAsks (st : Store) (area key primary row : Bytes) : Type 0 where
  pub built : Built st area
  pub short : PartsShort key primary row
