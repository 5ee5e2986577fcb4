-- The steps of a rollback at a key, by what was found there, and what the key adds and frees.
-- Assumes nothing.
use Rattle.lookups.specs.KeyStates.{Found, Locked}
use Rattle.std.specs.Prelude.{ℕ, ◌≤◌, Bool, true, eqb, length, None, Some}
use Rattle.std.proofs.Math.Option.{Option, none, some}
use Rattle.forms.specs.Bytes.{Bytes}
use Rattle.forms.specs.Key.{Key, key_form}
use Rattle.rules.specs.Answers.{Answer, ◌▸◌, need}
use Rattle.rules.specs.declared.records.Kind.TheVariants.{Rollback}
use Rattle.rules.specs.declared.records.Record.{Record}
use Rattle.rules.specs.Box.{Lock, eq_kind}
use Rattle.rules.specs.Rollback.{rollback_key}
use Rattle.laws.specs.Adds.{rollback_adds, rollback_frees}
use Rattle.store.specs.declared.table.Store.{Store}
use Rattle.store.specs.Made.{Built}
use Rattle.changes.specs.Loads.{record_size, freed_by, FreedAsks}
use Rattle.calls.specs.Steps.{own_step}
use Rattle.calls.specs.Weights.{no_weight, Steps}
use Rattle.calls.specs.declared.weights.Weight.{Weight}

-- a key adds its record, and frees its lock and its row: a key, and a key twice, a primary and a row, each in a part of 255 bytes
abbrev pub steps_of : ℕ → ℕ → Steps Key
steps_of txn start = record { check = rollback_key txn start; adds = rollback_adds start; frees = rollback_frees start; add = 255; free = 1020 }

-- ---- one key, by what was found at it

-- the record with this start, if there is one, is a Rollback
abbrev pub rolled_by : Option Record → Bool
rolled_by none = true
rolled_by (some w) = eq_kind w.kind Rollback

-- "a record stamped with this start that is not its Rollback, 9": it has another start, since with this one it would be a Rollback
abbrev pub stamped_step : ℕ → ℕ → Option Lock → Option Record → Answer
stamped_step txn start lock none = own_step txn start lock
stamped_step txn start lock (some w) = need (eqb w.start start) 9

-- "1; .. with this start and not Rollback 8; a record stamped with this start ..", by the record with this start and the one stamped with it
abbrev pub key_steps : ℕ → ℕ → Key → Option Record → Option Record → Option Lock → Answer
key_steps txn start k with at lock =
    need (key_form k) 1 ▸
    need (rolled_by with) 8 ▸
    stamped_step txn start lock at

-- "Lock and its row go, a Rollback record comes", where none is stamped with this start
abbrev pub weight_of : Found → Locked → ℕ → Weight
weight_of (Some w) lock key = no_weight
weight_of None lock key = record { added = record_size Rollback key 0; freed = freed_by lock key }

pub record WeightAsks (lock : Locked) (key : ℕ) : Type 0 where
  pub short : key ≤ 255
  pub freed : FreedAsks lock key

pub record KeyAsks (st : Store) (area key : Bytes) : Type 0 where
  pub built : Built st area
  pub short : length key ≤ 255
