-- The walk of a collection down the table: what it keeps of the lines that it has passed, one line at a time. proofs/PassLaws and
-- proofs/WalkLaws say what that is in the box.
-- Assumes nothing.
use Rattle.std.specs.Prelude.{ℕ, ◌+◌, ◌≤◌, Bool, true, false, ltb, length, None, Some}
use Rattle.std.specs.Prelude.{Option as Maybe}
use Rattle.std.proofs.Math.Option.{Option, some, none}
use Rattle.forms.specs.Bytes.{Bytes, eq_bytes}
use Rattle.forms.specs.Key.{Key}
use Rattle.forms.specs.Places.{given_part}
use Rattle.forms.specs.declared.part.Part.{Part}
use Rattle.rules.specs.declared.records.Kind.{Kind}
use Rattle.rules.specs.declared.records.Kind.TheVariants.{Put, Delete, Rollback}
use Rattle.rules.specs.declared.room.Load.{Load}
use Rattle.laws.specs.Adds.{no_load, plus}
use Rattle.store.specs.declared.table.Slot.{Slot}
use Rattle.store.specs.declared.table.RecordSlot.{RecordSlot}
use Rattle.store.specs.declared.table.Line.{Line}
use Rattle.store.specs.declared.table.Line.TheVariants.{Standing, Finished}
use Rattle.store.specs.View.{eight_at, place_of, key_of}
use Rattle.changes.specs.Loads.{record_size, Small}
use Rattle.collects.specs.declared.passing.Passed.{Passed}

abbrev pub nothing_passed : Passed
nothing_passed = record { newer = None; stays = true; held = None; freed = no_load }

-- the first line that counts, if there is one, has this key
abbrev pub is_key : Key → Option Key → Bool
is_key k none = false
is_key k (some j) = eq_bytes k j

-- ---- one line more

abbrev pub line_kept : Passed → Maybe Part → Maybe ℕ → Passed
line_kept p newer held = record { newer = newer; stays = true; held = held; freed = p.freed }

-- "drop the rest with their rows"
abbrev pub record_dropped : Passed → Maybe Part → Load → Passed
record_dropped p newer l = record { newer = newer; stays = false; held = p.held; freed = plus p.freed l }

-- a Put at or below F, by whether a newer record of its key counts
abbrev pub put_passed : Bool → Passed → Part → Load → Passed
put_passed true p key l = record_dropped p (Some key) l
put_passed false p key l = line_kept p (Some key) p.held

-- "of records stamped at or below F keep the newest that is not a Rollback, if it is a Put"
abbrev pub low_passed : Kind → Bool → Passed → Part → Load → Passed
low_passed Put newer p key l = put_passed newer p key l
low_passed Delete newer p key l = record_dropped p (Some key) l
low_passed Rollback newer p key l = record_dropped p p.newer l

-- a record, by whether it is stamped above F
abbrev pub record_by : Bool → Kind → Bool → Passed → Part → Load → Passed
record_by true kind newer p key l = line_kept p p.newer p.held
record_by false kind newer p key l = low_passed kind newer p key l

abbrev pub record_passed : ℕ → Bytes → Passed → Slot → RecordSlot → Passed
record_passed f area p s w =
    record_by (ltb f (eight_at area (place_of s + s.len))) w.kind (is_key (key_of area s) (given_part area p.newer))
    p (record { at = place_of s; len = s.len }) (record_size w.kind s.len w.rowlen)

-- a lock, by whether it starts above F
abbrev pub lock_passed : Bool → Passed → ℕ → Passed
lock_passed true p i = line_kept p p.newer p.held
lock_passed false p i = line_kept p p.newer (Some i)

abbrev pub passed_in : ℕ → Bytes → Passed → Slot → ℕ → Line → Passed
passed_in f area p s i (Standing l) = lock_passed (ltb f (eight_at area (place_of s + s.len + 8))) p i
passed_in f area p s i (Finished w) = record_passed f area p s w

abbrev pub line_passed : ℕ → Bytes → Passed → Slot → ℕ → Passed
line_passed f area p s i = passed_in f area p s i s.line

-- the first key that counts, if there is one, lies in the area
abbrev pub NewerIn : Bytes → Maybe Part → Type 0
NewerIn area None = Unit {0}
NewerIn area (Some key) = key.at + key.len ≤ length area

-- what that asks: both keys and the line's numbers lie in the area, and no sum overflows
pub record PassAsks (area : Bytes) (p : Passed) (s : Slot) : Type 0 where
  pub numbers_in : place_of s + s.len + 16 ≤ length area
  pub key_in : NewerIn area p.newer
  pub small : Small p.freed
