-- What filling a store with the lines of an image asks and leaves, a line at a time.
-- Assumes nothing.
use Rattle.std.specs.Prelude.{ℕ, ◌+◌, ◌≤◌, ◌≡◌, Bool, true, false, List, length, Some, None}
use Rattle.std.specs.Prelude.{Option as Maybe}
use Rattle.std.proofs.Math.Option.{Option, none, some}
use Rattle.forms.specs.Bytes.{Bytes}
use Rattle.forms.specs.Key.{Key}
use Rattle.forms.specs.Row.{Row}
use Rattle.forms.specs.Readers.{is_some}
use Rattle.rules.specs.declared.records.Kind.{Kind}
use Rattle.rules.specs.Box as box
use Rattle.store.specs.declared.table.Slot.{Slot}
use Rattle.store.specs.View.{line_of, if_put, carries, default_in, no_slot}
use Rattle.store.specs.Made.{LeanRow, SlotBelow, good_line}
use Rattle.changes.specs.Writes.{Past}
use Rattle.forms.specs.Places.{PartIn}
use Rattle.images.specs.Entries.{Raw, Lies}
use Rattle.images.specs.declared.entries.ImageEntry.{ImageEntry}
use Rattle.images.specs.Good.{kind_of, key_lock_of, key_record_of}
use Rattle.rules.specs.Restore.{kind_has_default}
use Rattle.restores.specs.declared.rows.RowPlace.{RowPlace}
use Rattle.restores.specs.Rows.{row_for}

-- ---- a line and its row

-- a line of the box, and the default that it carries
pub record Laid : Type 0 where
  pub line : box.KeyLine
  pub default : Option box.Default

abbrev pub carrying : box.KeyLine → Row → Laid
carrying e r = record { line = e; default = carries e r }

-- what a slot shows
abbrev pub laid_in : Bytes → Slot → Laid
laid_in area s = record { line = line_of area s; default = default_in area s }

-- the default of a Put of this key and start, with its row
abbrev pub default_for : List box.Default → Kind → Key → ℕ → Option box.Default
default_for ds kind k n = if_put kind (record { key = k; start = n; row = row_for kind (box.row_of k n ds) })

-- a line with the default of its key and start
abbrev pub laid : List box.Default → box.KeyLine → Laid
laid ds e = record { line = e; default = default_for ds (box.kind_in e.line) e.key (box.start_of e.line) }

-- how many bytes of the area it takes
abbrev pub row_bytes : Option box.Default → ℕ
row_bytes none = 0
row_bytes (some d) = length d.row

abbrev pub tail_bytes : box.Line → ℕ
tail_bytes (box.Standing l) = 8 + length l.primary
tail_bytes (box.Finished w) = 0

abbrev pub size_of : Laid → ℕ
size_of y = length y.line.key + 8 + 8 + row_bytes y.default + tail_bytes y.line.line

-- ---- it comes

-- the slot that shows it, its stretch from `top` to `end`, or from the byte after: it begins at a pair of bytes
pub record Comes (y : Laid) (area : Bytes) (top : ℕ) (r : Slot) (end : ℕ) (area' : Bytes) : Type 0 where
  pub past : Past area top area'
  pub shows : laid_in area' r ≡ y
  pub below : SlotBelow end r
  pub end_low : top ≤ end
  pub end_most : end ≤ top + 1 + size_of y

-- or the empty slot, and nothing is written
pub record Stays (area : Bytes) (top : ℕ) (r : Slot) (end : ℕ) (area' : Bytes) : Type 0 where
  pub none : r ≡ no_slot
  pub end_is : end ≡ top
  pub area_is : area' ≡ area

-- a place that counts
abbrev pub here : Bool → ℕ → Maybe ℕ
here true p = Some p
here false p = None

abbrev pub ComesIf : Maybe ℕ → (ℕ → box.KeyLine) → List box.Default → Bytes → ℕ → Slot → ℕ → Bytes → Type 0
ComesIf (Some p) at ds area top r end area' = Comes (laid ds (at p)) area top r end area'
ComesIf None at ds area top r end area' = Stays area top r end area'

-- ---- what that asks

abbrev pub line_from : Bool → Raw → box.KeyLine
line_from true x = record { key = x.key; line = box.Standing (key_lock_of x).lock }
line_from false x = record { key = x.key; line = box.Finished (key_record_of x).write }

abbrev pub tail_in : Bool → ImageEntry → ℕ
tail_in true e = 8 + e.piece.len
tail_in false e = 0

-- "its commit equals its write stamp": only the stamp is written
abbrev pub OneStamp : Bool → ImageEntry → Type 0
OneStamp true e = Unit {0}
OneStamp false e = e.third ≡ e.first

pub record WriteAsks (s : Bytes) (lock : Bool) (e : ImageEntry) (found : RowPlace) (area : Bytes) (top : ℕ) : Type 0 where
  pub lies : Lies s e
  pub row-in : PartIn s found.row
  pub lean : LeanRow (kind_of e.kind) found.row.len
  pub stamp : OneStamp lock e
  pub length_is : length area ≡ 131072
  pub room : top + 1 + e.key.len + 8 + 8 + found.row.len + tail_in lock e ≤ 131072

-- a good line that has its default, with place for its stretch
pub record LineAsks (x : box.KeyLine) (ds : List box.Default) (area : Bytes) (top : ℕ) : Type 0 where
  pub sorted : box.ordered box.row_before ds ≡ true
  pub has : kind_has_default (box.kind_in x.line) (is_some (box.row_of x.key (box.start_of x.line) ds)) ≡ true
  pub good : good_line x ≡ true
  pub length_is : length area ≡ 131072
  pub room : top + 1 + size_of (laid ds x) ≤ 131072

abbrev pub AsksIf : Maybe ℕ → (ℕ → box.KeyLine) → List box.Default → Bytes → ℕ → Type 0
AsksIf (Some p) at ds area top = LineAsks (at p) ds area top
AsksIf None at ds area top = Unit {0}
