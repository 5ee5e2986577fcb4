-- What an image takes from a list of slots: which lines are of its sections, the bytes of a line's entry, and the rows that Put lines carry.
-- Assumes nothing.
use Rattle.std.specs.Prelude.{ℕ, ◌+◌, ◌≤◌, ◌<◌, ◌≡◌, Bool, true, false, ◌&&◌, List, ◌++◌, map, length}
use Rattle.seqs.specs.Tables.{All}
use Rattle.forms.specs.Bytes.{Bytes, piece_bytes}
use Rattle.forms.specs.Key.{key_form}
use Rattle.forms.specs.Numbers.{digits, only_if}
use Rattle.rules.specs.Read.{those}
use Rattle.rules.specs.declared.records.Kind.TheVariants.{Put}
use Rattle.rules.specs.Box as box
use Rattle.rules.specs.Box.{start_of, kind_in, eq_kind}
use Rattle.rules.specs.Written.{lock_bytes, all_bytes}
use Rattle.rules.specs.Image.{Image}
use Rattle.rules.specs.Restore.{of_table, no_second, like_line}
use Rattle.rules.specs.Capture.{row_of_table, entries_of, record_bytes}
use Rattle.store.specs.declared.table.Line.{Line}
use Rattle.store.specs.declared.table.Line.TheVariants.{Standing, Finished}
use Rattle.store.specs.declared.table.Slot.{Slot}
use Rattle.store.specs.View.{place_of, past, key_of, line_of, row_in, default_in, stored}
use Rattle.picks.specs.declared.slots.Section.{Section}
use Rattle.picks.specs.declared.slots.Section.TheVariants.{Locks, Writes}

-- ---- lines

abbrev pub in_section : Section → box.Line → Bool
in_section Locks (box.Standing l) = true
in_section Locks (box.Finished w) = false
in_section Writes (box.Standing l) = false
in_section Writes (box.Finished w) = true

-- of the section and of the table
abbrev pub belongs : Section → ℕ → box.KeyLine → Bool
belongs what t e = in_section what e.line && of_table t e.key

-- a Put of the table
abbrev pub is_put : ℕ → box.KeyLine → Bool
is_put t e = eq_kind (kind_in e.line) Put && of_table t e.key

-- its start, and 0 of any other line
abbrev pub put_start : ℕ → box.KeyLine → ℕ
put_start t e = only_if (is_put t e) (start_of e.line)

abbrev pub line_bytes : box.Line → Bytes
line_bytes (box.Standing l) = lock_bytes l
line_bytes (box.Finished w) = record_bytes w

-- "key length, key, lock"; "key length, key, 8-byte write stamp, start, commit, kind byte"
unfoldable pub entry_bytes : box.KeyLine → Bytes
entry_bytes e = piece_bytes e.key ++ line_bytes e.line

-- ---- slots

-- the row that a slot's line carries, where it is a Put
abbrev pub row_at : Bytes → Slot → box.Default
row_at area s = record { key = key_of area s; start = start_of (line_of area s).line; row = row_in area s }

-- its pieces have no more bytes than a length byte can tell
abbrev pub ShortLine : Line → Type 0
ShortLine (Standing l) = (l.plen ≤ 255) × (l.rowlen ≤ 255)
ShortLine (Finished w) = w.rowlen ≤ 255

-- a slot that can be written
pub record SlotIn (area : Bytes) (s : Slot) : Type 0 where
  pub within : place_of s + s.len + past s.line ≤ length area
  pub form : key_form (key_of area s) ≡ true
  pub short : ShortLine s.line
  pub starts : 0 < start_of (line_of area s).line

-- ---- lists of slots

-- in order, and with no second line of a key and start
pub record Lined (slots : List Slot) (area : Bytes) : Type 0 where
  pub few : length slots ≤ 1024
  pub holds : All (SlotIn area) slots
  pub sorted : box.ordered box.before (map (line_of area) slots) ≡ true
  pub once : no_second like_line (map (line_of area) slots) ≡ true

abbrev pub box_in : List Slot → Bytes → box.Box
box_in slots area = record { lines = map (line_of area) slots; defaults = stored (map (default_in area) slots) }

-- its lines of a section, and its rows of the table
abbrev pub lines_in : List Slot → Bytes → ℕ → Section → List box.KeyLine
lines_in slots area t what = those (belongs what t) (map (line_of area) slots)

abbrev pub rows_in : List Slot → Bytes → ℕ → List box.Default
rows_in slots area t = those (row_of_table t) (stored (map (default_in area) slots))

-- the locks, and after them the count of the writes and the writes
abbrev pub lines_bytes : List Slot → Bytes → ℕ → ℕ → Bytes
lines_bytes slots area t writes = all_bytes entry_bytes (lines_in slots area t Locks) ++ (digits 2 writes ++ all_bytes entry_bytes (lines_in slots area t Writes))

abbrev pub entries_in : ℕ → List Slot → Bytes → ℕ → Image
entries_in floor slots area t = entries_of floor t (box_in slots area)
