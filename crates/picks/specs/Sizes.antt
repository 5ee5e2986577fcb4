-- How many entries a line brings to an image of a table and how many bytes they take, and the sizes of the whole.
-- Assumes nothing.
use Rattle.std.specs.Prelude.{ℕ, ◌+◌, ◌≤◌, ◌≡◌, List, length}
use Rattle.forms.specs.Bytes.{Bytes, AllBytes}
use Rattle.forms.specs.Numbers.{only_if}
use Rattle.rules.specs.declared.records.Kind.TheVariants.{Put}
use Rattle.rules.specs.Box.{kind_in, eq_kind}
use Rattle.rules.specs.Written.{all_bytes}
use Rattle.rules.specs.Restore.{of_table}
use Rattle.rules.specs.Capture.{default_bytes}
use Rattle.store.specs.declared.table.Slot.{Slot}
use Rattle.store.specs.View.{row_len, key_of, line_of}
use Rattle.picks.specs.declared.slots.Section.TheVariants.{Locks, Writes}
use Rattle.picks.specs.declared.sizes.Sizes.{Sizes}
use Rattle.picks.specs.Lines.{in_section, belongs, is_put, entry_bytes, row_at, SlotIn, lines_in, rows_in}

-- so small that what one line brings does not overflow them
pub record Small (most : ℕ) (z : Sizes) : Type 0 where
  pub defaults : z.defaults ≤ most
  pub locks : z.locks ≤ most
  pub writes : z.writes ≤ most
  pub held : z.held ≤ most
  pub bytes : z.bytes ≤ most

-- with the entry of a lock or of a write
pub record LineAdded (area : Bytes) (z : Sizes) (s : Slot) (r : Sizes) : Type 0 where
  pub defaults : r.defaults ≡ z.defaults
  pub locks : r.locks ≡ z.locks + only_if (in_section Locks (line_of area s).line) 1
  pub writes : r.writes ≡ z.writes + only_if (in_section Writes (line_of area s).line) 1
  pub held : r.held ≡ z.held + only_if (in_section Locks (line_of area s).line) (length (entry_bytes (line_of area s)))
  pub bytes : r.bytes ≡ z.bytes + length (entry_bytes (line_of area s))

pub record RowAsks (z : Sizes) (s : Slot) : Type 0 where
  pub small : Small 4194304 z
  pub short : row_len s.line ≤ 255

-- with the default that a Put carries
pub record RowAdded (area : Bytes) (z : Sizes) (s : Slot) (r : Sizes) : Type 0 where
  pub defaults : r.defaults ≡ z.defaults + only_if (eq_kind (kind_in (line_of area s).line) Put) 1
  pub locks : r.locks ≡ z.locks
  pub writes : r.writes ≡ z.writes
  pub held : r.held ≡ z.held
  pub bytes : r.bytes ≡ z.bytes + only_if (eq_kind (kind_in (line_of area s).line) Put) (length (default_bytes (row_at area s)))

pub record CountAsks (area : Bytes) (z : Sizes) (s : Slot) : Type 0 where
  pub slot : SlotIn area s
  pub small : Small 2097152 z

-- one line more
pub record LineCounted (area : Bytes) (t : ℕ) (z : Sizes) (s : Slot) (r : Sizes) : Type 0 where
  pub defaults : r.defaults ≡ z.defaults + only_if (is_put t (line_of area s)) 1
  pub locks : r.locks ≡ z.locks + only_if (belongs Locks t (line_of area s)) 1
  pub writes : r.writes ≡ z.writes + only_if (belongs Writes t (line_of area s)) 1
  pub held : r.held ≡ z.held + only_if (belongs Locks t (line_of area s)) (length (entry_bytes (line_of area s)))
  pub bytes : r.bytes ≡ z.bytes + only_if (of_table t (key_of area s)) (length (entry_bytes (line_of area s))) + only_if (is_put t (line_of area s)) (length (default_bytes (row_at area s)))

-- the sizes of a table's image; and that the area holds bytes, as the walk over it knows
pub record SizesAre (slots : List Slot) (area : Bytes) (t : ℕ) (z : Sizes) : Type 0 where
  pub defaults : z.defaults ≡ length (rows_in slots area t)
  pub locks : z.locks ≡ length (lines_in slots area t Locks)
  pub writes : z.writes ≡ length (lines_in slots area t Writes)
  pub held : z.held ≡ length (all_bytes entry_bytes (lines_in slots area t Locks))
  pub bytes : z.bytes ≡ length (all_bytes entry_bytes (lines_in slots area t Locks)) + length (all_bytes entry_bytes (lines_in slots area t Writes)) + length (all_bytes default_bytes (rows_in slots area t))
  pub small : z.bytes ≤ 2097152
  pub octets : AllBytes area
