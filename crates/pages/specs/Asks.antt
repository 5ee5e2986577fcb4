-- What the writers of a page ask: that what they write lies in the area, and that there is room for it.
-- Assumes nothing.
use Rattle.std.specs.Prelude.{ℕ, ◌+◌, ◌≤◌, List, length}
use Rattle.seqs.specs.Tables.{All, Table}
use Rattle.forms.specs.Bytes.{Bytes}
use Rattle.rules.specs.Written.{all_bytes, page_bytes}
use Rattle.store.specs.declared.table.Slot.{Slot}
use Rattle.store.specs.View.{no_slot}
use Rattle.walks.specs.Walked.{Walked, same, page_of, entry_bytes, SlotIn}

-- a line that can be written, and room for its entry from `at` on
pub record EntryAsks (area : Bytes) (s : Slot) (at : ℕ) (out : Bytes) : Type 0 where
  pub line : SlotIn area s
  pub room : at + length (entry_bytes area s) ≤ length out

-- lines that can be written, and room for their entries
pub record EntriesAsk (area : Bytes) (slots : List Slot) (out : Bytes) : Type 0 where
  pub lines : All (SlotIn area) slots
  pub room : length (all_bytes (entry_bytes area) slots) ≤ length out

-- the lines of a walk can be written, and there is room for their page
pub record PageAsks (area : Bytes) (w : Walked) (out : Bytes) : Type 0 where
  pub table : Table (SlotIn area) no_slot 1024 w.count w.slots
  pub room : length (page_bytes same (page_of area w)) ≤ length out
