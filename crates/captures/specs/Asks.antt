-- What the writers ask: that what they write lies in the area, and that there is room for it.
-- Assumes nothing.
use Rattle.std.specs.Prelude.{ℕ, ◌+◌, ◌≤◌, ◌≡◌, List, length}
use Rattle.forms.specs.Bytes.{Bytes}
use Rattle.rules.specs.Written.{all_bytes}
use Rattle.store.specs.declared.table.Slot.{Slot}
use Rattle.store.specs.View.{place_of}
use Rattle.picks.specs.declared.sizes.Sizes.{Sizes}
use Rattle.picks.specs.declared.slots.Section.TheVariants.{Locks, Writes}
use Rattle.picks.specs.Lines.{entry_bytes, SlotIn, Lined, lines_in}
use Rattle.picks.specs.Sizes.{SizesAre}

pub record KeyAsks (area : Bytes) (s : Slot) (at : ℕ) (out : Bytes) : Type 0 where
  pub within : place_of s + s.len ≤ length area
  pub room : at + (s.len + 1) ≤ length out

-- the bytes of a slot's entry
pub record EntryAsks (area : Bytes) (s : Slot) (bytes : Bytes) (at : ℕ) (out : Bytes) : Type 0 where
  pub slot : SlotIn area s
  pub room : at + length bytes ≤ length out

-- the bytes of a section's entries
pub record SectionAsks (slots : List Slot) (area bytes out : Bytes) : Type 0 where
  pub lined : Lined slots area
  pub room : length bytes ≤ length out

-- the locks end at w, and the writes have room past it
pub record LinesAsk (slots : List Slot) (area : Bytes) (t w writes : ℕ) (out : Bytes) : Type 0 where
  pub lined : Lined slots area
  pub place : w ≡ length (all_bytes entry_bytes (lines_in slots area t Locks))
  pub room : w + (2 + length (all_bytes entry_bytes (lines_in slots area t Writes))) ≤ length out

pub record ImageAsks (slots : List Slot) (area : Bytes) (t : ℕ) (z : Sizes) (out : Bytes) : Type 0 where
  pub lined : Lined slots area
  pub sizes : SizesAre slots area t z
  pub room : z.bytes + 18 ≤ length out
