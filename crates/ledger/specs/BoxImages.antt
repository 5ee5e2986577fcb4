-- Document 02, CR 1: "Restoring what was written gives that table's part of the store, and two stores holding only that table have equal
-- bytes exactly when they hold the same entries." CR 7: "CR 1's equal bytes now need equal floors too". Said of the boxes that stores show and of
-- their floors; proofs/BoxImages.antt has the theorems.
-- Assumes nothing.
use Rattle.std.specs.Prelude.{ℕ, ◌^◌, ◌<◌, ◌≡◌, true}
use Rattle.rules.specs.Answers.{Accepted}
use Rattle.rules.specs.Box.{Box, in_order}
use Rattle.rules.specs.Room.{room_for}
use Rattle.rules.specs.Calls.{State}
use Rattle.rules.specs.Restore.{restore}
use Rattle.rules.specs.Capture.{part_of, image_of, Word, Words}
use Rattle.ledger.specs.Tidy.{Tidy, LocksAbove}

-- what the box of every store has, with its floor
pub record Stored (floor : ℕ) (b : Box) : Type 0 where
  pub tidy : Tidy b
  pub order : in_order b ≡ true
  pub room : room_for b ≡ true
  pub words : Words b
  pub above : LocksAbove floor b
  pub floor_word : Word floor

-- a table number that is not refused: 4 bytes, "not zero"
pub record TableNumber (t : ℕ) : Type 0 where
  pub above : 0 < t
  pub small : t < 256 ^ 4

-- "Restoring what was written gives that table's part of the store", and its floor, into whatever store
abbrev pub CaptureRestores : ℕ → ℕ → Box → Type 0
CaptureRestores floor t b = (old : State) → restore (image_of floor t b) old ≡ record { answer = Accepted; state = record { box = part_of t b; floor = floor } }

-- "have equal bytes exactly when they hold the same entries", and "need equal floors too"; of the table's parts of any two stores
abbrev pub EqualBytes : ℕ → ℕ → Box → ℕ → Box → Type 0
EqualBytes t f b g c = (image_of f t b ≡ image_of g t c → (f ≡ g) × (part_of t b ≡ part_of t c)) × (f ≡ g → part_of t b ≡ part_of t c → image_of f t b ≡ image_of g t c)

-- "two stores holding only that table"
abbrev pub HoldsOnly : ℕ → Box → Type 0
HoldsOnly t b = part_of t b ≡ b

abbrev pub EqualBytesOnly : ℕ → ℕ → Box → ℕ → Box → Type 0
EqualBytesOnly t f b g c = HoldsOnly t b → HoldsOnly t c → (image_of f t b ≡ image_of g t c → (f ≡ g) × (b ≡ c)) × (f ≡ g → b ≡ c → image_of f t b ≡ image_of g t c)

-- what is written is the one image of its entries: restored and written again, it is the same
abbrev pub Canonical : ℕ → ℕ → Box → Type 0
Canonical floor t b = (old : State) → image_of (restore (image_of floor t b) old).state.floor t (restore (image_of floor t b) old).state.box ≡ image_of floor t b
