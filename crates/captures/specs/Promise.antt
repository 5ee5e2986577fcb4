-- What the writer of an image promises: the definition's answer, count and buffer; and document 02's "Restoring what was written gives that
-- table's part of the store", of the bytes that it wrote, with the floor that stands in them. Assumes nothing.
use Rattle.std.specs.Prelude.{ℕ, ◌≡◌, take}
use Rattle.forms.specs.Bytes.{Bytes}
use Rattle.rules.specs.Answers.{Accepted}
use Rattle.rules.specs.Outcomes.{Wrote}
use Rattle.rules.specs.Box.{Box}
use Rattle.rules.specs.Written.{WroteAs}
use Rattle.rules.specs.Calls.{State}
use Rattle.rules.specs.Restore.{restore}
use Rattle.rules.specs.Capture.{part_of, capture_image}

-- the bytes that were written
abbrev pub image_in : Wrote → Bytes → Bytes
image_in r out = take r.count out

pub record ImageWritten (floor t : ℕ) (b : Box) (buffer : Bytes) (r : Wrote) (out : Bytes) : Type 0 where
  pub captured : WroteAs (capture_image floor t b buffer) r out
  -- into whatever store
  pub restores : r.answer ≡ Accepted → (old : State) → restore (image_in r out) old ≡ record { answer = Accepted; state = record { box = part_of t b; floor = floor } }
