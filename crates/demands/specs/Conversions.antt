-- Document 02, CR 4, of the calls: the two questions about a row's bones, what the converter writes, and what restore answers to an image that was
-- not converted. Said of calls that kept their promises; nothing else is known of the code, and nothing else is asked for. proofs/Conversions.antt has
-- the theorems.
-- Assumes nothing.
use Rattle.std.specs.Prelude.{ℕ, ◌+◌, ◌≤◌, ◌<◌, ◌≡◌, true, false, length}
use mathlib.Core.List.{Memᴰ}
use Rattle.std.proofs.Math.Option.{some}
use Rattle.forms.specs.Bytes.{Bytes}
use Rattle.forms.specs.Row.{Row, old_row_form, row_form, bones_of, count_below}
use Rattle.rules.specs.Answers.{Accepted, No}
use Rattle.rules.specs.Outcomes.{Wrote}
use Rattle.rules.specs.Box.{Default}
use Rattle.rules.specs.Image.{Image, image, old_image}
use Rattle.rules.specs.Restore.{all_good, good_default, good_image_by}
use Rattle.rules.specs.Convert.{converted, growing}
use Rattle.rules.specs.Call.{Call}
use Rattle.captures.specs.Promise.{image_in}
use Rattle.calls.specs.Settled.{Changed}
use Rattle.rules.specs.Bones.{BoneShown, BonesShown}
use Rattle.demands.specs.Calls.{calling, Lent, paged, changed, boned, summed, after, Kept}

-- ---- the bones

-- "how many bones are shown": of how many numbers below the bone count `bone_shown` says yes
abbrev pub BonesSummed : Type 0
BonesSummed =
    (w : Lent) (r : Row) (b : BonesShown) (says : ℕ → BoneShown)
    → Kept w (calling (Call.Bones r)) (summed b)
    → ((n : ℕ) → n < (bones_of r).count → Kept w (calling (Call.Bone r n)) (boned (says n)))
    → b.shown ≡ count_below (λ n. (says n).shown) (bones_of r).count

-- "a bone number not below the count is 3"
abbrev pub BonePast : Type 0
BonePast = (w : Lent) (r : Row) (n : ℕ) (b : BoneShown) → Kept w (calling (Call.Bone r n)) (boned b) → row_form r ≡ true → (bones_of r).count ≤ n → b.answer ≡ No 3

-- ---- the converter

-- an image was given to the converter, and accepted: `count` bytes of the buffer are the new one
pub record Converts (w : Lent) (s : Bytes) (r : Wrote) (out : Bytes) : Type 0 where
  pub kept : Kept w (calling (Call.Convert s)) (paged r out)
  pub accepted : r.answer ≡ Accepted

-- what it wrote of an old image: its entries with floor 0, each row with its count and in form
pub record RowsAdded (s new : Bytes) : Type 0 where
  pub old : Image
  pub reads_old : old_image s ≡ some old
  pub reads_new : image new ≡ some (converted old)
  pub in_form : all_good (good_default old.table) (converted old).defaults ≡ true

-- "A converter adds a zero count to each row of an old image"; CR 7: "CR 4's converter writes floor 0"
abbrev pub RowsConverted : Type 0
RowsConverted = (w : Lent) (s : Bytes) (r : Wrote) (out : Bytes) → Converts w s r out → RowsAdded s (image_in r out)

-- "in the converter a fault by 01's image checks or a 255-byte row is 13, then a short buffer 12": without any of the three it is accepted. The
-- image grows by the 8 bytes of its floor and by one byte a row.
abbrev pub SoundConverted : Type 0
SoundConverted =
    (w : Lent) (s : Bytes) (r : Wrote) (out : Bytes) (i : Image)
    → Kept w (calling (Call.Convert s)) (paged r out)
    → old_image s ≡ some i
    → good_image_by old_row_form i ≡ true
    → all_good growing i.defaults ≡ true
    → length s + 8 + length i.defaults ≤ length w.buffer
    → r.answer ≡ Accepted

-- what was converted is not converted again
abbrev pub ConvertedOnce : Type 0
ConvertedOnce =
    (w v : Lent) (s : Bytes) (r q : Wrote) (out out' : Bytes)
    → Converts w s r out
    → Kept v (calling (Call.Convert (image_in r out))) (paged q out')
    → q.answer ≡ No 13

-- ---- restore

-- "a row without the section is .. 13 in an image": any row that is not of the form that stands, in an image that is. Store and area are as they were.
abbrev pub FormlessRefused : Type 0
FormlessRefused =
    (w : Lent) (s : Bytes) (i : Image) (d : Default) (r : Changed) (area : Bytes)
    → Kept w (calling (Call.Restore s)) (changed r area)
    → image s ≡ some i
    → Memᴰ d i.defaults
    → row_form d.row ≡ false
    → (r.answer ≡ No 13) × (after w (changed r area) ≡ w)

-- "an image with an unconverted row is refused": a row of document 01's own form
abbrev pub UnconvertedRefused : Type 0
UnconvertedRefused =
    (w : Lent) (s : Bytes) (i : Image) (d : Default) (r : Changed) (area : Bytes)
    → Kept w (calling (Call.Restore s)) (changed r area)
    → image s ≡ some i
    → Memᴰ d i.defaults
    → old_row_form d.row ≡ true
    → (r.answer ≡ No 13) × (after w (changed r area) ≡ w)
