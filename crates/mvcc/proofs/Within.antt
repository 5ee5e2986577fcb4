-- What a page call, the writer of an image or the converter has written lies in the lent buffer: the count is at most the buffer's length. A
-- caller takes the part `out[..count]` by the law of the call that it made, from the call's `ensures`.
-- Assumes nothing.
use Prim.Native.Nat.{ℕ, ◌≤◌}
use mathlib.Core.Path.{◌≡◌, refl, sym}
use mathlib.Core.Bool.{Bool, true, false, not}
use native.Mathlib.Omega.{arith}
use borrow.Author.Tests.{leb-true}
use lib.ListN.{length}
use lib.Dec.{leb, eqb}
use Rattle.forms.specs.Bytes.{Bytes}
use Rattle.rules.specs.Answers.{Reply, nothing, shown, refused}
use Rattle.rules.specs.Box.{Box}
use Rattle.rules.specs.Page.{Bounds, Limits, Page, page, intent_page, conflict_page}
use Rattle.rules.specs.Written.{Written, page_bytes, key_row_bytes, key_lock_bytes, write_if, written, scan_page, scan_intent_page, scan_conflicting_intents, WroteAs}
use Rattle.rules.specs.Outcomes.{Wrote}
use Rattle.rules.specs.Capture.{image_of, capture_if, capture_image}
use Rattle.rules.specs.Image.{old_image}
use Rattle.rules.specs.Convert.{convertible, converted_bytes, convert_if, convert_image}

count-if : (t : Bool) (bytes out : Bytes) → t ≡ leb (length bytes) (length out) → (write_if t bytes out).count ≤ length out
unfolding write_if
count-if true bytes out e = leb-true (length bytes) (length out) (sym e)
count-if false bytes out e = omega arith

count-in : {A : Type 0} (f : A → Bytes) (r : Reply (Page A)) (out : Bytes) → (written f r out).count ≤ length out
unfolding written
count-in f nothing out = omega arith
count-in f (refused v) out = omega arith
count-in f (shown p) out = count-if (leb (length (page_bytes f p)) (length out)) (page_bytes f p) out refl

capture-in : (k : Bool) (bytes out : Bytes) → (capture_if k bytes out).count ≤ length out
unfolding capture_if
capture-in true bytes out = count-if (leb (length bytes) (length out)) bytes out refl
capture-in false bytes out = omega arith

convert-in : (k : Bool) (bytes out : Bytes) → (convert_if k bytes out).count ≤ length out
unfolding convert_if
convert-in true bytes out = count-if (leb (length bytes) (length out)) bytes out refl
convert-in false bytes out = omega arith

module _ {r : Wrote} {out' : Bytes} where
  pub page-within : (floor : ℕ) (a : Bounds) (t : ℕ) (l : Limits) (b : Box) (out : Bytes) → WroteAs (scan_page floor a t l b out) r out' → r.count ≤ length out
  unfolding scan_page
  page-within floor a t l b out v = omega (arith, v.count_is, count-in key_row_bytes (page floor a t l b) out)

  pub intents-within : (a : Bounds) (limit : ℕ) (b : Box) (out : Bytes) → WroteAs (scan_intent_page a limit b out) r out' → r.count ≤ length out
  unfolding scan_intent_page
  intents-within a limit b out v = omega (arith, v.count_is, count-in key_lock_bytes (intent_page a limit b) out)

  pub conflicts-within : (a : Bounds) (t : ℕ) (l : Limits) (b : Box) (out : Bytes) → WroteAs (scan_conflicting_intents a t l b out) r out' → r.count ≤ length out
  unfolding scan_conflicting_intents
  conflicts-within a t l b out v = omega (arith, v.count_is, count-in key_lock_bytes (conflict_page a t l b) out)

  pub image-within : (floor t : ℕ) (b : Box) (out : Bytes) → WroteAs (capture_image floor t b out) r out' → r.count ≤ length out
  unfolding capture_image
  image-within floor t b out v = omega (arith, v.count_is, capture-in (not (eqb t 0)) (image_of floor t b) out)

  pub converted-within : (s out : Bytes) → WroteAs (convert_image s out) r out' → r.count ≤ length out
  unfolding convert_image
  converted-within s out v = omega (arith, v.count_is, convert-in (convertible (old_image s)) (converted_bytes s) out)
