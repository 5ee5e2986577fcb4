-- A page or an image that was written lies in the lent buffer.
-- Assumes nothing.
use Prim.Native.Nat.{ℕ, ◌≤◌}
use mathlib.Core.Path.{◌≡◌, refl, sym, ap}
use mathlib.Core.Bool.{Bool, true, false, not}
use native.Mathlib.Omega.{arith}
use borrow.Author.Tests.{leb-true}
use lib.ListN.{length}
use lib.Dec.{leb, eqb}
use Rattle.std.specs.Prelude.{Result, Ok, Err}
use Rattle.std.specs.Result.{result_unwrap_or}
use Rattle.forms.specs.Bytes.{Bytes}
use Rattle.rules.specs.Answers.{Reply, nothing, shown, refused}
use Rattle.rules.specs.Box.{Box}
use Rattle.rules.specs.Page.{Bounds, Limits, Page, page}
use Rattle.rules.specs.Written.{page_bytes, key_row_bytes, Written, write_if, written, scan_page, WroteAs}
use Rattle.rules.specs.Outcomes.{wrote, value_or}
use Rattle.rules.specs.declared.answers.Refusal.{Refusal}
use Rattle.rules.specs.Capture.{image_of, capture_if, capture_image}

count-if : (t : Bool) (bytes out : Bytes) → t ≡ leb (length bytes) (length out) → (write_if t bytes out).count ≤ length out
unfolding write_if
count-if true bytes out e = leb-true (length bytes) (length out) (sym e)
count-if false bytes out e = omega arith

count-in : {A : Type 0} (f : A → Bytes) (r : Reply (Page A)) (out : Bytes) → (written f r out).count ≤ length out
unfolding written
count-in f nothing out = omega arith
count-in f (refused v) out = omega arith
count-in f (shown p) out = count-if (leb (length (page_bytes f p)) (length out)) (page_bytes f p) out refl

-- what was written fits the buffer, which keeps its length
fits : {w : Written} {o : Result ℕ Refusal} {n : ℕ} (out : Bytes) {out' : Bytes} → w.count ≤ length out → WroteAs w (wrote o) out' → o ≡ Ok n → length out' ≡ length out → n ≤ length out'
fits out h v e l = omega (arith, h, v.count_is, ap (value_or 0) e, l)

pub page-fits : (floor : ℕ) (a : Bounds) (t : ℕ) (l : Limits) (b : Box) (out : Bytes) {o : Result ℕ Refusal} {n : ℕ} {out' : Bytes} → WroteAs (scan_page floor a t l b out) (wrote o) out' → o ≡ Ok n → length out' ≡ length out → n ≤ length out'
unfolding scan_page
page-fits floor a t l b out = fits out (count-in key_row_bytes (page floor a t l b) out)

capture-in : (k : Bool) (bytes out : Bytes) → (capture_if k bytes out).count ≤ length out
unfolding capture_if
capture-in true bytes out = count-if (leb (length bytes) (length out)) bytes out refl
capture-in false bytes out = omega arith

count-of : (o : Result ℕ Refusal) → result_unwrap_or o 0 ≡ value_or 0 o
count-of (Ok n) = refl
count-of (Err r) = refl

pub image-fits : (floor t : ℕ) (b : Box) (out : Bytes) (o : Result ℕ Refusal) {n : ℕ} {out' : Bytes} → WroteAs (capture_image floor t b out) (wrote o) out' → n ≡ result_unwrap_or o 0 → length out' ≡ length out → n ≤ length out'
unfolding capture_image
image-fits floor t b out o v e l = omega (arith, v.count_is, capture-in (not (eqb t 0)) (image_of floor t b) out, e, count-of o, l)
