-- Pages and images, told: that the answer carries the definition's buffer, how long that is, and that the lent buffer is the front of a longer
-- one.
-- Assumes nothing.
use Prim.Native.Nat.{ℕ, ◌+◌, ◌-◌, ◌≤◌, ◌<◌}
use native.Mathlib.Omega.{arith}
use mathlib.Core.Path.{◌≡◌, refl, sym, ◌∙◌, ap, subst}
use mathlib.Core.Bool.{Bool, true, false, not}
use lib.ListN.{length, take, drop, replicate, length-append, length-drop, length-replicate, replicate-append-replicate}
use lib.Seq.{take_at}
use lib.Dec.{leb, eqb}
use borrow.Author.Tests.{leb-true}
use Rattle.std.specs.Prelude.{Option as Maybe, None, Some}
use Rattle.std.specs.Borrow.{Bor}
use Rattle.forms.specs.Bytes.{Bytes}
use Rattle.rules.specs.Answers.{Reply, nothing, shown, refused}
use Rattle.rules.specs.Box.{Box}
use Rattle.rules.specs.Calls.{State}
use Rattle.rules.specs.Page.{Bounds, Limits, Page, page, intent_page, conflict_page}
use Rattle.rules.specs.Written.{Written, write_if, written, page_bytes, key_row_bytes, key_lock_bytes, scan_page, scan_intent_page, scan_conflicting_intents, WroteAs}
use Rattle.rules.specs.Image.{old_image}
use Rattle.rules.specs.Capture.{image_of, capture_if, capture_image}
use Rattle.rules.specs.Convert.{converted_bytes, convertible, convert_if, convert_image}
use Rattle.rules.specs.Call.{Call}
use Rattle.rules.specs.Outcomes.{Wrote}
use Rattle.bounds.specs.declared.asked.Bounds as asked
use Rattle.bounds.specs.Bounds.{bounds_of}
use Rattle.forms.specs.Readers.{given}
use Rattle.traces.specs.declared.args.Args.{Args}
use Rattle.traces.specs.Taken.{key_behind}
use Rattle.showing.specs.Told.{lent, paging, told}
use Rattle.showing.specs.Shows.{ShownTold, ShownOf}
use Rattle.showing.specs.declared.shown.Shown.{Shown}

-- ---- the lent buffer

-- the front of a buffer whose bytes are all alike
front : (n m x : ℕ) → n ≤ m → take n (replicate m x) ≡ replicate n x
front n m x h =
    let e : m ≡ n + (m - n) = omega arith in
    ap (λ (k : ℕ). take n (replicate k x)) e
    ∙ ap (take n) (sym (replicate-append-replicate n (m - n) x))
    ∙ take_at (replicate n x) (replicate (m - n) x) n (length-replicate {A = ℕ} n x)

-- A buffer holds what is no longer than it. Its length is a variable here: with a number in its place the prover would write the buffer out.
fits : {buffer : Bytes} (n most : ℕ) → buffer ≡ lent most → n ≤ most → n ≤ length buffer
fits n most e h = omega (arith, ap length e, length-replicate {A = ℕ} most 238)

short-in : (n : ℕ) → n < 65536 → n ≤ 65535
short-in n h = omega arith

pub long-in : (n : ℕ) → n < 262145 → n ≤ 262144
long-in n h = omega arith

-- a buffer for the longest image
pub fits-long : (n : ℕ) → n < 262145 → n ≤ length (lent 262144)
fits-long n h = fits {buffer = lent 262144} n 262144 refl (long-in n h)

-- ---- its length

-- what is written leaves the buffer as long as it was
write-long : (bytes buffer : Bytes) → length (write_if (leb (length bytes) (length buffer)) bytes buffer).buffer ≡ length buffer
unfolding write_if
write-long bytes buffer = by-room (leb (length bytes) (length buffer)) refl
  where
    by-room : (fits : Bool) → leb (length bytes) (length buffer) ≡ fits → length (write_if fits bytes buffer).buffer ≡ length buffer
    by-room true e = omega (arith, leb-true (length bytes) (length buffer) e, length-append bytes (drop (length bytes) buffer), length-drop (length bytes) buffer)
    by-room false e = refl

-- of a page
same_length : {A : Type 0} (f : A → Bytes) (r : Reply (Page A)) (buffer : Bytes) → length (written f r buffer).buffer ≡ length buffer
unfolding written
same_length f nothing buffer = refl
same_length f (refused v) buffer = refl
same_length f (shown p) buffer = write-long (page_bytes f p) buffer

module _ (a : Bounds) (b : Box) (buffer : Bytes) where
  pub page-long : (floor moment : ℕ) (m : Limits) → length (scan_page floor a moment m b buffer).buffer ≡ length buffer
  unfolding scan_page
  page-long floor moment m = same_length key_row_bytes (page floor a moment m b) buffer

  pub intents-long : (limit : ℕ) → length (scan_intent_page a limit b buffer).buffer ≡ length buffer
  unfolding scan_intent_page
  intents-long limit = same_length key_lock_bytes (intent_page a limit b) buffer

  pub conflicts-long : (moment : ℕ) (m : Limits) → length (scan_conflicting_intents a moment m b buffer).buffer ≡ length buffer
  unfolding scan_conflicting_intents
  conflicts-long moment m = same_length key_lock_bytes (conflict_page a moment m b) buffer

-- of an image, written from a table or converted
captured-long : (floor t : ℕ) (b : Box) (buffer : Bytes) → length (capture_image floor t b buffer).buffer ≡ length buffer
unfolding capture_image capture_if
captured-long floor t b buffer = by-table (not (eqb t 0))
  where
    by-table : (some : Bool) → length (capture_if some (image_of floor t b) buffer).buffer ≡ length buffer
    by-table true = write-long (image_of floor t b) buffer
    by-table false = refl

pub converted-long : (s buffer : Bytes) → length (convert_image s buffer).buffer ≡ length buffer
unfolding convert_image convert_if
converted-long s buffer = by-image (convertible (old_image s))
  where
    by-image : (good : Bool) → length (convert_if good (converted_bytes s) buffer).buffer ≡ length buffer
    by-image true = write-long (converted_bytes s) buffer
    by-image false = refl

-- ---- what was written to the front of a longer buffer, shown

pub lent-shown : (w : Bytes → Written) (n most : ℕ) (state : State) {buffer : Bytes} {done : Wrote} {out : Bytes} {r : Shown} → buffer ≡ lent most → n ≤ most → WroteAs (w (take n buffer)) done out → ShownOf done out r → ShownTold (paging (w (lent n)) state) state r
lent-shown w n most state {done = done} {out = out} e small v u =
    let i : WroteAs (w (lent n)) done out = subst (λ (x : Bytes). WroteAs (w x) done out) (ap (take n) e ∙ front n most 238 small) v in
    record {
      told = record { answer_is = u.answer_is ∙ i.answer_is.case_is; count_is = u.count_is ∙ i.count_is; payload_is = u.payload_is ∙ i.out_is };
      state_is = refl;
    }

-- an image of a table
module _ (floor t n : ℕ) (b : Box) (small : n < 262145) where
  pub capture-shown : {buffer : Bytes} {done : Wrote} {out : Bytes} {r : Shown} → buffer ≡ lent 262144 → WroteAs (capture_image floor t b (take n buffer)) done out → ShownOf done out r → ShownTold (told (Call.Capture t) n (record { box = b; floor = floor })) (record { box = b; floor = floor }) r
  unfolding told
  capture-shown e v u = lent-shown (capture_image floor t b) n 262144 (record { box = b; floor = floor }) e (long-in n small) v u

  pub capture-short : length (told (Call.Capture t) n (record { box = b; floor = floor })).payload ≤ 262144
  unfolding told
  capture-short = omega (arith, captured-long floor t b (lent n), length-replicate {A = ℕ} n 238)

-- ---- a page, shown

-- the bounds of the arguments
asked-behind : (o : Maybe (Bor Bytes)) → given o ≡ key_behind o
asked-behind None = refl
asked-behind (Some k) = refl

abbrev asked_by : Args → asked.Bounds
asked_by a = record { start = a.from; end = a.to; resume = a.resume }

abbrev pub bounds_in : Args → Bounds
bounds_in a = record { from = key_behind a.from; to = key_behind a.to; resume = key_behind a.resume }

bounds-in : (a : Args) → bounds_of (asked_by a) ≡ bounds_in a
bounds-in a = rw (asked-behind a.from, asked-behind a.to, asked-behind a.resume) refl

-- what is told is the front of the longer buffer
pub page-shown : (w : Bounds → Bytes → Written) (a : Args) (state : State) {buffer : Bytes} {done : Wrote} {r : Shown} {out : Bytes}
    → buffer ≡ lent 65535 → a.buffer < 65536 → WroteAs (w (bounds_of (asked_by a)) (take a.buffer buffer)) done out → ShownOf done out r → ShownTold (paging (w (bounds_in a) (lent a.buffer)) state) state r
page-shown w a state {buffer} {done} {r} {out} Lent-is small v u =
    lent-shown (w (bounds_in a)) a.buffer 65535 state Lent-is (short-in a.buffer small) (subst (λ (x : Bounds). WroteAs (w x (take a.buffer buffer)) done out) (bounds-in a) v) u
