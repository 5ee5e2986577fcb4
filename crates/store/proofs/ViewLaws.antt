-- A line as the code reads it: the line of the box that the slot shows, in parts that lie in its stretch.
-- Assumes nothing.
use Prim.Native.Nat.{ℕ, ◌+◌, ◌-◌, ◌≤◌}
use native.Mathlib.Omega.{arith}
use mathlib.Core.Path.{◌≡◌, refl, subst, ap, ◌∙◌}
use lib.ListN.{length, take, drop}
use lib.Seq.{take_all}
use Rattle.std.specs.Prelude.{Some, None, IsSome}
use Rattle.std.specs.Prelude.{Option as Maybe}
use Rattle.forms.specs.Numbers.{number}
use Rattle.forms.specs.Places.{NumberAt}
use Rattle.forms.proofs.NumberLaws.{number_short, number-value}
use Rattle.forms.specs.Bytes.{Bytes}
use Rattle.rules.specs.Box.{kind_in}
use Rattle.store.specs.View.{eight_at, place_of, past, row_len, line_in}
use Rattle.store.specs.Made.{LeanRow, Lean}
use Rattle.store.specs.Views.{lock_view, record_view, view_of}
use Rattle.store.specs.declared.table.Slot.{Slot}
use Rattle.store.specs.declared.table.LockSlot.{LockSlot}
use Rattle.store.specs.declared.table.RecordSlot.{RecordSlot}
use Rattle.store.specs.declared.table.Line.{Line}
use Rattle.store.specs.declared.table.Line.TheVariants.{Standing, Finished}
use Rattle.store.specs.declared.views.LockView.{LockView}
use Rattle.store.specs.declared.views.RecordView.{RecordView}
use Rattle.store.specs.declared.views.LineView.TheVariants as view
use Rattle.store.proofs.StretchLaws.{stretch, stretch-long}

-- eight bytes that lie in the area are a number
module _ (area : Bytes) (at : ℕ) (h : at + 8 ≤ length area) where
  pub eight-there : (r : Maybe ℕ) → NumberAt 8 area at r → IsSome r
  eight-there None e = absurd (omega (arith, number_short 8 area at e))
  eight-there (Some v) e = refl

  pub eight-is : {r : Maybe ℕ} {v : ℕ} → NumberAt 8 area at r → r ≡ Some v → v ≡ eight_at area at
  eight-is e q = number-value (subst (NumberAt 8 area at) q e)

-- the same once they are cut out of the area: `eight_at` cuts them first, so that no place is left to test
module _ (area : Bytes) (at : ℕ) (h : at + 8 ≤ length area) where
  abbrev cut : Bytes
  cut = take (at + 8 - at) (drop at area)

  cut-fits : 0 + 8 ≤ length cut
  cut-fits = omega (arith, stretch-long area at 8 h)

  pub eight-cut-there : (r : Maybe ℕ) → NumberAt 8 cut 0 r → IsSome r
  eight-cut-there = eight-there cut 0 cut-fits

  pub eight-cut-is : {r : Maybe ℕ} {v : ℕ} → NumberAt 8 cut 0 r → r ≡ Some v → v ≡ eight_at area at
  eight-cut-is e q = eight-is cut 0 cut-fits e q ∙ ap number (take_all 8 cut (omega (arith, stretch-long area at 8 h)) ∙ stretch area at 8)

-- every line has its two numbers
pub past-numbers : (x : Line) → 16 ≤ past x
past-numbers (Standing l) = omega arith
past-numbers (Finished w) = omega arith

-- and its row
pub past_row : (x : Line) → 16 + row_len x ≤ past x
past_row (Standing l) = omega arith
past_row (Finished w) = omega arith

-- of the box's line as of the slot's: only a Put has a row
pub lean-row : (area : Bytes) (at : ℕ) (x : Line) → Lean x → LeanRow (kind_in (line_in area at x)) (row_len x)
lean-row area at (Standing l) n = n
lean-row area at (Finished w) n = n

-- what the code read is the line
pub lock-read : (area : Bytes) (at : ℕ) {a b c : ℕ} (l : LockSlot) → a ≡ eight_at area at → b ≡ eight_at area (at + 8) → c ≡ eight_at area (at + 8 + 8 + l.rowlen)
    → record { txn = a; start = b; ttl = c; at = at + 8 + 8 + l.rowlen + 8; len = l.plen; kind = l.kind; rowat = at + 8 + 8; rowlen = l.rowlen } ≡ lock_view area at l
lock-read area at l a b c = rw (a, b, c)

pub record-read : (area : Bytes) (at : ℕ) {a b : ℕ} (w : RecordSlot) → a ≡ eight_at area at → b ≡ eight_at area (at + 8)
    → record { stamp = a; start = b; kind = w.kind; rowat = at + 8 + 8; rowlen = w.rowlen } ≡ record_view area at w
record-read area at w a b = rw (a, b)

module _ (area : Bytes) (s : Slot) {place : ℕ} (p : place ≡ place_of s) where
  pub view-standing : (l : LockSlot) {r : LockView} → s.line ≡ Standing l → r ≡ lock_view area (place + s.len) l → view.Standing r ≡ view_of area s
  view-standing l e q = rw (q, p, e)

  pub view-finished : (w : RecordSlot) {r : RecordView} → s.line ≡ Finished w → r ≡ record_view area (place + s.len) w → view.Finished r ≡ view_of area s
  view-finished w e q = rw (q, p, e)
