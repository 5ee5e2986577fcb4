-- A slot shows what its stretch has: where the same bytes lie at another place or in another area, it is the same line with the same row.
-- Assumes nothing.
use Prim.Native.Nat.{ℕ, ◌+◌, ◌≤◌}
use native.Mathlib.Omega.{arith}
use mathlib.Core.Path.{◌≡◌, sym, ap, ap₂, ◌∙◌, refl}
use mathlib.Core.Bool.{Bool}
use lib.ListN.{take, drop}
use lib.Seq.{drop-drop}
use Rattle.seqs.proofs.Tables.{part_in}
use Rattle.forms.specs.Bytes.{Bytes, bytes_at}
use Rattle.forms.specs.Key.{Key}
use Rattle.rules.specs.Box as box
use Rattle.store.specs.declared.table.Line.{Line}
use Rattle.store.specs.declared.table.Line.TheVariants.{Standing, Finished}
use Rattle.store.specs.declared.table.Slot.{Slot}
use Rattle.store.specs.View.{place_of, row_len, line_in, past, line_of, row_in, carries, default_in}
use Rattle.store.specs.Made.{SlotBelow}
use Rattle.store.proofs.ViewLaws.{past_row}

-- a part of a part
part_of : (s : Bytes) (a n k m : ℕ) → k + m ≤ n → take m (drop k (bytes_at s a n)) ≡ bytes_at s (a + k) m
part_of s a n k m h = part_in (drop a s) k m n h ∙ ap (take m) (drop-drop k a s)

pub record SameBytes (area : Bytes) (a : ℕ) (area' : Bytes) (a' n : ℕ) : Type 0 where
  pub are : bytes_at area' a' n ≡ bytes_at area a n

module _ {area area' : Bytes} {a a' n : ℕ} (e : SameBytes area a area' a' n) where
  part_same : (x' x k m : ℕ) → x' ≡ a' + k → x ≡ a + k → k + m ≤ n → bytes_at area' x' m ≡ bytes_at area x m
  part_same x' x k m p q h =
      ap (λ (y : ℕ). bytes_at area' y m) p ∙ sym (part_of area' a' n k m h) ∙ ap (λ (l : Bytes). take m (drop k l)) e.are ∙ part_of area a n k m h ∙ ap (λ (y : ℕ). bytes_at area y m) (sym q)

  module _ (len : ℕ) where
    line_same : (x : Line) → len + past x ≤ n → line_in area' (a' + len) x ≡ line_in area (a + len) x
    line_same (Standing l) h =
        rw (
          part_same (a' + len) (a + len) len 8 refl refl (omega arith),
          part_same (a' + len + 8) (a + len + 8) (len + 8) 8 (omega arith) (omega arith) (omega arith),
          part_same (a' + len + 8 + 8 + l.rowlen) (a + len + 8 + 8 + l.rowlen) (len + 8 + 8 + l.rowlen) 8 (omega arith) (omega arith) (omega arith),
          part_same (a' + len + 8 + 8 + l.rowlen + 8) (a + len + 8 + 8 + l.rowlen + 8) (len + 8 + 8 + l.rowlen + 8) l.plen (omega arith) (omega arith) (omega arith),
        )
    line_same (Finished w) h =
        rw (part_same (a' + len) (a + len) len 8 refl refl (omega arith), part_same (a' + len + 8) (a + len + 8) (len + 8) 8 (omega arith) (omega arith) (omega arith))

module _ {area area' : Bytes} (a a' : ℕ) {n : ℕ} (e : SameBytes area (a + a) area' (a' + a') n) (len : ℕ) (x : Line) (h : len + past x ≤ n) (u v : Bool) where
  pub slot_same : line_of area' (record { at = a'; len = len; used = u; line = x }) ≡ line_of area (record { at = a; len = len; used = v; line = x })
  slot_same = ap₂ (λ (k : Key) (y : box.Line). record { key = k; line = y }) (part_same e (a' + a') (a + a) 0 len (omega arith) (omega arith) (omega arith)) (line_same e len x h)

  pub row_same : row_in area' (record { at = a'; len = len; used = u; line = x }) ≡ row_in area (record { at = a; len = len; used = v; line = x })
  row_same = part_same e (a' + a' + len + 8 + 8) (a + a + len + 8 + 8) (len + 8 + 8) (row_len x) (omega arith) (omega arith) (omega (arith, past_row x))

-- the same bytes below a top: what the slots below it show is the same
module _ (area area' : Bytes) (top : ℕ) (p : take top area' ≡ take top area) (s : Slot) (b : SlotBelow top s) where
  bytes-kept : SameBytes area (place_of s) area' (place_of s) (s.len + past s.line)
  bytes-kept =
      let h : place_of s + (s.len + past s.line) ≤ top = omega (arith, b.below) in
      record { are = sym (part_in area' (place_of s) (s.len + past s.line) top h) ∙ ap (λ (l : Bytes). bytes_at l (place_of s) (s.len + past s.line)) p ∙ part_in area (place_of s) (s.len + past s.line) top h }

  pub slot_kept : line_of area' s ≡ line_of area s
  slot_kept = slot_same s.at s.at bytes-kept s.len s.line (omega arith) s.used s.used

  pub default-kept : default_in area' s ≡ default_in area s
  default-kept = ap₂ carries slot_kept (row_same s.at s.at bytes-kept s.len s.line (omega arith) s.used s.used)
