-- Bytes over the front of a buffer, where they fit; and numbers of 8 bytes, one after the other.
-- Assumes nothing.
use Prim.Native.Nat.{ℕ, ◌+◌, ◌*◌, ◌/◌, ◌≤◌, ◌<◌}
use native.Mathlib.Omega.{arith}
use mathlib.Core.Path.{◌≡◌, refl, sym, ◌∙◌, ap}
use mathlib.Core.Bool.{Bool}
use mathlib.Core.List.{List, [], ◌∷◌, ◌++◌}
use lib.ListN.{length, get_or, drop, length-append}
use borrow.Author.Tests.{le-leb, lt-leb}
use Rattle.forms.specs.Bytes.{Bytes}
use Rattle.forms.specs.Numbers.{digits}
use Rattle.forms.specs.Writers.{Laid}
use Rattle.forms.proofs.NumberLaws.{length_digits}
use Rattle.rules.specs.Written.{all_bytes}
use Rattle.rules.proofs.EntryWriterLaws.{Listing, listing-room}
use Rattle.traces.specs.Put.{room, length_if, put_if, Put}
use Rattle.traces.specs.Payloads.{numbers_bytes}

pub put-none : {b s : Bytes} → length s < length b → Put (room b s) b s 0 s
put-none {b} {s} h = record {
  count = sym (ap (λ (f : Bool). length_if f b) (lt-leb _ _ h));
  is = sym (ap (λ (f : Bool). put_if f b s) (lt-leb _ _ h));
}

pub put_all : {b s t : Bytes} {n r : ℕ} → Laid 0 n b s r t → Put (room b s) b s r t
put_all {b} {s} {r = r} v =
    let l : length b ≤ length s = omega arith in
    let e : r ≡ length b = omega arith in
    record {
      count = e ∙ sym (ap (λ (f : Bool). length_if f b) (le-leb _ _ l));
      is = v.is ∙ ap (λ (n : ℕ). b ++ drop n s) e ∙ sym (ap (λ (f : Bool). put_if f b s) (le-leb _ _ l));
    }

-- ---- numbers of 8 bytes, one after the other

pub length-numbers : (ns : List ℕ) → length (numbers_bytes ns) ≡ 8 * length ns
unfolding all_bytes
length-numbers [] = refl
length-numbers (n ∷ ns) = length-append (digits 8 n) (numbers_bytes ns) ∙ omega (arith, length_digits 8 n, length-numbers ns)

pub numbers-none : (ns : List ℕ) (s : Bytes) → length s / 8 < length ns → Put (room (numbers_bytes ns) s) (numbers_bytes ns) s 0 s
numbers-none ns s h = put-none (omega (arith, length-numbers ns))

pub numbers-room : {ns : List ℕ} {s t : Bytes} {at i : ℕ} → Listing (digits 8) ns 0 s at i t → length ns ≤ length s / 8 → i < length ns → at + 8 ≤ length t
numbers-room {ns} {i = i} v h l = omega (arith, listing-room v 0 l (omega (arith, length-numbers ns)), length_digits 8 (get_or ns i 0))
