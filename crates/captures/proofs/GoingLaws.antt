-- Bytes written one entry after the other, by what is left to write.
-- Assumes nothing.
use Prim.Native.Nat.{ℕ, ◌+◌, ◌≤◌}
use native.Mathlib.Omega.{arith}
use mathlib.Core.Path.{◌≡◌, refl, sym, ap, ◌∙◌, subst}
use mathlib.Core.List.{[], ◌++◌, append_assoc, append-nil}
use lib.ListN.{length, length-append}
use Rattle.forms.specs.Bytes.{Bytes}
use Rattle.forms.specs.Writers.{Laid}
use Rattle.forms.proofs.WriterLaws.{laid_as, laid_then, laid_none}

-- of the bytes `whole`, `left` are still to come
pub record Going (whole left s : Bytes) (at : ℕ) (out : Bytes) : Type 0 where
  pub done : Bytes
  pub laid : Laid 0 (length done) done s at out
  pub is : done ++ left ≡ whole

pub going_start : (whole s : Bytes) → Going whole whole s 0 s
going_start whole s = record { done = []; laid = laid_none s 0 (omega arith); is = refl }

-- the same bytes, said otherwise
pub going-as : {whole left rest s : Bytes} {at : ℕ} {out : Bytes} → Going whole left s at out → left ≡ rest → Going whole rest s at out
going-as {whole} {s = s} {at = at} {out = out} v e = subst (λ (x : Bytes). Going whole x s at out) e v

module _ {whole s : Bytes} (b rest : Bytes) {at : ℕ} {out : Bytes} (v : Going whole (b ++ rest) s at out) where
  pub going-room : length whole ≤ length s → at + length b ≤ length out
  going-room h = omega (arith, v.laid.next, v.laid.length_is, ap length v.is, length-append v.done (b ++ rest), length-append b rest)

  pub going_more : {n r : ℕ} {t : Bytes} → Laid at n b out r t → Going whole rest s r t
  going_more x = record { done = v.done ++ b; laid = laid_as (laid_then v.laid x) refl; is = append_assoc v.done b rest ∙ v.is }

pub going_end : {whole s : Bytes} {at : ℕ} {out : Bytes} → Going whole [] s at out → Laid 0 (length whole) whole s at out
going_end v = laid_as v.laid (sym (append-nil v.done) ∙ v.is)

pub going-length : {whole left s : Bytes} {at : ℕ} {out : Bytes} → Going whole left s at out → (length out ≡ length s) × (at ≤ length s)
going-length v = (v.laid.length_is, v.laid.within)
