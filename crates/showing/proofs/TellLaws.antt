-- Answers written over a buffer: that a payload, put into a buffer of its own, is what the answer carries.
-- Assumes nothing.
use Prim.Native.Nat.{ℕ, ◌≤◌}
use native.Mathlib.Omega.{arith}
use mathlib.Core.Path.{◌≡◌, sym, ◌∙◌, ap, subst}
use mathlib.Core.Bool.{Bool, true}
use lib.ListN.{length, take, drop, length-append}
use lib.Seq.{take_at}
use borrow.Author.Tests.{le-leb}
use Rattle.forms.specs.Bytes.{Bytes}
use Rattle.rules.specs.Answers.{Answer}
use Rattle.rules.specs.declared.figures.Stats.{Stats}
use Rattle.rules.specs.declared.figures.Marks.{Marks}
use Rattle.traces.specs.Put.{Put}
use Rattle.traces.specs.Payloads.{stats_payload, marks_payload}
use Rattle.traces.proofs.PutLaws.{length-numbers}
use Rattle.showing.specs.Told.{Writes}
use Rattle.showing.specs.Shows.{ShownAs}
use Rattle.showing.specs.declared.shown.Shown.{Shown}

-- ---- what fits is written

module _ {b s : Bytes} {r : ℕ} {t : Bytes} where
  pub written : length b ≤ length s → Writes b s r t → Put true b s r t
  written h v = subst (λ (f : Bool). Put f b s r t) (le-leb (length b) (length s) h) v

  pub written_count : length b ≤ length s → Writes b s r t → r ≡ length b
  written_count h v = (written h v).count

  -- the front of the buffer is the bytes
  pub written-front : length b ≤ length s → Writes b s r t → take r t ≡ b
  written-front h v =
      ap (take r) (written h v).is
      ∙ take_at b (drop (length b) s) r (sym (written_count h v))

  -- and they stand in the buffer
  pub written-within : length b ≤ length s → Writes b s r t → r ≤ length t
  written-within h v = omega (arith, written_count h v, ap length (written h v).is, length-append b (drop (length b) s))

-- the same, said in other words
pub shown-as : {a a' : Answer} {n n' : ℕ} {p p' : Bytes} {r : Shown} → a ≡ a' → n ≡ n' → p ≡ p' → ShownAs a n p r → ShownAs a' n' p' r
shown-as e c f v = record { answer_is = v.answer_is ∙ e; count_is = v.count_is ∙ c; payload_is = v.payload_is ∙ f }

-- ---- statistics and marks: 15 numbers, and two

pub stats-fits : (x : Stats) {n : ℕ} → 256 ≤ n → length (stats_payload x) ≤ n
stats-fits x h = let e : length (stats_payload x) ≡ 120 = length-numbers _ in omega arith

pub marks-fits : (x : Marks) {n : ℕ} → 256 ≤ n → length (marks_payload x) ≤ n
marks-fits x h = let e : length (marks_payload x) ≡ 16 = length-numbers _ in omega arith
