-- A refusal of the code is never the paper's `Accepted`, so the first refusal is the answer; what `?` hands on has the same answer.
-- Assumes nothing.
use Rattle.std.specs.Prelude.{ℕ, ◌≡◌, Option, Some, None, Result, Ok, Err, IsErrAnd}
use Rattle.std.proofs.Common.{refl, sym, ap, ◌∙◌}
use Rattle.rules.specs.declared.answers.Refusal.{Refusal}
use Rattle.rules.specs.declared.answers.Refusal.TheVariants.{KeyForm, RowForm, Argument, ScanRange, EmptyBatch, BatchForm, Locked, History, Contradiction, ByteLimit, NoRoom, ShortBuffer, BadImage, BelowFloor}
use Rattle.rules.specs.Answers.{Answer, Accepted, No, Held, ◌▸◌, count_if, Reply, refused, if_passed}
use Rattle.rules.specs.Outcomes.{refusal, outcome}

-- a law of every refusal is a law of each number and of 7
pub of-refusals : (P : Answer → Type 0) → ((n : ℕ) → P (No n)) → ((h : _) → P (Held h)) → (r : Refusal) → P (refusal r)
of-refusals P by seven KeyForm = by 1
of-refusals P by seven RowForm = by 2
of-refusals P by seven Argument = by 3
of-refusals P by seven ScanRange = by 4
of-refusals P by seven EmptyBatch = by 5
of-refusals P by seven BatchForm = by 6
of-refusals P by seven (Locked h) = seven _
of-refusals P by seven History = by 8
of-refusals P by seven Contradiction = by 9
of-refusals P by seven ByteLimit = by 10
of-refusals P by seven NoRoom = by 11
of-refusals P by seven ShortBuffer = by 12
of-refusals P by seven BadImage = by 13
of-refusals P by seven BelowFloor = by 14

pub refusal-not : (r : Refusal) → refusal r ≡ Accepted → ⊥
refusal-not r = of-refusals (λ (a : Answer). a ≡ Accepted → ⊥) (λ n e. cc) (λ h e. cc) r

pub refusal-first : (r : Refusal) (b : Answer) → refusal r ▸ b ≡ refusal r
unfolding ◌▸◌
refusal-first r b = of-refusals (λ (a : Answer). a ▸ b ≡ a) (λ n. refl) (λ h. refl) r

pub refusal-count : (r : Refusal) (n : ℕ) → count_if (refusal r) n ≡ 0
unfolding count_if
refusal-count r n = of-refusals (λ (a : Answer). count_if a n ≡ 0) (λ m. refl) (λ h. refl) r

pub refusal-reply : {A : Type 0} (r : Refusal) (p : Reply A) → if_passed (refusal r) p ≡ refused (refusal r)
unfolding if_passed
refusal-reply r p = of-refusals (λ (a : Answer). if_passed a p ≡ refused a) (λ n. refl) (λ h. refl) r

-- an accepted outcome is an `Ok`
pub outcome-not : {A : Type 0} {o : Result A Refusal} {r : Refusal} → o ≡ Err r → outcome o ≡ Accepted → ⊥
outcome-not {r = r} e h = refusal-not r (sym (ap outcome e) ∙ h)

-- what `?` hands on is the refusal that came
pub handed-is : {A : Type 0} (o : Result A Refusal) (r : Refusal) → IsErrAnd o (λ (e : Refusal). e ≡ r) → o ≡ Err r
handed-is (Ok x) r h = absurd h
handed-is (Err e) r h = ap Err h

-- and has the same answer
pub handed : {A : Type 0} (o : Result A Refusal) (r : Refusal) → IsErrAnd o (λ (e : Refusal). e ≡ r) → outcome o ≡ refusal r
handed o r h = ap outcome (handed-is o r h)
