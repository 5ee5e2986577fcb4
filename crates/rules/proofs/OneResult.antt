-- No two results of the code with the same value have the same of the paper's answers: so what determines number, holder and value determines the
-- very result.
-- Assumes nothing.
use Rattle.std.specs.Prelude.{ℕ, ◌≡◌, Bool, true, false, eqb, Result, Ok, Err}
use Rattle.std.proofs.Common.{refl, sym, ap, ◌∙◌}
use Rattle.rules.specs.declared.records.Kind.{Kind}
use Rattle.rules.specs.declared.records.Kind.TheVariants.{Put, Delete, Rollback}
use Rattle.rules.specs.declared.answers.Holder.{Holder}
use Rattle.rules.specs.declared.answers.Refusal.{Refusal}
use Rattle.rules.specs.declared.answers.Refusal.TheVariants.{KeyForm, RowForm, Argument, ScanRange, EmptyBatch, BatchForm, Locked, History, Contradiction, ByteLimit, NoRoom, ShortBuffer, BadImage, BelowFloor}
use Rattle.rules.specs.Answers.{Answer, Accepted, No, Held}
use Rattle.rules.specs.Answers as paper
use Rattle.rules.specs.Box.{kind_byte}
use Rattle.rules.specs.Outcomes.{refusal, outcome, value_or, held_by}
use Rattle.rules.proofs.OutcomeLaws.{refusal-not}

abbrev pick : {A : Type 0} → Bool → A → A → A
pick true x y = x
pick false x y = y

-- the refusal of a number; 14 for what is left
abbrev of_number : ℕ → Refusal
of_number n =
    pick (eqb n 1) KeyForm (pick (eqb n 2) RowForm (pick (eqb n 3) Argument (pick (eqb n 4) ScanRange (pick (eqb n 5) EmptyBatch (pick (eqb n 6) BatchForm (pick (eqb n 8) History
    (pick (eqb n 9) Contradiction (pick (eqb n 10) ByteLimit (pick (eqb n 11) NoRoom (pick (eqb n 12) ShortBuffer (pick (eqb n 13) BadImage BelowFloor)))))))))))

abbrev of_byte : ℕ → Kind
of_byte n = pick (eqb n 1) Put (pick (eqb n 2) Delete Rollback)

abbrev of_holder : paper.Holder → Holder
of_holder h = record { txn = h.txn; start = h.start; ttl = h.ttl; kind = of_byte h.kind }

-- the refusal of an answer
abbrev of_answer : Answer → Refusal
of_answer Accepted = BelowFloor
of_answer (No n) = of_number n
of_answer (Held h) = Locked (of_holder h)

byte-back : (k : Kind) → of_byte (kind_byte k) ≡ k
byte-back Put = refl
byte-back Delete = refl
byte-back Rollback = refl

holder-back : (h : Holder) → of_holder (held_by h) ≡ h
holder-back h = ap (λ (k : Kind). record { txn = h.txn; start = h.start; ttl = h.ttl; kind = k }) (byte-back h.kind)

back : (r : Refusal) → of_answer (refusal r) ≡ r
back KeyForm = refl
back RowForm = refl
back Argument = refl
back ScanRange = refl
back EmptyBatch = refl
back BatchForm = refl
back (Locked h) = ap Locked (holder-back h)
back History = refl
back Contradiction = refl
back ByteLimit = refl
back NoRoom = refl
back ShortBuffer = refl
back BadImage = refl
back BelowFloor = refl

pub one-refusal : (r s : Refusal) → refusal r ≡ refusal s → r ≡ s
one-refusal r s e = sym (back r) ∙ ap of_answer e ∙ back s

-- two results with the same answer, and the same value where there is one, are one result
pub one-result : {A : Type 0} (o p : Result A Refusal) (z : A) → outcome o ≡ outcome p → value_or z o ≡ value_or z p → o ≡ p
one-result (Ok x) (Ok y) z e f = ap Ok f
one-result (Ok x) (Err s) z e f = absurd (refusal-not s (sym e))
one-result (Err r) (Ok y) z e f = absurd (refusal-not r e)
one-result (Err r) (Err s) z e f = ap Err (one-refusal r s e)
