-- What a result of the code is in document 01's numbers: "If an answer is an enum, a definition gives this paper's number and values for each of its
-- cases. The promises use that definition."
-- Assumes nothing.
use Rattle.std.specs.Prelude.{ℕ, Bool, true, false, Option, Some, None, Result, Ok, Err}
use Rattle.rules.specs.declared.answers.Holder.{Holder}
use Rattle.rules.specs.declared.answers.Refusal.{Refusal}
use Rattle.rules.specs.declared.answers.Refusal.TheVariants.{KeyForm, RowForm, Argument, ScanRange, EmptyBatch, BatchForm, Locked, History, Contradiction, ByteLimit, NoRoom, ShortBuffer, BadImage, BelowFloor}
use Rattle.rules.specs.Answers.{Answer, Accepted, No, Held}
use Rattle.rules.specs.Answers as paper
use Rattle.rules.specs.Box.{kind_byte}

-- who holds the lock, all as numbers
abbrev pub held_by : Holder → paper.Holder
held_by h = record { txn = h.txn; start = h.start; ttl = h.ttl; kind = kind_byte h.kind }

-- the paper's answer of each refusal
abbrev pub refusal : Refusal → Answer
refusal KeyForm = No 1
refusal RowForm = No 2
refusal Argument = No 3
refusal ScanRange = No 4
refusal EmptyBatch = No 5
refusal BatchForm = No 6
refusal (Locked h) = Held (held_by h)
refusal History = No 8
refusal Contradiction = No 9
refusal ByteLimit = No 10
refusal NoRoom = No 11
refusal ShortBuffer = No 12
refusal BadImage = No 13
refusal BelowFloor = No 14

-- and who holds the lock, if it is answer 7
abbrev pub holder_in : Refusal → Option Holder
holder_in (Locked h) = Some h
holder_in _ = None

-- what a call answers
abbrev pub outcome : {A : Type 0} → Result A Refusal → Answer
outcome (Ok x) = Accepted
outcome (Err r) = refusal r

-- what a call shows or counts; a refusal shows nothing, and "a refusal's counts are 0"
abbrev pub value_or : {A : Type 0} → A → Result A Refusal → A
value_or z (Ok x) = x
value_or z (Err r) = z

-- "A writing call also gives the bytes written": the answer, and the count
pub record Wrote : Type 0 where
  pub answer : Answer
  pub count : ℕ

abbrev pub wrote : Result ℕ Refusal → Wrote
wrote r = record { answer = outcome r; count = value_or 0 r }
