-- Document 01, "What a call answers", and the holder as document 02, CR 9, has it. Steps stand one to a line, joined by ▸: the first refusal is
-- the answer.
-- Assumes nothing.
use Rattle.std.specs.Prelude.{ℕ, ◌≡◌, Bool, true, false}

infixr 20 ◌▸◌
-- "Answer 7 carries the holder's transaction and start", and "the lock's time to live and kind" (document 02, CR 9), all as numbers
pub record Holder : Type 0 where
  pub txn : ℕ
  pub start : ℕ
  pub ttl : ℕ
  pub kind : ℕ

-- the paper's answers: 0, a number, or 7 with the holder of the lock
pub data Answer : Type 0 where
  Accepted : Answer
  No : ℕ → Answer
  Held : Holder → Answer

-- the paper's number of each case
abbrev pub number : Answer → ℕ
number Accepted = 0
number (No n) = n
number (Held h) = 7

-- "every other answer carries zeros"; CR 9: "Every other answer carries zeros there"
abbrev pub no_holder : Holder
no_holder = record { txn = 0; start = 0; ttl = 0; kind = 0 }

-- the paper's values of each case: "Answer 7 carries the holder's transaction and start", the time to live and the kind
abbrev pub holder : Answer → Holder
holder Accepted = no_holder
holder (No n) = no_holder
holder (Held h) = h

-- the call gave the answer that is due, by the paper's number and values, and by its case; specs/Outcomes has what each result of the code gives
pub record Answered (due got : Answer) : Type 0 where
  pub number_is : number got ≡ number due
  pub holder_is : holder got ≡ holder due
  pub case_is : got ≡ due

-- the first refusal is the answer
unfoldable pub ◌▸◌ : Answer → Answer → Answer
Accepted ▸ a = a
No n ▸ a = No n
Held h ▸ a = Held h

-- the test must hold, or the answer is n
unfoldable pub need : Bool → ℕ → Answer
need true n = Accepted
need false n = No n

-- the test must hold, or the lock's holder is the answer
unfoldable pub need_own : Bool → Holder → Answer
need_own true h = Accepted
need_own false h = Held h

-- "a refusal's counts are 0"
unfoldable pub count_if : Answer → ℕ → ℕ
count_if Accepted n = n
count_if (No m) n = 0
count_if (Held h) n = 0

-- what a call that shows something answers: nothing, what is shown, or a refusal
pub data Reply (A : Type 0) : Type 0 where
  nothing : Reply A
  shown : A → Reply A
  refused : Answer → Reply A

-- the paper's answer of a reply
abbrev pub answer_of : {A : Type 0} → Reply A → Answer
answer_of nothing = Accepted
answer_of (shown x) = Accepted
answer_of (refused a) = a

-- the steps pass, or their refusal is the reply
unfoldable pub if_passed : {A : Type 0} → Answer → Reply A → Reply A
if_passed Accepted r = r
if_passed (No n) r = refused (No n)
if_passed (Held h) r = refused (Held h)
