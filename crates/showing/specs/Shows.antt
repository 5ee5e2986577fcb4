-- What a call that shows something tells.
-- Assumes nothing.
use Rattle.std.specs.Prelude.{ℕ, ◌≡◌}
use Rattle.forms.specs.Bytes.{Bytes}
use Rattle.rules.specs.Answers.{Answer, Reply, answer_of}
use Rattle.rules.specs.Outcomes.{outcome, Wrote}
use Rattle.rules.specs.Calls.{State}
use Rattle.showing.specs.Told.{Told}
use Rattle.showing.specs.declared.shown.Shown.{Shown}

-- the answer, the count, and the payload
pub record ShownAs (answer : Answer) (count : ℕ) (payload : Bytes) (r : Shown) : Type 0 where
  pub answer_is : outcome r.answer ≡ answer
  pub count_is : r.count ≡ count
  pub payload_is : r.payload.now ≡ payload

abbrev pub ShownReply : {A : Type 0} → (Reply A → Bytes) → ℕ → Reply A → Shown → Type 0
ShownReply payload count reply r = ShownAs (answer_of reply) count (payload reply) r

-- all that is told, of a state that stays as it is
pub record ShownTold (t : Told) (state : State) (r : Shown) : Type 0 where
  pub told : ShownAs t.answer t.count t.payload r
  pub state_is : state ≡ t.state

-- what a writing call gave, and its buffer
abbrev pub ShownOf : Wrote → Bytes → Shown → Type 0
ShownOf w buffer r = ShownAs w.answer w.count buffer r
