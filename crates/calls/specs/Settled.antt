-- The promises of the changing calls: of those that leave the floor, and of those that can move it.
-- Assumes nothing.
use Rattle.std.specs.Prelude.{◌≡◌, Bool, true, false}
use Rattle.forms.specs.Bytes.{Bytes}
use Rattle.rules.specs.Answers.{Answer, Accepted, No, Held, Answered}
use Rattle.rules.specs.Calls.{Done, Ended}
use Rattle.store.specs.declared.table.Store.{Store}
use Rattle.store.specs.View.{box_of, state_shown}
use Rattle.store.specs.Made.{Made}

abbrev pub is_accepted : Answer → Bool
is_accepted Accepted = true
is_accepted (No n) = false
is_accepted (Held h) = false

-- what a changing call gives: the store after it, and its answer
pub record Changed : Type 0 where
  pub store : Store
  pub answer : Answer

-- nothing has changed: the store is the same value, and the area has the same bytes
pub record Untouched (st : Store) (area : Bytes) (r : Store) (area' : Bytes) : Type 0 where
  pub store_is : r ≡ st
  pub area_is : area' ≡ area

-- `d` is the definition's answer and the box after it: the store shows that box, and the floor stays. "A refusal changes nothing in store or
-- buffers"; and a call that is "accepted and unchanged", as a replay is, changes nothing either
pub record Settled (st : Store) (area : Bytes) (d : Done) (r : Changed) (area' : Bytes) : Type 0 where
  pub answer_is : Answered d.answer r.answer
  pub made : Made r.store area'
  pub shown : box_of r.store area' ≡ d.box
  pub floor_is : r.store.floor ≡ st.floor
  pub refused : (r.answer ≡ Accepted → ⊥) → Untouched st area r.store area'
  pub unchanged : d.box ≡ box_of st area → Untouched st area r.store area'

-- restore and a collection can move the floor too: `e` is the definition's answer and the state after it. "A refusal changes nothing in store
-- or buffers"
pub record Replaced (st : Store) (area : Bytes) (e : Ended) (r : Changed) (area' : Bytes) : Type 0 where
  pub answer_is : Answered e.answer r.answer
  pub made : Made r.store area'
  pub shown : state_shown r.store area' ≡ e.state
  pub refused : (r.answer ≡ Accepted → ⊥) → Untouched st area r.store area'
