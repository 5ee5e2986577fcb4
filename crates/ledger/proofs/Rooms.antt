-- The four limits of "Room" hold after any sequence of calls from an empty store. Assumes nothing.
use mathlib.Core.Path.{◌≡◌}
use mathlib.Core.Bool.{true}
use mathlib.Core.List.{List, [], ◌∷◌}
use Rattle.rules.specs.Calls.{State}
use Rattle.rules.specs.Collect.{collect}
use Rattle.laws.proofs.SettleLaws.{settle_state-keeps}
use Rattle.laws.proofs.CollectLaws.{collected-room}
use Rattle.rules.specs.Room.{room_for}
use Rattle.laws.proofs.CallLaws.{fresh-room, prewrite_batch-room, commit_batch-room, rollback_batch-room, one_step-room}
use Rattle.rules.specs.Call.{Changing, perform}
use Rattle.ledger.specs.Ledger.{Past, state_in, then, after, empty}

pub call-room : (c : Changing) (st : State) → room_for st.box ≡ true → room_for (perform c st).state.box ≡ true
unfolding perform collect
call-room (Changing.Prewrite h s) st = prewrite_batch-room st.floor h s st.box
call-room (Changing.Commit h s) st = commit_batch-room st.floor h s st.box
call-room (Changing.Rollback txn start s) st = rollback_batch-room st.floor txn start s st.box
call-room (Changing.OneStep h s) st = one_step-room st.floor h s st.box
call-room (Changing.Collect f) st = λ r. settle_state-keeps (λ (st : State). room_for st.box ≡ true) _ _ st r (λ q. collected-room f st.box r)

after-room : (cs : List Changing) (p : Past) → room_for p.box ≡ true → room_for (after cs p).box ≡ true
unfolding after then
after-room [] p v = v
after-room (c ∷ cs) p v = after-room cs (then c p) (call-room c (state_in p) v)

pub rooms : (cs : List Changing) → room_for (after cs empty).box ≡ true
unfolding empty
rooms cs = after-room cs empty fresh-room
