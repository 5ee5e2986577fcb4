-- Demand 1, its second half: whatever the call and the state, a refusal leaves the state as it was. Assumes nothing.
use mathlib.Core.Path.{ap}
use Rattle.rules.specs.Box.{Box}
use Rattle.rules.specs.Calls.{State}
use Rattle.rules.specs.Collect.{collect}
use Rattle.laws.proofs.SettleLaws.{settle_state-leaves, prewrite_batch-leaves, commit_batch-leaves, rollback_batch-leaves, one_step-leaves}
use Rattle.rules.specs.Call.{Changing, perform}
use Rattle.ledger.specs.Ledger.{Refusal}

-- the floor stays anyway
abbrev on : State → Box → State
on st b = record { box = b; floor = st.floor }

pub refusal : (c : Changing) (st : State) → Refusal c st
unfolding perform collect
refusal (Changing.Prewrite h s) st n = ap (on st) (prewrite_batch-leaves st.floor h s st.box n)
refusal (Changing.Commit h s) st n = ap (on st) (commit_batch-leaves st.floor h s st.box n)
refusal (Changing.Rollback txn start s) st n = ap (on st) (rollback_batch-leaves st.floor txn start s st.box n)
refusal (Changing.OneStep h s) st n = ap (on st) (one_step-leaves st.floor h s st.box n)
refusal (Changing.Collect f) st n = settle_state-leaves _ _ st n
