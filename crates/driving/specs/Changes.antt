-- What each op that changes the store and gives no count does with the arguments, of which each takes its own; and what every changing call
-- promises of that.
-- Assumes nothing.
use Rattle.std.specs.Prelude.{◌≡◌}
use Rattle.forms.specs.Bytes.{Bytes}
use Rattle.forms.specs.Ones.{one_key}
use Rattle.rules.specs.Calls.{State, Ended}
use Rattle.rules.specs.Restore.{restore}
use Rattle.rules.specs.Call.{Changing, perform}
use Rattle.calls.specs.Settled.{Changed}
use Rattle.traces.specs.declared.op.ChangeOp.{ChangeOp}
use Rattle.traces.specs.declared.args.Args.{Args}
use Rattle.traces.specs.Calls.{one_entry}
use Rattle.store.specs.View.{state_shown}
use Rattle.store.specs.Made.{Made}

abbrev pub changed_by : ChangeOp → Args → State → Ended
changed_by ChangeOp.Prewrite a st = perform (Changing.Prewrite (record { txn = a.first; start = a.second; primary = a.primary.now; ttl = a.third }) (one_entry a.kind a.key.now a.row.now)) st
changed_by ChangeOp.PrewriteBatch a st = perform (Changing.Prewrite (record { txn = a.first; start = a.second; primary = a.primary.now; ttl = a.third }) a.rest.now) st
changed_by ChangeOp.Commit a st = perform (Changing.Commit (record { txn = a.first; start = a.second; commit = a.third }) (one_key a.key.now)) st
changed_by ChangeOp.CommitBatch a st = perform (Changing.Commit (record { txn = a.first; start = a.second; commit = a.third }) a.rest.now) st
changed_by ChangeOp.Rollback a st = perform (Changing.Rollback a.first a.second (one_key a.key.now)) st
changed_by ChangeOp.RollbackBatch a st = perform (Changing.Rollback a.first a.second a.rest.now) st
changed_by ChangeOp.Collect a st = perform (Changing.Collect a.first) st
changed_by ChangeOp.Restore a st = restore a.rest.now st

-- what the promise of every changing call holds, restore's and the others': the answer is the definition's, the store is made and shows the
-- definition's state
pub record DoneAs (e : Ended) (m : Changed) (area' : Bytes) : Type 0 where
  pub answer_is : m.answer ≡ e.answer
  pub made : Made m.store area'
  pub shown : state_shown m.store area' ≡ e.state
