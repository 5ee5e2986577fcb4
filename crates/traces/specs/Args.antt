-- What the code finds of a call's arguments: the call that they say.
-- Assumes nothing.
use Rattle.std.specs.Prelude.{ℕ, [], ltb}
use Rattle.std.proofs.Math.Option.{Option, none}
use Rattle.forms.specs.Bytes.{Bytes}
use Rattle.forms.specs.Readers.{Reader, ◌>>=◌, just}
use Rattle.forms.specs.Numbers.{number_of}
use Rattle.forms.specs.Key.{Key}
use Rattle.forms.specs.Ones.{one_key}
use Rattle.rules.specs.declared.records.Kind.{Kind}
use Rattle.rules.specs.declared.records.Kind.TheVariants.{Delete}
use Rattle.rules.specs.Call.{Changing, Call}
use Rattle.traces.specs.declared.op.ShowOp.{ShowOp}
use Rattle.traces.specs.declared.op.ChangeOp.{ChangeOp}
use Rattle.traces.specs.declared.op.AskOp.{AskOp}
use Rattle.traces.specs.declared.op.Op.{Op}
use Rattle.traces.specs.declared.shape.Shape.{Shape}
use Rattle.traces.specs.declared.args.Args.{Args}
use Rattle.traces.specs.Ops.{is_long}
use Rattle.traces.specs.Arguments.{number, kind, text, bound, remaining}
use Rattle.traces.specs.Calls.{TraceCall, lending, one_entry}
use Rattle.traces.specs.Taken.{given, first_width, buffer_by, key_behind}

-- a call from its arguments, of which each takes its own
abbrev pub call_by : Op → (first second third : ℕ) → Kind → (primary key row : Bytes) → (from to resume : Option Key) → (rest : Bytes) → Call
call_by (Op.Shows ShowOp.Read) a b c d p k r f t u s = Call.Read k a
call_by (Op.Shows ShowOp.Page) a b c d p k r f t u s = Call.Page (record { from = f; to = t; resume = u }) a (record { rows = b; bytes = c })
call_by (Op.Shows ShowOp.IntentPage) a b c d p k r f t u s = Call.IntentPage (record { from = f; to = t; resume = u }) a
call_by (Op.Shows ShowOp.ConflictingIntents) a b c d p k r f t u s = Call.ConflictingIntents (record { from = f; to = t; resume = u }) a (record { rows = b; bytes = c })
call_by (Op.Shows ShowOp.OneIntent) a b c d p k r f t u s = Call.OneIntent k a
call_by (Op.Changes ChangeOp.Prewrite) a b c d p k r f t u s = Call.Change (Changing.Prewrite (record { txn = a; start = b; primary = p; ttl = c }) (one_entry d k r))
call_by (Op.Changes ChangeOp.PrewriteBatch) a b c d p k r f t u s = Call.Change (Changing.Prewrite (record { txn = a; start = b; primary = p; ttl = c }) s)
call_by (Op.Changes ChangeOp.Commit) a b c d p k r f t u s = Call.Change (Changing.Commit (record { txn = a; start = b; commit = c }) (one_key k))
call_by (Op.Changes ChangeOp.CommitBatch) a b c d p k r f t u s = Call.Change (Changing.Commit (record { txn = a; start = b; commit = c }) s)
call_by (Op.Changes ChangeOp.Rollback) a b c d p k r f t u s = Call.Change (Changing.Rollback a b (one_key k))
call_by (Op.Changes ChangeOp.RollbackBatch) a b c d p k r f t u s = Call.Change (Changing.Rollback a b s)
call_by Op.OneStep a b c d p k r f t u s = Call.Change (Changing.OneStep (record { txn = a; start = b; commit = c }) s)
call_by (Op.Changes ChangeOp.Collect) a b c d p k r f t u s = Call.Change (Changing.Collect a)
call_by (Op.Asks AskOp.Bone) a b c d p k r f t u s = Call.Bone r a
call_by (Op.Asks AskOp.Bones) a b c d p k r f t u s = Call.Bones r
call_by (Op.Changes ChangeOp.Restore) a b c d p k r f t u s = Call.Restore s
call_by (Op.Shows ShowOp.Statistics) a b c d p k r f t u s = Call.Statistics
call_by (Op.Shows ShowOp.Marks) a b c d p k r f t u s = Call.Marks
call_by Op.Capture a b c d p k r f t u s = Call.Capture a
call_by Op.Convert a b c d p k r f t u s = Call.Convert s

-- the arguments that a shape names, in their order
unfoldable pub shaped : Shape → Reader TraceCall
shaped w = do
  a ← given (ltb 0 w.numbers) (number_of (first_width (is_long w.op))) 0
  b ← given (ltb 1 w.numbers) number 0
  c ← given (ltb 2 w.numbers) number 0
  d ← given w.kind kind Delete
  p ← given w.primary text []
  k ← given w.key text []
  r ← given w.row text []
  f ← given w.page bound none
  t ← given w.page bound none
  u ← given w.page bound none
  n ← buffer_by (is_long w.op) w.page
  s ← given w.rest remaining []
  just (lending n (call_by w.op a b c d p k r f t u s))

-- ---- what the code's arguments say

abbrev pub call_as : Op → Args → Call
call_as op a =
    call_by op a.first a.second a.third a.kind a.primary.now a.key.now a.row.now
    (key_behind a.from) (key_behind a.to) (key_behind a.resume) a.rest.now

abbrev pub call_of : Args → TraceCall
call_of a = lending a.buffer (call_as a.op a)
