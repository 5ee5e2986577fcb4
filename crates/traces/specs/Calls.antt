-- docs/TRACE.md: "A call is an op byte and its arguments, in the order of the table." The table of calls, a reader for each row.
-- Assumes nothing.
use Rattle.std.specs.Prelude.{ℕ, Bool, true, false}
use Rattle.std.proofs.Math.Option.{Option, none, some}
use Rattle.forms.specs.Bytes.{Bytes}
use Rattle.forms.specs.Readers.{Reader, ◌>>=◌, just, byte, whole}
use Rattle.forms.specs.Key.{Key}
use Rattle.forms.specs.Row.{Row}
use Rattle.forms.specs.Ones.{one_mutation, one_key}
use Rattle.rules.specs.declared.records.Kind.{Kind}
use Rattle.rules.specs.declared.records.Kind.TheVariants.{Put, Delete, Rollback}
use Rattle.rules.specs.Call.{Changing, Call}
use Rattle.traces.specs.declared.op.ShowOp.{ShowOp}
use Rattle.traces.specs.declared.op.ChangeOp.{ChangeOp}
use Rattle.traces.specs.declared.op.AskOp.{AskOp}
use Rattle.traces.specs.declared.op.Op.{Op}
use Rattle.traces.specs.Ops.{known_op, op_of}
use Rattle.traces.specs.Arguments.{number, kind, text, bound, buffer, table, long_buffer, remaining}

-- what a call of a trace says: the call, and the length of the buffer that it is lent for its page or image; a call that writes none is lent
-- none, and has 0. A single prewrite, commit or rollback says its batch of one.
pub record TraceCall : Type 0 where
  pub call : Call
  pub buffer : ℕ

abbrev pub lent_none : Call → TraceCall
lent_none c = record { call = c; buffer = 0 }

abbrev pub lending : ℕ → Call → TraceCall
lending n c = record { call = c; buffer = n }

-- "1 | read | moment, key"
unfoldable pub read_arguments : Reader TraceCall
read_arguments = do
  m ← number
  k ← text
  just (lent_none (Call.Read k m))

-- "2 | page | moment, row limit, byte limit, start bound, end bound, resume bound, buffer"
unfoldable pub page_arguments : Reader TraceCall
page_arguments = do
  m ← number
  rows ← number
  bytes ← number
  s ← bound
  e ← bound
  r ← bound
  n ← buffer
  just (lending n (Call.Page (record { from = s; to = e; resume = r }) m (record { rows = rows; bytes = bytes })))

-- "3 | intent page | lock limit, start bound, end bound, resume bound, buffer"
unfoldable pub intent_page_arguments : Reader TraceCall
intent_page_arguments = do
  limit ← number
  s ← bound
  e ← bound
  r ← bound
  n ← buffer
  just (lending n (Call.IntentPage (record { from = s; to = e; resume = r }) limit))

-- "4 | conflicting intents | moment, lock limit, byte limit, start bound, end bound, resume bound, buffer"
unfoldable pub conflicting_intents_arguments : Reader TraceCall
conflicting_intents_arguments = do
  m ← number
  locks ← number
  bytes ← number
  s ← bound
  e ← bound
  r ← bound
  n ← buffer
  just (lending n (Call.ConflictingIntents (record { from = s; to = e; resume = r }) m (record { rows = locks; bytes = bytes })))

-- "5 | one intent at a point | moment, key"
unfoldable pub one_intent_arguments : Reader TraceCall
one_intent_arguments = do
  m ← number
  k ← text
  just (lent_none (Call.OneIntent k m))

-- "a Delete's row argument is ignored"; no call says Rollback
abbrev pub row_for : Kind → Row → Option Row
row_for Put r = some r
row_for Delete r = none
row_for Rollback r = none

abbrev pub one_entry : Kind → Key → Row → Bytes
one_entry d k r = one_mutation (record { key = k; row = row_for d r })

-- "6 | prewrite | transaction, start, time to live, kind, primary, key, row"
unfoldable pub prewrite_arguments : Reader TraceCall
prewrite_arguments = do
  t ← number
  s ← number
  l ← number
  d ← kind
  p ← text
  k ← text
  r ← text
  just (lent_none (Call.Change (Changing.Prewrite (record { txn = t; start = s; primary = p; ttl = l }) (one_entry d k r))))

-- "7 | prewrite of a batch | transaction, start, time to live, primary, batch"
unfoldable pub prewrite_batch_arguments : Reader TraceCall
prewrite_batch_arguments = do
  t ← number
  s ← number
  l ← number
  p ← text
  b ← remaining
  just (lent_none (Call.Change (Changing.Prewrite (record { txn = t; start = s; primary = p; ttl = l }) b)))

-- "8 | commit | transaction, start, commit, key"
unfoldable pub commit_arguments : Reader TraceCall
commit_arguments = do
  t ← number
  s ← number
  c ← number
  k ← text
  just (lent_none (Call.Change (Changing.Commit (record { txn = t; start = s; commit = c }) (one_key k))))

-- "9 | commit of a key batch | transaction, start, commit, batch"
unfoldable pub commit_batch_arguments : Reader TraceCall
commit_batch_arguments = do
  t ← number
  s ← number
  c ← number
  b ← remaining
  just (lent_none (Call.Change (Changing.Commit (record { txn = t; start = s; commit = c }) b)))

-- "10 | rollback | transaction, start, key"
unfoldable pub rollback_arguments : Reader TraceCall
rollback_arguments = do
  t ← number
  s ← number
  k ← text
  just (lent_none (Call.Change (Changing.Rollback t s (one_key k))))

-- "11 | rollback of a key batch | transaction, start, batch"
unfoldable pub rollback_batch_arguments : Reader TraceCall
rollback_batch_arguments = do
  t ← number
  s ← number
  b ← remaining
  just (lent_none (Call.Change (Changing.Rollback t s b)))

-- "12 | one-step batch | transaction, start, commit, batch"
unfoldable pub one_step_arguments : Reader TraceCall
one_step_arguments = do
  t ← number
  s ← number
  c ← number
  b ← remaining
  just (lent_none (Call.Change (Changing.OneStep (record { txn = t; start = s; commit = c }) b)))

-- "13 | collection | floor"
unfoldable pub collect_arguments : Reader TraceCall
collect_arguments = do
  f ← number
  just (lent_none (Call.Change (Changing.Collect f)))

-- "17 | is bone n shown | bone number, row"
unfoldable pub bone_arguments : Reader TraceCall
bone_arguments = do
  n ← number
  r ← text
  just (lent_none (Call.Bone r n))

-- "18 | how many bones are shown | row"
unfoldable pub bones_arguments : Reader TraceCall
bones_arguments = do
  r ← text
  just (lent_none (Call.Bones r))

-- "32 | restore | image"
unfoldable pub restore_arguments : Reader TraceCall
restore_arguments = do
  i ← remaining
  just (lent_none (Call.Restore i))

-- "33 | statistics |"
unfoldable pub statistics_arguments : Reader TraceCall
statistics_arguments = just (lent_none Call.Statistics)

-- "34 | high-water marks |"
unfoldable pub marks_arguments : Reader TraceCall
marks_arguments = just (lent_none Call.Marks)

-- "35 | write the image | table, long buffer"
unfoldable pub capture_arguments : Reader TraceCall
capture_arguments = do
  t ← table
  n ← long_buffer
  just (lending n (Call.Capture t))

-- "36 | convert an old image | long buffer, image"
unfoldable pub convert_arguments : Reader TraceCall
convert_arguments = do
  n ← long_buffer
  i ← remaining
  just (lending n (Call.Convert i))

unfoldable pub arguments_of : Op → Reader TraceCall
arguments_of (Op.Shows ShowOp.Read) = read_arguments
arguments_of (Op.Shows ShowOp.Page) = page_arguments
arguments_of (Op.Shows ShowOp.IntentPage) = intent_page_arguments
arguments_of (Op.Shows ShowOp.ConflictingIntents) = conflicting_intents_arguments
arguments_of (Op.Shows ShowOp.OneIntent) = one_intent_arguments
arguments_of (Op.Changes ChangeOp.Prewrite) = prewrite_arguments
arguments_of (Op.Changes ChangeOp.PrewriteBatch) = prewrite_batch_arguments
arguments_of (Op.Changes ChangeOp.Commit) = commit_arguments
arguments_of (Op.Changes ChangeOp.CommitBatch) = commit_batch_arguments
arguments_of (Op.Changes ChangeOp.Rollback) = rollback_arguments
arguments_of (Op.Changes ChangeOp.RollbackBatch) = rollback_batch_arguments
arguments_of Op.OneStep = one_step_arguments
arguments_of (Op.Changes ChangeOp.Collect) = collect_arguments
arguments_of (Op.Asks AskOp.Bone) = bone_arguments
arguments_of (Op.Asks AskOp.Bones) = bones_arguments
arguments_of (Op.Changes ChangeOp.Restore) = restore_arguments
arguments_of (Op.Shows ShowOp.Statistics) = statistics_arguments
arguments_of (Op.Shows ShowOp.Marks) = marks_arguments
arguments_of Op.Capture = capture_arguments
arguments_of Op.Convert = convert_arguments

-- the arguments of a known op; "Not in form: .. an unknown op"
unfoldable pub of_op : Bool → Option Op → Reader TraceCall
of_op true (some op) = arguments_of op
of_op true none = λ s. none
of_op false op = λ s. none

-- "A call is an op byte and its arguments"
unfoldable pub call_from : Reader TraceCall
call_from = do
  b ← byte
  of_op (known_op b) (op_of b)

-- "Not in form: .. bytes missing or left over in a call"
unfoldable pub call : Bytes → Option TraceCall
call s = whole call_from s
