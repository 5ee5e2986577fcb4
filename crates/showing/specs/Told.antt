-- docs/TRACE.md, "Answers": what each call tells, and what the store holds after it, with its floor.
-- Assumes nothing.
use Rattle.std.specs.Prelude.{ℕ, List, [], ◌∷◌, ◌++◌, replicate}
use Rattle.std.proofs.Math.Option.{Option, none, some}
use Rattle.forms.specs.Bytes.{Bytes}
use Rattle.rules.specs.Answers.{Answer, Accepted, No, Reply, answer_of}
use Rattle.rules.specs.Calls.{State, Ended, fresh_state}
use Rattle.rules.specs.Read.{examine}
use Rattle.rules.specs.Intent.{intent_at}
use Rattle.rules.specs.Written.{Written, scan_page, scan_intent_page, scan_conflicting_intents}
use Rattle.rules.specs.Capture.{capture_image}
use Rattle.rules.specs.Bones.{Due, bone_shown, bones_shown}
use Rattle.rules.specs.Convert.{convert_image}
use Rattle.rules.specs.OneStep.{one_step}
use Rattle.rules.specs.Restore.{restore}
use Rattle.rules.specs.Figures.{stats, marks}
use Rattle.rules.specs.Call.{Changing, perform, Call}
use Rattle.traces.specs.Calls.{TraceCall}
use Rattle.traces.specs.Put as put
use Rattle.traces.specs.Payloads.{read_payload, intent_payload, bone_payload, bones_payload, stats_payload, marks_payload}
use Rattle.traces.specs.Answers.{answer_bytes, not_in_form}

-- an answer, with its number and holder, a count and a payload; and the state after the call
pub record Told : Type 0 where
  pub answer : Answer
  pub count : ℕ
  pub payload : Bytes
  pub state : State

-- the bytes of it
abbrev pub told_bytes : Told → Bytes
told_bytes t = answer_bytes t.answer t.count t.payload

-- a call that shows something leaves the state as it was
abbrev pub showing : Answer → Bytes → State → Told
showing a payload st = record { answer = a; count = 0; payload = payload; state = st }

-- what a question about a row tells: its answer, and what it shows
abbrev pub asking : {A : Type 0} → (A → Bytes) → Due A → State → Told
asking payload d st = showing d.answer (payload d.shown) st

-- what a reply tells: its answer, a count, and what it shows
abbrev pub replying : {A : Type 0} → (Reply A → Bytes) → ℕ → Reply A → State → Told
replying payload count r st = record { answer = answer_of r; count = count; payload = payload r; state = st }

-- a call that changes the state tells its answer and a count
abbrev pub changing : ℕ → Ended → Told
changing count e = record { answer = e.answer; count = count; payload = []; state = e.state }

-- "the number of entries for an accepted one-step batch, a replay too"; of other calls 0
abbrev pub count_of : Changing → State → ℕ
count_of (Changing.Prewrite h s) st = 0
count_of (Changing.Commit h s) st = 0
count_of (Changing.Rollback txn start s) st = 0
count_of (Changing.OneStep h s) st = (one_step st.floor h s st.box).count
count_of (Changing.Collect f) st = 0

-- "the call is lent a buffer of that many bytes, each 0xEE before the call"
abbrev pub lent : ℕ → Bytes
lent n = replicate n 238

-- "Count: .. the bytes written for an accepted page of any kind, or for an image"; "Payload of a page of any kind, or of an image: the whole
-- lent buffer as it stands after the call, refused or not"
abbrev pub paging : Written → State → Told
paging w st = record { answer = w.answer; count = w.count; payload = w.buffer; state = st }

-- nothing is run
abbrev pub not_run : State → Told
not_run st = showing (No 6) [] st

-- what a call tells of a state, lent a buffer of that length
unfoldable pub told : Call → ℕ → State → Told
told (Call.Read k m) n st = replying read_payload (examine st.floor k m st.box).count (examine st.floor k m st.box).reply st
told (Call.Page a m l) n st = paging (scan_page st.floor a m l st.box (lent n)) st
told (Call.IntentPage a l) n st = paging (scan_intent_page a l st.box (lent n)) st
told (Call.ConflictingIntents a m l) n st = paging (scan_conflicting_intents a m l st.box (lent n)) st
told (Call.OneIntent k m) n st = replying intent_payload 0 (intent_at k m st.box) st
told (Call.Change c) n st = changing (count_of c st) (perform c st)
told (Call.Restore s) n st = changing 0 (restore s st)
told Call.Statistics n st = showing Accepted (stats_payload (stats st.box)) st
told Call.Marks n st = showing Accepted (marks_payload (marks st.box)) st
told (Call.Capture t) n st = paging (capture_image st.floor t st.box (lent n)) st
told (Call.Bone r k) n st = asking bone_payload (bone_shown r k) st
told (Call.Bones r) n st = asking bones_payload (bones_shown r) st
told (Call.Convert s) n st = paging (convert_image s (lent n)) st

abbrev pub told_in : TraceCall → State → Told
told_in c st = told c.call c.buffer st

-- bytes that are no call in form: 6, and nothing is run
unfoldable pub told_of : Option TraceCall → State → Told
told_of none st = not_run st
told_of (some c) st = told_in c st

-- ---- a whole trace

-- "The calls of one trace run in turn on one store"
unfoldable pub answers_from : List TraceCall → State → Bytes
answers_from [] st = []
answers_from (c ∷ cs) st = told_bytes (told_in c st) ++ answers_from cs (told_in c st).state

-- "fresh at the start"; "A trace not in form gives one answer, number 6, with zeros and no payload, and nothing is run. A trace of no calls
-- gives no answer at all."
unfoldable pub answers_of : Option (List TraceCall) → Bytes
answers_of none = not_in_form
answers_of (some cs) = answers_from cs fresh_state

-- ---- the buffer

-- the bytes b over the front of the buffer, where they fit, and nothing beyond; else the buffer as it was, and 0
abbrev pub Writes : Bytes → Bytes → ℕ → Bytes → Type 0
Writes b out len out' = put.Put (put.room b out) b out len out'
