-- The calls of documents 01 and 02, each with its arguments as its steps take them, but for what it is lent: the store, and a page's buffer.
-- Demand 3, the demands on every public call and the traces speak of these.
-- Assumes nothing.
use Rattle.std.specs.Prelude.{ℕ}
use Rattle.forms.specs.Bytes.{Bytes}
use Rattle.forms.specs.Key.{Key}
use Rattle.forms.specs.Row.{Row}
use Rattle.rules.specs.Page.{Bounds, Limits}
use Rattle.rules.specs.Calls.{State, Ended, on_floor}
use Rattle.rules.specs.Prewrite.{PrewriteTerms, prewrite_batch}
use Rattle.rules.specs.declared.terms.CommitTerms.{CommitTerms}
use Rattle.rules.specs.Commit.{commit_batch}
use Rattle.rules.specs.Rollback.{rollback_batch}
use Rattle.rules.specs.OneStep.{one_step}
use Rattle.rules.specs.Collect.{collect}

-- the calls of demand 3, "prewrites, commits, rollbacks and one-step batches", and document 02's collections: a batch is its bytes, in form or
-- not. A single form is its batch of one (`one_mutation`, `one_key`), whose entry is the call's own wherever it is accepted (`prewrite-named` of
-- laws/proofs/Singles, and so on)
pub data Changing : Type 0 where
  Prewrite : PrewriteTerms → (batch : Bytes) → Changing
  Commit : CommitTerms → (batch : Bytes) → Changing
  Rollback : (txn start : ℕ) → (batch : Bytes) → Changing
  OneStep : CommitTerms → (batch : Bytes) → Changing
  -- document 02, CR 7: "Collect up to a floor F"
  Collect : (floor : ℕ) → Changing

-- what a changing call answers, and the state after it; only a collection moves the floor
unfoldable pub perform : Changing → State → Ended
perform (Changing.Prewrite h s) st = on_floor st.floor (prewrite_batch st.floor h s st.box)
perform (Changing.Commit h s) st = on_floor st.floor (commit_batch st.floor h s st.box)
perform (Changing.Rollback txn start s) st = on_floor st.floor (rollback_batch st.floor txn start s st.box)
perform (Changing.OneStep h s) st = on_floor st.floor (one_step st.floor h s st.box).done
perform (Changing.Collect f) st = collect f st

-- every call, in the order of "The steps, in order"
pub data Call : Type 0 where
  Read : Key → (moment : ℕ) → Call
  Page : Bounds → (moment : ℕ) → Limits → Call
  IntentPage : Bounds → (limit : ℕ) → Call
  ConflictingIntents : Bounds → (moment : ℕ) → Limits → Call
  OneIntent : Key → (moment : ℕ) → Call
  Change : Changing → Call
  Restore : (image : Bytes) → Call
  Statistics : Call
  Marks : Call
  -- document 02, CR 1: "From a store and a table number, write that table's image"
  Capture : (table : ℕ) → Call
  -- document 02, CR 4: "A converter adds a zero count to each row of an old image"
  Convert : (image : Bytes) → Call
  -- document 02, CR 4: "whether bone n is shown, and how many bones are shown"
  Bone : Row → (n : ℕ) → Call
  Bones : Row → Call
