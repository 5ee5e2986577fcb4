-- Every public call (crates/mvcc/src/lib.rt): its arguments, what it gives back, and that it kept its promise; and the demands that are made
-- of all of them alike. `Kept` has a case for each call; src/ties.rt makes each call and shows that what it gave is `Kept`, by the call's own
-- `ensures`. Nothing else is known of the code. proofs/Refusals.antt, proofs/Alike.antt and proofs/Stays.antt have the theorems.
-- Assumes nothing.
use Rattle.std.specs.Prelude.{ℕ, zero, suc, ◌≡◌, Bool, true, false, []}
use Rattle.forms.specs.Bytes.{Bytes}
use Rattle.forms.specs.Row.{Row}
use Rattle.rules.specs.Answers.{Answer, Accepted, No, Held, Answered, Reply, answer_of}
use Rattle.rules.specs.declared.figures.Stats.{Stats}
use Rattle.rules.specs.declared.figures.Marks.{Marks}
use Rattle.rules.specs.Answers as answers
use Rattle.rules.specs.Box.{Box, Lock}
use Rattle.rules.specs.Read.{examine}
use Rattle.rules.specs.Intent.{intent_at}
use Rattle.rules.specs.Call.{Changing, Call}
use Rattle.rules.specs.Written.{scan_page, scan_intent_page, scan_conflicting_intents, WroteAs}
use Rattle.rules.specs.Prewrite.{prewrite_batch}
use Rattle.rules.specs.Commit.{commit_batch}
use Rattle.rules.specs.Rollback.{rollback_batch}
use Rattle.rules.specs.OneStep.{one_step}
use Rattle.rules.specs.Restore.{restore}
use Rattle.rules.specs.Calls.{State}
use Rattle.rules.specs.Bones.{Tells, bone_shown, bones_shown, BoneShown, BonesShown}
use Rattle.rules.specs.Figures.{stats, marks}
use Rattle.store.specs.declared.table.Store.{Store}
use Rattle.store.specs.View.{box_of, state_shown}
use Rattle.store.specs.Made.{Made, FreshStore}
use Rattle.calls.specs.Settled.{Changed, Settled, Replaced}
use Rattle.collects.specs.Promise.{CollectedAs}
use Rattle.reads.specs.Seen.{RowSeen, LockSeen, seen_in, ReadAs, pointed_in, PointedAs}
use Rattle.reads.specs.declared.seen.Reading.{Reading}
use Rattle.reads.specs.Parts.{RowPart, PrimaryPart}
use Rattle.rules.specs.Outcomes.{Wrote}
use Rattle.onesteps.specs.Counts.{Stepped, Counts}
use Rattle.captures.specs.Promise.{ImageWritten}
use Rattle.converts.specs.Promise.{ImageConverted}

-- ---- the calls

-- a public call with its arguments, but for what it is lent
pub data Public : Type 0 where
  -- fresh and open
  starting : Public
  -- a call of document 01 or 02. prewrite, commit_intent and rollback_intent are their batches at the bytes of a batch of one.
  calling : Call → Public
  -- row_of and primary_of, of any answer, not only of one that a read gave
  handing_row : RowSeen → Public
  handing_primary : LockSeen → Public

-- what sort of thing a call gives back
pub data Sort : Type 0 where
  a_store : Sort
  a_row : Sort
  a_lock : Sort
  a_part : Sort
  a_page : Sort
  a_change : Sort
  a_step : Sort
  some_stats : Sort
  some_marks : Sort
  a_bone : Sort
  some_bones : Sort

abbrev pub gives : Public → Sort
gives starting = a_store
gives (calling (Call.Read k m)) = a_row
gives (calling (Call.Page a m l)) = a_page
gives (calling (Call.IntentPage a l)) = a_page
gives (calling (Call.ConflictingIntents a m l)) = a_page
gives (calling (Call.OneIntent k m)) = a_lock
gives (calling (Call.Change (Changing.Prewrite h s))) = a_change
gives (calling (Call.Change (Changing.Commit h s))) = a_change
gives (calling (Call.Change (Changing.Rollback txn start s))) = a_change
gives (calling (Call.Change (Changing.OneStep h s))) = a_step
gives (calling (Call.Change (Changing.Collect f))) = a_change
gives (calling (Call.Restore s)) = a_change
gives (calling Call.Statistics) = some_stats
gives (calling Call.Marks) = some_marks
gives (calling (Call.Capture t)) = a_page
gives (calling (Call.Convert s)) = a_page
gives (calling (Call.Bone r n)) = a_bone
gives (calling (Call.Bones r)) = some_bones
gives (handing_row s) = a_part
gives (handing_primary p) = a_part

-- what a call is made on and may write to: the store, the area in which it keeps its bytes, and the buffer lent for a page or an image. A call
-- that writes neither is lent no such buffer, and has any here. Every other slice (keys, rows, batches, bounds, an image) is lent as `&` alone, and
-- no call can write to it.
pub record Lent : Type 0 where
  pub store : Store
  pub area : Bytes
  pub buffer : Bytes

abbrev pub box_in : Lent → Box
box_in w = box_of w.store w.area

abbrev pub floor_in : Lent → ℕ
floor_in w = w.store.floor

-- the box and its floor
abbrev pub state_in : Lent → State
state_in w = state_shown w.store w.area

-- what a call gives back, and beside it what it left of what it was lent as `&mut`
pub data Given : Sort → Type 0 where
  -- a store for an area
  started : Store → Given a_store
  -- a read's answer with its count, and the part that `row_of` hands back of it; an intent at a point, and the part that `primary_of` hands back
  seen : Reading → Bytes → Given a_row
  pointed : LockSeen → Bytes → Given a_lock
  -- a part
  handed : Bytes → Given a_part
  -- the answer and the count of a call that writes a page or an image, and the buffer
  paged : Wrote → Bytes → Given a_page
  -- store and answer, and the area; a one-step batch gives its count too
  changed : Changed → Bytes → Given a_change
  stepped : Stepped → Bytes → Given a_step
  -- figures
  counted : Stats → Given some_stats
  marked : Marks → Given some_marks
  -- whether a bone is shown, and how many
  boned : BoneShown → Given a_bone
  summed : BonesShown → Given some_bones

-- ---- what can be told of it

abbrev pub answer_in : {o : Sort} → Lent → Given o → Answer
answer_in w (started s) = Accepted
answer_in w (seen r part) = answer_of (seen_in w.area r.seen)
answer_in w (pointed p part) = answer_of (pointed_in w.area p)
answer_in w (handed part) = Accepted
answer_in w (paged r out) = r.answer
answer_in w (changed r area) = r.answer
answer_in w (stepped r area) = r.answer
answer_in w (counted s) = Accepted
answer_in w (marked m) = Accepted
answer_in w (boned b) = b.answer
answer_in w (summed b) = b.answer

-- "A writing call also gives the bytes written"; "The count is the number of entries"; 02, CR 6: "the number of write records it examined"; a call
-- that gives no count has 0
abbrev pub count_in : {o : Sort} → Given o → ℕ
count_in (started s) = 0
count_in (seen r part) = r.count
count_in (pointed p part) = 0
count_in (handed part) = 0
count_in (paged r out) = r.count
count_in (changed r area) = 0
count_in (stepped r area) = r.count
count_in (counted s) = 0
count_in (marked m) = 0
count_in (boned b) = 0
count_in (summed b) = 0

-- what a call shows: a row, a lock with its primary, figures, or bones
pub data Shown : Type 0 where
  nothing : Shown
  row : Row → Shown
  lock : Lock → Shown
  chains : Stats → Shown
  highest : Marks → Shown
  bone : Bool → Shown
  bones : ℕ → Shown

abbrev pub row_in : Reply Row → Shown
row_in answers.nothing = nothing
row_in (answers.shown r) = row r
row_in (answers.refused a) = nothing

abbrev pub lock_in : Reply Lock → Shown
lock_in answers.nothing = nothing
lock_in (answers.shown l) = lock l
lock_in (answers.refused a) = nothing

-- of bones a refusal shows nothing where it tells `false` and 0; anything else that it told would be seen
abbrev pub bone_in : Answer → Bool → Shown
bone_in Accepted b = bone b
bone_in (No n) true = bone true
bone_in (No n) false = nothing
bone_in (Held h) true = bone true
bone_in (Held h) false = nothing

abbrev pub bones_in : Answer → ℕ → Shown
bones_in Accepted k = bones k
bones_in (No n) zero = nothing
bones_in (No n) (suc k) = bones (suc k)
bones_in (Held h) zero = nothing
bones_in (Held h) (suc k) = bones (suc k)

abbrev pub shown_in : {o : Sort} → Lent → Given o → Shown
shown_in w (started s) = nothing
shown_in w (seen r part) = row_in (seen_in w.area r.seen)
shown_in w (pointed p part) = lock_in (pointed_in w.area p)
shown_in w (handed part) = nothing
shown_in w (paged r out) = nothing
shown_in w (changed r area) = nothing
shown_in w (stepped r area) = nothing
shown_in w (counted s) = chains s
shown_in w (marked m) = highest m
shown_in w (boned b) = bone_in b.answer b.shown
shown_in w (summed b) = bones_in b.answer b.shown

-- the stretch of the store's own bytes that is handed back; none is the empty one
abbrev pub part_in : {o : Sort} → Given o → Bytes
part_in (started s) = []
part_in (seen r part) = part
part_in (pointed p part) = part
part_in (handed part) = part
part_in (paged r out) = []
part_in (changed r area) = []
part_in (stepped r area) = []
part_in (counted s) = []
part_in (marked m) = []
part_in (boned b) = []
part_in (summed b) = []

-- what stands after the call. A call that only reads is lent the store as `&`, and it is as it was; so is an area that was lent as `&`: of these it is
-- the functions' types that say so, and not their promises.
abbrev pub after : {o : Sort} → Lent → Given o → Lent
after w (started s) = record { store = s; area = w.area; buffer = w.buffer }
after w (seen r part) = w
after w (pointed p part) = w
after w (handed part) = w
after w (paged r out) = record { store = w.store; area = w.area; buffer = out }
after w (changed r area) = record { store = r.store; area = area; buffer = w.buffer }
after w (stepped r area) = record { store = r.store; area = area; buffer = w.buffer }
after w (counted s) = w
after w (marked m) = w
after w (boned b) = w
after w (summed b) = w

-- ---- the promises

-- the call, made on `w`, gave this, and kept its promise
abbrev pub Kept : Lent → (c : Public) → Given (gives c) → Type 0
-- `fresh` promises it of every area of 131,072 bytes, `open` of the one that it is lent
Kept w starting (started s) = FreshStore s w.area
Kept w (calling (Call.Read k m)) (seen r part) = ReadAs (examine (floor_in w) k m (box_in w)) w.area r × RowPart w.area r.seen part
Kept w (calling (Call.Page a m l)) (paged r out) = WroteAs (scan_page (floor_in w) a m l (box_in w) w.buffer) r out
Kept w (calling (Call.IntentPage a l)) (paged r out) = WroteAs (scan_intent_page a l (box_in w) w.buffer) r out
Kept w (calling (Call.ConflictingIntents a m l)) (paged r out) = WroteAs (scan_conflicting_intents a m l (box_in w) w.buffer) r out
Kept w (calling (Call.OneIntent k m)) (pointed p part) = PointedAs (intent_at k m (box_in w)) w.area p × PrimaryPart w.area p part
Kept w (calling (Call.Change (Changing.Prewrite h s))) (changed r area) = Settled w.store w.area (prewrite_batch (floor_in w) h s (box_in w)) r area
Kept w (calling (Call.Change (Changing.Commit h s))) (changed r area) = Settled w.store w.area (commit_batch (floor_in w) h s (box_in w)) r area
Kept w (calling (Call.Change (Changing.Rollback txn start s))) (changed r area) = Settled w.store w.area (rollback_batch (floor_in w) txn start s (box_in w)) r area
Kept w (calling (Call.Change (Changing.OneStep h s))) (stepped r area) = Counts w.store w.area (one_step (floor_in w) h s (box_in w)) r area
-- the area is lent as `&`, so what the call left of it is the area itself
Kept w (calling (Call.Change (Changing.Collect f))) (changed r area) = CollectedAs f w.store w.area r area
Kept w (calling (Call.Restore s)) (changed r area) = Replaced w.store w.area (restore s (state_in w)) r area
Kept w (calling Call.Statistics) (counted s) = s ≡ stats (box_in w)
Kept w (calling Call.Marks) (marked m) = m ≡ marks (box_in w)
Kept w (calling (Call.Capture t)) (paged r out) = ImageWritten (floor_in w) t (box_in w) w.buffer r out
Kept w (calling (Call.Convert s)) (paged r out) = ImageConverted s w.buffer r out
Kept w (calling (Call.Bone r n)) (boned b) = Tells (bone_shown r n) b.answer b.shown
Kept w (calling (Call.Bones r)) (summed b) = Tells (bones_shown r) b.answer b.shown
Kept w (handing_row s) (handed part) = RowPart w.area s part
Kept w (handing_primary p) (handed part) = PrimaryPart w.area p part

-- the same of a call that is lent no buffer, whatever stands for one
abbrev pub KeptOn : Store → Bytes → (c : Public) → Given (gives c) → Type 0
KeptOn st area c g = (buffer : Bytes) → Kept (record { store = st; area = area; buffer = buffer }) c g

-- ---- the demands

-- the only premise of a call
abbrev pub MadeIn : Lent → Type 0
MadeIn w = Made w.store w.area

-- "A refusal changes nothing in store or buffers and shows no row"; "a refusal's counts are 0". `left`: the store is the same value, and area
-- and buffer have the same bytes. `count` is said of a made store: a read that is 9 at a record counts it (02, CR 6: "the refusing one
-- included"), and a made store has no such record.
pub record Unchanged {o : Sort} (w : Lent) (g : Given o) : Type 0 where
  pub left : after w g ≡ w
  pub box : box_in (after w g) ≡ box_in w
  pub count : MadeIn w → count_in g ≡ 0
  pub shown : shown_in w g ≡ nothing
  pub part : part_in g ≡ []

-- demand 1, its second half, of every public call
abbrev pub Refusals : Type 0
Refusals = (w : Lent) (c : Public) (g : Given (gives c)) → Kept w c g → (answer_in w g ≡ Accepted → ⊥) → Unchanged w g

-- two outcomes have "number, holder, count, shown row, the store after it and the whole of each lent buffer" in common. The store is told by
-- the box that it shows and by its floor; where the stretches lie in the area, and the area's bytes outside them, are left open.
pub record Same {o : Sort} (w : Lent) (g q : Given o) : Type 0 where
  pub answer : Answered (answer_in w q) (answer_in w g)
  pub count : count_in g ≡ count_in q
  pub shown : shown_in w g ≡ shown_in w q
  pub part : part_in g ≡ part_in q
  pub state : state_in (after w g) ≡ state_in (after w q)
  pub buffer : (after w g).buffer ≡ (after w q).buffer

-- "its promise determines ..", "that no second answer fits": of a call
abbrev pub Once : Lent → Public → Type 0
Once w c = (g q : Given (gives c)) → Kept w c g → Kept w c q → Same w g q

-- of every public call
abbrev pub OneOutcome : Type 0
OneOutcome = (w : Lent) (c : Public) → Once w c

-- what `Same` leaves open is open only where a call was accepted: refused, store, area and buffer are the same to the last byte
abbrev pub OneRefusal : Type 0
OneRefusal = (w : Lent) (c : Public) (g q : Given (gives c)) → Kept w c g → Kept w c q → (answer_in w g ≡ Accepted → ⊥) → after w g ≡ after w q

-- "A made store stays made": whatever call kept its promise leaves it so, refused or not
abbrev pub StaysMade : Type 0
StaysMade = (w : Lent) (c : Public) (g : Given (gives c)) → Kept w c g → MadeIn w → MadeIn (after w g)

-- and `fresh` or `open` is how one begins: it asks nothing of a store before it
abbrev pub StartsMade : Type 0
StartsMade = (w : Lent) (g : Given a_store) → Kept w starting g → MadeIn (after w g)
