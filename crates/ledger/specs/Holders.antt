-- Document 02, CR 9: "Answer 7 shall carry, besides transaction and start, the lock's time to live and kind, in every call that can give it. Every
-- other answer carries zeros there." Which lock that is, at which key it stands, and why it bars the call: said without the calls' own steps.
-- proofs/HolderSays.antt has the theorem.
-- Assumes nothing.
use Rattle.std.specs.Prelude.{ℕ, ◌≤◌, ◌<◌, ◌≡◌, true}
use mathlib.Core.List.{List, Memᴰ}
use Rattle.std.proofs.Math.Option.{Option, some}
use Rattle.forms.specs.Bytes.{Bytes, lt_bytes}
use Rattle.forms.specs.Key.{Key}
use Rattle.forms.specs.Batch.{key_inside, mutations, keys}
use Rattle.rules.specs.Answers.{Answer, Accepted, Held, number, no_holder, holder, answer_of}
use Rattle.rules.specs.Box.{Box, Lock, kind_byte, lock_of, in_order}
use Rattle.rules.specs.Sound.{sound_lock}
use Rattle.rules.specs.Read.{read}
use Rattle.rules.specs.Intent.{intent_at}
use Rattle.rules.specs.Page.{in_bounds}
use Rattle.rules.specs.Written.{scan_page, scan_intent_page, scan_conflicting_intents}
use Rattle.rules.specs.Calls.{State}
use Rattle.rules.specs.Restore.{restore}
use Rattle.rules.specs.Capture.{capture_image}
use Rattle.rules.specs.Convert.{convert_image}
use Rattle.rules.specs.Bones.{bone_shown, bones_shown}
use Rattle.rules.specs.Call.{Changing, Call, perform}
use Rattle.ledger.specs.Tidy.{Tidy}

-- ---- why a lock bars a call

-- "per entry", "per key": an entry of the batch has this key
abbrev pub NamedKey : {A : Type 0} → (A → Key) → Option (List A) → Key → Type 0
NamedKey {A = A} key batch k = (xs : List A) × (batch ≡ some xs) × (x : A) × Memᴰ x xs × (key x ≡ k)

-- "a lock of another transaction or start"
abbrev pub Another : ℕ → ℕ → Lock → Type 0
Another txn start l = l.txn ≡ txn → l.start ≡ start → ⊥

-- the lock `l` of the key `k` bars the call, which names this key or meets it
abbrev pub Bars : Call → Box → Key → Lock → Type 0
-- "lock with start at or below the moment, 7"
Bars (Call.Read key m) b k l = (k ≡ key) × (l.start ≤ m)
-- "from start (from after resume, if start is absent or not above resume) to before end. Each key is read first"
Bars (Call.Page a m limits) b k l = (in_bounds a k ≡ true) × (l.start ≤ m)
-- "a lock of another transaction or start, 7"; "another's lock, 7"
Bars (Call.Change (Changing.Prewrite h s)) b k l = NamedKey key_inside (mutations s) k × Another h.txn h.start l
Bars (Call.Change (Changing.Commit h s)) b k l = NamedKey (λ (j : Key). j) (keys s) k × Another h.txn h.start l
Bars (Call.Change (Changing.Rollback txn start s)) b k l = NamedKey (λ (j : Key). j) (keys s) k × Another txn start l
Bars (Call.Change (Changing.OneStep h s)) b k l = NamedKey key_inside (mutations s) k × Another h.txn h.start l
-- "a collection with a lock at or below F answers 7 for the first such key": at every key before it a lock starts above F
Bars (Call.Change (Changing.Collect f)) b k l = (l.start ≤ f) × ((j : Key) (o : Lock) → lt_bytes j k ≡ true → lock_of j b.lines ≡ some o → f < o.start)
-- no other call can give 7
Bars (Call.IntentPage a limit) b k l = ⊥
Bars (Call.ConflictingIntents a m limits) b k l = ⊥
Bars (Call.OneIntent key m) b k l = ⊥
Bars (Call.Restore s) b k l = ⊥
Bars Call.Statistics b k l = ⊥
Bars Call.Marks b k l = ⊥
Bars (Call.Capture t) b k l = ⊥
Bars (Call.Convert s) b k l = ⊥
Bars (Call.Bone r n) b k l = ⊥
Bars (Call.Bones r) b k l = ⊥

-- ---- what the answer carries

-- the lock whose holder the answer carries: it stands in the box at a key, is sound, and bars the call there
pub record Carries (bars : Key → Lock → Type 0) (b : Box) (a : Answer) : Type 0 where
  pub key : Key
  pub lock : Lock
  pub stands : lock_of key b.lines ≡ some lock
  -- "transaction, start, time to live not 0, kind Put or Delete": so none of the four numbers is zero
  pub sound : sound_lock lock ≡ true
  pub why : bars key lock
  -- the case that has a holder, and no bare 7
  pub held : a ≡ Held (holder a)
  -- "besides transaction and start, the lock's time to live and kind"
  pub txn_is : (holder a).txn ≡ lock.txn
  pub start_is : (holder a).start ≡ lock.start
  pub ttl_is : (holder a).ttl ≡ lock.ttl
  pub kind_is : (holder a).kind ≡ kind_byte lock.kind

pub record HolderSays (bars : Key → Lock → Type 0) (b : Box) (a : Answer) : Type 0 where
  -- "Answer 7 shall carry .., in every call that can give it"; a call that nothing bars does not give it
  pub seven : number a ≡ 7 → Carries bars b a
  -- "Every other answer carries zeros there."
  pub other : (number a ≡ 7 → ⊥) → holder a ≡ no_holder

-- ---- of every call

-- what each call answers on a state, with the buffer lent to it
abbrev pub answer_to : Call → State → Bytes → Answer
answer_to (Call.Read k m) st buffer = answer_of (read st.floor k m st.box)
answer_to (Call.Page a m limits) st buffer = (scan_page st.floor a m limits st.box buffer).answer
answer_to (Call.IntentPage a limit) st buffer = (scan_intent_page a limit st.box buffer).answer
answer_to (Call.ConflictingIntents a m limits) st buffer = (scan_conflicting_intents a m limits st.box buffer).answer
answer_to (Call.OneIntent k m) st buffer = answer_of (intent_at k m st.box)
answer_to (Call.Change c) st buffer = (perform c st).answer
answer_to (Call.Restore s) st buffer = (restore s st).answer
answer_to Call.Statistics st buffer = Accepted
answer_to Call.Marks st buffer = Accepted
answer_to (Call.Capture t) st buffer = (capture_image st.floor t st.box buffer).answer
answer_to (Call.Convert s) st buffer = (convert_image s buffer).answer
answer_to (Call.Bone r n) st buffer = (bone_shown r n).answer
answer_to (Call.Bones r) st buffer = (bones_shown r).answer

-- the sentence, on a box that is tidy and in order, as every store's is
abbrev pub HoldersTold : Type 0
HoldersTold = (c : Call) (st : State) (buffer : Bytes) → Tidy st.box → in_order st.box ≡ true → HolderSays (Bars c st.box) st.box (answer_to c st buffer)
