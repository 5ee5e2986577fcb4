-- The paper's replies of what a read and an intent at a point answer in numbers, and the promises of the two.
-- Assumes nothing.
use Rattle.std.specs.Prelude.{ℕ, ◌+◌, ◌≤◌, ◌≡◌, true, length, Option, None, Some, Result, Ok, Err}
use Rattle.forms.specs.Bytes.{Bytes, bytes_at}
use Rattle.forms.specs.Key.{key_form}
use Rattle.forms.specs.Row.{Row}
use Rattle.rules.specs.Answers.{Answer, Answered, Reply, nothing, shown, refused, answer_of}
use Rattle.rules.specs.declared.records.Kind.{Kind}
use Rattle.rules.specs.declared.records.Kind.TheVariants.{Put, Delete, Rollback}
use Rattle.rules.specs.declared.answers.Refusal.{Refusal}
use Rattle.rules.specs.Outcomes.{refusal}
use Rattle.rules.specs.Box.{Lock}
use Rattle.forms.specs.declared.part.Part.{Part}
use Rattle.rules.specs.Read.{Examined, examine}
use Rattle.rules.specs.Intent.{intent_at}
use Rattle.store.specs.declared.table.Store.{Store}
use Rattle.store.specs.View.{box_of}
use Rattle.store.specs.Made.{Built}
use Rattle.lookups.specs.declared.lookup.KeyState.{KeyState}
use Rattle.lookups.specs.KeyStates.{Found, Locked, KeyStateAt}
use Rattle.reads.specs.declared.seen.Reading.{Reading}
use Rattle.reads.specs.declared.seen.ShownLock.{ShownLock}

-- ---- a read

abbrev pub RowSeen : Type 0
RowSeen = Result (Option Part) Refusal

abbrev pub seen_in : Bytes → RowSeen → Reply Row
seen_in area (Ok None) = nothing
seen_in area (Ok (Some p)) = shown (bytes_at area p.at p.len)
seen_in area (Err r) = refused (refusal r)

-- what is shown ends by n
abbrev pub SeenBelow : ℕ → RowSeen → Type 0
SeenBelow n (Ok None) = Unit {0}
SeenBelow n (Ok (Some p)) = p.at + p.len ≤ n
SeenBelow n (Err r) = Unit {0}

-- an answer is this reply, with its number and holder, and what it shows lies in the area
pub record SeenAs (want : Reply Row) (area : Bytes) (r : RowSeen) : Type 0 where
  pub answer_is : Answered (answer_of want) (answer_of (seen_in area r))
  pub is : seen_in area r ≡ want
  pub within : SeenBelow (length area) r

-- a read is this reply, and its count is the definition's: "the number of write records it examined"
pub record ReadAs (want : Examined) (area : Bytes) (r : Reading) : Type 0 where
  pub seen_as : SeenAs want.reply area r.seen
  pub count_is : r.count ≡ want.count

-- so it is by what the lookup found at the key, whatever the store, at a moment that is not below its floor
abbrev pub ReadBy : KeyState → ℕ → Reading → Type 0
ReadBy found m r =
    (st : Store) (area k : Bytes) → Built st area → key_form k ≡ true → st.floor ≤ m → KeyStateAt st area k 0 m found → ReadAs (examine st.floor k m (box_of st area)) area r

-- a refusal before the first record: "Other refusals still count 0"
abbrev pub unread : Refusal → Reading
unread r = record { seen = Err r; count = 0 }

-- what the newest record that counts shows
abbrev pub if_put : Kind → Part → Option Part
if_put Put p = Some p
if_put Delete p = None
if_put Rollback p = None

abbrev pub newest_seen : Found → Option Part
newest_seen None = None
newest_seen (Some w) = if_put w.kind (record { at = w.rowat; len = w.rowlen })

-- ---- an intent at a point

abbrev pub LockSeen : Type 0
LockSeen = Result (Option ShownLock) Refusal

abbrev pub shown_lock : Bytes → ShownLock → Lock
shown_lock area s = record { txn = s.txn; primary = bytes_at area s.primary.at s.primary.len; start = s.start; ttl = s.ttl; kind = s.kind }

abbrev pub pointed_in : Bytes → LockSeen → Reply Lock
pointed_in area (Ok None) = nothing
pointed_in area (Ok (Some s)) = shown (shown_lock area s)
pointed_in area (Err r) = refused (refusal r)

-- the primary of what is shown ends by n
abbrev pub PointedBelow : ℕ → LockSeen → Type 0
PointedBelow n (Ok None) = Unit {0}
PointedBelow n (Ok (Some s)) = s.primary.at + s.primary.len ≤ n
PointedBelow n (Err r) = Unit {0}

-- an answer is this reply, with its number and holder, and the primary that it shows lies in the area
pub record PointedAs (want : Reply Lock) (area : Bytes) (r : LockSeen) : Type 0 where
  pub answer_is : Answered (answer_of want) (answer_of (pointed_in area r))
  pub is : pointed_in area r ≡ want
  pub within : PointedBelow (length area) r

-- so it is by the lock that the lookup found, whatever the store
abbrev pub PointedBy : Locked → ℕ → LockSeen → Type 0
PointedBy lock m r =
    (st : Store) (area k : Bytes) (found : KeyState) → Built st area → key_form k ≡ true → KeyStateAt st area k 0 m found → found.lock ≡ lock → PointedAs (intent_at k m (box_of st area)) area r
