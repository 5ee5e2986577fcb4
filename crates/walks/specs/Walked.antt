-- What is asked of a walk, by the definitions, and the page that the lines show which it leaves. Entries are taken as their bytes: so rows and
-- locks are one matter.
-- Assumes nothing.
use Rattle.std.specs.Prelude.{ℕ, suc, ◌+◌, ◌≤◌, ◌≡◌, Bool, true, false, List, ◌++◌, map, length, replicate, Result, Ok, Err, ltb, slice_index_or}
use Rattle.seqs.specs.Tables as tables
use Rattle.forms.specs.Bytes.{Bytes, bytes_at, eq_bytes}
use Rattle.rules.specs.Answers.{Answer, Accepted, No, Held, Reply, nothing, shown, refused, if_passed}
use Rattle.rules.specs.Box.{Box, KeyLine}
use Rattle.rules.specs.Page.{Bounds, Limits, Page, empty_page, on_page, read_key, row_cost, lock_cost, conflicting, intent_walk, page_walk, keys_within, keys_of, locks_within, locks_of, page, intent_page, conflict_page}
use Rattle.rules.specs.Written.{piece_bytes, lock_bytes, key_row_bytes, key_lock_bytes, page_bytes}
use Rattle.store.specs.declared.table.Slot.{Slot}
use Rattle.store.specs.declared.table.Store.{Store}
use Rattle.store.specs.declared.table.Line.{Line}
use Rattle.store.specs.declared.table.Line.TheVariants.{Standing, Finished}
use Rattle.store.specs.declared.views.LineView.{LineView}
use Rattle.store.specs.declared.views.LineView.TheVariants as view
use Rattle.store.specs.View.{place_of, key_of, past, no_slot}
use Rattle.store.specs.Made.{Built}
use Rattle.store.specs.Views.{lock_in, view_of}
use Rattle.turns.specs.declared.asked.PageQuery.{PageQuery}
use Rattle.turns.specs.declared.asked.Scan.{Scan}
use Rattle.turns.specs.declared.asked.Scan.TheVariants.{Rows, Intents, Conflicts}
use Rattle.turns.specs.Scans.{waits_for}
use Rattle.turns.specs.Turns.{Turn, On, Stop, Refuse, Add}
use Rattle.walks.specs.declared.walked as code
use Rattle.rules.specs.declared.answers.Refusal.{Refusal as Why}
use Rattle.rules.specs.Outcomes.{refusal}

-- ---- what is asked

-- a page, its entries as their bytes
unfoldable pub page_on : {A : Type 0} → (A → Bytes) → Reply (Page A) → Reply (Page Bytes)
page_on f nothing = nothing
page_on f (shown p) = shown (record { rows = map f p.rows; more = p.more })
page_on f (refused v) = refused v

abbrev pub limits_of : PageQuery → Limits
limits_of q = record { rows = q.limit; bytes = q.bytes }

-- the call's page, in a store of this floor
abbrev pub page_by : ℕ → Scan → ℕ → Limits → Bounds → Box → Reply (Page Bytes)
page_by floor Rows moment m a b = page_on key_row_bytes (page floor a moment m b)
page_by floor Intents moment m a b = page_on key_lock_bytes (intent_page a m.rows b)
page_by floor Conflicts moment m a b = page_on key_lock_bytes (conflict_page a moment m b)

abbrev pub page_asked : ℕ → PageQuery → Bounds → Box → Reply (Page Bytes)
page_asked floor q a b = page_by floor q.scan q.moment (limits_of q) a b

-- what is left of its walk at these lines, with a page of this count and sum
abbrev pub walk_by : Scan → ℕ → Limits → Bounds → Box → List KeyLine → ℕ → ℕ → Reply (Page Bytes)
walk_by Rows moment m a b es count sum = page_on key_row_bytes (page_walk (read_key moment b) row_cost m (keys_within a (keys_of es)) count sum)
walk_by Intents moment m a b es count sum = page_on key_lock_bytes (intent_walk m.rows (locks_within a (locks_of es)) count)
walk_by Conflicts moment m a b es count sum = page_on key_lock_bytes (page_walk (conflicting moment) lock_cost m (locks_within a (locks_of es)) count sum)

abbrev pub walk_from : PageQuery → Bounds → Box → List KeyLine → ℕ → ℕ → Reply (Page Bytes)
walk_from q a b es count sum = walk_by q.scan q.moment (limits_of q) a b es count sum

-- an intent page has no byte limit: none that a page reaches
pub record WalkAsks (st : Store) (area : Bytes) (q : PageQuery) : Type 0 where
  pub built : Built st area
  pub large : q.scan ≡ Intents → 1048576 ≤ q.bytes

-- ---- the entry that a line shows: a record's row, or an intent's lock

abbrev pub line_bytes : Bytes → LineView → Bytes
line_bytes area (view.Standing i) = lock_bytes (lock_in area i)
line_bytes area (view.Finished w) = piece_bytes (bytes_at area w.rowat w.rowlen)

abbrev pub entry_bytes : Bytes → Slot → Bytes
entry_bytes area s = piece_bytes (key_of area s) ++ line_bytes area (view_of area s)

abbrev pub part_len : Line → ℕ
part_len (Standing l) = l.plen
part_len (Finished w) = w.rowlen

-- the line lies in the area, and its row or primary is short
pub record SlotIn (area : Bytes) (s : Slot) : Type 0 where
  pub within : place_of s + s.len + past s.line ≤ length area
  pub short : part_len s.line ≤ 255

-- ---- how the walk goes on

-- whether the turn of the key of the line at i is not yet
abbrev pub waits_at : Bytes → Scan → Store → ℕ → Bool
waits_at area scan st i = waits_for scan (ltb (i + 1) st.load.lines) (eq_bytes (key_of area (slice_index_or st.lines i no_slot)) (key_of area (slice_index_or st.lines (i + 1) no_slot)))

-- after a line's turn: `left` is what the lines after it say of a page of a count and a sum
abbrev pub turn_to : Bytes → (ℕ → ℕ → Reply (Page Bytes)) → ℕ → ℕ → Turn → Reply (Page Bytes)
turn_to area left count sum On = left count sum
turn_to area left count sum Stop = empty_page true
turn_to area left count sum (Refuse v) = refused v
turn_to area left count sum (Add s cost) = on_page (entry_bytes area s) (left (suc count) (sum + cost))

-- an answer that refuses
abbrev pub Refusal : Answer → Type 0
Refusal Accepted = ⊥
Refusal (No n) = Unit {0}
Refusal (Held h) = Unit {0}

-- ---- what a walk leaves

abbrev pub same : Bytes → Bytes
same b = b

-- the answer; of an accepted page, whether more follow, how many lines it is to hold and how many bytes it has. Slots from the count on say nothing
pub record Walked : Type 0 where
  pub answer : Answer
  pub more : Bool
  pub count : ℕ
  pub size : ℕ
  pub slots : List Slot

abbrev pub lines_in : code.Walked.Walked → Walked
lines_in w = record { answer = Accepted; more = w.more; count = w.count; size = w.size; slots = w.slots }

abbrev pub empty_of : Answer → Walked
empty_of v = record { answer = v; more = false; count = 0; size = 3; slots = replicate 1024 no_slot }

-- a walk that refuses leaves no lines
abbrev pub walked_in : Result code.Walked.Walked Why → Walked
walked_in (Ok w) = lines_in w
walked_in (Err r) = empty_of (refusal r)

abbrev pub page_of : Bytes → Walked → Page Bytes
page_of area w = record { rows = tables.shown (entry_bytes area) w.count w.slots; more = w.more }

-- the walk is this reply; its page has this many bytes, and its lines can be written
pub record WalkedAs (area : Bytes) (want : Reply (Page Bytes)) (w : Walked) : Type 0 where
  pub is : if_passed w.answer (shown (page_of area w)) ≡ want
  pub size_is : w.answer ≡ Accepted → w.size ≡ length (page_bytes same (page_of area w))
  pub table : tables.Table (SlotIn area) no_slot 1024 w.count w.slots
