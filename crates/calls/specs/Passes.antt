-- A call over the entries of a batch, for every check and every change of one entry: what the checks come to, what the applying pass asks
-- and leaves, and the whole of it.
-- Assumes nothing.
use Rattle.std.specs.Prelude.{ℕ, ◌+◌, ◌≤◌, ◌<◌, ◌≡◌, Bool, true, false, ◌&&◌, List, [], ◌∷◌, map, length, ltb, Result}
use Rattle.forms.specs.Bytes.{Bytes}
use Rattle.forms.specs.Key.{Key}
use Rattle.seqs.specs.Tables.{All}
use Rattle.forms.specs.Batch.{ascend}
use Rattle.forms.specs.Places.{key_at, mutation_of, given_part, EntryIn, Listed, Item, item_key, item_of}
use Rattle.forms.specs.declared.batch.Entry.{Entry}
use Rattle.rules.specs.Answers.{Answer, Accepted, ◌▸◌, need}
use Rattle.rules.specs.declared.answers.Refusal.{Refusal}
use Rattle.rules.specs.Outcomes.{outcome, value_or}
use Rattle.rules.specs.declared.room.Load.{Load}
use Rattle.rules.specs.Box.{Box, in_order}
use Rattle.rules.specs.Room.{load_of, fits, room_for, Fits}
use Rattle.rules.specs.Calls.{Done, settle}
use Rattle.laws.specs.Adds.{plus, minus, sum_loads}
use Rattle.laws.proofs.BatchLaws.{check_all, apply_all}
use Rattle.store.specs.declared.table.Store.{Store}
use Rattle.store.specs.View.{box_of}
use Rattle.ledger.specs.Tidy.{LocksAbove}
use Rattle.store.specs.Made.{Built, Made, Tallied}
use Rattle.changes.specs.declared.change.Change.{Change}
use Rattle.changes.specs.Changes.{entry_for, changed, ChangeAsks}
use Rattle.actions.specs.declared.action.Action.{Action}
use Rattle.actions.specs.EntryAsks.{Applied}
use Rattle.actions.specs.Actions.{most_of, apply_of, EntryAsks, StartsAbove}
use Rattle.calls.specs.Settled.{is_accepted, Untouched}
use Rattle.calls.specs.Weights.{Steps, checked, EntryChecked}
use Rattle.calls.specs.declared.weights.Weight.{Weight}

-- what the checks of all entries come to: the answer, and whether the box becomes another one
pub record BatchVerdict : Type 0 where
  pub answer : Answer
  pub moves : Bool

-- a refusal moves nothing
abbrev pub verdict : Result Bool Refusal → BatchVerdict
verdict r = record { answer = outcome r; moves = value_or false r }

-- the load of the box that the call would leave
abbrev pub left_by : Load → Weight → Load
left_by load w = minus (plus load w.added) w.freed

-- "Then 11", of entries that passed; the box becomes another one where there is room, and a line comes
pub record RoomJudged (sum : Weight) (load : Load) (r : BatchVerdict) : Type 0 where
  pub answer_is : r.answer ≡ need (fits (left_by load sum)) 11
  pub moves_is : r.moves ≡ is_accepted r.answer && ltb 0 sum.added.lines

-- a step or an entry is refused with this answer: it is the batch's, and the box stays
abbrev pub refused_by : Answer → BatchVerdict
refused_by a = record { answer = a; moves = false }

-- 14, the answer `late`; "then per entry ..; Then 11"
unfoldable pub all_done : {A : Type 0} → Answer → (Box → A → Answer) → (A → Box → Box) → List A → Box → Done
all_done late check apply xs b = settle (late ▸ check_all check b xs ▸ need (room_for (apply_all apply xs b)) 11) (apply_all apply xs b) b

-- the answer is the definition's, and the call moves exactly where it is accepted and leaves another box
pub record Judged {A : Type 0} (late : Answer) (check : Box → A → Answer) (apply : A → Box → Box) (b : Box) (xs : List A) (r : BatchVerdict) : Type 0 where
  pub answer_is : r.answer ≡ late ▸ check_all check b xs ▸ need (room_for (apply_all apply xs b)) 11
  pub stays : r.moves ≡ false → r.answer ≡ Accepted → apply_all apply xs b ≡ b
  pub passes : r.moves ≡ true → r.answer ≡ Accepted
  pub moves : r.moves ≡ true → apply_all apply xs b ≡ b → ⊥

-- ---- the checking pass

-- the load of the box after the entries; an entry that adds no line is a replay; no line goes without one that comes; and where lines and
-- locks are as many as they were, none came
pub record Weighed {A : Type 0} (c : Steps A) (key : A → Key) (apply : A → Box → Box) : Type 0 where
  pub load : (xs : List A) (b : Box) → ascend key xs ≡ true → in_order b ≡ true → plus (load_of b) (sum_loads (c.adds b) xs) ≡ plus (sum_loads (c.frees b) xs) (load_of (apply_all apply xs b))
  pub replay : (x : A) (b : Box) → (c.adds b x).lines ≡ 0 → apply x b ≡ b
  pub lines : (x : A) (b : Box) → (c.frees b x).lines ≤ (c.adds b x).lines
  pub locks : (x : A) (b : Box) → (c.frees b x).lines + (c.frees b x).lines + (c.adds b x).locks ≤ (c.adds b x).lines + (c.frees b x).locks

-- what the entries of a batch are to a call: mutations or keys, its steps at one, what it changes, and the box before it
pub record Plan : Type 0 where
  pub rows : Bool
  pub batch : Bytes
  pub steps : Steps (Item rows)
  pub apply : Item rows → Box → Box
  pub box : Box

abbrev pub items_of : (p : Plan) → List Entry → List (Item p.rows)
items_of p es = map (item_of p.rows p.batch) es

-- what a check may answer for an entry is what the steps say of the box
abbrev pub Told : Plan → (Entry → Result Weight Refusal → Type 0) → Entry → Type 0
Told p post e = (r : Result Weight Refusal) → post e r → EntryChecked p.steps p.box (item_of p.rows p.batch e) (checked r)

-- so it is of each entry of a batch in form; and the weights are those of the changes, in small numbers
pub record Follows (p : Plan) (load : Load) (es : List Entry) (post : Entry → Result Weight Refusal → Type 0) : Type 0 where
  pub listed : Listed p.batch es
  pub ascends : ascend (item_key p.rows) (items_of p es) ≡ true
  pub weighed : Weighed p.steps (item_key p.rows) p.apply
  pub add_small : p.steps.add ≤ 65887
  pub free_small : p.steps.free ≤ 65887
  pub tallied : Tallied p.box load
  pub fit : Fits load
  pub each : All (Told p post) es

-- ---- the applying pass

-- the change of one entry
abbrev pub apply_entry : Action → Key → Bytes → Entry → Box → Box
apply_entry d primary s e = apply_of d primary (mutation_of s e)

-- a store that shows the box, with place for the entry's bytes, has what its change asks
abbrev pub EntryReady : Action → Key → Bytes → Entry → Box → Type 0
EntryReady d primary s e b = (st : Store) (area : Bytes) → Built st area → box_of st area ≡ b → st.top + most_of d ≤ 131072 → EntryAsks d primary st area (key_at s e) (given_part s e.row)

-- so it is of the store as it stands, for an entry of the batch
pub record EntryAt (d : Action) (primary : Key) (st : Store) (area s : Bytes) (e : Entry) : Type 0 where
  pub built : Built st area
  pub inside : EntryIn s e
  pub asks : EntryAsks d primary st area (key_at s e) (given_part s e.row)

-- the change in numbers, and what making it leaves
abbrev pub EntryChanged : Action → Key → Store → Bytes → Bytes → Entry → Change → Bytes → Type 0
EntryChanged d primary st area s e r area' =
    (ChangeAsks st r) × (Applied st area (apply_of d primary (entry_for (key_at s e) (given_part s e.row)) (box_of st area)) (st.top + most_of d) (changed st r) area')

-- so it is for each entry in its turn
unfoldable pub Ready : Action → Key → Bytes → List Entry → Box → Type 0
Ready d primary s [] b = Unit {0}
Ready d primary s (e ∷ es) b = (EntryReady d primary s e b) × (Ready d primary s es (apply_entry d primary s e b))

-- so many bytes have place, in a store that shows the same box; where no bytes are to come nothing has changed
pub record Roomy (st : Store) (area : Bytes) (need : ℕ) (r : Store) (area' : Bytes) : Type 0 where
  pub made : Made r area'
  pub shown : box_of r area' ≡ box_of st area
  pub floor_is : r.floor ≡ st.floor
  pub room : r.top + need ≤ 131072
  pub still : need ≡ 0 → Untouched st area r area'

pub record ApplyAsks (d : Action) (primary : Key) (st : Store) (area s : Bytes) (es : List Entry) : Type 0 where
  pub made : Made st area
  pub listed : Listed s es
  pub ready : Ready d primary s es (box_of st area)
  pub above : 0 < length es → StartsAbove st.floor d

-- the box is the definition's, on the same floor, and each lock starts above it; without entries nothing has changed
pub record AllApplied (d : Action) (primary : Key) (st : Store) (area s : Bytes) (es : List Entry) (r : Store) (area' : Bytes) : Type 0 where
  pub built : Built r area'
  pub shown : box_of r area' ≡ apply_all (apply_entry d primary s) es (box_of st area)
  pub floor_is : r.floor ≡ st.floor
  pub above : LocksAbove r.floor (box_of r area')
  pub still : length es ≡ 0 → Untouched st area r area'

-- by what the checks came to: the same answer; where the call moves each entry is applied, and else nothing has changed
pub record SettledBy (v : BatchVerdict) (d : Action) (primary : Key) (st : Store) (area s : Bytes) (es : List Entry) (a : Answer) (r : Store) (area' : Bytes) : Type 0 where
  pub answer_is : a ≡ v.answer
  pub applied : v.moves ≡ true → AllApplied d primary st area s es r area'
  pub still : v.moves ≡ false → Untouched st area r area'
