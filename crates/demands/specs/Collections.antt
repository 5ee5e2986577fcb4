-- Document 02, CR 7, of the store: what a collection leaves, and what it leaves to see. Said of calls that kept their promises, on a store that our
-- code made; nothing else is known of the code. That every lock starts above the floor is part of `Made`. proofs/Collections.antt has the theorems.
-- Assumes nothing.
use Rattle.std.specs.Prelude.{ℕ, ◌≤◌, ◌<◌, ◌≡◌, List}
use Rattle.forms.specs.Bytes.{Bytes}
use Rattle.forms.specs.Key.{Key}
use Rattle.rules.specs.Answers.{Accepted}
use Rattle.rules.specs.Outcomes.{Wrote}
use Rattle.rules.specs.Page.{Bounds, Limits}
use Rattle.rules.specs.Call.{Changing, Call}
use Rattle.ledger.specs.Collected.{CollectsTo, SameUnless11}
use Rattle.calls.specs.Settled.{Changed}
use Rattle.demands.specs.Calls.{a_row, a_lock, a_change, calling, gives, Lent, box_in, floor_in, Given, paged, changed, answer_in, count_in, shown_in, after, Kept, MadeIn, Same}
use Rattle.demands.specs.Demands.{changing, Ran}

-- a collection up to F was made on a store, and accepted
pub record Collects (f : ℕ) (w : Lent) (r : Changed) (area : Bytes) : Type 0 where
  pub made : MadeIn w
  pub kept : Kept w (changing (Changing.Collect f)) (changed r area)
  pub accepted : r.answer ≡ Accepted

-- what stands after it
abbrev pub left : Lent → Changed → Bytes → Lent
left w r area = after w (changed r area)

-- "for each key, of records stamped at or below F keep the newest that is not a Rollback, if it is a Put, and drop the rest with their rows": of the
-- box before it and the box after it, whose floor is F
abbrev pub CollectionSays : Type 0
CollectionSays = (f : ℕ) (w : Lent) (r : Changed) (area : Bytes) → Collects f w r area → CollectsTo f (box_in w) (box_in (left w r area)) × (floor_in (left w r area) ≡ f)

-- "Reads and pages at moments at or above F answer as before; the record counts of CR 6 may fall."
pub record SeenAsBefore (f : ℕ) (w w' : Lent) : Type 0 where
  pub reads : (k : Key) (m : ℕ) → f ≤ m → (g q : Given a_row) → Kept w (calling (Call.Read k m)) g → Kept w' (calling (Call.Read k m)) q
      → (answer_in w' q ≡ answer_in w g) × (shown_in w' q ≡ shown_in w g) × (count_in q ≤ count_in g)
  pub pages : (a : Bounds) (m : ℕ) (l : Limits) → f ≤ m → (p q : Wrote) (out out' : Bytes) → Kept w (calling (Call.Page a m l)) (paged p out) → Kept w' (calling (Call.Page a m l)) (paged q out')
      → Same w (paged p out) (paged q out')
  -- locks stay, so they are seen as before at every moment
  pub intents : (a : Bounds) (l : ℕ) → (p q : Wrote) (out out' : Bytes) → Kept w (calling (Call.IntentPage a l)) (paged p out) → Kept w' (calling (Call.IntentPage a l)) (paged q out')
      → Same w (paged p out) (paged q out')
  pub conflicts : (a : Bounds) (m : ℕ) (l : Limits) → (p q : Wrote) (out out' : Bytes) → Kept w (calling (Call.ConflictingIntents a m l)) (paged p out) → Kept w' (calling (Call.ConflictingIntents a m l)) (paged q out')
      → Same w (paged p out) (paged q out')
  pub points : (k : Key) (m : ℕ) → (g q : Given a_lock) → Kept w (calling (Call.OneIntent k m)) g → Kept w' (calling (Call.OneIntent k m)) q
      → (answer_in w' q ≡ answer_in w g) × (shown_in w' q ≡ shown_in w g)

abbrev pub AsBefore : Type 0
AsBefore = (f : ℕ) (w : Lent) (r : Changed) (area : Bytes) → Collects f w r area → SeenAsBefore f w (left w r area)

-- a changing call whose start is above F
abbrev pub CallAbove : ℕ → Changing → Type 0
CallAbove f (Changing.Prewrite h s) = f < h.start
CallAbove f (Changing.Commit h s) = f < h.start
CallAbove f (Changing.Rollback txn start s) = f < start
CallAbove f (Changing.OneStep h s) = f < h.start
CallAbove f (Changing.Collect g) = ⊥

-- it answers as before the collection, but for room that was freed
abbrev pub ChangesAsBefore : Type 0
ChangesAsBefore =
    (f : ℕ) (w : Lent) (r : Changed) (area : Bytes)
    → Collects f w r area
    → (c : Changing)
    → CallAbove f c
    → (g q : Given (gives (changing c)))
    → Kept w (changing c) g
    → Kept (left w r area) (changing c) q
    → SameUnless11 (answer_in w g) (answer_in (left w r area) q)

-- a second collection at the same floor is accepted and hands back the very same store, whatever changing calls came between, as long as no image
-- did
abbrev pub SecondCollection : Type 0
SecondCollection =
    (f : ℕ) (w : Lent) (r : Changed) (area : Bytes)
    → Collects f w r area
    → (cs : List Changing) (v : Lent)
    → Ran cs (left w r area) v
    → (q : Given a_change)
    → Kept v (changing (Changing.Collect (floor_in v))) q
    → (answer_in v q ≡ Accepted) × (after v q ≡ v)
