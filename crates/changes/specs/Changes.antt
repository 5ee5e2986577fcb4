-- What the changes ask, and what they leave: a store that is built and shows the box that the definition makes.
-- Assumes nothing.
use Rattle.std.specs.Prelude.{◌≡◌, true, ℕ, ◌+◌, ◌≤◌, ◌<◌, length, None, Some}
use Rattle.std.specs.Prelude.{Option as Maybe, List, []}
use Rattle.std.specs.Borrow.{Bor}
use Rattle.std.proofs.Math.Option.{Option, none, some}
use Rattle.seqs.specs.Tables.{inserted, move_to}
use Rattle.forms.specs.Bytes.{Bytes}
use Rattle.forms.specs.Key.{Key, key_form}
use Rattle.forms.specs.Row.{Row, row_form}
use Rattle.forms.specs.Batch.{Mutation}
use Rattle.rules.specs.declared.records.Kind.{Kind}
use Rattle.rules.specs.declared.records.Kind.TheVariants.{Put, Delete, Rollback}
use Rattle.rules.specs.declared.records.Record.{Record}
use Rattle.rules.specs.declared.room.Load.{Load}
use Rattle.rules.specs.Box as box
use Rattle.rules.specs.Calls.{kind_of, record_for, stamped_at}
use Rattle.rules.specs.Sound.{sound_lock, sound_record}
use Rattle.rules.specs.Prewrite.{PrewriteTerms, lock_for}
use Rattle.rules.specs.Commit.{with_start}
use Rattle.laws.specs.Places.{finished_at}
use Rattle.lookups.specs.declared.lookup.KeyState.{KeyState}
use Rattle.store.specs.declared.table.Line.TheVariants.{Standing, Finished}
use Rattle.store.specs.declared.table.Slot.{Slot}
use Rattle.store.specs.declared.table.Store.{Store}
use Rattle.store.specs.View.{carries, add_if, box_of}
use Rattle.store.specs.Made.{Built}
use Rattle.lookups.specs.KeyStates.{Locked, KeyStateAt}
use Rattle.changes.specs.declared.change.NewSlot.{NewSlot}
use Rattle.changes.specs.declared.change.Change.{Change}
use Rattle.changes.specs.declared.change.Change.TheVariants.{Stays, Inserts, Replaces}
use Rattle.changes.specs.Loads.{LoadAsks, load_after}

pub record Leaves (b : box.Box) (top : ℕ) (r : Store) (area : Bytes) : Type 0 where
  pub built : Built r area
  pub shown : box_of r area ≡ b
  pub top_most : r.top ≤ top

-- ---- the table

pub record InsertAsks (st : Store) (i : ℕ) : Type 0 where
  pub low : i ≤ st.load.lines
  pub room : st.load.lines < 1024
  pub length_is : length st.lines ≡ 1024

pub record ReplaceAsks (st : Store) (i j : ℕ) : Type 0 where
  pub before : i < j
  pub low : j ≤ 1024
  pub length_is : length st.lines ≡ 1024

-- what a change asks, and the store after it
abbrev pub ChangeAsks : Store → Change → Type 0
ChangeAsks st Stays = Unit {0}
ChangeAsks st (Inserts c) = InsertAsks st c.to
ChangeAsks st (Replaces i c) = ReplaceAsks st i c.to

abbrev pub changed : Store → Change → Store
changed st Stays = st
changed st (Inserts c) = record { lines = inserted c.to st.load.lines c.slot st.lines; load = c.load; top = c.top; floor = st.floor }
changed st (Replaces i c) = record { lines = move_to i c.to c.slot st.lines; load = c.load; top = c.top; floor = st.floor }

-- ---- a line's row

-- a Put's row is in form, the others have none
abbrev pub RowFits : Kind → Row → Type 0
RowFits Put r = row_form r ≡ true
RowFits Delete r = length r ≡ 0
RowFits Rollback r = length r ≡ 0

-- ---- a lock comes

abbrev pub prewrite_terms_for : ℕ → ℕ → Key → ℕ → PrewriteTerms
prewrite_terms_for txn start primary ttl = record { txn = txn; start = start; primary = primary; ttl = ttl }

abbrev pub entry_for : Key → Option Row → Mutation
entry_for key row = record { key = key; row = row }

-- the bytes of it
abbrev pub row_bytes : Option Row → Row
row_bytes none = []
row_bytes (some r) = r

abbrev pub lock_slot : ℕ → ℕ → ℕ → Kind → ℕ → Slot
lock_slot at key primary kind row = record { at = at; len = key; used = true; line = Standing (record { plen = primary; rowlen = row; kind = kind }) }

-- a stretch begins at a pair of bytes, so one byte more may go before it

-- a lock of a key that has none, of a start that the key has no record of; a slot is free, and the area has place
pub record LockAsks (st : Store) (area : Bytes) (seen : KeyState) (h : PrewriteTerms) (key : Key) (row : Option Row) : Type 0 where
  pub built : Built st area
  pub stamp : ℕ
  pub looked : KeyStateAt st area key h.start stamp seen
  pub nobody : seen.lock ≡ None
  pub fresh : with_start h.start (box.records_of key (box_of st area).lines) ≡ none
  pub form : key_form key ≡ true
  pub row_fits : RowFits (kind_of row) (row_bytes row)
  pub sound : sound_lock (lock_for h (kind_of row)) ≡ true
  pub slot_free : st.load.lines < 1024
  pub area_room : st.top + 1 + length key + 8 + 8 + length (row_bytes row) + 8 + length h.primary ≤ 131072

-- ---- a record comes

-- with a Put's row; the key's lock goes, if it has one, and the row of this start
abbrev pub record_over : Key → Record → Row → box.Box → box.Box
record_over k w r b = record { lines = box.insert_line (finished_at k w) (box.drop_lock k b.lines); defaults = add_if (carries (finished_at k w) r) (box.drop_row k w.start b.defaults) }

-- the table: a slot comes where none goes, or in the place of the lock
abbrev pub change_for : Locked → ℕ → NewSlot → Change
change_for None first c = Inserts c
change_for (Some i) first c = Replaces first c

abbrev pub record_slot : ℕ → ℕ → Kind → ℕ → Slot
record_slot at key kind row = record { at = at; len = key; used = true; line = Finished (record { rowlen = row; kind = kind }) }

abbrev pub slot_change : ℕ → Load → KeyState → ℕ → Kind → ℕ → ℕ → Change
slot_change at load seen key kind row end = change_for seen.lock seen.first (record {
  to = seen.place;
  slot = record_slot at key kind row;
  load = load_after load seen.lock key kind row;
  top = end;
})

pub record SlotAsks (at : ℕ) (load : Load) (seen : KeyState) (key : ℕ) (kind : Kind) (row : ℕ) : Type 0 where
  pub at_in : at ≤ 65535
  pub loads : LoadAsks load seen.lock key row

-- the lock, if there is one, is of this start
abbrev pub Owned : ℕ → Locked → Type 0
Owned start None = Unit {0}
Owned start (Some i) = i.start ≡ start

-- the key has no record of this start or of this stamp, and no lock of another start; where no lock goes a slot is free
pub record RecordAsks (st : Store) (area : Bytes) (seen : KeyState) (key : Key) (start stamp : ℕ) (kind : Kind) (row : Row) : Type 0 where
  pub built : Built st area
  pub looked : KeyStateAt st area key start stamp seen
  pub own : Owned start seen.lock
  pub fresh : with_start start (box.records_of key (box_of st area).lines) ≡ none
  pub free : stamped_at stamp (box.records_of key (box_of st area).lines) ≡ none
  pub form : key_form key ≡ true
  pub row_fits : RowFits kind row
  pub sound : sound_record (record_for start stamp kind) ≡ true
  pub slot_free : seen.lock ≡ None → st.load.lines < 1024
  pub area_room : st.top + 1 + length key + 8 + 8 + length row ≤ 131072

-- ---- a lock becomes a record: it is of this start, which lies before the commit
pub record EndAsks (st : Store) (area : Bytes) (seen : KeyState) (key : Key) (start commit : ℕ) : Type 0 where
  pub built : Built st area
  pub looked : KeyStateAt st area key start commit seen
  pub own : Owned start seen.lock
  pub fresh : with_start start (box.records_of key (box_of st area).lines) ≡ none
  pub free : stamped_at commit (box.records_of key (box_of st area).lines) ≡ none
  pub later : start < commit
  pub area_room : st.top + 320 ≤ 131072
