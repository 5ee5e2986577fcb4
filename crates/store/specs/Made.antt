-- What every call asks of a store, and leaves: the only premise of any public call. Lines and rows are sound and in form, and no two lines
-- share key and start; that each Put line has its row and each row its Put line is the form of the store itself (View).
-- Assumes nothing.
use Rattle.std.specs.Prelude.{◌≡◌, Bool, true, List, ℕ, ◌+◌, ◌≤◌, length}
use Rattle.seqs.specs.Tables.{Table}
use Rattle.forms.specs.Bytes.{Bytes}
use Rattle.forms.specs.Row.{row_form}
use Rattle.rules.specs.declared.records.Kind.{Kind}
use Rattle.rules.specs.declared.records.Kind.TheVariants.{Put, Delete, Rollback}
use Rattle.rules.specs.Box as box
use Rattle.rules.specs.Room.{load_of, Fits}
use Rattle.rules.specs.Restore.{all_good, no_second, like_line}
use Rattle.rules.specs.Calls.{fresh_state}
use Rattle.rules.specs.declared.room.Load.{Load}
pub use Rattle.ledger.specs.Tidy.{sound_line, good_line}
use Rattle.ledger.specs.Tidy.{LocksAbove}
use Rattle.store.specs.View.{place_of, past, box_of, state_shown, no_slot}
use Rattle.store.specs.declared.table.Line.{Line}
use Rattle.store.specs.declared.table.Line.TheVariants.{Standing, Finished}
use Rattle.store.specs.declared.table.Slot.{Slot}
use Rattle.store.specs.declared.table.Store.{Store}

-- only a Put has a row
abbrev pub LeanRow : Kind → ℕ → Type 0
LeanRow Put n = Unit {0}
LeanRow Delete n = n ≡ 0
LeanRow Rollback n = n ≡ 0

abbrev pub Lean : Line → Type 0
Lean (Standing l) = LeanRow l.kind l.rowlen
Lean (Finished w) = LeanRow w.kind w.rowlen

-- a slot in use: its stretch lies below `top`
pub record SlotBelow (top : ℕ) (s : Slot) : Type 0 where
  pub below : place_of s + s.len + past s.line ≤ top
  pub lean : Lean s.line
  pub in_use : s.used ≡ true

abbrev pub good_row : box.Default → Bool
good_row d = row_form d.row

-- a box in order and sound, with its tallies
pub record Tallied (b : box.Box) (l : Load) : Type 0 where
  pub load_is : l ≡ load_of b
  pub sorted : box.in_order b ≡ true
  pub good : all_good good_line b.lines ≡ true
  pub rows : all_good good_row b.defaults ≡ true
  pub once : no_second like_line b.lines ≡ true

-- a store that shows such a box: what every step of a call keeps. A call that frees room in one entry and takes it in another may pass the
-- four limits between the two.
pub record Built (s : Store) (area : Bytes) : Type 0 where
  pub area_long : length area ≡ 131072
  pub top_in : s.top ≤ 131072
  pub lines : Table (SlotBelow s.top) no_slot 1024 s.load.lines s.lines
  pub kept : Tallied (box_of s area) s.load

-- within the four limits, and each lock starts above the floor: what every call asks, and leaves
pub record Made (s : Store) (area : Bytes) : Type 0 where
  pub built : Built s area
  pub fit : Fits s.load
  pub above : LocksAbove s.floor (box_of s area)

-- a store by its parts
abbrev pub store_of : List Slot → Load → ℕ → ℕ → Store
store_of lines load top floor = record { lines = lines; load = load; top = top; floor = floor }

-- tallies so small that none of their sums overflows
pub record Counted (l : Load) : Type 0 where
  pub lines : l.lines ≤ 1024
  pub locks : l.locks ≤ l.lines
  pub defaults : l.defaults ≤ l.lines
  pub bytes : l.bytes ≤ 536870912

pub record FreshStore (s : Store) (area : Bytes) : Type 0 where
  pub made : Made s area
  pub shown : state_shown s area ≡ fresh_state
  pub top_is : s.top ≡ 0
