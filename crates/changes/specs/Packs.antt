-- What packing the area anew asks and leaves.
-- Assumes nothing.
use Rattle.std.specs.Prelude.{◌≡◌, ◌≤◌, length, take}
use Rattle.seqs.specs.Tables.{Table, shown}
use Rattle.forms.specs.Bytes.{Bytes}
use Rattle.rules.specs.Room.{sum_of}
use Rattle.store.specs.declared.table.Store.{Store}
use Rattle.store.specs.View.{size_of, line_of, default_in, box_of, no_slot}
use Rattle.store.specs.Made.{SlotBelow, Made}

pub record PackAsks (st : Store) (area into : Bytes) : Type 0 where
  pub table : Table (SlotBelow (length area)) no_slot 1024 st.load.lines st.lines
  pub length_is : length into ≡ 68608
  pub room : sum_of size_of (take st.load.lines st.lines) ≤ 67584

pub record Packed (st : Store) (area : Bytes) (r : Store) (into : Bytes) : Type 0 where
  pub length_is : length into ≡ 68608
  pub table : Table (SlotBelow r.top) no_slot 1024 st.load.lines r.lines
  pub lines : shown (line_of into) st.load.lines r.lines ≡ shown (line_of area) st.load.lines st.lines
  pub rows : shown (default_in into) st.load.lines r.lines ≡ shown (default_in area) st.load.lines st.lines
  pub load_is : r.load ≡ st.load
  pub floor_is : r.floor ≡ st.floor
  pub top_most : r.top ≤ 68608

-- the same box, in no more than the worst need: 67,584 bytes, and one for each line that begins at a pair of bytes
pub record Repacked (st : Store) (area : Bytes) (r : Store) (area' : Bytes) : Type 0 where
  pub made : Made r area'
  pub shown : box_of r area' ≡ box_of st area
  pub load_is : r.load ≡ st.load
  pub floor_is : r.floor ≡ st.floor
  pub top_most : r.top ≤ 68608
