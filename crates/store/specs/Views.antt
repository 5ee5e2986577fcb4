-- A line as the code reads it, and where its row lies; `at` is the place past its key.
-- Assumes nothing.
use Rattle.std.specs.Prelude.{◌≡◌, List, ℕ, ◌+◌, ◌≤◌}
use Rattle.forms.specs.Bytes.{Bytes, bytes_at}
use Rattle.forms.specs.Key.{Key}
use Rattle.rules.specs.declared.records.Kind.{Kind}
use Rattle.rules.specs.declared.records.Record.{Record}
use Rattle.rules.specs.Box as box
use Rattle.rules.specs.Calls.{record_for}
use Rattle.store.specs.View.{eight_at, place_of, row_if}
use Rattle.store.specs.Made.{LeanRow}
use Rattle.store.specs.declared.table.Slot.{Slot}
use Rattle.store.specs.declared.table.LockSlot.{LockSlot}
use Rattle.store.specs.declared.table.RecordSlot.{RecordSlot}
use Rattle.store.specs.declared.table.Line.{Line}
use Rattle.store.specs.declared.table.Line.TheVariants.{Standing, Finished}
use Rattle.store.specs.declared.views.LockView.{LockView}
use Rattle.store.specs.declared.views.RecordView.{RecordView}
use Rattle.store.specs.declared.views.LineView.{LineView}
use Rattle.store.specs.declared.views.LineView.TheVariants as view

abbrev pub lock_view : Bytes → ℕ → LockSlot → LockView
lock_view area at l = record {
  txn = eight_at area at;
  start = eight_at area (at + 8);
  ttl = eight_at area (at + 8 + 8 + l.rowlen);
  at = at + 8 + 8 + l.rowlen + 8;
  len = l.plen;
  kind = l.kind;
  rowat = at + 8 + 8;
  rowlen = l.rowlen;
}

abbrev pub record_view : Bytes → ℕ → RecordSlot → RecordView
record_view area at w = record { stamp = eight_at area at; start = eight_at area (at + 8); kind = w.kind; rowat = at + 8 + 8; rowlen = w.rowlen }

abbrev pub view_in : Bytes → ℕ → Line → LineView
view_in area at (Standing l) = view.Standing (lock_view area at l)
view_in area at (Finished w) = view.Finished (record_view area at w)

abbrev pub view_of : Bytes → Slot → LineView
view_of area s = view_in area (place_of s + s.len) s.line

-- and what it is in the box
abbrev pub lock_in : Bytes → LockView → box.Lock
lock_in area i = record { txn = i.txn; primary = bytes_at area i.at i.len; start = i.start; ttl = i.ttl; kind = i.kind }

abbrev pub record_in : RecordView → Record
record_in w = record_for w.start w.stamp w.kind

-- the row that is stored for the key and the start is that of a Put, and lies below `top` where the view says
pub record RowThere (top : ℕ) (area : Bytes) (ds : List box.Default) (key : Key) (start : ℕ) (kind : Kind) (at len : ℕ) : Type 0 where
  pub within : at + len ≤ top
  pub lean : LeanRow kind len
  pub is : box.row_of key start ds ≡ row_if kind (bytes_at area at len)
