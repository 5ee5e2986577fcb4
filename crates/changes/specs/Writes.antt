-- Bytes that come into the area. Nothing below `top` changes, so every stretch that a slot names keeps what it shows.
-- Assumes nothing.
use Rattle.std.specs.Prelude.{◌≡◌, ℕ, ◌+◌, length, take}
use Rattle.forms.specs.Bytes.{Bytes, bytes_at}
use Rattle.forms.specs.Key.{Key}
use Rattle.forms.specs.Row.{Row}
use Rattle.rules.specs.declared.records.Kind.{Kind}
use Rattle.rules.specs.Box as box
use Rattle.rules.specs.Calls.{record_for}
use Rattle.store.specs.declared.table.Line.TheVariants.{Standing, Finished}
use Rattle.store.specs.View.{eight_at, line_in}

-- nothing below `top` has changed
pub record Past (area : Bytes) (top : ℕ) (area' : Bytes) : Type 0 where
  pub length_is : length area' ≡ length area
  pub kept : take top area' ≡ take top area

pub record Headed (area : Bytes) (top : ℕ) (key : Key) (first start r : ℕ) (area' : Bytes) : Type 0 where
  pub past : Past area top area'
  pub key_is : bytes_at area' top (length key) ≡ key
  pub first_is : eight_at area' (top + length key) ≡ first
  pub start_is : eight_at area' (top + length key + 8) ≡ start
  pub next : r ≡ top + length key + 8 + 8

-- a whole line stands at `top`, with its row, up to r
pub record LockStands (area : Bytes) (top : ℕ) (key : Key) (txn start : ℕ) (row : Row) (ttl : ℕ) (primary : Key) (r : ℕ) (area' : Bytes) : Type 0 where
  pub past : Past area top area'
  pub key_is : bytes_at area' top (length key) ≡ key
  pub line-is :
      (kind : Kind) → line_in area' (top + length key) (Standing (record { plen = length primary; rowlen = length row; kind = kind }))
      ≡ box.Standing (record { txn = txn; primary = primary; start = start; ttl = ttl; kind = kind })
  pub row_is : bytes_at area' (top + length key + 8 + 8) (length row) ≡ row
  pub next : r ≡ top + length key + 8 + 8 + length row + 8 + length primary

pub record RecordStands (area : Bytes) (top : ℕ) (key : Key) (stamp start : ℕ) (row : Row) (r : ℕ) (area' : Bytes) : Type 0 where
  pub past : Past area top area'
  pub key_is : bytes_at area' top (length key) ≡ key
  pub line-is : (kind : Kind) → line_in area' (top + length key) (Finished (record { rowlen = length row; kind = kind })) ≡ box.Finished (record_for start stamp kind)
  pub row_is : bytes_at area' (top + length key + 8 + 8) (length row) ≡ row
  pub next : r ≡ top + length key + 8 + 8 + length row
