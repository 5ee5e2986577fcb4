-- The rows of an old image as they are converted in turn, and what the functions that write them ask and leave.
-- Assumes nothing.
use Rattle.std.specs.Prelude.{ℕ, ◌+◌, ◌≤◌, ◌≡◌, Bool, true, false, List, [], ◌++◌, map, length, take, drop}
use Rattle.std.proofs.Math.Option.{Option, none, some}
use Rattle.forms.specs.Bytes.{Bytes}
use Rattle.forms.specs.Readers.{Read, times}
use Rattle.forms.specs.Numbers.{number, digits}
use Rattle.rules.specs.Box.{Default}
use Rattle.rules.specs.Written.{all_bytes}
use Rattle.rules.specs.Image.{default_from}
use Rattle.rules.specs.Restore.{all_good}
use Rattle.rules.specs.Capture.{default_bytes}
use Rattle.rules.specs.Convert.{with_count, growing, converted_bytes}
use Rattle.images.specs.Entries.{Lies}
use Rattle.images.specs.declared.entries.ImageEntry.{ImageEntry}

-- n defaults at a place, and what follows them
abbrev pub rows_from : Bytes → ℕ → ℕ → Option (Read (List Default))
rows_from s from n = times n default_from (drop from s)

-- each of them with its count added, and then the bytes as they stand
abbrev pub grown : Option (Read (List Default)) → Bytes
grown none = []
grown (some q) = all_bytes default_bytes (map with_count q.got) ++ q.rest

-- they are there, and a count can be added to each
abbrev pub growable : Option (Read (List Default)) → Bool
growable none = false
growable (some q) = all_good growing q.got

-- ---- what the writers ask

-- a row with room for its count
pub record RowAsks (row : Bytes) (at : ℕ) (out : Bytes) : Type 0 where
  pub short : length row ≤ 254
  pub room : at + (length row + 2) ≤ length out

pub record DefaultAsks (s : Bytes) (e : ImageEntry) (at : ℕ) (out : Bytes) : Type 0 where
  pub lies : Lies s e
  pub row_small : e.piece.len ≤ 254
  pub room : at + (e.key.len + e.piece.len + 11) ≤ length out

pub record RowsAsk (s : Bytes) (count at : ℕ) (out : Bytes) : Type 0 where
  pub long : 6 ≤ length s
  pub rows : growable (rows_from s 6 count) ≡ true
  pub room : at + length (grown (rows_from s 6 count)) ≤ length out

-- an old image that can be converted, with so many defaults, and room for what is written
pub record PutAsks (s : Bytes) (count : ℕ) (out : Bytes) : Type 0 where
  pub long : 6 ≤ length s
  pub rows : growable (rows_from s 6 count) ≡ true
  pub is : converted_bytes s ≡ digits 4 (number (take 4 s)) ++ (digits 8 0 ++ (digits 2 count ++ grown (rows_from s 6 count)))
  pub room : length (converted_bytes s) ≤ length out
