-- Where the default of a key and a start stands among defaults in order.
-- Assumes nothing.
use Rattle.std.specs.Prelude.{ℕ, ◌+◌, ◌≤◌, ◌≡◌, true, List, map, length}
use Rattle.forms.specs.Bytes.{Bytes}
use Rattle.forms.specs.Places.{part_of}
use Rattle.forms.specs.Key.{Key}
use Rattle.rules.specs.Box.{Default, row_before, ordered}
use Rattle.laws.specs.Places.{pairs_before}
use Rattle.images.specs.declared.entries.ImageEntry.{ImageEntry}
use Rattle.images.specs.Sections.{row_at}

-- the defaults at a list of places
abbrev pub rows_at : Bytes → List ℕ → List Default
rows_at s rows = map (row_at s) rows

-- an entry's key
abbrev pub key_inside : Bytes → ImageEntry → Key
key_inside s e = part_of s e.key

-- where the default of a key and a start stands
abbrev pub place_of : Bytes → List ℕ → Key → ℕ → ℕ
place_of s rows k n = pairs_before k n (rows_at s rows)

-- defaults in order
pub record PlaceAsks (s : Bytes) (rows : List ℕ) (e : ImageEntry) : Type 0 where
  pub sorted : ordered row_before (rows_at s rows) ≡ true
  pub key_in : e.key.at + e.key.len ≤ length s
