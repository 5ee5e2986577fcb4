-- The part of the area that an answer shows, and that it is what the reply shows: "that stretch of the store's own bytes".
-- Assumes nothing.
use Rattle.std.specs.Prelude.{ℕ, ◌-◌, ◌≡◌, ◌&&◌, [], length, leb, Option, None, Some, Result, Ok, Err}
use Rattle.forms.specs.Bytes.{Bytes, bytes_at}
use Rattle.forms.specs.Key.{Key}
use Rattle.forms.specs.Row.{Row}
use Rattle.forms.specs.Ones.{or_empty}
use Rattle.rules.specs.Answers.{Reply, nothing, shown, refused}
use Rattle.rules.specs.Box.{Lock}
use Rattle.reads.specs.Seen.{RowSeen, LockSeen, seen_in, SeenBelow, pointed_in, PointedBelow}

-- the stretch of the area, where it lies in it
abbrev pub part_of : Bytes → ℕ → ℕ → Bytes
part_of area at len = or_empty (leb at (length area) && leb len (length area - at)) (bytes_at area at len)

-- ---- a read

-- the row of a reply; "A refusal .. shows no row"
abbrev pub row_shown : Reply Row → Row
row_shown nothing = []
row_shown (shown r) = r
row_shown (refused a) = []

abbrev pub row_part : Bytes → RowSeen → Bytes
row_part area (Ok None) = []
row_part area (Ok (Some p)) = part_of area p.at p.len
row_part area (Err r) = []

-- the part of any answer, and of one that lies in the area its reply's row
pub record RowPart (area : Bytes) (s : RowSeen) (part : Bytes) : Type 0 where
  pub is : part ≡ row_part area s
  pub row : SeenBelow (length area) s → part ≡ row_shown (seen_in area s)

-- ---- an intent at a point

-- the primary of a reply
abbrev pub primary_shown : Reply Lock → Key
primary_shown nothing = []
primary_shown (shown l) = l.primary
primary_shown (refused a) = []

abbrev pub primary_part : Bytes → LockSeen → Bytes
primary_part area (Ok None) = []
primary_part area (Ok (Some i)) = part_of area i.primary.at i.primary.len
primary_part area (Err r) = []

pub record PrimaryPart (area : Bytes) (p : LockSeen) (part : Bytes) : Type 0 where
  pub is : part ≡ primary_part area p
  pub primary : PointedBelow (length area) p → part ≡ primary_shown (pointed_in area p)
