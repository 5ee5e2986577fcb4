-- Document 02, CR 4: "A converter adds a zero count to each row of an old image; an image with an unconverted row is refused. Refusals: .. in the
-- converter a fault by 01's image checks or a 255-byte row is 13, then a short buffer 12." An old image is document 01's, with document 01's rows;
-- neither CR 3's checks nor the room are asked of it. CR 7: "CR 4's converter writes floor 0"; an old image has none.
-- Assumes nothing.
use Rattle.std.specs.Prelude.{ℕ, Bool, true, false, ◌&&◌, not, List, [], ◌∷◌, ◌++◌, map, length, leb, eqb}
use Rattle.std.proofs.Math.Option.{Option, none, some}
use Rattle.forms.specs.Bytes.{Bytes}
use Rattle.forms.specs.Readers.{Read, Reader, ◌>>=◌, just, section}
use Rattle.forms.specs.Numbers.{number_of, digits}
use Rattle.forms.specs.Row.{Row, old_row_form}
use Rattle.rules.specs.Answers.{No}
use Rattle.rules.specs.Box.{Default}
use Rattle.rules.specs.Written.{Written, write_if}
use Rattle.rules.specs.Image.{Image, default_from, old_image}
use Rattle.rules.specs.Restore.{all_good, good_image_by}
use Rattle.rules.specs.Capture.{default_bytes, section_bytes}

-- ---- what is written

-- "adds a zero count to each row"
abbrev pub with_count : Default → Default
with_count d = record { key = d.key; start = d.start; row = d.row ++ (0 ∷ []) }

-- the table number and the defaults of an old image; what follows them are its locks and its writes
pub record Front : Type 0 where
  pub table : ℕ
  pub defaults : List Default

unfoldable pub front_from : Reader Front
front_from = do
  t ← number_of 4
  ds ← section (number_of 2) default_from
  just (record { table = t; defaults = ds })

-- the same table number, "floor 0" in its 8 bytes, and the same defaults in the order given, each row with its count; and then the bytes of locks
-- and writes as they stand
unfoldable pub front_bytes : Option (Read Front) → Bytes
front_bytes none = []
front_bytes (some q) = digits 4 q.got.table ++ (digits 8 0 ++ (section_bytes default_bytes (map with_count q.got.defaults) ++ q.rest))

unfoldable pub converted_bytes : Bytes → Bytes
converted_bytes s = front_bytes (front_from s)

-- the entries that they hold
unfoldable pub converted : Image → Image
converted i = record { table = i.table; floor = 0; defaults = map with_count i.defaults; locks = i.locks; writes = i.writes }

-- ---- the call

-- "a 255-byte row": none is
abbrev pub may_grow : Row → Bool
may_grow r = not (eqb (length r) 255)

abbrev pub growing : Default → Bool
growing d = may_grow d.row

-- "a fault by 01's image checks or a 255-byte row"
unfoldable pub convertible : Option Image → Bool
convertible none = false
convertible (some i) = good_image_by old_row_form i && all_good growing i.defaults

unfoldable pub convert_if : Bool → Bytes → Bytes → Written
convert_if true bytes buffer = write_if (leb (length bytes) (length buffer)) bytes buffer
convert_if false bytes buffer = record { answer = No 13; count = 0; buffer = buffer }

-- "a fault by 01's image checks or a 255-byte row is 13, then a short buffer 12"
unfoldable pub convert_image : Bytes → Bytes → Written
convert_image s buffer = convert_if (convertible (old_image s)) (converted_bytes s) buffer
