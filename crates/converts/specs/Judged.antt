-- An old image judged whole: document 01's checks, with its own rows.
-- Assumes nothing.
use Rattle.std.specs.Prelude.{ℕ, ◌≡◌, Bool, true, false, List, map, length, Option, Some, None}
use Rattle.std.proofs.Math.Option.{some}
use Rattle.forms.specs.Bytes.{Bytes}
use Rattle.forms.specs.Readers.{is_some}
use Rattle.rules.specs.Box.{row_before, ordered, row_of}
use Rattle.rules.specs.Image.{Image, KeyRecord, old_image}
use Rattle.rules.specs.Restore.{all_good, kind_has_default, has_default}
use Rattle.rules.specs.Convert.{convertible}
use Rattle.images.specs.declared.entries.ImageEntry.{ImageEntry}
use Rattle.images.specs.declared.entries.Section.TheVariants.{Write}
use Rattle.images.specs.Entries.{raw_at}
use Rattle.images.specs.Good.{kind_of, key_record_of}
use Rattle.orders.specs.Finds.{rows_at, key_inside}

-- the write at a place
abbrev pub write_at : Bytes → ℕ → KeyRecord
write_at s p = key_record_of (raw_at Write s p)

-- "every write Put has its default": of one entry
abbrev pub entry_has : Bytes → List ℕ → ImageEntry → Bool
entry_has s ds e = kind_has_default (kind_of e.kind) (is_some (row_of (key_inside s e) e.second (rows_at s ds)))

-- and of those at a list of places
abbrev pub writes_have : Bytes → List ℕ → List ℕ → Bool
writes_have s ds ws = all_good (has_default (rows_at s ds)) (map (write_at s) ws)

-- defaults in order
abbrev pub InOrder : Bytes → List ℕ → Type 0
InOrder s ds = ordered row_before (rows_at s ds) ≡ true

-- an old image that can be converted, and how many defaults it has
pub record Convertible (s : Bytes) (count : ℕ) : Type 0 where
  pub img : Image
  pub is : old_image s ≡ some img
  pub good : convertible (some img) ≡ true
  pub count_is : length img.defaults ≡ count

abbrev pub OldJudged : Bytes → Option ℕ → Type 0
OldJudged s None = convertible (old_image s) ≡ false
OldJudged s (Some n) = Convertible s n
