-- The row that a line of an image carries: that of the default of its key and start.
-- Assumes nothing.
use Rattle.std.specs.Prelude.{ℕ, ◌≡◌, true, List, []}
use Rattle.std.proofs.Math.Option.{Option, none, some}
use Rattle.forms.specs.Bytes.{Bytes}
use Rattle.forms.specs.Places.{PartIn, part_of}
use Rattle.forms.specs.Row.{Row}
use Rattle.forms.specs.Readers.{is_some}
use Rattle.rules.specs.declared.records.Kind.{Kind}
use Rattle.rules.specs.declared.records.Kind.TheVariants.{Put, Delete, Rollback}
use Rattle.rules.specs.Box.{row_of}
use Rattle.rules.specs.Restore.{kind_has_default}
use Rattle.images.specs.declared.entries.ImageEntry.{ImageEntry}
use Rattle.images.specs.Good.{kind_of}
use Rattle.orders.specs.Finds.{rows_at, key_inside, PlaceAsks}
use Rattle.restores.specs.declared.rows.RowPlace.{RowPlace}

-- a Put's row is the one that is stored; the others have none
abbrev pub or_none : Option Row → Row
or_none none = []
or_none (some r) = r

abbrev pub row_for : Kind → Option Row → Row
row_for Put o = or_none o
row_for Delete o = []
row_for Rollback o = []

-- ---- the search

-- defaults in order, and a line that has its own if it is a Put
pub record RowAsks (s : Bytes) (rows : List ℕ) (e : ImageEntry) : Type 0 where
  pub place : PlaceAsks s rows e
  pub has : kind_has_default (kind_of e.kind) (is_some (row_of (key_inside s e) e.second (rows_at s rows))) ≡ true

pub record RowFound (s : Bytes) (rows : List ℕ) (e : ImageEntry) (r : RowPlace) : Type 0 where
  pub is : part_of s r.row ≡ row_for (kind_of e.kind) (row_of (key_inside s e) e.second (rows_at s rows))
  pub inside : PartIn s r.row
