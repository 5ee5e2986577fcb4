-- An entry by its parts: a Put carries its row, a Delete none.
-- Assumes nothing.
use native.Mathlib.Omega.{arith}
use Prim.Native.Nat.{◌≤◌}
use mathlib.Core.Path.{◌≡◌, refl}
use mathlib.Core.Bool.{true}
use mathlib.Core.Option.{Option, none, some}
use lib.ListN.{length}
use Rattle.forms.specs.Bytes.{Bytes}
use Rattle.forms.specs.Row.{Row}
use Rattle.forms.specs.Places.{key_at, given_part, GivenIn, EntryIn}
use Rattle.forms.specs.declared.part.Part.{Part}
use Rattle.std.specs.Prelude.{None, Some}
use Rattle.std.specs.Prelude.{Option as Maybe}
use Rattle.forms.specs.declared.batch.Entry.{Entry}
use Rattle.rules.specs.Calls.{kind_of, row_argument}
use Rattle.forms.proofs.WriterLaws.{bytes-long}
use Rattle.changes.specs.Changes.{row_bytes, RowFits}

pub key_short : {s : Bytes} (e : Entry) → EntryIn s e → length (key_at s e) ≤ 255
key_short {s} e i = omega (arith, bytes-long s e.key.at e.key.len i.key_in.within, i.key_in.small)

pub row-short : {s : Bytes} (e : Entry) → EntryIn s e → length (row_bytes (given_part s e.row)) ≤ 255
row-short {s} e i = go e.row i.row-in
  where
    go : (o : Maybe Part) → GivenIn s o → length (row_bytes (given_part s o)) ≤ 255
    go None g = omega arith
    go (Some r) g = omega (arith, bytes-long s r.at r.len g.within, g.small)

-- a Put's row is in form, and a Delete has none
pub row_fits : (row : Option Row) → row_argument row ≡ true → RowFits (kind_of row) (row_bytes row)
row_fits (some r) f = f
row_fits none f = refl
