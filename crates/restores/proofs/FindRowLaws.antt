-- The row of a line, at the place of its default: each way out of `find_row`.
-- Assumes nothing.
use Prim.Native.Nat.{ℕ, ◌<◌}
use native.Mathlib.Omega.{arith}
use mathlib.Core.Path.{◌≡◌, refl, sym, ap, ap₂, ◌∙◌}
use mathlib.Core.Bool.{true, false≢true}
use mathlib.Core.List.{List}
use mathlib.Core.Option.{Option, some}
use lib.ListN.{length, get_or, length-map, get_or-map}
use Rattle.std.specs.Prelude.{Result, Ok, Err}
use Rattle.rules.specs.declared.records.Kind.{Kind}
use Rattle.rules.specs.declared.records.Kind.TheVariants.{Put, Delete, Rollback}
use Rattle.forms.specs.Bytes.{Bytes}
use Rattle.forms.specs.Key.{Key}
use Rattle.forms.specs.Row.{Row}
use Rattle.forms.specs.Readers.{is_some}
use Rattle.rules.specs.Box.{Default, row_of}
use Rattle.rules.specs.Restore.{kind_has_default}
use Rattle.images.specs.Entries.{is_put, Stood}
use Rattle.images.specs.declared.entries.Section.TheVariants as sections
use Rattle.images.specs.declared.entries.ImageEntry.{ImageEntry}
use Rattle.images.specs.Good.{kind_of, default_of}
use Rattle.images.specs.Sections.{row_at}
use Rattle.orders.specs.Finds.{rows_at, key_inside, place_of}
use Rattle.orders.proofs.FindLaws.{place_in, row-there}
use Rattle.restores.specs.Rows.{row_for, RowAsks, RowFound}

module _ {s : Bytes} {rows : List ℕ} {e : ImageEntry} (asks : RowAsks s rows e) where
  abbrev k : Key
  k = key_inside s e

  abbrev ds : List Default
  ds = rows_at s rows

  module _ (put : is_put e.kind ≡ true) {i : ℕ} (j : i ≡ place_of s rows (key_inside s e) e.second) where
    kind_is : kind_of e.kind ≡ Put
    kind_is = go e.kind put
      where
        go : (x : Result Kind ℕ) → is_put x ≡ true → kind_of x ≡ Put
        go (Err n) q = absurd (false≢true q)
        go (Ok Put) q = refl
        go (Ok Delete) q = absurd (false≢true q)
        go (Ok Rollback) q = absurd (false≢true q)

    has : is_some (row_of k e.second ds) ≡ true
    has = sym (ap (λ (x : Kind). kind_has_default x (is_some (row_of k e.second ds))) kind_is) ∙ asks.has

    pub row_inside : i < length rows
    row_inside = omega (arith, place_in k e.second (row_at s 0) ds asks.place.sorted has, length-map rows (row_at s))

    pub row-found : {d : ImageEntry} → Stood sections.Default s (get_or rows i 0) d → RowFound s rows e (record { row = d.piece; last = i })
    row-found u =
        let r : row_of k e.second ds ≡ some (row_at s (get_or rows i 0)).row =
        row-there k e.second (row_at s 0) ds asks.place.sorted has ∙ ap (λ (x : Default). some x.row) (ap (λ (n : ℕ). get_or ds n (row_at s 0)) (sym j) ∙ get_or-map (row_at s) rows i 0) in
        record {
          is = ap (λ (x : Default). x.row) (ap default_of u.raw) ∙ sym (ap₂ (λ (x : Kind) (p : Option Row). row_for x p) kind_is r);
          inside = u.lies.piece;
        }
