-- The search for the default of a line's key and start among defaults in order: where it still may be, and each way out; and what stands there.
-- Assumes nothing.
use Prim.Native.Nat.{ℕ, ◌+◌, ◌≤◌, ◌<◌}
use native.Mathlib.Omega.{arith}
use mathlib.Core.Path.{◌≡◌, refl, sym, ap, ◌∙◌}
use mathlib.Core.Bool.{Bool, true, false, false≢true}
use mathlib.Core.List.{List}
use mathlib.Core.Option.{none, some}
use lib.ListN.{length, get_or, length-map, get_or-map, drop_of_length-le}
use lib.Seq.{drop-cons}
use lib.Dec.{ltb, leb}
use borrow.Author.Tests.{ltb-true, ltb-false, leb-true, leb-false}
use Rattle.forms.specs.Bytes.{Bytes}
use Rattle.forms.specs.Key.{Key}
use Rattle.forms.specs.Readers.{is_some}
use Rattle.rules.specs.Box.{Default, at_pair, row_of, add_row, before, row_before, ordered}
use Rattle.laws.specs.Places.{pairs_before, row_first}
use Rattle.laws.proofs.PlaceLaws.{how_many-le}
use Rattle.laws.proofs.DefaultPlaces.{pair_of, pair-below, row_is}
use Rattle.images.specs.Entries.{Stood}
use Rattle.images.specs.declared.entries.Section.TheVariants as sections
use Rattle.images.specs.declared.entries.ImageEntry.{ImageEntry}
use Rattle.images.specs.Good.{default_of}
use Rattle.images.specs.Sections.{row_at}
use Rattle.orders.specs.Marks.{mark_of}
use Rattle.orders.specs.Finds.{rows_at, key_inside, place_of, PlaceAsks}

-- ---- the default of a pair, by its place

module _ (k : Key) (n : ℕ) (z : Default) (ds : List Default) (o : ordered row_before ds ≡ true) where
  abbrev m : ℕ
  m = pairs_before k n ds

  -- none stands there: the pair has no default
  pub row-past : length ds ≤ m → is_some (row_of k n ds) ≡ false
  unfolding row_first
  row-past h = ap is_some (row_is k n ds o) ∙ ap (λ (v : List Default). is_some (row_first k n v)) (drop_of_length-le ds h)

  -- the one that stands there tells whether the pair has a default
  pub row_told : m < length ds → is_some (row_of k n ds) ≡ at_pair k n (get_or ds m z)
  unfolding row_first add_row
  row_told h = ap is_some (row_is k n ds o) ∙ ap (λ (v : List Default). is_some (row_first k n v)) (drop-cons ds m z h) ∙ go (at_pair k n (get_or ds m z))
    where
      go : (b : Bool) → is_some (add_row b (get_or ds m z).row none) ≡ b
      go true = refl
      go false = refl

  module _ (s : is_some (row_of k n ds) ≡ true) where
    pub place_in : m < length ds
    place_in = go (leb (length ds) m) refl
      where
        go : (b : Bool) → leb (length ds) m ≡ b → m < length ds
        go true e = absurd (false≢true (sym (row-past (leb-true (length ds) m e)) ∙ s))
        go false e = leb-false (length ds) m e

    pub row-there : row_of k n ds ≡ some (get_or ds m z).row
    unfolding row_first add_row
    row-there = row_is k n ds o ∙ ap (row_first k n) (drop-cons ds m z place_in) ∙ go (at_pair k n (get_or ds m z)) (sym (row_told place_in) ∙ s)
      where
        go : (b : Bool) → b ≡ true → add_row b (get_or ds m z).row none ≡ some (get_or ds m z).row
        go true e = refl
        go false e = absurd (false≢true e)

-- ---- the loop

-- the place of the default of a key and a start is at least `low` and at most `high`
pub record Searching (s : Bytes) (rows : List ℕ) (k : Key) (n low high : ℕ) : Type 0 where
  pub from : low ≤ place_of s rows k n
  pub to : place_of s rows k n ≤ high
  pub count_fits : high ≤ length rows

module _ {s : Bytes} {rows : List ℕ} {e : ImageEntry} (asks : PlaceAsks s rows e) where
  abbrev k : Key
  k = key_inside s e

  abbrev ds : List Default
  ds = rows_at s rows

  abbrev place : ℕ
  place = place_of s rows (key_inside s e) e.second

  pub search-start : Searching s rows (key_inside s e) e.second 0 (length rows)
  search-start = record { from = omega arith; to = omega (arith, how_many-le (λ (d : Default). row_before d (pair_of k e.second)) ds, length-map rows (row_at s)); count_fits = omega arith }

  module _ {low high i : ℕ} (v : Searching s rows (key_inside s e) e.second low high) (h : i < high) {d : ImageEntry} (u : Stood sections.Default s (get_or rows i 0) d) {t : Bool}
      (q : t ≡ before (mark_of s (record { key = d.key; lock = false; value = d.first })) (mark_of s (record { key = e.key; lock = false; value = e.second }))) where
    test : ltb i place ≡ t
    unfolding before row_before
    test =
        sym (pair-below k e.second ds i (row_at s 0) asks.sorted (omega (arith, length-map rows (row_at s), v.count_fits)))
        ∙ sym (q ∙ ap (λ (x : Default). row_before x (pair_of k e.second)) (ap default_of u.raw ∙ sym (get_or-map (row_at s) rows i 0)))

    pub search-up : t ≡ true → Searching s rows (key_inside s e) e.second (i + 1) high
    search-up c = record { from = omega (arith, ltb-true i place (test ∙ c)); to = v.to; count_fits = v.count_fits }

    pub search-down : t ≡ false → Searching s rows (key_inside s e) e.second low i
    search-down c = record { from = v.from; to = omega (arith, ltb-false i place (test ∙ c)); count_fits = omega (arith, v.count_fits) }
