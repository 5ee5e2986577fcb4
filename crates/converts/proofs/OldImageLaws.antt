-- An old image judged: each way out of the functions that judge it.
-- Assumes nothing.
use Prim.Native.Nat.{ℕ, ◌+◌, ◌≤◌, ◌<◌}
use native.Mathlib.Omega.{arith}
use mathlib.Core.Path.{◌≡◌, refl, sym, ◌∙◌, ap, ap₂}
use mathlib.Core.Bool.{Bool, true, false, not, ◌&&◌, and-true, and-false, and_assoc, true≢false, false≢true}
use mathlib.Core.List.{List, [], ◌∷◌, ◌++◌, map, map-map}
use mathlib.Core.Option.{none, some}
use mathlib.Core.Option as maths
use Rattle.std.specs.Prelude.{Option, Some, None, Result, Ok, Err}
use Rattle.rules.specs.declared.records.Kind.{Kind}
use Rattle.rules.specs.declared.records.Kind.TheVariants.{Put, Delete, Rollback}
use lib.Dec.{eqb}
use lib.ListN.{length, get_or, take, length-map, get_or-map}
use lib.Seq.{length-take-le}
use borrow.Author.Tests.{ne_eqb, not-true, not-false}
use Rattle.seqs.proofs.Tests.{and_both}
use Rattle.forms.specs.Bytes.{Bytes}
use Rattle.forms.specs.Row.{old_row_form}
use Rattle.forms.specs.Readers.{is_some}
use Rattle.rules.specs.Box.{Default, at_pair, row_of, row_before, ordered}
use Rattle.rules.specs.Image.{Image, KeyRecord, old_image}
use Rattle.rules.specs.Restore.{of_table, all_good, no_second, good_default_by, good_lock, good_write, like_default, like_lock, like_write, kind_has_default, has_default}
use Rattle.rules.specs.Convert.{growing, convertible}
use Rattle.images.specs.Entries.{Raw, is_put, raw_at, raw_of, Stood}
use Rattle.images.specs.declared.entries.Section.TheVariants as sections
use Rattle.images.specs.declared.entries.ImageEntry.{ImageEntry}
use Rattle.images.specs.declared.checks.Form.TheVariants.{Old}
use Rattle.images.specs.declared.sections.Sections.{Sections}
use Rattle.images.specs.Good.{kind_of, key_record_of, default_of, form_of}
use Rattle.images.specs.Sections.{is_good, image_of, row_at, Listed, SectionsAre}
use Rattle.images.proofs.TestLaws.{fails, holds}
use Rattle.orders.specs.Finds.{rows_at, key_inside, place_of, PlaceAsks}
use Rattle.orders.specs.Marks.{before_at}
use Rattle.orders.specs.Sorts.{sorted, Sorted}
use Rattle.orders.specs.declared.marks.By.TheVariants.{Rows, Lines}
use Rattle.orders.proofs.FindLaws.{row-past, row_told}
use Rattle.pairs.specs.Puts.{raw_pair}
use Rattle.pairs.proofs.SortedLaws.{and-cross, sorted-once}
use Rattle.pairs.proofs.SortedPlaceLaws.{likes-rows, rows-in-order, rows-once, lines_once}
use Rattle.pairs.proofs.EntryPairLaws.{any-sorted, good-same, row-found}
use Rattle.converts.specs.Judged.{write_at, entry_has, writes_have, InOrder, Convertible, OldJudged}

-- ---- `has_default`

module _ {s : Bytes} {ds : List ℕ} {e : ImageEntry} (a : PlaceAsks s ds e) where
  abbrev found : Bool
  found = is_some (row_of (key_inside s e) e.second (rows_at s ds))

  module _ (put : is_put e.kind ≡ true) {i : ℕ} (j : i ≡ place_of s ds (key_inside s e) e.second) where
    by_row : entry_has s ds e ≡ found
    by_row = go e.kind put
      where
        go : (k : Result Kind ℕ) → is_put k ≡ true → kind_has_default (kind_of k) found ≡ found
        go (Err n) q = absurd (false≢true q)
        go (Ok Put) q = refl
        go (Ok Delete) q = absurd (false≢true q)
        go (Ok Rollback) q = absurd (false≢true q)

    pub has-none : length ds ≤ i → false ≡ entry_has s ds e
    has-none h = sym (by_row ∙ row-past (key_inside s e) e.second (row_at s 0) (rows_at s ds) a.sorted (omega (arith, length-map ds (row_at s))))

    pub has-told : i < length ds → {b : Bool} → b ≡ like_default (raw_pair (raw_of s e)) (row_at s (get_or ds i 0)) → b ≡ entry_has s ds e
    has-told h q =
        q
        ∙ sym
        (by_row ∙ row_told (key_inside s e) e.second (row_at s 0) (rows_at s ds) a.sorted (omega (arith, length-map ds (row_at s)))
        ∙ ap (at_pair (key_inside s e) e.second) (ap (λ (n : ℕ). get_or (rows_at s ds) n (row_at s 0)) (sym j) ∙ get_or-map (row_at s) ds i 0))

-- ---- `write_has`

pub told : {s : Bytes} (ds : List ℕ) {p : ℕ} {e : ImageEntry} → Stood sections.Write s p e → {b : Bool} → b ≡ entry_has s ds e → b ≡ has_default (rows_at s ds) (write_at s p)
told {s} ds r q = q ∙ ap (λ (x : Raw). has_default (rows_at s ds) (key_record_of x)) r.raw

-- ---- `entries_good`

module _ {s : Bytes} {i : Sections} {ds ls ws : List ℕ} (v : Listed Old s i ds ls ws) where
  abbrev img : Image
  img = image_of s v.table i.floor ds ls ws

  abbrev once : Bool
  once = no_second like_default img.defaults

  abbrev apart : Bool
  apart = no_second like_lock img.locks && no_second like_write img.writes

  abbrev have : Bool
  have = all_good (has_default img.defaults) img.writes

  good-is : is_good (form_of Old) (old_image s) ≡ once && (apart && have)
  good-is =
      ap (is_good (form_of Old)) v.is
      ∙ ap (λ (b : Bool). b && once && no_second like_lock img.locks && no_second like_write img.writes && have)
      (and_both _ _ (and_both _ _ (and_both _ _ (ap not (ne_eqb v.table 0 v.some_table)) v.good_defaults) v.good_locks) v.good_writes)
      ∙ go once (no_second like_lock img.locks) (no_second like_write img.writes) have
    where
      go : (a b c d : Bool) → a && b && c && d ≡ a && ((b && c) && d)
      go false b c d = refl
      go true b c d = refl

  module _ {d : Bool} {ds' : List ℕ} (dv : Sorted (before_at Rows s) ds d ds') where
    d-is : d ≡ once
    d-is = dv.ascends ∙ ap (ordered (before_at Rows s)) dv.is ∙ rows-once (form_of Old) v.table s v.begin v.lat ds v.defaults

    pub good-rows : not d ≡ true → false ≡ is_good (form_of Old) (old_image s)
    good-rows h = sym (good-is ∙ ap (λ (b : Bool). b && (apart && have)) (fails d-is h))

    rows_are : rows_at s ds' ≡ sorted row_before img.defaults
    rows_are = ap (map (row_at s)) dv.is ∙ rows-in-order (form_of Old) v.table s v.begin v.lat ds v.defaults

    module _ (dg : not d ≡ false) where
      pub rows-stand : InOrder s ds'
      rows-stand = ap (ordered row_before) rows_are ∙ sorted-once likes-rows img.defaults ∙ holds d-is dg

      left-two : is_good (form_of Old) (old_image s) ≡ apart && have
      left-two = good-is ∙ ap (λ (b : Bool). b && (apart && have)) (holds d-is dg)

      module _ {l : Bool} {ps : List ℕ} (lv : Sorted (before_at (Lines i.writesat) s) (ls ++ ws) l ps) where
        l-is : l ≡ apart
        l-is = lv.ascends ∙ ap (ordered (before_at (Lines i.writesat) s)) lv.is ∙ lines_once (form_of Old) v.table s v.lat i.writesat (length s) ls ws v.locks v.writes

        pub good-lines : not l ≡ true → false ≡ is_good (form_of Old) (old_image s)
        good-lines h = sym (left-two ∙ ap (λ (b : Bool). b && have) (fails l-is h))

        same-has : (x : KeyRecord) → has_default (rows_at s ds') x ≡ has_default img.defaults x
        same-has x =
            ap (kind_has_default x.write.kind)
            (ap (λ (l : List Default). is_some (row_of x.key x.write.start l)) rows_are ∙ row-found _ _ (sorted row_before img.defaults) ∙ any-sorted row_before (at_pair x.key x.write.start) img.defaults ∙ sym (row-found _ _ img.defaults))

        pub good-puts : not l ≡ false → {r : Bool} → r ≡ writes_have s ds' ws → r ≡ is_good (form_of Old) (old_image s)
        good-puts h q =
            q ∙ good-same (has_default (rows_at s ds')) (has_default img.defaults) same-has (map (write_at s) ws) ∙ ap (all_good (has_default img.defaults)) (sym (map-map key_record_of (raw_at sections.Write s) ws))
            ∙ sym (left-two ∙ ap (λ (b : Bool). b && have) (holds l-is h))

-- ---- "01's image checks or a 255-byte row"

rows_both : (t : ℕ) (ds : List Default) → all_good (good_default_by (form_of Old) t) ds ≡ all_good (good_default_by old_row_form t) ds && all_good growing ds
unfolding all_good
rows_both t [] = refl
rows_both t (d ∷ ds) =
    ap₂ ◌&&◌ (sym (and_assoc (of_table t d.key && not (eqb d.start 0)) (old_row_form d.row) (growing d))) (rows_both t ds)
    ∙ and-cross (good_default_by old_row_form t d) (growing d) (all_good (good_default_by old_row_form t) ds) (all_good growing ds)

pub good-converts : (o : maths.Option Image) → is_good (form_of Old) o ≡ convertible o
unfolding convertible
good-converts none = refl
good-converts (some i) =
    ap (λ (b : Bool). not (eqb i.table 0) && b && locks && writes && no_second like_default i.defaults && no_second like_lock i.locks && no_second like_write i.writes && have) (rows_both i.table i.defaults)
    ∙ go (not (eqb i.table 0)) (all_good (good_default_by old_row_form i.table) i.defaults) (all_good growing i.defaults) locks writes (no_second like_default i.defaults) (no_second like_lock i.locks) (no_second like_write i.writes) have
  where
    locks : Bool
    locks = all_good (good_lock i.table) i.locks

    writes : Bool
    writes = all_good (good_write i.table) i.writes

    have : Bool
    have = all_good (has_default i.defaults) i.writes

    go : (a b m c d e f g h : Bool) → a && (b && m) && c && d && e && f && g && h ≡ (a && b && c && d && e && f && g && h) && m
    go false b m c d e f g h = refl
    go true false m c d e f g h = refl
    go true true true c d e f g h = sym (and-true (c && d && e && f && g && h))
    go true true false c d e f g h = sym (and-false (c && d && e && f && g && h))

-- ---- `judge_in`

pub judged-none : (s : Bytes) → is_good (form_of Old) (old_image s) ≡ false → OldJudged s None
judged-none s h = sym (good-converts (old_image s)) ∙ h

module _ {s : Bytes} {i : Sections} {ds ls ws : List ℕ} (v : SectionsAre Old s i ds ls ws) {b : Bool} (q : b ≡ is_good (form_of Old) (old_image s)) where
  abbrev e : b ≡ convertible (old_image s)
  e = q ∙ good-converts (old_image s)

  pub judged-bad : not b ≡ true → OldJudged s None
  judged-bad g = sym e ∙ not-true b g

  pub judged : not b ≡ false → Convertible s i.defaults
  judged g =
      let w = v.listed in
      record {
        img = image_of s w.table i.floor (take i.defaults ds) (take i.locks ls) (take i.writes ws);
        is = w.is;
        good = sym (ap convertible w.is) ∙ sym e ∙ not-false b g;
        count_is =
            length-map (map (raw_at sections.Default s) (take i.defaults ds)) default_of ∙ length-map (take i.defaults ds) (raw_at sections.Default s) ∙ length-take-le i.defaults ds v.few_defaults;
      }
