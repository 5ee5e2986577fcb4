-- A made store's table can be written: its slots lie in the area, their keys are in form and their pieces short, and they stand in order.
-- Assumes nothing.
use Prim.Native.Nat.{ℕ, zero, suc, ◌+◌, ◌≤◌, ◌<◌}
use native.Mathlib.Omega.{arith}
use mathlib.Core.Path.{◌≡◌, sym, subst}
use mathlib.Core.Bool.{Bool, true, not}
use mathlib.Core.List.{List, [], ◌∷◌}
use lib.Dec.{eqb}
use lib.ListN.{length, get_or, take}
use lib.Seq.{get_or-take, length-take-le}
use borrow.Author.Tests.{eqb-false}
use Rattle.seqs.specs.Tables.{All, shown}
use Rattle.seqs.proofs.Tables.{table-long, shown-at, shown-length}
use Rattle.forms.specs.Bytes.{Bytes, bytes_at}
use Rattle.forms.specs.Key.{key_form}
use Rattle.forms.proofs.RowLaws.{row-bounds}
use Rattle.rules.specs.declared.records.Kind.{Kind}
use Rattle.rules.specs.declared.records.Kind.TheVariants.{Put, Delete, Rollback}
use Rattle.rules.specs.Box as box
use Rattle.rules.specs.Box.{start_of, kind_in}
use Rattle.rules.specs.Sound.{sound_lock}
use Rattle.rules.specs.Restore.{all_good}
use Rattle.laws.proofs.StepLaws.{passed, not-true, and_left, and_right}
use Rattle.laws.proofs.BoxOrder.{order-lines}
use Rattle.store.specs.declared.table.Line.{Line}
use Rattle.store.specs.declared.table.Line.TheVariants.{Standing, Finished}
use Rattle.store.specs.declared.table.Slot.{Slot}
use Rattle.store.specs.declared.table.Store.{Store}
use Rattle.store.specs.View.{place_of, row_len, line_in, past, key_of, line_of, row_in, row_if, box_of, no_slot}
use Rattle.store.specs.Made.{sound_line, good_line, LeanRow, Built}
use Rattle.store.specs.Views.{RowThere}
use Rattle.store.proofs.BuiltLaws.{slot-in, row-there}
use Rattle.store.proofs.KeySoundLaws.{row-form}
use Rattle.forms.proofs.WriterLaws.{bytes-long}
use Rattle.picks.specs.Lines.{ShortLine, SlotIn, Lined}
use Rattle.picks.proofs.CaptureLineLaws.{form-long}

-- ---- what holds at each place holds of each, and the other way round

all_from : {A : Type 0} (P : A → Type 0) (d : A) (xs : List A) → ((i : ℕ) → i < length xs → P (get_or xs i d)) → All P xs
unfolding All
all_from P d [] h = tt
all_from P d (x ∷ xs) h = (h 0 (omega arith), all_from P d xs (λ i l. h (suc i) (omega arith)))

good-at : {A : Type 0} (p : A → Bool) (d : A) (xs : List A) (i : ℕ) → all_good p xs ≡ true → i < length xs → p (get_or xs i d) ≡ true
unfolding all_good
good-at p d [] i a h = absurd (omega arith)
good-at p d (x ∷ xs) zero a h = and_left _ _ a
good-at p d (x ∷ xs) (suc i) a h = good-at p d xs i (and_right (p x) _ a) (omega arith)

-- ---- a sound line

not-zero : (n : ℕ) → not (eqb n 0) ≡ true → 0 < n
not-zero n h = let e : n ≡ 0 → ⊥ = eqb-false n 0 (not-true (eqb n 0) h) in omega (arith, e)

sound-start : (x : box.Line) → sound_line x ≡ true → 0 < start_of x
unfolding sound_lock
sound-start (box.Standing l) g = not-zero l.start (search passed)
sound-start (box.Finished w) g = not-zero w.start (search passed)

sound-primary : (l : box.Lock) → sound_lock l ≡ true → key_form l.primary ≡ true
unfolding sound_lock
sound-primary l g = search passed

module _ {st : Store} {area : Bytes} (b : Built st area) where
  abbrev slot : ℕ → Slot
  slot i = get_or st.lines i no_slot

  module _ (i : ℕ) (h : i < st.load.lines) where
    line-good : good_line (line_of area (slot i)) ≡ true
    line-good =
        subst (λ (e : box.KeyLine). good_line e ≡ true) (shown-at b.lines (line_of area) i h)
        (good-at good_line (line_of area no_slot) (box_of st area).lines i b.kept.good (omega (arith, shown-length b.lines (line_of area))))

    row-less : row_len (slot i).line ≤ 255
    row-less = go (kind_in (line_of area (slot i)).line) r.lean r.is
      where
        r : RowThere st.top area (box_of st area).defaults (key_of area (slot i)) (start_of (line_of area (slot i)).line) (kind_in (line_of area (slot i)).line) (place_of (slot i) + (slot i).len + 8 + 8) (row_len (slot i).line)
        r = row-there b i h st.top b.lines.holds

        length_is : length (row_in area (slot i)) ≡ row_len (slot i).line
        length_is = bytes-long area (place_of (slot i) + (slot i).len + 8 + 8) (row_len (slot i).line) (omega (arith, r.within, b.top_in, b.area_long))

        go : (k : Kind) → LeanRow k (row_len (slot i).line) → box.row_of (key_of area (slot i)) (start_of (line_of area (slot i)).line) (box_of st area).defaults ≡ row_if k (row_in area (slot i)) → row_len (slot i).line ≤ 255
        go Put l e = omega (arith, length_is, (row-bounds (row_in area (slot i)) (row-form (key_of area (slot i)) (start_of (line_of area (slot i)).line) (box_of st area).defaults (row_in area (slot i)) b.kept.rows e)).short)
        go Delete l e = omega (arith, l)
        go Rollback l e = omega (arith, l)

    short : ShortLine (slot i).line
    short = go (slot i).line (slot-in b i h) (and_right (key_form (key_of area (slot i))) _ line-good) row-less
      where
        go : (x : Line) → place_of (slot i) + (slot i).len + past x ≤ length area → sound_line (line_in area (place_of (slot i) + (slot i).len) x) ≡ true → row_len x ≤ 255 → ShortLine x
        go (Standing l) w g r =
            let at = place_of (slot i) + (slot i).len + 8 + 8 + l.rowlen + 8 in
            let f = form-long (bytes_at area at l.plen) (sound-primary _ g) in
            (omega (arith, f.1, bytes-long area at l.plen (omega arith)), r)
        go (Finished e) w g r = r

    slot-good : SlotIn area (slot i)
    slot-good = record {
      within = slot-in b i h;
      form = and_left _ _ line-good;
      short = short;
      starts = sound-start (line_of area (slot i)).line (and_right (key_form (key_of area (slot i))) _ line-good);
    }

  pub built-lined : Lined (take st.load.lines st.lines) area
  unfolding shown
  built-lined = record {
    few = omega (arith, length-take-le st.load.lines st.lines (table-long b.lines), b.lines.count_fits);
    holds = all_from (SlotIn area) no_slot (take st.load.lines st.lines) (λ i l. let h : i < st.load.lines = omega (arith, l, length-take-le st.load.lines st.lines (table-long b.lines)) in subst (SlotIn area) (sym (get_or-take st.load.lines st.lines i no_slot h)) (slot-good i h));
    sorted = order-lines (box_of st area) b.kept.sorted;
    once = b.kept.once;
  }
