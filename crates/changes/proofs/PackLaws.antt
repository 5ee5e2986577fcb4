-- The loop of `pack`: the slots passed show in the new area what they showed in the old; the others are as they were.
-- Assumes nothing.
use Prim.Native.Nat.{ℕ, suc, ◌+◌, ◌-◌, ◌≤◌, ◌<◌}
use native.Mathlib.Numerals.{add-one}
use native.Mathlib.Omega.{arith}
use mathlib.Core.Path.{◌≡◌, refl, sym, ap, ap₂, ◌∙◌, subst}
use mathlib.Core.Bool.{true}
use mathlib.Core.List.{List, [], ◌∷◌, ◌++◌, map}
use mathlib.Core.Option.{Option}
use lib.ListN.{length, get_or, take, drop, set, length-set}
use lib.Seq.{take-suc, take-suc-set, drop-cons, drop-drop, get_or-take, get_or-drop, length-take-le}
use Rattle.seqs.specs.Tables.{Table, All, shown}
use Rattle.seqs.proofs.Parts.{drop-set}
use Rattle.seqs.proofs.Alls.{all_none, all_cons, all_append, all-weaken}
use Rattle.seqs.proofs.Tables.{table_at, table-long, shown-added, shown-same}
use Rattle.forms.specs.Bytes.{Bytes, bytes_at}
use Rattle.forms.specs.Writers.{Laid}
use Rattle.rules.specs.declared.room.Load.{Load}
use Rattle.rules.specs.Box as box
use Rattle.rules.specs.Room.{sum_of}
use Rattle.store.specs.declared.table.Slot.{Slot}
use Rattle.store.specs.declared.table.Store.{Store}
use Rattle.store.specs.View.{place_of, Pairs, size_of, line_of, carries, default_in, stored, box_of, no_slot}
use Rattle.store.specs.Made.{SlotBelow, Tallied, Made}
use Rattle.forms.proofs.WriterLaws.{bytes-long, laid_kept, laid-stands}
use Rattle.store.proofs.NeedLaws.{area-enough}
use Rattle.store.proofs.FloorLaws.{above_same}
use Rattle.changes.specs.Changes.{Leaves}
use Rattle.changes.specs.Packs.{PackAsks, Packed, Repacked}
use Rattle.changes.proofs.StretchLaws.{SameBytes, slot_same, row_same, slot_kept, default-kept}
use Rattle.changes.proofs.ChangeLaws.{shows-box}

-- one more that counts
map_last : {A B : Type 0} (f : A → B) (xs : List A) (x : A) → map f (xs ++ x ∷ []) ≡ map f xs ++ f x ∷ []
map_last f [] x = refl
map_last f (y ∷ ys) x = ap (λ (v : List _). f y ∷ v) (map_last f ys x)

shown-more : {A B : Type 0} (f : A → B) (l : List A) (i : ℕ) (d : A) → i < length l → shown f (i + 1) l ≡ shown f i l ++ f (get_or l i d) ∷ []
unfolding shown
shown-more f l i d h = ap (λ (n : ℕ). map f (take n l)) (add-one i) ∙ ap (map f) (take-suc l i d h) ∙ map_last f (take i l) (get_or l i d)

-- the first `i` lines stand in `at` pairs of bytes; each of the others needs its bytes, and one more where it begins at a pair
pub record Packing (st : Store) (area : Bytes) (n i at : ℕ) (l : Store) (into : Bytes) : Type 0 where
  pub low : i ≤ n
  pub length_is : length into ≡ 68608
  pub room : at + at + sum_of size_of (drop i (take n st.lines)) + (n - i) ≤ 68608
  pub load_is : l.load ≡ st.load
  pub floor_is : l.floor ≡ st.floor
  pub table_is : length l.lines ≡ 1024
  pub holds : All (SlotBelow (at + at)) (take i l.lines)
  pub rest : drop i l.lines ≡ drop i st.lines
  pub lines : shown (line_of into) i l.lines ≡ shown (line_of area) i st.lines
  pub rows : shown (default_in into) i l.lines ≡ shown (default_in area) i st.lines

module _ {st : Store} {area into₀ : Bytes} (asks : PackAsks st area into₀) where
  pub packing-start : Packing st area st.load.lines 0 0 st into₀
  unfolding shown All
  packing-start = record {
    low = omega arith;
    length_is = asks.length_is;
    room = omega (arith, asks.room, asks.table.count_fits);
    load_is = refl;
    floor_is = refl;
    table_is = asks.table.length_is;
    holds = tt;
    rest = refl;
    lines = refl;
    rows = refl;
  }

  module _ {i at : ℕ} {l : Store} {into : Bytes} (v : Packing st area st.load.lines i at l into) where
    abbrev top : ℕ
    top = at + at

    abbrev n : ℕ
    n = st.load.lines

    pub packing-end : n ≤ i → Packed st area (record { lines = l.lines; load = l.load; top = at + at; floor = l.floor }) into
    packing-end h =
        let e : i ≡ n = omega (arith, v.low) in
        record {
          length_is = v.length_is;
          table = record {
            length_is = v.table_is;
            count_fits = asks.table.count_fits;
            holds = subst (λ (m : ℕ). All (SlotBelow top) (take m l.lines)) e v.holds;
            rest = subst (λ (m : ℕ). drop m l.lines ≡ drop m st.lines) e v.rest ∙ asks.table.rest;
          };
          lines = subst (λ (m : ℕ). shown (line_of into) m l.lines ≡ shown (line_of area) m st.lines) e v.lines;
          rows = subst (λ (m : ℕ). shown (default_in into) m l.lines ≡ shown (default_in area) m st.lines) e v.rows;
          load_is = v.load_is;
          floor_is = v.floor_is;
          top_most = omega (arith, v.room);
        }

    module _ (h : i < st.load.lines) where
      abbrev s : Slot
      s = get_or st.lines i no_slot

      inside : i < length st.lines
      inside = omega (arith, table-long asks.table)

      inside' : i < length l.lines
      inside' = omega (arith, v.table_is, asks.table.count_fits)

      -- the slot is as it was
      as-was : get_or l.lines i no_slot ≡ get_or st.lines i no_slot
      as-was = sym (at_drop l.lines i) ∙ ap (λ (v : List Slot). get_or v 0 no_slot) v.rest ∙ at_drop st.lines i
        where
          at_drop : (v : List Slot) (i : ℕ) → get_or (drop i v) 0 no_slot ≡ get_or v i no_slot
          at_drop v i = get_or-drop i v 0 no_slot ∙ ap (λ (m : ℕ). get_or v m no_slot) (omega arith)

      below : SlotBelow (length area) s
      below = table_at asks.table i h

      pub packing-in : place_of (get_or l.lines i no_slot) + size_of (get_or l.lines i no_slot) ≤ length area
      packing-in = subst (λ (x : Slot). place_of x + size_of x ≤ length area) (sym as-was) (omega (arith, below.below))

      sum-next : sum_of size_of (drop i (take n st.lines)) ≡ size_of s + sum_of size_of (drop (suc i) (take n st.lines))
      unfolding sum_of
      sum-next =
          let count_fits : i < length (take n st.lines) = omega (arith, length-take-le n st.lines (table-long asks.table)) in
          ap (sum_of size_of) (drop-cons (take n st.lines) i no_slot count_fits) ∙ ap (λ (x : Slot). size_of x + sum_of size_of (drop (suc i) (take n st.lines))) (get_or-take n st.lines i no_slot h)

      pub packing-room : at + at + size_of (get_or l.lines i no_slot) ≤ 68608
      packing-room = subst (λ (x : Slot). at + at + size_of x ≤ 68608) (sym as-was) (omega (arith, v.room, sum-next))

      -- what was cut from the old area stands in the new one
      module _ {r : ℕ} {into' : Bytes} (w : Laid top (size_of s) (bytes_at area (place_of s) (size_of s)) into r into') {next : ℕ} (near : Pairs r next) where
        abbrev t : Slot
        t = record { at = at; len = s.len; used = true; line = s.line }

        same : SameBytes area (place_of s) into' top (size_of s)
        same = record { are = laid-stands w }

        line : line_of into' t ≡ line_of area s
        line = slot_same s.at at same s.len s.line (omega arith) true s.used

        default : default_in into' t ≡ default_in area s
        default = ap₂ carries line (row_same s.at at same s.len s.line (omega arith) true s.used)

        go : Packing st area n (i + 1) next (record { lines = set l.lines i t; load = l.load; top = l.top; floor = l.floor }) into'
        unfolding shown
        go = record {
          low = omega arith;
          length_is = w.length_is ∙ v.length_is;
          room = omega (arith, v.room, sum-next, ap (λ (m : ℕ). sum_of size_of (drop m (take n st.lines))) (add-one i), near.fewest, h);
          load_is = v.load_is;
          floor_is = v.floor_is;
          table_is = length-set l.lines i t ∙ v.table_is;
          holds =
              subst (All (SlotBelow (next + next))) (sym (ap (λ (m : ℕ). take m (set l.lines i t)) (add-one i) ∙ take-suc-set l.lines i t inside'))
              (all_append (SlotBelow (next + next)) (take i l.lines) (t ∷ [])
              (all-weaken (SlotBelow top) (SlotBelow (next + next)) (take i l.lines) (λ x b. record { below = omega (arith, b.below, near.holds); lean = b.lean; in_use = b.in_use }) v.holds)
              (all_cons (SlotBelow (next + next)) t [] (record { below = omega (arith, near.holds); lean = below.lean; in_use = refl }) (all_none (SlotBelow (next + next)))));
          rest =
              ap (λ (m : ℕ). drop m (set l.lines i t)) (add-one i) ∙ past-set ∙ sym (drop-drop 1 i l.lines ∙ ap (λ (m : ℕ). drop m l.lines) (add-one i)) ∙ ap (drop 1) v.rest ∙ drop-drop 1 i st.lines;
          lines =
              shown-added (line_of into') l.lines i t inside'
              ∙ ap₂ (λ (a : List box.KeyLine) (x : box.KeyLine). a ++ x ∷ []) (shown-same (line_of into') (line_of into) (SlotBelow top) (slot_kept into into' top (laid_kept w)) i l.lines v.holds ∙ v.lines) line
              ∙ sym (shown-more (line_of area) st.lines i no_slot inside);
          rows =
              shown-added (default_in into') l.lines i t inside'
              ∙ ap₂ (λ (a : List (Option box.Default)) (x : Option box.Default). a ++ x ∷ []) (shown-same (default_in into') (default_in into) (SlotBelow top) (default-kept into into' top (laid_kept w)) i l.lines v.holds ∙ v.rows) default
              ∙ sym (shown-more (default_in area) st.lines i no_slot inside);
        }
          where
            past-set : drop (suc i) (set l.lines i t) ≡ drop (suc i) l.lines
            past-set =
                sym (drop-drop 1 i (set l.lines i t) ∙ ap (λ (m : ℕ). drop m (set l.lines i t)) (add-one i)) ∙ ap (drop 1) (drop-set l.lines i t inside')

      pub packing-more : {into' : Bytes} {from size : ℕ} → from ≡ place_of (get_or l.lines i no_slot) → size ≡ size_of (get_or l.lines i no_slot) → {r : ℕ} → Laid (at + at) (length (bytes_at area from (from + size - from))) (bytes_at area from (from + size - from)) into r into'
          → {next : ℕ} → Pairs r next
          → Packing st area st.load.lines (i + 1) next (record { lines = set l.lines i (record { at = at; len = (get_or l.lines i no_slot).len; used = true; line = (get_or l.lines i no_slot).line }); load = l.load; top = l.top; floor = l.floor }) into'
      packing-more {into'} {from} {size} f q {r} w {next} near =
          let p : from + size - from ≡ size = omega arith in
          let u : size ≡ size_of s = q ∙ ap size_of as-was in
          let e : bytes_at area from (from + size - from) ≡ bytes_at area (place_of s) (size_of s) = ap₂ (bytes_at area) (f ∙ ap place_of as-was) (p ∙ u) in
          rw as-was (go (subst (λ (n : ℕ). Laid top n (bytes_at area (place_of s) (size_of s)) into r into') (bytes-long area (place_of s) (size_of s) (omega (arith, below.below))) (subst (λ (b : Bytes). Laid top (length b) b into r into') e w)) near)

-- ---- `repack`

module _ {st : Store} {area : Bytes} (m : Made st area) where
  pub pack-asks : {into : Bytes} → length into ≡ 68608 → PackAsks st area into
  pack-asks e = record {
    table = record {
      length_is = m.built.lines.length_is;
      count_fits = m.built.lines.count_fits;
      holds = all-weaken (SlotBelow st.top) (SlotBelow (length area)) (take st.load.lines st.lines) (λ s p. record { below = omega (arith, p.below, m.built.top_in, m.built.area_long); lean = p.lean; in_use = p.in_use }) m.built.lines.holds;
      rest = m.built.lines.rest;
    };
    length_is = e;
    room = area-enough m;
  }

  pub repacked : {r : Store} {into area' : Bytes} → Packed st area r into → {k : ℕ} → Laid 0 (length (bytes_at into 0 (r.top - 0))) (bytes_at into 0 (r.top - 0)) area k area' → Repacked st area r area'
  repacked {r} {into} {area'} p {k} w =
      let l : Leaves (box_of st area) r.top r area' =
      shows-box (w.length_is ∙ m.built.area_long) (omega (arith, p.top_most))
      (subst (λ (n : ℕ). Table (SlotBelow r.top) no_slot 1024 n r.lines) (sym count) p.table)
      (ap (λ (n : ℕ). shown (line_of area') n r.lines) count ∙ shown-same (line_of area') (line_of into) (SlotBelow r.top) (slot_kept into area' r.top front) st.load.lines r.lines p.table.holds ∙ p.lines)
      (ap stored (ap (λ (n : ℕ). shown (default_in area') n r.lines) count ∙ shown-same (default_in area') (default_in into) (SlotBelow r.top) (default-kept into area' r.top front) st.load.lines r.lines p.table.holds ∙ p.rows))
      (subst (Tallied (box_of st area)) (sym p.load_is) m.built.kept) (omega arith) in
      record { made = record { built = l.built; fit = rw p.load_is m.fit; above = above_same p.floor_is l.shown m.above }; shown = l.shown; load_is = p.load_is; floor_is = p.floor_is; top_most = p.top_most }
    where
      count : r.load.lines ≡ st.load.lines
      count = ap (λ (x : Load). x.lines) p.load_is

      whole : r.top - 0 ≡ r.top
      whole = omega arith

      length_is : length (bytes_at into 0 (r.top - 0)) ≡ r.top
      length_is = bytes-long into 0 (r.top - 0) (omega (arith, p.top_most, p.length_is)) ∙ whole

      front : take r.top area' ≡ take r.top into
      front = subst (λ (n : ℕ). bytes_at area' 0 n ≡ bytes_at into 0 (r.top - 0)) length_is (laid-stands w) ∙ ap (bytes_at into 0) whole
