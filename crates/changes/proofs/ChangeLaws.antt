-- The box that a store shows when one slot comes, or takes the place of another.
-- Assumes nothing.
use Prim.Native.Nat.{ℕ, ◌+◌, ◌-◌, ◌≤◌, ◌<◌}
use native.Mathlib.Omega.{arith}
use mathlib.Core.Path.{◌≡◌, sym, ap, ap₂, ◌∙◌, subst}
use mathlib.Core.Bool.{true}
use mathlib.Core.List.{List}
use mathlib.Core.Option.{Option}
use lib.ListN.{length, take}
use Rattle.seqs.specs.Tables.{Table, All, shown, insert_at, remove_at, move_to, inserted}
use Rattle.seqs.proofs.Tables.{table-long, table-wider, table-inserted, table-moved, shown-length, shown-same, shown-inserted, shown-moved, map-remove}
use Rattle.forms.specs.Bytes.{Bytes}
use Rattle.forms.specs.Row.{Row}
use Rattle.rules.specs.declared.room.Load.{Load}
use Rattle.rules.specs.Box as box
use Rattle.rules.specs.Restore.{none_like, like_line}
use Rattle.store.specs.declared.table.Slot.{Slot}
use Rattle.store.specs.declared.table.Store.{Store}
use Rattle.store.specs.View.{line_of, row_in, carries, default_in, add_if, stored, box_of, no_slot}
use Rattle.store.specs.Made.{SlotBelow, Tallied, Built}
use Rattle.store.proofs.StoredLaws.{Apart, rows_apart, stored-insert}
use Rattle.changes.specs.Writes.{Past}
use Rattle.changes.specs.Changes.{Leaves}
use Rattle.changes.proofs.StretchLaws.{slot_kept, default-kept}
use Rattle.changes.proofs.TablePlaceLaws.{insert-removed}

-- a table that shows a box
pub shows-box : {st : Store} {area : Bytes} {b : box.Box} → length area ≡ 131072 → st.top ≤ 131072 → Table (SlotBelow st.top) no_slot 1024 st.load.lines st.lines
    → shown (line_of area) st.load.lines st.lines ≡ b.lines → stored (shown (default_in area) st.load.lines st.lines) ≡ b.defaults → Tallied b st.load
    → {top : ℕ} → st.top ≤ top → Leaves b top st area
shows-box {st} {area} {b} length_is high t q r k h =
    let e : box_of st area ≡ b = ap₂ (λ (x : List box.KeyLine) (y : List box.Default). record { lines = x; defaults = y }) q r in
    record {
      built = record { area_long = length_is; top_in = high; lines = t; kept = subst (λ (x : box.Box). Tallied x st.load) (sym e) k };
      shown = e;
      top_most = h;
    }

pub leaves-within : {b : box.Box} {t u : ℕ} {s : Store} {area : Bytes} → t ≤ u → Leaves b t s area → Leaves b u s area
leaves-within h l = record { built = l.built; shown = l.shown; top_most = omega (arith, l.top_most) }

module _ {st : Store} {area : Bytes} (b : Built st area) {area' : Bytes} {top' : ℕ} (p : Past area st.top area') (low : st.top ≤ top') (high : top' ≤ 131072) where
  abbrev n : ℕ
  n = st.load.lines

  abbrev es : List box.KeyLine
  es = (box_of st area).lines

  abbrev os : List (Option box.Default)
  os = shown (default_in area) st.load.lines st.lines

  wide : Table (SlotBelow top') no_slot 1024 n st.lines
  wide = table-wider b.lines (SlotBelow top') (λ s h. record { below = omega (arith, h.below); lean = h.lean; in_use = h.in_use })

  lines-kept : shown (line_of area') n st.lines ≡ es
  lines-kept = shown-same (line_of area') (line_of area) (SlotBelow st.top) (slot_kept area area' st.top p.kept) n st.lines b.lines.holds

  rows-kept : shown (default_in area') n st.lines ≡ os
  rows-kept = shown-same (default_in area') (default_in area) (SlotBelow st.top) (default-kept area area' st.top p.kept) n st.lines b.lines.holds

  module _ {s : Slot} {e : box.KeyLine} {r : Row} (below : SlotBelow top' s) (line : line_of area' s ≡ e) (row : row_in area' s ≡ r) {l : Load} {ds : List box.Default} where
    -- a line comes at i
    pub line-in : {i : ℕ} → l.lines ≡ n + 1 → i ≤ n → n < 1024 → none_like like_line e es ≡ true → box.insert_line e es ≡ insert_at i e es → add_if (carries e r) (box_of st area).defaults ≡ ds
        → Tallied (record { lines = box.insert_line e es; defaults = ds }) l
        → Leaves (record { lines = box.insert_line e es; defaults = ds }) top' (record { lines = inserted i n s st.lines; load = l; top = top'; floor = st.floor }) area'
    unfolding shown
    line-in {i} m h room once place q k =
        let length_is : n < length st.lines = omega (arith, b.lines.length_is) in
        shows-box (p.length_is ∙ b.area_long) high
        (subst (λ (c : ℕ). Table (SlotBelow top') no_slot 1024 c (inserted i n s st.lines)) (sym m) (table-inserted wide i s below h room))
        (ap (λ (c : ℕ). shown (line_of area') c (inserted i n s st.lines)) m ∙ shown-inserted (line_of area') st.lines i n s h length_is
        ∙ ap₂ (λ (x : box.KeyLine) (v : List box.KeyLine). insert_at i x v) line lines-kept ∙ sym place)
        (ap stored (ap (λ (c : ℕ). shown (default_in area') c (inserted i n s st.lines)) m ∙ shown-inserted (default_in area') st.lines i n s h length_is
        ∙ ap₂ (λ (x : Option box.Default) (v : List (Option box.Default)). insert_at i x v) (ap₂ carries line row) rows-kept)
        ∙ stored-insert i (carries e r) os (rows_apart (line_of area) (row_in area) e r (take n st.lines) once) ∙ q)
        k (omega arith)

    -- the line at i goes, and this one stands before what was at j
    pub line-over : {i j : ℕ} → l.lines ≡ n → i < j → j ≤ n → none_like like_line e (remove_at i es) ≡ true → {es' : List box.KeyLine} → es' ≡ move_to i j e es → add_if (carries e r) (stored (remove_at i os)) ≡ ds
        → Tallied (record { lines = es'; defaults = ds }) l → Leaves (record { lines = es'; defaults = ds }) top' (record { lines = move_to i j s st.lines; load = l; top = top'; floor = st.floor }) area'
    unfolding shown
    line-over {i} {j} m h g once place q k =
        shows-box (p.length_is ∙ b.area_long) high
        (subst (λ (c : ℕ). Table (SlotBelow top') no_slot 1024 c (move_to i j s st.lines)) (sym m) (table-moved wide i s below j h g))
        (ap (λ (c : ℕ). shown (line_of area') c (move_to i j s st.lines)) m ∙ shown-moved (line_of area') st.lines i j n s h g (table-long b.lines)
        ∙ ap₂ (λ (x : box.KeyLine) (v : List box.KeyLine). move_to i j x v) line lines-kept ∙ sym place)
        (ap stored (ap (λ (c : ℕ). shown (default_in area') c (move_to i j s st.lines)) m ∙ shown-moved (default_in area') st.lines i j n s h g (table-long b.lines)
        ∙ ap₂ (λ (x : Option box.Default) (v : List (Option box.Default)). move_to i j x v) (ap₂ carries line row) rows-kept
        ∙ sym (insert-removed i j (carries e r) os h (omega (arith, shown-length b.lines (default_in area)))))
        ∙ stored-insert (j - 1) (carries e r) (remove_at i os) others ∙ q)
        k (omega arith)
      where
        others : All (Apart (carries e r)) (remove_at i os)
        others =
            subst (All (Apart (carries e r))) (map-remove (default_in area) i (take n st.lines))
            (rows_apart (line_of area) (row_in area) e r (remove_at i (take n st.lines))
            (subst (λ (v : List box.KeyLine). none_like like_line e v ≡ true) (sym (map-remove (line_of area) i (take n st.lines))) once))
