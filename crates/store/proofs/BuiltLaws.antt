-- A built store's slots: each line's stretch lies in the area, and the row of its pair is the one that it carries.
-- Assumes nothing.
use Prim.Native.Nat.{ℕ, ◌+◌, ◌≤◌, ◌<◌}
use native.Mathlib.Omega.{arith}
use mathlib.Core.Path.{◌≡◌, subst}
use mathlib.Core.Bool.{true}
use mathlib.Core.List.{List}
use lib.ListN.{length, get_or, take}
use lib.Seq.{get_or-take, length-take-le}
use Rattle.seqs.specs.Tables.{All, shown}
use Rattle.seqs.proofs.Alls.{all-at}
use Rattle.seqs.proofs.Tables.{table_at, table-long}
use Rattle.forms.specs.Bytes.{Bytes}
use Rattle.rules.specs.Box as box
use Rattle.rules.specs.Box.{start_of, kind_in}
use Rattle.laws.proofs.BoxOrder.{order-lines}
use Rattle.store.specs.declared.table.Slot.{Slot}
use Rattle.store.specs.declared.table.Store.{Store}
use Rattle.store.specs.View.{place_of, past, row_len, row_if, key_of, line_of, row_in, box_of, no_slot}
use Rattle.store.specs.Made.{SlotBelow, Built}
use Rattle.store.specs.Views.{RowThere}
use Rattle.store.proofs.ViewLaws.{past_row, lean-row}
use Rattle.store.proofs.StoredLaws.{row-held}

module _ {st : Store} {area : Bytes} (b : Built st area) where
  abbrev pub es : List box.KeyLine
  es = (box_of st area).lines

  abbrev pub ds : List box.Default
  ds = (box_of st area).defaults

  abbrev pub slot : ℕ → Slot
  slot i = get_or st.lines i no_slot

  pub lines-order : box.ordered box.before es ≡ true
  lines-order = order-lines (box_of st area) b.kept.sorted

  pub slot-in : (i : ℕ) → i < st.load.lines → place_of (slot i) + (slot i).len + past (slot i).line ≤ length area
  slot-in i h = omega (arith, (table_at b.lines i h).below, b.top_in, b.area_long)

  module _ (i : ℕ) (h : i < st.load.lines) where
    pub same : get_or (take st.load.lines st.lines) i no_slot ≡ slot i
    same = get_or-take st.load.lines st.lines i no_slot h

    pub inside : i < length (take st.load.lines st.lines)
    inside = omega (arith, length-take-le st.load.lines st.lines (table-long b.lines))

    -- the row of a line's pair is the one that it carries
    pub row-there : (t : ℕ) → All (SlotBelow t) (take st.load.lines st.lines) → RowThere t area ds (key_of area (slot i)) (start_of (line_of area (slot i)).line) (kind_in (line_of area (slot i)).line) (place_of (slot i) + (slot i).len + 8 + 8) (row_len (slot i).line)
    unfolding shown
    row-there t a =
        let p : SlotBelow t (slot i) = subst (SlotBelow t) same (all-at (SlotBelow t) no_slot (take st.load.lines st.lines) i a inside) in
        record {
          within = omega (arith, p.below, past_row (slot i).line);
          lean = lean-row area (place_of (slot i) + (slot i).len) (slot i).line p.lean;
          is =
              subst (λ (s : Slot). box.row_of (key_of area s) (start_of (line_of area s).line) ds ≡ row_if (kind_in (line_of area s).line) (row_in area s)) same
              (row-held (line_of area) (row_in area) (take st.load.lines st.lines) i no_slot inside b.kept.once);
        }
