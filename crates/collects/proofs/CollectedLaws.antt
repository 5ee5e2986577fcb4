-- The lines that stay close up, and the promise of the call by its ways out: 14, the holder of a lock, or the collected box.
-- Assumes nothing.
use Prim.Native.Nat.{ℕ, ◌+◌, ◌-◌, ◌≤◌, ◌<◌}
use native.Mathlib.Omega.{arith}
use native.Mathlib.Numerals.{add-one}
use mathlib.Core.Path.{◌≡◌, refl, sym, ap, ap₂, ◌∙◌, subst}
use mathlib.Core.Bool.{Bool, true, false, true≢false}
use mathlib.Core.List.{List, [], ◌++◌, map}
use lib.ListN.{length, get_or, take, drop, set, replicate, length-map, take-append-drop}
use lib.Seq.{get_or-take, drop-length}
use borrow.Author.Tests.{le-leb, lt-leb}
use Rattle.seqs.specs.Tables.{Table, shown}
use Rattle.forms.specs.Bytes.{Bytes}
use Rattle.rules.specs.Answers.{Answer, Accepted, No, ◌▸◌, need}
use Rattle.rules.specs.declared.room.Load.{Load}
use Rattle.rules.specs.Box as box
use Rattle.rules.specs.Room.{load_of}
use Rattle.rules.specs.Read.{keep_if}
use Rattle.rules.specs.Restore.{like_line}
use Rattle.rules.specs.Calls.{State, Ended, settle_state}
use Rattle.rules.specs.Call.{Changing, perform}
use Rattle.rules.specs.Collect.{line_above_step, locks_above_step, collected, collect_steps, collect}
use Rattle.laws.specs.Adds.{minus}
use Rattle.laws.proofs.StepLaws.{answered, own-true}
use Rattle.laws.proofs.SettleLaws.{settle_state-answer, settle_state-leaves}
use Rattle.laws.proofs.Sorted.{fewer-good}
use Rattle.laws.proofs.FewerLaws.{fewer-same, fewer-each}
use Rattle.laws.proofs.LoadLaws.{load-eq, load_fields}
use Rattle.laws.proofs.CollectLaws.{collected-fewer, collected-order}
use Rattle.ledger.specs.Tidy.{line_above, LocksAbove}
use Rattle.ledger.proofs.Tidiness.{above-call}
use Rattle.store.specs.declared.table.Slot.{Slot}
use Rattle.store.specs.declared.table.Store.{Store}
use Rattle.store.specs.View.{line_of, row_in, box_of, state_shown, no_slot}
use Rattle.store.specs.Made.{good_line, good_row, SlotBelow, Tallied, Built, Made, store_of}
use Rattle.store.proofs.StoredLaws.{pair-sym, once-fewer}
use Rattle.changes.specs.Loads.{Within}
use Rattle.calls.proofs.SettledLaws.{untouched}
use Rattle.collects.specs.declared.passing.Passed.{Passed}
use Rattle.collects.specs.Promise.{CollectedAs}
use Rattle.collects.proofs.LeftLaws.{left_of, left-lines, left-fewer, left-rows, box_from, load_in, freed_of, load-left}
use Rattle.collects.proofs.PackLaws.{Packed, pack-start, pack-read, pack-goes, pack-stays, pack-end}
use Rattle.std.specs.Prelude.{None, Some}
use Rattle.collects.proofs.WalkLaws.{FirstHeld, HeldBy, Walked, many, from}

-- ---- the loop

-- of the first i slots those that stay are the first k
pub record Packing (f : ℕ) (area : Bytes) (old : Store) (i k : ℕ) (st : Store) : Type 0 where
  pub high : i ≤ old.load.lines
  pub top_is : st.top ≡ old.top
  pub packed : Packed no_slot old.lines (λ (i : ℕ). left_of (line_of area) f (drop i (take old.load.lines old.lines))) i k st.lines

pub packing-start : {f : ℕ} {area : Bytes} {st : Store} {i : ℕ} → i ≤ 0 → Packing f area st i 0 st
packing-start {f} {area} {st} {i} h =
    let e : 0 ≡ i = omega arith in
    subst (λ (i : ℕ). Packing f area st i 0 st) e (record { high = omega arith; top_is = refl; packed = pack-start no_slot st.lines _ })

module _ {f : ℕ} {area : Bytes} {old : Store} (b : Built old area) {h : ℕ} {kept : List Bool} {p : Passed} (w : Walked f area (take old.load.lines old.lines) h kept p) (low : h ≤ 0) {i k : ℕ} {st : Store}
    (v : Packing f area old i k st) (g : i < old.load.lines) where
  abbrev table : List Slot
  table = take old.load.lines old.lines

  left-next : left_of (line_of area) f (drop i table) ≡ keep_if (get_or kept i false) (get_or old.lines i no_slot) (left_of (line_of area) f (drop (i + 1) table))
  unfolding left_of
  left-next =
      ap (left_of (line_of area) f) (from b f i g)
      ∙ rw (add-one, w.marks i (omega arith) (omega (arith, many b f)), get_or-take old.load.lines old.lines i no_slot g)

  inside : i < length old.lines
  inside = omega (arith, b.lines.length_is, b.lines.count_fits)

  pub packing-goes : {none : Slot} → none ≡ no_slot → get_or kept i false ≡ false → Packing f area old (i + 1) k (record { lines = set st.lines i none; load = st.load; top = st.top; floor = st.floor })
  unfolding keep_if
  packing-goes e t = rw e (record { high = omega arith; top_is = v.top_is; packed = pack-goes v.packed inside (left-next ∙ rw t) })

  pub packing-stays : {none : Slot} → none ≡ no_slot → get_or kept i false ≡ true
      → Packing f area old (i + 1) (k + 1) (record { lines = set (set st.lines i none) k (get_or st.lines i no_slot); load = st.load; top = st.top; floor = st.floor })
  unfolding keep_if
  packing-stays e t = rw (e, pack-read v.packed inside) (record { high = omega arith; top_is = v.top_is; packed = pack-stays v.packed inside (left-next ∙ rw t) })

-- ---- refused

module _ {st : Store} {area : Bytes} (m : Made st area) (f : ℕ) where
  refused : {a : Answer} → collect_steps f (state_shown st area) ≡ a → (a ≡ Accepted → ⊥) → CollectedAs f st area (record { store = st; answer = a }) area
  unfolding collect
  refused {a} e n =
      let new : State = record { box = collected f (box_of st area); floor = f } in
      let q : (settle_state (collect_steps f (state_shown st area)) new (state_shown st area)).answer ≡ a = settle_state-answer _ new (state_shown st area) ∙ e in
      record {
        replaced = record { answer_is = answered (sym q); made = m; shown = sym (settle_state-leaves _ new (state_shown st area) (λ p. n (sym q ∙ p))); refused = λ _. untouched };
        unchanged = λ _. untouched;
      }

  -- "14, below the floor, .. for a collection with a lower floor, tested first"
  pub collect-low : f < st.floor → CollectedAs f st area (record { store = st; answer = No 14 }) area
  unfolding collect_steps need ◌▸◌
  collect-low h = refused (rw (lt-leb st.floor f h)) (λ e. true≢false (cc))

  module _ (up : st.floor ≤ f) {i : ℕ} {kept : List Bool} {p : Passed} (w : Walked f area (take st.load.lines st.lines) i kept p) (low : i ≤ 0) where
    abbrev slots : List Slot
    slots = take st.load.lines st.lines

    abbrev line : Slot → box.KeyLine
    line = line_of area

    all : drop i slots ≡ slots
    all = let e : i ≡ 0 = omega arith in ap (λ (i : ℕ). drop i slots) e

    steps-are : collect_steps f (state_shown st area) ≡ locks_above_step f (map line (drop i slots))
    unfolding collect_steps need ◌▸◌ shown
    steps-are = rw (le-leb st.floor f up, all)

    held-at : {h : ℕ} → p.held ≡ Some h → FirstHeld f area slots i h
    held-at o = subst (HeldBy f area slots i) o w.held

    pub held_low : {h : ℕ} → p.held ≡ Some h → h < st.load.lines
    held_low o = omega (arith, (held-at o).within, many m.built f)

    -- "answers 7 for the first such key"
    pub collect-held : {h : ℕ} → p.held ≡ Some h → {a : Answer} → a ≡ line_above_step f (line_of area (get_or st.lines h no_slot)).line → CollectedAs f st area (record { store = st; answer = a }) area
    collect-held {h} o {a} e =
        let v : FirstHeld f area slots i h = held-at o in
        let s : get_or slots h no_slot ≡ get_or st.lines h no_slot = get_or-take st.load.lines st.lines h no_slot (held_low o) in
        refused (steps-are ∙ (rw s at v.is) ∙ sym e) (λ q. holds (line_of area (get_or st.lines h no_slot)).line (rw s at v.holds) (sym e ∙ q))
      where
        holds : (x : box.Line) → line_above f x ≡ false → line_above_step f x ≡ Accepted → ⊥
        holds (box.Standing l) n q = true≢false (sym (own-true _ _ q) ∙ n)
        holds (box.Finished w) n q = true≢false n

    -- ---- accepted

    abbrev left : List Slot
    left = left_of line f slots

    -- the tallies of what is left, and what it frees
    sums : load_of (box_from line (row_in area) left) ≡ minus st.load p.freed
    unfolding shown
    sums =
        let q = load_fields (load-left line (row_in area) f slots) in
        let l = load_fields m.built.kept.load_is in
        let e = load_fields (w.freed ∙ ap (freed_of line (load_in line (row_in area)) f) all) in
        load-eq _ _ (omega arith)

    pub freed-within : Within p.freed st.load
    unfolding shown
    freed-within =
        let q = load_fields (load-left line (row_in area) f slots) in
        let l = load_fields m.built.kept.load_is in
        let e = load_fields (w.freed ∙ ap (freed_of line (load_in line (row_in area)) f) all) in
        record { lines = omega arith; locks = omega arith; defaults = omega arith; bytes = omega arith }

    -- what is left is the collected box
    left-box : box_from line (row_in area) left ≡ collected f (box_of st area)
    unfolding collected shown
    left-box = ap₂ (λ (es : List box.KeyLine) (ds : List box.Default). record { lines = es; defaults = ds }) (left-lines line f slots) (left-rows line (row_in area) f slots m.built.kept.once)

    left-kept : {load : Load} → load ≡ minus st.load p.freed → Tallied (collected f (box_of st area)) load
    left-kept e =
        let c = collected-fewer f (box_of st area) in
        let k = m.built.kept in
        record {
          load_is = e ∙ sym sums ∙ ap load_of left-box;
          sorted = collected-order f (box_of st area) k.sorted;
          good = fewer-good good_line c.lines k.good;
          rows = fewer-good good_row c.defaults k.rows;
          once = once-fewer like_line pair-sym c.lines k.once;
        }

    module _ (free : p.held ≡ None) where
      nobody : locks_above_step f (map line (drop i slots)) ≡ Accepted
      nobody = subst (HeldBy f area slots i) free w.held

      collect-is : collect f (state_shown st area) ≡ record { answer = Accepted; state = record { box = collected f (box_of st area); floor = f } }
      unfolding collect settle_state
      collect-is = rw (steps-are ∙ nobody)

      left-above : LocksAbove f (collected f (box_of st area))
      unfolding perform
      left-above = subst (λ (e : Ended). LocksAbove e.state.floor e.state.box) collect-is (above-call (Changing.Collect f) (state_shown st area) m.above)

      module _ {j k : ℕ} {r : Store} (v : Packing f area st j k r) (end : st.load.lines ≤ j) {load : Load} (e : load ≡ minus st.load p.freed) where
        abbrev new : Store
        new = record { lines = r.lines; load = load; top = r.top; floor = f }

        none_left : left_of line f (drop j slots) ≡ []
        unfolding left_of
        none_left = let q : j ≡ length slots = omega (arith, v.high, many m.built f) in ap (λ (j : ℕ). left_of line f (drop j slots)) q ∙ ap (left_of line f) (drop-length slots)

        ends : (k ≡ length left) × (take k r.lines ≡ left) × Table (SlotBelow st.top) no_slot 1024 k r.lines
        ends = pack-end v.packed m.built.lines end v.high none_left (fewer-each (SlotBelow st.top) (left-fewer line f slots) m.built.lines.holds)

        lines_are : load.lines ≡ k
        unfolding load_of
        lines_are = omega (arith, (load_fields (e ∙ sym sums)).lines, length-map left line, ends.0)

        box-is : box_of new area ≡ collected f (box_of st area)
        unfolding shown
        box-is = ap (box_from line (row_in area)) (ap (λ (n : ℕ). take n r.lines) lines_are ∙ ends.1) ∙ left-box

        new-made : Made new area
        new-made = record {
          built = record {
            area_long = m.built.area_long;
            top_in = omega (arith, v.top_is, m.built.top_in);
            lines =
                subst (λ (t : ℕ). Table (SlotBelow t) no_slot 1024 load.lines r.lines) (sym v.top_is)
                (subst (λ (n : ℕ). Table (SlotBelow st.top) no_slot 1024 n r.lines) (sym lines_are) ends.2);
            kept = subst (λ (b : box.Box). Tallied b load) (sym box-is) (left-kept e);
          };
          fit = let q = load_fields e in record { lines = omega (arith, m.fit.lines); locks = omega (arith, m.fit.locks); defaults = omega (arith, m.fit.defaults); bytes = omega (arith, m.fit.bytes) };
          above = subst (LocksAbove f) (sym box-is) left-above;
        }

        -- nothing has gone: the slots are those of before
        module _ (q : (collect f (state_shown st area)).state ≡ state_shown st area) where
          same : record { box = collected f (box_of st area); floor = f } ≡ state_shown st area
          same = sym (ap (λ (x : Ended). x.state) collect-is) ∙ q

          left-all : left ≡ slots
          unfolding collected shown
          left-all = fewer-same (left-fewer line f slots) (sym (length-map left line) ∙ ap length (left-lines line f slots ∙ ap (λ (x : State). x.box.lines) same) ∙ length-map slots line)

          lines_same : r.lines ≡ st.lines
          lines_same =
              let n : k ≡ st.load.lines = ends.0 ∙ ap length left-all ∙ many m.built f in
              sym (take-append-drop k r.lines) ∙ ap₂ ◌++◌ (ends.1 ∙ left-all) (ends.2.rest ∙ ap (λ (n : ℕ). replicate (1024 - n) no_slot) n ∙ sym m.built.lines.rest)
              ∙ take-append-drop st.load.lines st.lines

          load_same : load ≡ st.load
          load_same = new-made.built.kept.load_is ∙ ap load_of (box-is ∙ ap (λ (x : State). x.box) same) ∙ sym m.built.kept.load_is

          store_same : new ≡ st
          store_same =
              ap (λ (x : List Slot). store_of x load r.top f) lines_same ∙ ap (λ (x : Load). store_of st.lines x r.top f) load_same
              ∙ ap₂ (λ (t x : ℕ). store_of st.lines st.load t x) v.top_is (ap (λ (x : State). x.floor) same)

        pub collect-done : CollectedAs f st area (record { store = record { lines = r.lines; load = load; top = r.top; floor = f }; answer = Accepted }) area
        collect-done = record {
          replaced = record {
            answer_is = answered (sym (ap (λ (x : Ended). x.answer) collect-is));
            made = new-made;
            shown = ap (λ (b : box.Box). record { box = b; floor = f }) box-is ∙ sym (ap (λ (x : Ended). x.state) collect-is);
            refused = λ n. absurd (n refl);
          };
          unchanged = λ q. record { store_is = store_same q; area_is = refl };
        }
