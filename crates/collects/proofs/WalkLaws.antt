-- The walk down the table: of the lines passed it knows the first key that counts, what those that go free, the first lock that holds the
-- collection up, and which of them stay.
-- Assumes nothing.
use Prim.Native.Nat.{ℕ, zero, suc, ◌+◌, ◌-◌, ◌≤◌, ◌<◌}
use native.Mathlib.Omega.{arith}
use native.Mathlib.Numerals.{sub-one}
use mathlib.Core.Path.{◌≡◌, refl, sym, ap, ◌∙◌, subst}
use mathlib.Core.Bool.{Bool, true, false, not, true≢false}
use mathlib.Core.List.{List, [], ◌∷◌, map}
use mathlib.Core.Option.{Option}
use lib.Dec.{eqb}
use lib.ListN.{length, get_or, take, drop, set, length-set}
use lib.Seq.{length-take-le, get_or-take, drop-cons, drop-length, get_or-set_same, get_or-set_other}
use borrow.Author.Tests.{eqb-true, eqb-false}
use Rattle.seqs.specs.Tables.{shown}
use Rattle.seqs.proofs.Tables.{table-long, drop-map}
use Rattle.std.specs.Prelude.{None, Some}
use Rattle.std.specs.Prelude.{Option as Maybe}
use Rattle.forms.specs.Bytes.{Bytes}
use Rattle.forms.specs.Key.{Key}
use Rattle.forms.specs.Places.{given_part}
use Rattle.rules.specs.Answers.{Answer, Accepted, ◌▸◌, need_own}
use Rattle.rules.specs.declared.room.Load.{Load}
use Rattle.rules.specs.Box as box
use Rattle.rules.specs.Collect.{stays, line_above_step, locks_above_step}
use Rattle.laws.proofs.StepLaws.{by-test}
use Rattle.laws.proofs.Sorted.{fewer-drop, ordered-fewer}
use Rattle.laws.proofs.LoadLaws.{load_fields}
use Rattle.ledger.specs.Tidy.{line_above}
use Rattle.store.specs.declared.table.Slot.{Slot}
use Rattle.store.specs.declared.table.Store.{Store}
use Rattle.store.specs.View.{place_of, past, line_of, row_in, box_of, no_slot}
use Rattle.store.specs.Made.{Built}
use Rattle.store.proofs.BuiltLaws.{lines-order, slot-in}
use Rattle.store.proofs.NeedLaws.{counted}
use Rattle.store.proofs.ViewLaws.{past-numbers}
use Rattle.changes.specs.Loads.{Small}
use Rattle.collects.specs.declared.passing.Passed.{Passed}
use Rattle.collects.specs.Passes.{nothing_passed, is_key, NewerIn, line_passed, PassAsks}
use Rattle.collects.proofs.NextLaws.{counts, key_if, next_key, next-none}
use Rattle.collects.proofs.LeftLaws.{load_in, freed_if, freed_of, load-left, load-drop}
use Rattle.collects.proofs.PassLaws.{place_if, LinePassed, line-passed}

-- the first lock at or below the floor, of the slots from i on
pub record FirstHeld (f : ℕ) (area : Bytes) (slots : List Slot) (i h : ℕ) : Type 0 where
  pub within : h < length slots
  pub is : locks_above_step f (map (line_of area) (drop i slots)) ≡ line_above_step f (line_of area (get_or slots h no_slot)).line
  pub holds : line_above f (line_of area (get_or slots h no_slot)).line ≡ false

-- or that there is none
abbrev pub HeldBy : ℕ → Bytes → List Slot → ℕ → Maybe ℕ → Type 0
HeldBy f area slots i None = locks_above_step f (map (line_of area) (drop i slots)) ≡ Accepted
HeldBy f area slots i (Some h) = FirstHeld f area slots i h

-- of the slots those from i on have been passed
pub record Walked (f : ℕ) (area : Bytes) (slots : List Slot) (i : ℕ) (kept : List Bool) (p : Passed) : Type 0 where
  pub low : i ≤ length slots
  pub long : length kept ≡ 1024
  pub key_in : NewerIn area p.newer
  pub next : given_part area p.newer ≡ next_key f (map (line_of area) (drop i slots))
  pub freed : p.freed ≡ freed_of (line_of area) (load_in (line_of area) (row_in area)) f (drop i slots)
  pub held : HeldBy f area slots i p.held
  pub marks : (j : ℕ) → i ≤ j → j < length slots → get_or kept j false ≡ stays f (map (line_of area) (drop (suc j) slots)) (line_of area (get_or slots j no_slot))

-- ---- the lock that holds the collection up

step-above : (f : ℕ) (x : box.Line) (rest : Answer) → line_above f x ≡ true → line_above_step f x ▸ rest ≡ rest
unfolding need_own ◌▸◌
step-above f (box.Standing l) rest h = rw h
step-above f (box.Finished w) rest h = refl

step-held : (f : ℕ) (x : box.Line) (rest : Answer) → line_above f x ≡ false → line_above_step f x ▸ rest ≡ line_above_step f x
unfolding need_own ◌▸◌
step-held f (box.Standing l) rest h = rw h
step-held f (box.Finished w) rest h = absurd (true≢false h)

module _ {st : Store} {area : Bytes} (b : Built st area) (f : ℕ) where
  abbrev slots : List Slot
  slots = take st.load.lines st.lines

  abbrev line : Slot → box.KeyLine
  line = line_of area

  pub many : length (take st.load.lines st.lines) ≡ st.load.lines
  many = length-take-le st.load.lines st.lines (table-long b.lines)

  pub walk_start : {kept : List Bool} {p : Passed} → length kept ≡ 1024 → p ≡ nothing_passed → Walked f area (take st.load.lines st.lines) st.load.lines kept p
  unfolding next_key freed_of locks_above_step
  walk_start {kept} {p} h e = subst (λ (p : Passed). Walked f area slots st.load.lines kept p) (sym e) (record {
    low = omega (arith, many);
    long = h;
    key_in = tt;
    next = rw past_end;
    freed = rw past_end;
    held = rw past_end;
    marks = λ j l g. absurd (omega (arith, many));
  })
    where
      past_end : drop st.load.lines (take st.load.lines st.lines) ≡ []
      past_end = ap (λ (n : ℕ). drop n slots) (sym many) ∙ drop-length slots

  module _ {i : ℕ} {kept : List Bool} {p : Passed} (w : Walked f area (take st.load.lines st.lines) i kept p) where
    small : Small p.freed
    unfolding shown
    small =
        let q = load_fields (load-left line (row_in area) f (drop i slots)) in
        let m = load-drop line (row_in area) i slots in
        let l = load_fields b.kept.load_is in
        let e = load_fields w.freed in
        let c = counted b in
        record { lines = omega arith; locks = omega arith; defaults = omega arith; bytes = omega arith }

    pub walk-few : i ≤ 1024
    walk-few = omega (arith, w.low, many, b.lines.count_fits)

    pub walk-asks : 0 < i → PassAsks area p (get_or st.lines (i - 1) no_slot)
    walk-asks h = record { numbers_in = omega (arith, slot-in b (i - 1) (omega (arith, w.low, many)), past-numbers (get_or st.lines (i - 1) no_slot).line); key_in = w.key_in; small = small }

  -- ---- one line more: that at j

  module _ (j : ℕ) (h : j < st.load.lines) where
    abbrev slot : Slot
    slot = get_or (take st.load.lines st.lines) j no_slot

    same : get_or (take st.load.lines st.lines) j no_slot ≡ get_or st.lines j no_slot
    same = get_or-take st.load.lines st.lines j no_slot h

    pub from : drop j (take st.load.lines st.lines) ≡ get_or (take st.load.lines st.lines) j no_slot ∷ drop (suc j) (take st.load.lines st.lines)
    from = drop-cons slots j no_slot (omega (arith, many))

    lines_from : drop j (box_of st area).lines ≡ line slot ∷ map line (drop (suc j) slots)
    unfolding shown
    lines_from = drop-map line j slots ∙ ap (map line) from

    order_from : box.ordered box.before (line slot ∷ map line (drop (suc j) slots)) ≡ true
    order_from = ap (box.ordered box.before) (sym lines_from) ∙ ordered-fewer box.before (fewer-drop j (box_of st area).lines) (lines-order b)

    inside : place_of slot + slot.len + past slot.line ≤ length area
    inside = subst (λ (s : Slot). place_of s + s.len + past s.line ≤ length area) (sym same) (slot-in b j h)

    module _ {kept : List Bool} {p q : Passed} (w : Walked f area (take st.load.lines st.lines) (suc j) kept p) (e : q ≡ line_passed f area p (get_or st.lines j no_slot) j) where
      passed : LinePassed f area (line slot) (load_in line (row_in area) slot) (map line (drop (suc j) slots)) j p q
      passed =
          subst (λ (q : Passed). LinePassed f area (line slot) (load_in line (row_in area) slot) (map line (drop (suc j) slots)) j p q)
          (sym (e ∙ ap (λ (s : Slot). line_passed f area p s j) (sym same)))
          (line-passed f area p slot j (map line (drop (suc j) slots)) w.key_in (next-none f (line slot) (map line (drop (suc j) slots)) order_from ∙ ap (λ (k : Option Key). not (is_key (line slot).key k)) (sym w.next)) inside)

      abbrev above : Bool
      above = line_above f (line slot).line

      abbrev rest : Answer
      rest = locks_above_step f (map line (drop (suc j) slots))

      locks_one : locks_above_step f (map line (drop j slots)) ≡ line_above_step f (line slot).line ▸ rest
      unfolding locks_above_step
      locks_one = ap (λ (l : List Slot). locks_above_step f (map line l)) from

      held-up : (o : Maybe ℕ) → above ≡ true → HeldBy f area slots (suc j) o → HeldBy f area slots j o
      held-up None r v = locks_one ∙ step-above f (line slot).line rest r ∙ v
      held-up (Some h) r v = record { within = v.within; is = locks_one ∙ step-above f (line slot).line rest r ∙ v.is; holds = v.holds }

      held-here : (t : Bool) → above ≡ t → HeldBy f area slots j (place_if t p.held (Some j))
      held-here true r = held-up p.held r w.held
      held-here false r = record { within = omega (arith, many); is = locks_one ∙ step-held f (line slot).line rest r; holds = r }

      marks-here : (i : ℕ) → j ≤ i → i < length slots → get_or (set kept j q.stays) i false ≡ stays f (map line (drop (suc i) slots)) (line (get_or slots i no_slot))
      marks-here i l g =
          by-test (λ t. eqb i j ≡ t → get_or (set kept j q.stays) i false ≡ stays f (map line (drop (suc i) slots)) (line (get_or slots i no_slot))) (eqb i j)
          (λ _ r. subst (λ (i : ℕ). get_or (set kept j q.stays) i false ≡ stays f (map line (drop (suc i) slots)) (line (get_or slots i no_slot))) (sym (eqb-true i j r))
          (get_or-set_same kept j q.stays false (omega (arith, w.long, b.lines.count_fits)) ∙ passed.stays_is))
          (λ _ r. let n : i ≡ j → ⊥ = eqb-false i j r in get_or-set_other kept j i q.stays false n ∙ w.marks i (omega (arith, n)) g) refl

      walk-one : Walked f area (take st.load.lines st.lines) j (set kept j q.stays) q
      unfolding next_key freed_of
      walk-one = record {
        low = omega (arith, many);
        long = length-set kept j q.stays ∙ w.long;
        key_in = passed.key_in;
        next = passed.next ∙ ap (key_if (counts f (line slot).line) (line slot).key) w.next ∙ sym (ap (λ (l : List Slot). next_key f (map line l)) from);
        freed = passed.freed ∙ ap (λ (a : Load). freed_if (stays f (map line (drop (suc j) slots)) (line slot)) a (load_in line (row_in area) slot)) w.freed ∙ sym (ap (freed_of line (load_in line (row_in area)) f) from);
        held = subst (HeldBy f area slots j) (sym passed.held) (held-here above refl);
        marks = marks-here;
      }

  pub walk_more : {i : ℕ} {kept : List Bool} {p q : Passed} → Walked f area (take st.load.lines st.lines) i kept p → 0 < i → q ≡ line_passed f area p (get_or st.lines (i - 1) no_slot) (i - 1)
      → Walked f area (take st.load.lines st.lines) (i - 1) (set kept (i - 1) q.stays) q
  walk_more {i = zero} w h e = absurd (omega arith)
  walk_more {i = suc j} {q = q} w h e = rw sub-one (walk-one j (omega (arith, w.low, many)) w (rw sub-one at e))
