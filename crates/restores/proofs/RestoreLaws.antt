-- A store whose table is filled with the lines of an accepted image, one at a time, and the promise of restore.
-- Assumes nothing.
use Prim.Native.Nat.{ℕ, zero, suc, ◌+◌, ◌≤◌, ◌<◌, max, ◌-◌}
use native.Mathlib.Omega.{arith}
use mathlib.Core.Path.{◌≡◌, refl, sym, ap, ap₂, ◌∙◌, subst}
use mathlib.Core.Bool.{Bool, true, false}
use mathlib.Core.List.{List, [], ◌∷◌, map, map-map}
use mathlib.Core.Option.{Option, none, some}
use lib.ListN.{length, get_or, take, drop, set, length-map, length-take, get_or-map}
use lib.Seq.{get_or-take, length-take-le}
use lib.Dec.{ltb}
use borrow.Author.Tests.{ltb-true, ltb-false}
use Rattle.seqs.specs.Tables.{shown}
use Rattle.forms.specs.Bytes.{Bytes}
use Rattle.rules.specs.Answers.{Accepted}
use Rattle.rules.specs.declared.answers.Refusal.{Refusal}
use Rattle.rules.specs.Outcomes.{refusal}
use Rattle.rules.proofs.OutcomeLaws.{refusal-not}
use Rattle.std.specs.Prelude.{Option as Maybe}
use Rattle.rules.specs.declared.room.Load.{Load}
use Rattle.rules.specs.Box as box
use Rattle.rules.specs.Room.{sum_of, load_of}
use Rattle.rules.specs.Calls.{State, Ended}
use Rattle.rules.specs.Image.{Image, image}
use Rattle.rules.specs.Restore.{all_good, box_of, state_of, restore_steps, restore_to, restore}
use Rattle.laws.proofs.StepLaws.{answered, and_left, and_right}
use Rattle.laws.proofs.BoxOrder.{order-defaults}
use Rattle.laws.proofs.LoadLaws.{load_fields}
use Rattle.laws.proofs.SettleLaws.{settle_state-answer, settle_state-new, settle_state-leaves}
use Rattle.laws.proofs.ImageBoxLaws.{box_of-order}
use Rattle.ledger.specs.Tidy.{LocksAbove}
use Rattle.ledger.proofs.Restored.{restore-above}
use Rattle.store.specs.declared.table.Slot.{Slot}
use Rattle.store.specs.declared.table.Store.{Store}
use Rattle.store.specs.View as view
use Rattle.store.specs.View.{stored}
use Rattle.store.specs.Made.{good_line, Made}
use Rattle.changes.specs.Changes as changes
use Rattle.changes.proofs.ChangeLaws.{shows-box}
use Rattle.calls.specs.Settled.{Replaced}
use Rattle.calls.proofs.SettledLaws.{untouched}
use Rattle.images.specs.Sections.{line_at, Placed}
use Rattle.verdicts.specs.declared.outcome.ImageVerdict.{ImageVerdict}
use Rattle.verdicts.specs.Verdicts.{Accepts}
use Rattle.pairs.proofs.EntryPairLaws.{line_has}
use Rattle.orders.specs.Finds.{rows_at}
use Rattle.restores.specs.Fills.{Laid, laid_in, laid, size_of, here, ComesIf, AsksIf}
use Rattle.restores.proofs.CarriedLaws.{image-good, image-has, image-stored, image-kept, sizes-need}
use Rattle.restores.proofs.FillLaws.{Seen, Half, half-start, half-line, half-none, half-end, entries, LineView, told-long, told-next, told-past}

-- ---- the lines that two lists of places tell, each with its row

abbrev rows_told : Bytes → Load → List ℕ → List box.Default
rows_told s load rows = rows_at s (take load.defaults rows)

abbrev lines_told : Bytes → Load → ℕ → List ℕ → List ℕ → List Laid
lines_told s load writesat rows places = entries (λ (p : ℕ). laid (rows_told s load rows) (line_at s writesat p)) places load.lines

good-at : {A : Type 0} (p : A → Bool) (l : List A) (i : ℕ) (z : A) → all_good p l ≡ true → i < length l → p (get_or l i z) ≡ true
unfolding all_good
good-at p [] i z a h = absurd (omega arith)
good-at p (x ∷ xs) zero z a h = and_left _ _ a
good-at p (x ∷ xs) (suc i) z a h = good-at p xs i z (and_right (p x) _ a) (omega arith)

module _ {s : Bytes} {load : Load} {floor writesat : ℕ} {rows places : List ℕ} (p : Placed s load floor writesat rows places) where
  abbrev all : List Laid
  all = lines_told s load writesat rows places

  count_fits : load.lines ≤ length places
  unfolding load_of
  count_fits = omega (arith, (load_fields p.load_is).lines, ap length p.lines_are, length-map (take load.lines places) (line_at s writesat), length-take load.lines places)

  told : LineView (λ (q : ℕ). laid (rows_told s load rows) (line_at s writesat q)) places load.lines
  told = record { count_fits = count_fits }

  lines-told : map (λ (y : Laid). y.line) all ≡ (box_of p.img).lines
  lines-told = map-map (λ (y : Laid). y.line) (λ (q : ℕ). laid (rows_told s load rows) (line_at s writesat q)) (take load.lines places) ∙ p.lines_are

  rows_told_lem : stored (map (λ (y : Laid). y.default) all) ≡ (box_of p.img).defaults
  rows_told_lem =
      ap stored (map-map (λ (y : Laid). y.default) (λ (q : ℕ). laid (rows_told s load rows) (line_at s writesat q)) (take load.lines places)
      ∙ sym (map-map (λ (e : box.KeyLine). (laid (rows_told s load rows) e).default) (line_at s writesat) (take load.lines places)))
      ∙ ap₂ (λ (ds : List box.Default) (es : List box.KeyLine). stored (map (λ (e : box.KeyLine). (laid ds e).default) es)) p.rows_are p.lines_are
      ∙ image-stored p.img p.good p.healthy

  -- what each line holds
  line-at : (t : box.KeyLine → Bool) → all_good t (box_of p.img).lines ≡ true → {k : ℕ} → k < load.lines → t (line_at s writesat (get_or places k 0)) ≡ true
  line-at t a {k} l =
      ap t (sym (get_or-map (line_at s writesat) (take load.lines places) k 0 ∙ ap (line_at s writesat) (get_or-take load.lines places k 0 l)))
      ∙ good-at t (map (line_at s writesat) (take load.lines places)) k (line_at s writesat 0) (ap (all_good t) p.lines_are ∙ a) (omega (arith, length-map (take load.lines places) (line_at s writesat), length-take-le load.lines places count_fits))

  room : sum_of size_of all ≤ 67584
  unfolding load_of
  room =
      let f = load_fields p.load_is in
      let n = rw (lines-told, rows_told_lem) at (sizes-need all) in
      omega (arith, n, told-long told, p.fit.lines, p.fit.locks, p.fit.bytes)

-- ---- the loop

-- the first k places of the table are filled, and there is place for the lines that are left
pub record Filling (s : Bytes) (load : Load) (floor writesat : ℕ) (rows places : List ℕ) (old : Store) (end k top : ℕ) (area : Bytes) (st : Store) : Type 0 where
  pub placed : Placed s load floor writesat rows places
  pub count_fits : end ≤ 1024
  pub half : Half old.lines (lines_told s load writesat rows places) k top area st.lines
  pub length_is : length area ≡ 131072
  pub left : top + sum_of size_of (drop k (lines_told s load writesat rows places)) + (load.lines - k) ≤ 68608

pub filling-start : {s : Bytes} {v : ImageVerdict} {rows places : List ℕ} {old : Store} {area : Bytes} {end : ℕ} → Accepts s v rows places → Made old area
    → end ≡ max v.load.lines old.load.lines → Filling s v.load v.floor v.writesat rows places old end 0 0 area old
filling-start {v = v} {old = old} {area = area} d m q =
    let p = d.placed in
    record {
      placed = p;
      count_fits = omega (arith, p.fit.lines, m.fit.lines);
      half = half-start old.lines _ 0 area m.built.lines.length_is;
      length_is = m.built.area_long;
      left = omega (arith, room p, p.fit.lines);
    }

pub lines_few : {s : Bytes} {load : Load} {floor writesat : ℕ} {rows places : List ℕ} → Placed s load floor writesat rows places → load.lines ≤ length places
lines_few p = count_fits p

module _ {s : Bytes} {load : Load} {floor writesat : ℕ} {rows places : List ℕ} {old st : Store} {end k top : ℕ} {area : Bytes} (f : Filling s load floor writesat rows places old end k top area st) where
  asks : (b : Bool) → ltb k load.lines ≡ b → AsksIf (here b (get_or places k 0)) (line_at s writesat) (rows_told s load rows) area top
  asks true e =
      let p = f.placed in
      let l : k < load.lines = ltb-true k load.lines e in
      record {
        sorted = ap (box.ordered box.row_before) p.rows_are ∙ order-defaults (box_of p.img) (box_of-order p.img p.good);
        has = ap (λ (ds : List box.Default). line_has ds (line_at s writesat (get_or places k 0))) p.rows_are ∙ line-at p (line_has (box_of p.img).defaults) (image-has p.img p.good p.healthy) l;
        good = line-at p good_line (image-good p.img p.good p.healthy) l;
        length_is = f.length_is;
        room = omega (arith, f.left, told-next (told p) l, l);
      }
  asks false e = tt

  pub line-asks : {o : Maybe ℕ} → o ≡ here (ltb k load.lines) (get_or places k 0) → AsksIf o (line_at s writesat) (rows_at s (take load.defaults rows)) area top
  line-asks e = subst (λ (o : Maybe ℕ). AsksIf o (line_at s writesat) (rows_at s (take load.defaults rows)) area top) (sym e) (asks (ltb k load.lines) refl)

  filled-by : (b : Bool) → ltb k load.lines ≡ b → (x : Slot) (on : ℕ) (area' : Bytes) → ComesIf (here b (get_or places k 0)) (line_at s writesat) (rows_told s load rows) area top x on area' → k < end
      → Filling s load floor writesat rows places old end (k + 1) on area' (record { lines = set st.lines k x; load = st.load; top = st.top; floor = st.floor })
  filled-by true e x on area' c g =
      let l : k < load.lines = ltb-true k load.lines e in
      record {
        placed = f.placed;
        count_fits = f.count_fits;
        half = half-line (told f.placed) f.half (omega (arith, f.count_fits)) l x on area' c;
        length_is = c.past.length_is ∙ f.length_is;
        left = omega (arith, f.left, c.end_most, told-next (told f.placed) l, l);
      }
  filled-by false e x on area' c g =
      let l : load.lines ≤ k = ltb-false k load.lines e in
      record {
        placed = f.placed;
        count_fits = f.count_fits;
        half = half-none (told f.placed) f.half (omega (arith, f.count_fits)) l x on area' c;
        length_is = ap length c.area_is ∙ f.length_is;
        left = omega (arith, f.left, c.end_is, told-past (told f.placed) l);
      }

  pub filling-more : {o : Maybe ℕ} → o ≡ here (ltb k load.lines) (get_or places k 0) → (x : Slot) (on : ℕ) (area' : Bytes) → ComesIf o (line_at s writesat) (rows_at s (take load.defaults rows)) area top x on area' → k < end
      → Filling s load floor writesat rows places old end (k + 1) on area' (record { lines = set st.lines k x; load = st.load; top = st.top; floor = st.floor })
  filling-more e x on area' c g = filled-by (ltb k load.lines) refl x on area' (subst (λ (o : Maybe ℕ). ComesIf o (line_at s writesat) (rows_at s (take load.defaults rows)) area top x on area') e c) g

  module _ {area₀ : Bytes} (m : Made old area₀) (e : end ≡ max load.lines old.load.lines) (g : end ≤ k) where
    seen : Seen top area load.lines st.lines (lines_told s load writesat rows places)
    seen =
        subst (λ (n : ℕ). Seen top area n st.lines (lines_told s load writesat rows places)) (told-long (told f.placed))
        (half-end f.half m.built.lines (omega arith) (omega (arith, told-long (told f.placed))))

    filled : changes.Leaves (box_of f.placed.img) top (record { lines = st.lines; load = load; top = top; floor = floor }) area
    unfolding shown
    filled =
        let p = f.placed in
        shows-box f.length_is (omega (arith, f.left)) seen.table
        (sym (map-map (λ (y : Laid). y.line) (laid_in area) (take load.lines st.lines)) ∙ ap (map (λ (y : Laid). y.line)) seen.shows ∙ lines-told p)
        (ap stored (sym (map-map (λ (y : Laid). y.default) (laid_in area) (take load.lines st.lines)) ∙ ap (map (λ (y : Laid). y.default)) seen.shows) ∙ rows_told_lem p)
        (image-kept p.img p.good p.healthy p.load_is) (omega arith)

-- ---- the call

refusal-leaves : (o : Option Image) (st : State) → ((restore_to o st).answer ≡ Accepted → ⊥) → (restore_to o st).state ≡ st
unfolding restore_to
refusal-leaves none st n = refl
refusal-leaves (some i) st n = settle_state-leaves (restore_steps i) (state_of i) st n

accepted-takes : (i : Image) (st : State) → (restore_to (some i) st).answer ≡ Accepted → (restore_to (some i) st).state ≡ state_of i
unfolding restore_to
accepted-takes i st a = settle_state-new (state_of i) st (sym (settle_state-answer (restore_steps i) (state_of i) st) ∙ a)

pub restore-refused : (s : Bytes) (r : Refusal) {st : Store} {area : Bytes} → ((x : State) → (restore s x).answer ≡ refusal r) → Made st area
    → Replaced st area (restore s (view.state_shown st area)) (record { store = st; answer = refusal r }) area
unfolding restore
restore-refused s r {st} {area} d m =
    let old = view.state_shown st area in
    record { answer_is = answered (sym (d old)); made = m; shown = sym (refusal-leaves (image s) old (λ a. refusal-not r (sym (d old) ∙ a))); refused = λ _. untouched }

module _ {s : Bytes} {v : ImageVerdict} {rows places : List ℕ} {st : Store} {area : Bytes} (d : Accepts s v rows places) (m : Made st area)
    {end k top : ℕ} {area' : Bytes} {r : Store} (f : Filling s v.load v.floor v.writesat rows places st end k top area' r) (l : end ≡ max v.load.lines st.load.lines) (g : end ≤ k) where
  abbrev old : State
  old = view.state_shown st area

  abbrev new : Store
  new = record { lines = r.lines; load = v.load; top = top; floor = v.floor }

  -- the image's box, and "a restored store taking the image's" floor
  takes : view.state_shown new area' ≡ (restore s old).state
  unfolding restore state_of
  takes =
      let p = f.placed in
      let i : restore s old ≡ restore_to (some p.img) old = ap (λ (o : Option Image). restore_to o old) p.is in
      ap₂ {C = State} (λ (b : box.Box) (n : ℕ). record { box = b; floor = n }) (filled f m l g).shown p.floor_is
      ∙ sym (ap (λ (x : Ended). x.state) i ∙ accepted-takes p.img old (sym (ap (λ (x : Ended). x.answer) i) ∙ d.answer_is old))

  pub restore-done : Replaced st area (restore s (view.state_shown st area)) (record { store = record { lines = r.lines; load = v.load; top = top; floor = v.floor }; answer = Accepted }) area'
  restore-done = record {
    answer_is = answered (sym (d.answer_is old));
    made = record { built = (filled f m l g).built; fit = f.placed.fit; above = subst (λ (x : State). LocksAbove x.floor x.box) (sym takes) (restore-above s old m.above) };
    shown = takes;
    refused = λ n. absurd (n refl);
  }
