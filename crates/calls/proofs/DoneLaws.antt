-- The ways out of a changing call over a batch, for every check and every change of one entry: "batch 6, 5; ..", its entries, "Then 11".
-- Assumes nothing.
use mathlib.Core.Path.{◌≡◌, refl, sym, ap, ◌∙◌, subst}
use mathlib.Core.Bool.{Bool, true, false, not}
use mathlib.Core.List.{List, map}
use lib.ListN.{length}
use Rattle.std.proofs.lemmas.List.{length-map}
use mathlib.Core.Option.{Option, none, some}
use Rattle.std.specs.Prelude.{Option as Maybe}
use lib.Dec.{eqb}
use borrow.Author.Tests.{eqb-true, eqb-false}
use Rattle.forms.specs.Bytes.{Bytes}
use Rattle.forms.specs.Key.{Key}
use Rattle.forms.specs.Places.{AreEntries, Decoded}
use Rattle.forms.specs.declared.batch.Entry.{Entry}
use Rattle.forms.specs.declared.entries.Entries.{Entries}
use Rattle.rules.specs.Answers.{Answer, Accepted, No, Held, ◌▸◌, need}
use Rattle.rules.specs.Box.{Box}
use Rattle.rules.specs.Room.{load_of, room_for, Fits}
use Rattle.rules.specs.Calls.{Done, settle, of_batch, non_empty}
use Rattle.rules.proofs.RoomLaws.{fits_out}
use Rattle.laws.proofs.StepLaws.{then-left, then-right, need-true}
use Rattle.laws.proofs.SettleLaws.{settle-new}
use Rattle.laws.proofs.BatchLaws.{check_all, apply_all}
use Rattle.store.specs.declared.table.Store.{Store}
use Rattle.store.specs.View.{box_of}
use Rattle.store.specs.Made.{Made}
use Rattle.actions.specs.declared.action.Action.{Action}
use Rattle.actions.specs.Actions.{StartsAbove}
use Rattle.calls.specs.Settled.{Changed, Settled}
use Rattle.calls.specs.Entries.{AllAsks}
use Rattle.calls.specs.Steps.{in_form, entries_read}
use Rattle.calls.specs.Passes.{BatchVerdict, all_done, Judged, apply_entry, Ready, ApplyAsks, AllApplied, SettledBy}
use Rattle.calls.proofs.SettledLaws.{settled_same, settled-new}
use Rattle.calls.proofs.ApplyAllLaws.{applied-is}
use Rattle.calls.proofs.AnswerLaws.{head-out, head-on, batch_call, bad-batch, empty-batch, full-batch, by-form, form-passed}

-- a call that leaves the box as it was
settle-still : (a : Answer) (new old : Box) → (a ≡ Accepted → new ≡ old) → settle a new old ≡ record { answer = a; box = old }
unfolding settle
settle-still Accepted new old e = ap (λ (b : Box). record { answer = Accepted; box = b }) (e refl)
settle-still (No n) new old e = refl
settle-still (Held h) new old e = refl

-- `settle`: a call that keeps its promise where nothing moves, and where each entry is applied, keeps it
pub settled-by : {d : Done} {v : BatchVerdict} {deed : Action} {primary : Key} {st : Store} {area s : Bytes} {es : List Entry} {a : Answer} {t : Store} {area' : Bytes} → SettledBy v deed primary st area s es a t area'
    → (v.moves ≡ false → Settled st area d (record { store = st; answer = v.answer }) area) → (v.moves ≡ true → v.answer ≡ Accepted)
    → (v.moves ≡ true → AllApplied deed primary st area s es t area' → Settled st area d (record { store = t; answer = Accepted }) area') → Settled st area d (record { store = t; answer = a }) area'
settled-by {d} {v} {st = st} {area} {t = t} {area'} w still passes done = subst (λ (x : Answer). Settled st area d (record { store = t; answer = x }) area') (sym w.answer_is) (go v.moves refl)
  where
    go : (m : Bool) → v.moves ≡ m → Settled st area d (record { store = t; answer = v.answer }) area'
    go true e = subst (λ (x : Answer). Settled st area d (record { store = t; answer = x }) area') (sym (passes e)) (done e (w.applied e))
    go false e = rw ((w.still e).store_is, (w.still e).area_is) (still e)

module _ {A : Type 0} {late : Answer} {check : Box → A → Answer} {apply : A → Box → Box} (item : Entry → A) where
  -- ---- from its entries on

  module _ {st : Store} {area s : Bytes} {es : List Entry} (a : AllAsks st area s es) {v : BatchVerdict} (j : Judged late check apply (box_of st area) (map item es) v) where
    abbrev b : Box
    b = box_of st area

    abbrev new : Box
    new = apply_all apply (map item es) b

    done-is : all_done late check apply (map item es) b ≡ settle v.answer new b
    unfolding all_done
    done-is = ap (λ (x : Answer). settle x new b) (sym j.answer_is)

    -- a refusal or a replay leaves all as it was
    pub pass-still : v.moves ≡ false → Settled st area (all_done late check apply (map item es) (box_of st area)) (record { store = st; answer = v.answer }) area
    pass-still e = settled_same a.made (done-is ∙ settle-still v.answer new b (j.stays e))

    module _ (move : v.moves ≡ true) where
      passed : late ▸ check_all check b (map item es) ▸ need (room_for new) 11 ≡ Accepted
      passed = sym j.answer_is ∙ j.passes move

      pub pass-late : late ≡ Accepted
      pass-late = then-left _ _ passed

      pub pass-checked : check_all check (box_of st area) (map item es) ≡ Accepted
      pass-checked = then-left _ _ (then-right late _ passed)

      pub pass-fit : Fits (load_of (apply_all apply (map item es) (box_of st area)))
      unfolding room_for
      pass-fit = fits_out _ (need-true _ 11 (then-right (check_all check b (map item es)) _ (then-right late _ passed)))

      -- the entries may be applied
      pub pass-asks : {d : Action} {primary : Key} → Ready d primary s es (box_of st area) → StartsAbove st.floor d → ApplyAsks d primary st area s es
      pass-asks r u = record { made = a.made; listed = a.form.listed; ready = r; above = λ _. u }

      -- and the box becomes another one
      pub pass-done : {d : Action} {primary : Key} → ((e : Entry) (x : Box) → apply (item e) x ≡ apply_entry d primary s e x) → {t : Store} {area' : Bytes} → AllApplied d primary st area s es t area'
          → Settled st area (all_done late check apply (map item es) (box_of st area)) (record { store = t; answer = Accepted }) area'
      pass-done {d} {primary} is {t} {area'} w =
          settled-new (record { built = w.built; fit = subst Fits (sym (w.built.kept.load_is ∙ ap load_of same)) pass-fit; above = w.above }) w.floor_is
          (done-is ∙ settle-new v.answer new b (j.passes move) ∙ ap (λ (c : Box). record { answer = Accepted; box = c }) (sym same)) (λ z. j.moves move (sym same ∙ z))
        where
          same : box_of t area' ≡ new
          same = w.shown ∙ sym (applied-is apply item d primary s is es b)

    -- by what the checks came to
    pub pass-settled : {d : Action} {primary : Key} → ((e : Entry) (x : Box) → apply (item e) x ≡ apply_entry d primary s e x) → {r : Answer} {t : Store} {area' : Bytes} → SettledBy v d primary st area s es r t area'
        → Settled st area (all_done late check apply (map item es) (box_of st area)) (record { store = t; answer = r }) area'
    pass-settled is w = settled-by w pass-still j.passes (λ e u. pass-done e is u)

-- ---- before its entries: the head's answer

empty-is : (head rest : Answer) (new old : Box) → settle ((need false 5 ▸ head) ▸ rest) new old ≡ record { answer = No 5; box = old }
unfolding need ◌▸◌ settle
empty-is head rest new old = refl

full-is : (head rest : Answer) → (need true 5 ▸ head) ▸ rest ≡ head ▸ rest
unfolding need ◌▸◌
full-is head rest = refl

-- a definition by the head's answer, 14 and the steps of one entry
pub record ByEntries {A : Type 0} (check : Box → A → Answer) (apply : A → Box → Box) (head late : Answer) (call : List A → Box → Done) : Type 0 where
  pub is : (xs : List A) (b : Box) → call xs b ≡ settle (need (non_empty xs) 5 ▸ head ▸ late ▸ check_all check b xs ▸ need (room_for (apply_all apply xs b)) 11) (apply_all apply xs b) b

module _ {A : Type 0} {check : Box → A → Answer} {apply : A → Box → Box} {head late : Answer} {call : List A → Box → Done} (w : ByEntries check apply head late call)
    {st : Store} {area : Bytes} (made : Made st area) where
  abbrev old : Box
  old = box_of st area

  abbrev steps : List A → Box → Answer
  steps ys c = head ▸ late ▸ check_all check c ys ▸ need (room_for (apply_all apply ys c)) 11

  same-call : (o : Option (List A)) → of_batch o call old ≡ of_batch o (batch_call steps (apply_all apply) old) old
  unfolding of_batch
  same-call none = refl
  same-call (some ys) = w.is ys old

  -- 6
  pub batch-bad : {o : Option (List A)} → o ≡ none → Settled st area (of_batch o call (box_of st area)) (record { store = st; answer = No 6 }) area
  batch-bad {o} n = settled_same made (same-call o ∙ bad-batch steps (apply_all apply) old n)

  module _ {o : Option (List A)} (item : Entry → A) (es : List Entry) (is : o ≡ some (map item es)) {a : Answer} (e : a ≡ need (not (eqb (length es) 0)) 5 ▸ head) where
    abbrev xs : List A
    xs = map item es

    abbrev rest : Answer
    rest = late ▸ check_all check old xs ▸ need (room_for (apply_all apply xs old)) 11

    batch-is : of_batch o call old ≡ settle (a ▸ rest) (apply_all apply xs old) old
    batch-is = same-call o ∙ go (eqb (length es) 0) refl ∙ ap (λ (x : Answer). settle (x ▸ rest) (apply_all apply xs old) old) (sym e)
      where
        go : (u : Bool) → eqb (length es) 0 ≡ u → of_batch o (batch_call steps (apply_all apply) old) old ≡ settle ((need (not u) 5 ▸ head) ▸ rest) (apply_all apply xs old) old
        go true q = empty-batch steps (apply_all apply) old xs is (length-map es item ∙ eqb-true _ _ q) ∙ sym (empty-is head rest (apply_all apply xs old) old)
        go false q = full-batch steps (apply_all apply) old xs is (λ z. eqb-false _ _ q (sym (length-map es item) ∙ z)) ∙ ap (λ (x : Answer). settle x (apply_all apply xs old) old) (sym (full-is head rest))

    -- 5, or the head's
    pub batch-refused : (a ≡ Accepted → ⊥) → Settled st area (of_batch o call (box_of st area)) (record { store = st; answer = a }) area
    batch-refused n = settled_same made (batch-is ∙ head-out a rest (apply_all apply xs old) old n)

    module _ (p : a ≡ Accepted) where
      pub batch-head : head ≡ Accepted
      batch-head = then-right (need (not (eqb (length es) 0)) 5) _ (sym e ∙ p)

      pub batch-done : {t : Changed} {area' : Bytes} → Settled st area (all_done late check apply (map item es) (box_of st area)) t area' → Settled st area (of_batch o call (box_of st area)) t area'
      unfolding all_done
      batch-done {t} {area'} v = subst (λ (x : Done). Settled st area x t area') (sym (batch-is ∙ head-on a rest (apply_all apply xs old) old p)) v

  -- by the batch as it was decoded
  module _ (item : Entry → A) (s : Bytes) (o : Option (List A)) (r : Maybe Entries) (d : Decoded item s o r) {a : Answer} (e : a ≡ need (in_form r) 6 ▸ need (not (eqb (length (entries_read r)) 0)) 5 ▸ head) where
    -- 6, 5, or the head's
    pub decoded-refused : (a ≡ Accepted → ⊥) → Settled st area (of_batch o call (box_of st area)) (record { store = st; answer = a }) area
    decoded-refused n = by-form r d e (λ (x : Answer). Settled st area (of_batch o call old) (record { store = st; answer = x }) area) batch-bad (λ f q. batch-refused item (entries_read r) f.is q n)

    module _ (p : a ≡ Accepted) where
      in-form : AreEntries item s o (entries_read r) × (a ≡ need (not (eqb (length (entries_read r)) 0)) 5 ▸ head)
      in-form = form-passed r d e p

      pub decoded-entries : AreEntries item s o (entries_read r)
      decoded-entries = in-form.0

      pub decoded-head : head ≡ Accepted
      decoded-head = batch-head item (entries_read r) in-form.0.is in-form.1 p

      pub decoded-done : {t : Changed} {area' : Bytes} → Settled st area (all_done late check apply (map item (entries_read r)) (box_of st area)) t area' → Settled st area (of_batch o call (box_of st area)) t area'
      decoded-done v = batch-done item (entries_read r) in-form.0.is in-form.1 p v
