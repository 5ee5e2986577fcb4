-- The ways out of `commit_batch`: "6; 3; each entry in turn 1, 2; ..", what the checks come to, and the applied batch.
-- Assumes nothing.
use Prim.Native.Nat.{ℕ, ◌<◌}
use native.Mathlib.Omega.{arith}
use mathlib.Core.Path.{◌≡◌, refl, sym, ap, ap₂, ◌∙◌, subst}
use mathlib.Core.Bool.{Bool, true, false}
use mathlib.Core.List.{List, map}
use Rattle.std.proofs.lemmas.List.{length-map}
use mathlib.Core.Option.{Option, none}
use lib.ListN.{length}
use borrow.Author.Tests.{ltb-true}
use Rattle.forms.specs.Bytes.{Bytes}
use Rattle.forms.specs.Key.{Key}
use Rattle.forms.specs.Batch.{Mutation, key_inside, ascend, mutations}
use Rattle.forms.specs.Places.{mutation_of, AreEntries}
use Rattle.forms.specs.declared.batch.Entry.{Entry}
use Rattle.forms.proofs.DecodeLaws.{mutations-in-form, mutations-by-keys}
use Rattle.rules.specs.Answers.{Answer, Accepted, No, Held, ◌▸◌, need}
use Rattle.rules.specs.declared.room.Load.{Load}
use Rattle.rules.specs.Box.{Box}
use Rattle.rules.specs.Room.{load_of, fits, room_for, Fits}
use Rattle.rules.specs.Calls.{Done, settle}
use Rattle.rules.specs.declared.terms.CommitTerms.{CommitTerms}
use Rattle.rules.specs.Commit.{commit_terms_step}
use Rattle.rules.specs.OneStep.{Counted, arguments_step, none_other, all_applied, step_entries, apply_step, apply_steps, step_applied, step_arguments, then_applied, count_if, step_done, step_all, of_counted, one_step}
use Rattle.rules.proofs.RoomLaws.{fits_out}
use Rattle.laws.specs.Adds.{plus, minus, sum_loads, step_adds, step_frees}
use Rattle.laws.proofs.StepLaws.{then-left, then-right, need-true}
use Rattle.laws.proofs.SettleLaws.{settle-new, settle-old}
use Rattle.laws.proofs.LoadLaws.{load_fields, load-left, freed-at-most}
use Rattle.laws.proofs.OneStepLaws.{steps-load, apply_steps-all}
use Rattle.ledger.proofs.SoundEntries.{commit-above}
use Rattle.store.specs.declared.table.Store.{Store}
use Rattle.store.specs.View.{box_of}
use Rattle.store.specs.Made.{Made}
use Rattle.calls.specs.Settled.{Settled}
use Rattle.calls.specs.Entries.{AllAsks}
use Rattle.calls.specs.Passes.{ApplyAsks, AllApplied}
use Rattle.calls.specs.Weights.{LeftAsks}
use Rattle.calls.proofs.SettledLaws.{then-refused, settled_same, settled-new}
use Rattle.calls.proofs.ApplyAllLaws.{applied-is}
use Rattle.calls.proofs.AnswerLaws.{then-end}
use Rattle.onesteps.specs.Checks.{all_new, Met, AllChecked, left_by, unless_all, judged}
use Rattle.onesteps.specs.Counts.{Stepped, Counts, later_done, later_counted}
use Rattle.onesteps.proofs.StepApplyLaws.{deed_of, steps-ready}
use Rattle.onesteps.proofs.LaterLaws.{entries-check, after-step, later-all, later-new, sums-passed, steps-differ}

-- nothing has changed
counts_same : {st : Store} {area : Bytes} {d : Counted} {a : Answer} {n : ℕ} → Made st area → d ≡ record { done = record { answer = a; box = box_of st area }; count = n } → Counts st area d (record { store = st; answer = a; count = n }) area
counts_same m e = record { settled = settled_same m (ap (λ (x : Counted). x.done) e); count_is = sym (ap (λ (x : Counted). x.count) e) }

count_none : (a : Answer) (n : ℕ) → (a ≡ Accepted → ⊥) → count_if a n ≡ 0
unfolding count_if
count_none Accepted n f = absurd (f refl)
count_none (No k) n f = refl
count_none (Held o) n f = refl

-- ---- "6; 3", 14

module _ {st : Store} {area : Bytes} (made : Made st area) (h : CommitTerms) (s : Bytes) where
  pub not-form : mutations s ≡ none → Counts st area (one_step st.floor h s (box_of st area)) (record { store = st; answer = No 6; count = 0 }) area
  unfolding one_step of_counted
  not-form n = counts_same made (ap (λ (o : Option (List Mutation)). of_counted o (step_all st.floor h) (box_of st area)) n)

  module _ {es : List Entry} (d : AreEntries (mutation_of s) s (mutations s) es) {a : Answer} (e : a ≡ commit_terms_step st.floor h) where
    abbrev b : Box
    b = box_of st area

    abbrev ms : List Mutation
    ms = map (mutation_of s) es

    abbrev later : Done
    later = step_applied (all_applied h b ms) h ms b

    abbrev counted_by : Answer → Counted
    counted_by v = record { done = then_applied v b later; count = count_if (then_applied v b later).answer (length ms) }

    one-is : one_step st.floor h s b ≡ counted_by (a ▸ arguments_step ms ▸ need (none_other h b ms) 9)
    unfolding one_step of_counted step_all step_done step_arguments
    one-is = ap (λ (o : Option (List Mutation)). of_counted o (step_all st.floor h) b) d.is ∙ ap (λ (x : Answer). counted_by (x ▸ arguments_step ms ▸ need (none_other h b ms) 9)) (sym e)

    pub head-out : (a ≡ Accepted → ⊥) → Counts st area (one_step st.floor h s (box_of st area)) (record { store = st; answer = a; count = 0 }) area
    unfolding then_applied count_if
    head-out n = counts_same made (one-is ∙ ap counted_by (sym (then-refused a (arguments_step ms ▸ need (none_other h b ms) 9) n)) ∙ out a n)
      where
        out : (v : Answer) → (v ≡ Accepted → ⊥) → counted_by v ≡ record { done = record { answer = v; box = b }; count = 0 }
        out Accepted f = absurd (f refl)
        out (No k) f = refl
        out (Held o) f = refl

    module _ (p : a ≡ Accepted) where
      pub batch-asks : (AllAsks st area s es) × (commit_terms_step st.floor h ≡ Accepted)
      batch-asks = (record { made = made; form = mutations-in-form d }, sym e ∙ p)

      pub batch-done : {t : Stepped} {area' : Bytes} → Counts st area (later_counted h (map (mutation_of s) es) (box_of st area)) t area' → Counts st area (one_step st.floor h s (box_of st area)) t area'
      unfolding later_done ◌▸◌
      batch-done {t} {area'} k = subst (λ (x : Counted). Counts st area x t area') (sym (one-is ∙ ap (λ (x : Answer). counted_by (x ▸ arguments_step ms ▸ need (none_other h b ms) 9)) p)) k

-- ---- what the checks come to

module _ {st : Store} {area s : Bytes} {es : List Entry} (a : AllAsks st area s es) {h : CommitTerms} (head : commit_terms_step st.floor h ≡ Accepted) {met : Met} (k : AllChecked h (box_of st area) (map (mutation_of s) es) met) where
  abbrev was : Box
  was = box_of st area

  abbrev entries : List Mutation
  entries = map (mutation_of s) es

  abbrev after : Box
  after = apply_steps h entries was

  ends-later : h.start < h.commit
  ends-later = ltb-true _ _ (commit-above st.floor h head)

  abbrev n : ℕ
  n = length es

  count_is : length entries ≡ length es
  count_is = length-map es (mutation_of s)

  ascends : ascend key_inside entries ≡ true
  ascends = mutations-by-keys s es ∙ a.form.ascends

  module _ (p : step_entries h was entries ≡ Accepted) where
    weighs : plus (load_of was) (sum_loads step_adds entries) ≡ plus (sum_loads (step_frees h was) entries) (load_of after)
    weighs = steps-load h entries was ascends (entries-check h ends-later was entries p) a.made.built.kept.sorted

    added_is : plus st.load met.seen.weight.added ≡ plus (load_of was) (sum_loads step_adds entries)
    added_is = ap₂ plus a.made.built.kept.load_is (k.added_is ∙ sums-passed h was step_adds entries p)

    freed_is : met.seen.weight.freed ≡ sum_loads (step_frees h was) entries
    freed_is = k.freed_is ∙ sums-passed h was (step_frees h was) entries p

    -- what the call would leave
    left_is : left_by st.load met.seen.weight ≡ load_of after
    left_is = ap₂ minus added_is freed_is ∙ sym (load-left _ _ _ _ weighs)

  pub all_left : met.seen.answer ≡ Accepted → LeftAsks st.load met.seen.weight
  all_left q =
      let p = sym k.answer_is ∙ q in
      let m = freed-at-most _ _ _ _ (weighs p) in
      let x = load_fields (freed_is p) in
      let y = load_fields (added_is p) in
      let f = a.made.fit in
      let w = k.light.added in
      record {
        load_small = omega (arith, f);
        added_small = omega (arith, w, w.bytes);
        freed_there = record { lines = omega (arith, m.lines, x.lines, y.lines); locks = omega (arith, m.locks, x.locks, y.locks); defaults = omega (arith, m.defaults, x.defaults, y.defaults); bytes = omega (arith, m.bytes, x.bytes, y.bytes) };
      }

  abbrev steps : Answer
  steps = arguments_step entries ▸ need (all_new h was entries) 9 ▸ step_entries h was entries ▸ need (room_for after) 11

  module _ {v : Answer} (e : v ≡ judged met st.load) where
    by_all : {t : Bool} → met.tally.all ≡ t → v ≡ arguments_step entries ▸ unless_all t (need (all_new h was entries) 9 ▸ step_entries h was entries ▸ need (fits (left_by st.load met.seen.weight)) 11)
    by_all {t} q =
        e ∙ ap₂ (λ (x : Answer) (y : Bool). x ▸ unless_all y (need met.tally.none 9 ▸ met.seen.answer ▸ need (fits (left_by st.load met.seen.weight)) 11)) k.argument_is q
        ∙ ap₂ (λ (y : Bool) (x : Answer). arguments_step entries ▸ unless_all t (need y 9 ▸ x ▸ need (fits (left_by st.load met.seen.weight)) 11)) k.none_is k.answer_is

    module _ (part : met.tally.all ≡ false) where
      steps-is : v ≡ steps
      unfolding room_for
      steps-is =
          by_all part
          ∙ ap (λ (x : Answer). arguments_step entries ▸ need (all_new h was entries) 9 ▸ x)
          (after-step (step_entries h was entries) _ _ (λ p. ap (λ (l : Load). need (fits l) 11) (left_is p)))

      done-is : later_done h entries was ≡ settle v after was
      done-is = later-new h was entries ends-later (sym k.all_is ∙ part) ∙ ap (λ (x : Answer). settle x after was) (sym steps-is)

    done_all : met.tally.all ≡ true → later_done h entries was ≡ record { answer = v; box = was }
    unfolding ◌▸◌
    done_all q = later-all h was entries (sym k.all_is ∙ q) ∙ ap (λ (x : Answer). record { answer = x; box = was }) (sym (by_all q ∙ then-end (arguments_step entries)))

    counted_is : {w : Box} → later_done h entries was ≡ record { answer = v; box = w } → later_counted h entries was ≡ record { done = record { answer = v; box = w }; count = count_if v (length es) }
    counted_is {w} q = ap (λ (x : Done). record { done = x; count = count_if x.answer (length entries) }) q ∙ ap (λ (c : ℕ). record { done = record { answer = v; box = w }; count = count_if v c }) count_is

    -- a refusal
    pub all-refused : (v ≡ Accepted → ⊥) → Counts st area (later_counted h (map (mutation_of s) es) (box_of st area)) (record { store = st; answer = v; count = 0 }) area
    all-refused f = counts_same a.made (counted_is (go met.tally.all refl) ∙ ap (λ (c : ℕ). record { done = record { answer = v; box = was }; count = c }) (count_none v n f))
      where
        go : (t : Bool) → met.tally.all ≡ t → later_done h entries was ≡ record { answer = v; box = was }
        go true q = done_all q
        go false q = done-is q ∙ settle-old v after was f

    module _ (p : v ≡ Accepted) where
      counts_all : count_if v n ≡ n
      unfolding count_if
      counts_all = ap (λ (x : Answer). count_if x n) p

      -- "All applied: accepted, unchanged"
      pub all-applied : met.tally.all ≡ true → Counts st area (later_counted h (map (mutation_of s) es) (box_of st area)) (record { store = st; answer = v; count = length es }) area
      all-applied q = counts_same a.made (counted_is (done_all q) ∙ ap (λ (c : ℕ). record { done = record { answer = v; box = was }; count = c }) counts_all)

      module _ (part : met.tally.all ≡ false) where
        all-steps : steps ≡ Accepted
        all-steps = sym (steps-is part) ∙ p

        arguments-passed : arguments_step entries ≡ Accepted
        arguments-passed = then-left _ _ all-steps

        entries-passed : step_entries h was entries ▸ need (room_for after) 11 ≡ Accepted
        entries-passed = then-right (need (all_new h was entries) 9) _ (then-right (arguments_step entries) _ all-steps)

        passed : step_entries h was entries ≡ Accepted
        passed = then-left _ _ entries-passed

        fit : Fits (load_of after)
        unfolding room_for
        fit = fits_out _ (need-true _ 11 (then-right (step_entries h was entries) _ entries-passed))

        -- what the entries ask of the store that came
        pub batch-ready : (primary : Key) → ApplyAsks (deed_of h) primary st area s es
        batch-ready primary = record { made = a.made; listed = a.form.listed; ready = steps-ready st.floor h primary was head a.form arguments-passed passed fit; above = λ _. tt }

        -- the box is another one
        pub all-stepped : {primary : Key} {t : Store} {area' : Bytes} → AllApplied (deed_of h) primary st area s es t area'
            → Counts st area (later_counted h (map (mutation_of s) es) (box_of st area)) (record { store = t; answer = v; count = length es }) area'
        all-stepped {primary} {t} {area'} g = record {
          settled = subst (λ (x : Answer). Settled st area (later_done h entries was) (record { store = t; answer = x }) area') (sym p)
              (settled-new (record { built = g.built; fit = subst Fits (sym (g.built.kept.load_is ∙ ap load_of is)) fit; above = g.above }) g.floor_is
              (done-is part ∙ settle-new v after was p ∙ ap (λ (c : Box). record { answer = Accepted; box = c }) (sym is))
              (λ x. steps-differ h entries was (sym k.all_is ∙ part) ascends (entries-check h ends-later was entries passed) a.made.built.kept.sorted (sym is ∙ x)));
          count_is = sym (ap (λ (x : Done). count_if x.answer (length entries)) (done-is part ∙ settle-new v after was p) ∙ go);
        }
          where
            is : box_of t area' ≡ after
            is = g.shown ∙ sym (applied-is (apply_step h) (mutation_of s) (deed_of h) primary s (λ e x. refl) es was) ∙ sym (apply_steps-all h entries was)

            go : count_if Accepted (length entries) ≡ n
            go = sym (ap (λ (x : Answer). count_if x (length entries)) p) ∙ ap (count_if v) count_is ∙ counts_all
