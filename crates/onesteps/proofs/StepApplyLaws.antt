-- The applying pass of a one-step batch: what each entry asks of the store as it is then, and what is left after it.
-- Assumes nothing.
use Prim.Native.Nat.{ℕ, ◌≤◌, ◌<◌}
use native.Mathlib.Omega.{arith}
use mathlib.Core.Path.{◌≡◌, refl, sym, ap, ◌∙◌, subst}
use mathlib.Core.List.{List, [], ◌∷◌, map}
use mathlib.Core.Option.{Option, none, some}
use borrow.Author.Tests.{ltb-true}
use Rattle.forms.specs.Bytes.{Bytes}
use Rattle.forms.specs.Key.{Key, key_form}
use Rattle.forms.specs.Row.{Row}
use Rattle.forms.specs.Batch.{Mutation, key_inside}
use Rattle.forms.specs.Places.{key_at, mutation_of, given_part, InForm}
use Rattle.forms.specs.declared.batch.Entry.{Entry}
use Rattle.forms.proofs.DecodeLaws.{mutations-by-keys}
use Rattle.rules.specs.Answers.{Answer, Accepted, ◌▸◌, need}
use Rattle.rules.specs.Box.{Box, Lock, lock_of, row_of}
use Rattle.rules.specs.Room.{load_of, Fits}
use Rattle.rules.specs.Calls.{row_argument}
use Rattle.rules.specs.declared.terms.CommitTerms.{CommitTerms}
use Rattle.rules.specs.Commit.{commit_terms_step}
use Rattle.rules.specs.OneStep.{arguments_step, step_entry, step_entries, apply_step, apply_steps}
use Rattle.laws.specs.Adds.{sum_loads, of_lock, of_row, replaced_by, step_adds, step_frees}
use Rattle.laws.proofs.StepLaws.{then-left, then-right, then-both, need-true}
use Rattle.laws.proofs.LoadLaws.{load_fields}
use Rattle.laws.proofs.BatchLaws.{check_all, Depends}
use Rattle.laws.proofs.OneStepLaws.{step_check, step-depends, step-only, apply_steps-all, steps-load}
use Rattle.ledger.proofs.SoundEntries.{commit-above}
use Rattle.store.specs.View.{box_of}
use Rattle.actions.specs.declared.action.Action.{Action}
use Rattle.actions.specs.declared.action.Action.TheVariants.{Step}
use Rattle.calls.specs.Passes.{EntryReady, Ready}
use Rattle.calls.proofs.EntryPartLaws.{row_fits}
use Rattle.calls.proofs.ApplyAllLaws.{Changes, Applying, applying-passed, ready-all}
use Rattle.calls.specs.Steps.{argument_step}
use Rattle.onesteps.proofs.LaterLaws.{entries-check}

-- ---- what one entry asks

-- its arguments and its steps
unfoldable pub entry_check : CommitTerms → Box → Mutation → Answer
entry_check h b m = argument_step m ▸ step_check h b m

pub entry-depends : (h : CommitTerms) → Depends key_inside h.start (entry_check h)
unfolding entry_check
entry-depends h b c m v = ap (λ (x : Answer). argument_step m ▸ x) (step-depends h b c m v)

abbrev pub changes_of : CommitTerms → Changes Mutation
changes_of h = record { key = key_inside; start = h.start; check = entry_check h; apply = apply_step h; depends = entry-depends h; only = step-only h h.start }

abbrev pub deed_of : CommitTerms → Action
deed_of h = Step h

both-check : (h : CommitTerms) (b : Box) (ms : List Mutation) → arguments_step ms ≡ Accepted → check_all (step_check h) b ms ≡ Accepted → check_all (entry_check h) b ms ≡ Accepted
unfolding arguments_step argument_step check_all entry_check
both-check h b [] p q = refl
both-check h b (m ∷ ms) p q =
    let r = then-right (need (key_form m.key) 1) _ p in
    then-both _ _ (then-both _ _ (then-both _ _ (then-left _ _ p) (then-left _ _ r)) (then-left _ _ q)) (both-check h b ms (then-right (need (row_argument m.row) 2) _ r) (then-right (step_check h b m) _ q))

steps_of : (h : CommitTerms) (b : Box) (ms : List Mutation) → check_all (entry_check h) b ms ≡ Accepted → check_all (step_check h) b ms ≡ Accepted
unfolding check_all entry_check
steps_of h b [] p = refl
steps_of h b (m ∷ ms) p = then-both _ _ (then-right (argument_step m) _ (then-left _ _ p)) (steps_of h b ms (then-right (argument_step m ▸ step_check h b m) _ p))

-- ---- a free slot

-- an entry adds a line, and frees one where the key has a lock
frees-lines : (h : CommitTerms) (b : Box) (m : Mutation) → (step_frees h b m).lines ≡ (of_lock m.key (lock_of m.key b.lines)).lines
unfolding step_frees replaced_by of_row
frees-lines h b m = let z = go m.row (row_of m.key h.start b.defaults) in omega arith
  where
    go : (r o : Option Row) → (replaced_by r (of_row m.key o)).lines ≡ 0
    go none o = refl
    go (some x) none = refl
    go (some x) (some y) = refl

sums-grow : (h : CommitTerms) (b : Box) (ms : List Mutation) → (sum_loads (step_frees h b) ms).lines ≤ (sum_loads step_adds ms).lines
unfolding sum_loads step_adds of_lock
sums-grow h b [] = omega arith
sums-grow h b (m ∷ ms) = omega (arith, frees-lines h b m, go (lock_of m.key b.lines), sums-grow h b ms)
  where
    go : (o : Option Lock) → (of_lock m.key o).lines ≤ 1
    go none = omega arith
    go (some l) = omega arith

-- ---- the pass

-- what one entry asks, where it and those after it would pass
module _ (floor : ℕ) (h : CommitTerms) (primary : Key) (s : Bytes) (head : commit_terms_step floor h ≡ Accepted) {want : Box} (fit : Fits (load_of want)) (e : Entry) (rest : List Mutation) (b : Box) (v : Applying (changes_of h) want b (mutation_of s e ∷ rest)) where
  entry_ready : EntryReady (deed_of h) primary s e b
  unfolding entry_check argument_step step_check sum_loads step_adds of_lock
  entry_ready st area built q room = record {
    built = built;
    floor = floor;
    head = head;
    form = need-true _ 1 (then-left _ _ arguments);
    row_fits = row_fits (given_part s e.row) (need-true _ 2 (then-right (need (key_form (key_at s e)) 1) _ arguments));
    passed = then-left (step_entry h (box_of st area) x) _ steps;
    newest = need-true _ 8 (then-right (step_entry h (box_of st area) x) _ steps);
    slot_free = slot_free;
    area_room = room;
  }
    where
      m : Mutation
      m = mutation_of s e

      x : Mutation
      x = mutation_of s e

      here : Applying (changes_of h) want (box_of st area) (m ∷ rest)
      here = subst (λ (y : Box). Applying (changes_of h) want y (m ∷ rest)) (sym q) v

      checked : entry_check h (box_of st area) x ≡ Accepted
      checked = applying-passed here

      arguments : argument_step x ≡ Accepted
      arguments = then-left (argument_step x) _ checked

      steps : step_check h (box_of st area) x ≡ Accepted
      steps = then-right (argument_step x) _ checked

      slot_free : lock_of (key_at s e) (box_of st area).lines ≡ none → st.load.lines < 1024
      slot_free f =
          let is : apply_steps h (m ∷ rest) (box_of st area) ≡ want = apply_steps-all h (m ∷ rest) (box_of st area) ∙ here.is in
          let y = load_fields (steps-load h (m ∷ rest) (box_of st area) here.ascends (steps_of h (box_of st area) (m ∷ rest) here.passed) built.kept.sorted) in
          let w = load_fields (ap load_of is) in
          let z = load_fields built.kept.load_is in
          let g : (step_frees h (box_of st area) m).lines ≡ 0 = frees-lines h (box_of st area) m ∙ ap (λ (o : Option Lock). (of_lock m.key o).lines) f in
          omega (arith, y.lines, w.lines, z.lines, g, sums-grow h (box_of st area) rest, fit.lines)

pub steps-ready : (floor : ℕ) (h : CommitTerms) (primary : Key) {s : Bytes} {es : List Entry} (b : Box) → commit_terms_step floor h ≡ Accepted → InForm s es → arguments_step (map (mutation_of s) es) ≡ Accepted
    → step_entries h b (map (mutation_of s) es) ≡ Accepted → Fits (load_of (apply_steps h (map (mutation_of s) es) b)) → Ready (deed_of h) primary s es b
steps-ready floor h primary {s} {es} b head form a p f =
    let ms = map (mutation_of s) es in
    ready-all (changes_of h) (mutation_of s) (deed_of h) primary s (λ e x. refl) (entry_ready floor h primary s head f) es b
    (record { ascends = mutations-by-keys s es ∙ form.ascends; passed = both-check h b ms a (entries-check h (ltb-true _ _ (commit-above floor h head)) b ms p); is = sym (apply_steps-all h ms b) })
