-- "6, 5; 3; ..": the ways out of the batch form before its keys.
-- Assumes nothing.
use mathlib.Core.Path.{◌≡◌, refl, sym, ap, ◌∙◌, subst}
use mathlib.Core.Bool.{Bool, true, false, not}
use mathlib.Core.List.{List, map}
use mathlib.Core.Option.{none, some}
use Rattle.std.specs.Prelude.{Option as Maybe}
use Rattle.std.proofs.lemmas.List.{length-map}
use lib.Dec.{ltb, eqb}
use lib.ListN.{length}
use borrow.Author.Tests.{eqb-true, eqb-false}
use Rattle.forms.specs.Bytes.{Bytes}
use Rattle.forms.specs.Key.{Key}
use Rattle.forms.specs.Batch.{keys}
use Rattle.forms.specs.Places.{key_at, AreEntries, Decoded}
use Rattle.forms.specs.declared.batch.Entry.{Entry}
use Rattle.forms.specs.declared.entries.Entries.{Entries}
use Rattle.rules.specs.Answers.{Answer, Accepted, No, ◌▸◌, need}
use Rattle.rules.specs.Box.{Box}
use Rattle.rules.specs.Calls.{Done, settle}
use Rattle.rules.specs.declared.terms.CommitTerms.{CommitTerms}
use Rattle.rules.specs.Commit.{commit_terms_step, commit_keys, apply_commits, commit_steps, commit_all, commit_batch}
use Rattle.rules.proofs.FloorLaws.{commit-last}
use Rattle.laws.proofs.StepLaws.{then-right}
use Rattle.store.specs.declared.table.Store.{Store}
use Rattle.store.specs.View.{box_of}
use Rattle.store.specs.Made.{Made}
use Rattle.calls.specs.Settled.{Changed, Settled}
use Rattle.calls.specs.Steps.{in_form, entries_read}
use Rattle.calls.proofs.SettledLaws.{settled_same}
use Rattle.calls.proofs.AnswerLaws.{terms-split, head-out, head-on, bad-batch, empty-batch, full-batch, by-form, form-passed}
use Rattle.commits.specs.Passes.{floor_keys, all_done}

module _ {st : Store} {area : Bytes} (made : Made st area) (h : CommitTerms) (s : Bytes) where
  abbrev b : Box
  b = box_of st area

  -- 6
  pub batch-bad : keys s ≡ none → Settled st area (commit_batch st.floor h s (box_of st area)) (record { store = st; answer = No 6 }) area
  unfolding commit_batch commit_all
  batch-bad n = settled_same made (bad-batch (commit_steps st.floor h) (apply_commits h) b n)

  module _ (es : List Entry) (is : keys s ≡ some (map (key_at s) es)) {a : Answer} (e : a ≡ need (not (eqb (length es) 0)) 5 ▸ commit_terms_step 0 h) where
    abbrev ks : List Key
    ks = map (key_at s) es

    abbrev rest : Answer
    rest = floor_keys st.floor h b ks

    batch-is : commit_batch st.floor h s b ≡ settle (a ▸ rest) (apply_commits h ks b) b
    unfolding commit_batch commit_all commit_steps need ◌▸◌ settle
    batch-is = go (eqb (length es) 0) refl ∙ ap (λ (x : Answer). settle (x ▸ rest) (apply_commits h ks b) b) (sym e)
      where
        go : (u : Bool) → eqb (length es) 0 ≡ u → commit_batch st.floor h s b ≡ settle ((need (not u) 5 ▸ commit_terms_step 0 h) ▸ rest) (apply_commits h ks b) b
        go true q = empty-batch (commit_steps st.floor h) (apply_commits h) b ks is (length-map es (key_at s) ∙ eqb-true _ _ q)
        go false q = full-batch (commit_steps st.floor h) (apply_commits h) b ks is (λ z. eqb-false _ _ q (sym (length-map es (key_at s)) ∙ z)) ∙ ap (λ (x : Answer). settle x (apply_commits h ks b) b) (terms-split (commit_terms_step 0 h) (need (ltb st.floor h.start) 14) (commit-last st.floor h) (commit_keys h b ks))

    -- 5 or 3
    pub batch-refused : (a ≡ Accepted → ⊥) → Settled st area (commit_batch st.floor h s (box_of st area)) (record { store = st; answer = a }) area
    batch-refused n = settled_same made (batch-is ∙ head-out a rest (apply_commits h ks b) b n)

    module _ (p : a ≡ Accepted) where
      pub batch-head : commit_terms_step 0 h ≡ Accepted
      batch-head = then-right (need (not (eqb (length es) 0)) 5) _ (sym e ∙ p)

      pub batch-done : {t : Changed} {area' : Bytes} → Settled st area (all_done st.floor h (map (key_at s) es) (box_of st area)) t area' → Settled st area (commit_batch st.floor h s (box_of st area)) t area'
      unfolding all_done
      batch-done {t} {area'} v = subst (λ (x : Done). Settled st area x t area') (sym (batch-is ∙ head-on a rest (apply_commits h ks b) b p)) v

  -- by the batch as it was decoded
  module _ (r : Maybe Entries) (d : Decoded (key_at s) s (keys s) r) {a : Answer} (e : a ≡ need (in_form r) 6 ▸ need (not (eqb (length (entries_read r)) 0)) 5 ▸ commit_terms_step 0 h) where
    -- 6, 5 or 3
    pub decoded-refused : (a ≡ Accepted → ⊥) → Settled st area (commit_batch st.floor h s (box_of st area)) (record { store = st; answer = a }) area
    decoded-refused n = by-form r d e (λ (x : Answer). Settled st area (commit_batch st.floor h s b) (record { store = st; answer = x }) area) batch-bad (λ f q. batch-refused (entries_read r) f.is q n)

    module _ (p : a ≡ Accepted) where
      in-form : AreEntries (key_at s) s (keys s) (entries_read r) × (a ≡ need (not (eqb (length (entries_read r)) 0)) 5 ▸ commit_terms_step 0 h)
      in-form = form-passed r d e p

      pub decoded-entries : AreEntries (key_at s) s (keys s) (entries_read r)
      decoded-entries = in-form.0

      pub decoded-head : commit_terms_step 0 h ≡ Accepted
      decoded-head = batch-head (entries_read r) in-form.0.is in-form.1 p

      pub decoded-done : {t : Changed} {area' : Bytes} → Settled st area (all_done st.floor h (map (key_at s) (entries_read r)) (box_of st area)) t area' → Settled st area (commit_batch st.floor h s (box_of st area)) t area'
      decoded-done v = batch-done (entries_read r) in-form.0.is in-form.1 p v
