-- Changing calls with a start above the floor answer after a collection as before, but for the room that it freed (specs/Collected): their steps on
-- the store answer as before, and what they add to a load and free of it is the same, so that a call for which there was room has it still.
-- Assumes nothing.
use Prim.Native.Nat.{ℕ, ◌≤◌, ◌<◌}
use native.Mathlib.Omega.{arith}
use mathlib.Core.Path.{◌≡◌, refl, sym, ap, ap₂, ◌∙◌}
use mathlib.Core.Bool.{Bool, true, false, not}
use mathlib.Core.List.{List, [], ◌∷◌}
use mathlib.Core.Option.{Option, none, some}
use borrow.Author.Tests.{lt-ltb, ltb-true}
use Rattle.forms.specs.Key.{Key}
use Rattle.forms.specs.Batch.{Mutation, key_inside, ascend, mutations, keys}
use Rattle.rules.specs.Answers.{Answer, Accepted, No, Held, ◌▸◌, need}
use Rattle.rules.specs.declared.room.Load.{Load}
use Rattle.rules.specs.declared.terms.CommitTerms.{CommitTerms}
use Rattle.rules.specs.Box.{Box, in_order}
use Rattle.rules.specs.Room.{load_of, room_for}
use Rattle.rules.specs.Calls.{Done, settle, of_batch, non_empty}
use Rattle.rules.specs.Prewrite.{PrewriteTerms, prewrite_terms_step, prewrite_entries, prewrite_room, prewrite_steps, prewrite_all, prewrite_batch, apply_prewrites}
use Rattle.rules.specs.Commit.{commit_terms_step, commit_keys, commit_steps, commit_all, commit_batch}
use Rattle.rules.specs.Rollback.{rollback_terms_step, rollback_keys, rollback_room, rollback_steps, rollback_all, rollback_batch, apply_rollbacks}
use Rattle.rules.specs.OneStep.{arguments_step, none_other, all_applied, some_applied, step_entries, newest_step, step_new, step_applied, step_arguments, then_applied, step_done, step_all, of_counted, one_step, apply_steps}
use Rattle.rules.specs.Collect.{collected}
use Rattle.laws.specs.Adds.{plus, sum_loads, prewrite_adds, rollback_adds, rollback_frees, step_frees}
use Rattle.laws.proofs.StepLaws.{then-left, then-right, need-true}
use Rattle.laws.proofs.SettleLaws.{settle-answer}
use Rattle.laws.proofs.FrameLaws.{mutations-ascend, keys-ascend}
use Rattle.laws.proofs.LoadLaws.{load_fields, fits-less}
use Rattle.laws.proofs.PrewriteLoad.{prewrites-load}
use Rattle.laws.proofs.RollbackLaws.{rollbacks-load}
use Rattle.laws.proofs.OneStepLaws.{steps-check, steps-load}
use Rattle.laws.proofs.FewerLaws.{fewer-load}
use Rattle.laws.proofs.CollectLaws.{collected-fewer, collected-order}
use Rattle.ledger.specs.Tidy.{Tidy}
use Rattle.ledger.specs.Collected.{SameUnless11, CallsAsBefore, ChecksAsBefore}
use Rattle.ledger.proofs.CollectChecks.{unseen, checks-as-before}

-- ---- chains of steps

-- the last step is the room
but-room : (a : Answer) (t u : Bool) → (a ≡ Accepted → t ≡ true → u ≡ true) → SameUnless11 (a ▸ need t 11) (a ▸ need u 11)
unfolding ◌▸◌ need
but-room Accepted true u h n = rw (h refl refl)
but-room Accepted false u h n = absurd (n refl)
but-room (No m) t u h n = refl
but-room (Held o) t u h n = refl

-- the steps before are the same
after_same : (a x y : Answer) → (a ≡ Accepted → SameUnless11 x y) → SameUnless11 (a ▸ x) (a ▸ y)
unfolding ◌▸◌
after_same Accepted x y h n = h refl n
after_same (No m) x y h n = refl
after_same (Held o) x y h n = refl

then_same : (a x y : Answer) → (a ≡ Accepted → y ≡ x) → a ▸ y ≡ a ▸ x
unfolding ◌▸◌
then_same Accepted x y h = h refl
then_same (No m) x y h = refl
then_same (Held o) x y h = refl

settled_same : (x y : Answer) (new old new' old' : Box) → SameUnless11 x y → SameUnless11 (settle x new old).answer (settle y new' old').answer
settled_same x y new old new' old' h n = settle-answer y new' old' ∙ h (λ q. n (settle-answer x new old ∙ q)) ∙ sym (settle-answer x new old)

-- a batch out of form is 6 anyway
batch-same : {A : Type 0} (o : Option (List A)) (was is : List A → Box → Done) (b c : Box) → ((xs : List A) → o ≡ some xs → SameUnless11 (was xs b).answer (is xs c).answer) → SameUnless11 (of_batch o was b).answer (of_batch o is c).answer
unfolding of_batch
batch-same none was is b c h n = refl
batch-same (some xs) was is b c h n = h xs refl n

sums-alike : {A : Type 0} (f g : A → Load) → ((x : A) → g x ≡ f x) → (xs : List A) → sum_loads g xs ≡ sum_loads f xs
unfolding sum_loads
sums-alike f g h [] = refl
sums-alike f g h (x ∷ xs) = ap₂ plus (h x) (sums-alike f g h xs)

-- ---- one-step: its answer by its steps

then-answer : (a : Answer) (b : Box) (d : Done) → (then_applied a b d).answer ≡ a ▸ d.answer
unfolding then_applied ◌▸◌
then-answer Accepted b d = refl
then-answer (No n) b d = refl
then-answer (Held o) b d = refl

-- steps that pass leave the rest
cancel : (a x : Answer) → a ≡ Accepted → a ▸ x ≡ x
unfolding ◌▸◌
cancel a x e = rw e

terms-of : (floor : ℕ) (h : CommitTerms) (ms : List Mutation) (b : Box) → step_arguments floor h ms b ≡ Accepted → commit_terms_step floor h ≡ Accepted
unfolding step_arguments
terms-of floor h ms b y = then-left _ _ y

module _ (f floor : ℕ) (low : floor ≤ f) (b : Box) (v : Tidy b) (o : in_order b ≡ true) where
  abbrev left : Box
  left = collected f b

  checks : ChecksAsBefore f b
  checks = checks-as-before f b v

  -- ---- the terms: above both floors

  prewrite-terms : (h : PrewriteTerms) → f < h.start → prewrite_terms_step f h ≡ prewrite_terms_step floor h
  unfolding prewrite_terms_step
  prewrite-terms h up = rw (lt-ltb f h.start up, lt-ltb floor h.start (omega (arith, low, up)))

  commit-terms : (h : CommitTerms) → f < h.start → commit_terms_step f h ≡ commit_terms_step floor h
  unfolding commit_terms_step
  commit-terms h up = rw (lt-ltb f h.start up, lt-ltb floor h.start (omega (arith, low, up)))

  rollback-terms : (txn s : ℕ) → f < s → rollback_terms_step f txn s ≡ rollback_terms_step floor txn s
  unfolding rollback_terms_step
  rollback-terms txn s up = rw (lt-ltb f s up, lt-ltb floor s (omega (arith, low, up)))

  above-commit : (h : CommitTerms) → f < h.start → commit_terms_step floor h ≡ Accepted → f < h.commit
  unfolding commit_terms_step
  above-commit h up z = omega (arith, up, ltb-true h.start h.commit (need-true _ _ (then-left _ _ (then-right _ _ z))))

  -- ---- the room

  prewrite-room : (h : PrewriteTerms) (ms : List Mutation) → ascend key_inside ms ≡ true → room_for (apply_prewrites h ms b) ≡ true → room_for (apply_prewrites h ms left) ≡ true
  unfolding room_for prewrite_adds
  prewrite-room h ms a r =
      let p = load_fields (prewrites-load h ms b a) in
      let q = load_fields (prewrites-load h ms left a) in
      let s = load_fields (sums-alike (prewrite_adds h b) (prewrite_adds h left) (λ m. rw (unseen f b v m.key).lock) ms) in
      let l = fewer-load (collected-fewer f b) in
      fits-less (load_of (apply_prewrites h ms left)) (load_of (apply_prewrites h ms b)) (omega arith) r

  rollback-room : (s : ℕ) (ks : List Key) → f < s → ascend (λ k. k) ks ≡ true → room_for (apply_rollbacks s ks b) ≡ true → room_for (apply_rollbacks s ks left) ≡ true
  unfolding room_for rollback_adds rollback_frees
  rollback-room s ks up a r =
      let p = load_fields (rollbacks-load s ks b a o) in
      let q = load_fields (rollbacks-load s ks left a (collected-order f b o)) in
      let c = load_fields (sums-alike (rollback_adds s b) (rollback_adds s left) (λ k. let u = unseen f b v k in rw (u.stamped s up)) ks) in
      let d = load_fields (sums-alike (rollback_frees s b) (rollback_frees s left) (λ k. let u = unseen f b v k in rw (u.stamped s up, u.lock, u.row s up)) ks) in
      let l = fewer-load (collected-fewer f b) in
      fits-less (load_of (apply_rollbacks s ks left)) (load_of (apply_rollbacks s ks b)) (omega arith) r

  step_room : (h : CommitTerms) (ms : List Mutation) → f < h.start → f < h.commit → ascend key_inside ms ≡ true → step_entries h b ms ≡ Accepted → newest_step h b ms ≡ Accepted
      → room_for (apply_steps h ms b) ≡ true → room_for (apply_steps h ms left) ≡ true
  unfolding room_for step_frees
  step_room h ms up top a x y r =
      let p = load_fields (steps-load h ms b a (steps-check h b ms x y) o) in
      let q = load_fields (steps-load h ms left a (steps-check h left ms (checks.step-entries h ms up ∙ x) (checks.step_newest h ms top ∙ y)) (collected-order f b o)) in
      let d = load_fields (sums-alike (step_frees h b) (step_frees h left) (λ m. let u = unseen f b v m.key in rw (u.lock, u.row h.start up)) ms) in
      let l = fewer-load (collected-fewer f b) in
      fits-less (load_of (apply_steps h ms left)) (load_of (apply_steps h ms b)) (omega arith) r

  -- ---- the calls

  prewrite-call : (h : PrewriteTerms) (ms : List Mutation) → f < h.start → ascend key_inside ms ≡ true → SameUnless11 (prewrite_all floor h ms b).answer (prewrite_all f h ms left).answer
  unfolding prewrite_all prewrite_steps prewrite_room
  prewrite-call h ms up a =
      settled_same _ _ _ b _ left
      (λ n. ap₂ (λ (t e : Answer). need (non_empty ms) 5 ▸ t ▸ e ▸ need (room_for (apply_prewrites h ms left)) 11) (prewrite-terms h up) (checks.prewrites h ms up)
      ∙ after_same (need (non_empty ms) 5) _ _ (λ x. after_same (prewrite_terms_step floor h) _ _ (λ y. but-room (prewrite_entries h b ms) _ _ (λ z. prewrite-room h ms a))) n)

  rollback-call : (txn s : ℕ) (ks : List Key) → f < s → ascend (λ k. k) ks ≡ true → SameUnless11 (rollback_all floor txn s ks b).answer (rollback_all f txn s ks left).answer
  unfolding rollback_all rollback_steps rollback_room
  rollback-call txn s ks up a =
      settled_same _ _ _ b _ left
      (λ n. ap₂ (λ (t e : Answer). need (non_empty ks) 5 ▸ t ▸ e ▸ need (room_for (apply_rollbacks s ks left)) 11) (rollback-terms txn s up) (checks.rollbacks txn s ks up)
      ∙ after_same (need (non_empty ks) 5) _ _ (λ x. after_same (rollback_terms_step floor txn s) _ _ (λ y. but-room (rollback_keys txn s b ks) _ _ (λ z. rollback-room s ks up a))) n)

  commit-call : (h : CommitTerms) (ks : List Key) → f < h.start → (commit_all f h ks left).answer ≡ (commit_all floor h ks b).answer
  unfolding commit_all commit_steps
  commit-call h ks up =
      settle-answer _ _ left
      ∙ ap (λ (t : Answer). need (non_empty ks) 5 ▸ t ▸ commit_keys h left ks) (commit-terms h up)
      ∙ ap (λ (e : Answer). need (non_empty ks) 5 ▸ e) (then_same (commit_terms_step floor h) (commit_keys h b ks) (commit_keys h left ks) (λ z. checks.commits h ks up (above-commit h up z)))
      ∙ sym (settle-answer _ _ b)

  commit-batch : (o : Option (List Key)) (h : CommitTerms) → f < h.start → (of_batch o (commit_all f h) left).answer ≡ (of_batch o (commit_all floor h) b).answer
  unfolding of_batch
  commit-batch none h up = refl
  commit-batch (some ks) h up = commit-call h ks up

  -- after its arguments a one-step batch is applied already, or now
  step-applied : (t : Bool) (h : CommitTerms) (ms : List Mutation) → f < h.start → f < h.commit → ascend key_inside ms ≡ true → SameUnless11 (step_applied t h ms b).answer (step_applied t h ms left).answer
  unfolding step_applied step_new
  step-applied true h ms up top a = λ n. refl
  step-applied false h ms up top a =
      settled_same _ _ _ b _ left
      (λ n. ap₂ (λ (t : Bool) (e : Answer). need (not t) 9 ▸ e ▸ newest_step h left ms ▸ need (room_for (apply_steps h ms left)) 11) (checks.step_some h ms up top) (checks.step-entries h ms up)
      ∙ ap (λ (e : Answer). need (not (some_applied h b ms)) 9 ▸ step_entries h b ms ▸ e ▸ need (room_for (apply_steps h ms left)) 11) (checks.step_newest h ms top)
      ∙ after_same (need (not (some_applied h b ms)) 9) _ _ (λ w. after_same (step_entries h b ms) _ _ (λ x. but-room (newest_step h b ms) _ _ (λ y. step_room h ms up top a x y))) n)

  step-arguments : (h : CommitTerms) (ms : List Mutation) → f < h.start → step_arguments f h ms left ≡ step_arguments floor h ms b
  unfolding step_arguments
  step-arguments h ms up =
      ap (λ (t : Answer). t ▸ arguments_step ms ▸ need (none_other h left ms) 9) (commit-terms h up)
      ∙ then_same (commit_terms_step floor h) _ _ (λ z. then-right-of (checks.step-arguments floor h ms up (above-commit h up z)) z)
    where
      then-right-of : step_arguments floor h ms left ≡ step_arguments floor h ms b → commit_terms_step floor h ≡ Accepted → arguments_step ms ▸ need (none_other h left ms) 9 ≡ arguments_step ms ▸ need (none_other h b ms) 9
      then-right-of e z = sym (cancel (commit_terms_step floor h) _ z) ∙ e ∙ cancel (commit_terms_step floor h) _ z

  step_call : (h : CommitTerms) (ms : List Mutation) → f < h.start → ascend key_inside ms ≡ true → SameUnless11 (step_done floor h ms b).answer (step_done f h ms left).answer
  unfolding step_done
  step_call h ms up a n =
      then-answer _ left _ ∙ ap (λ (t : Answer). t ▸ (step_applied (all_applied h left ms) h ms left).answer) (step-arguments h ms up)
      ∙ after_same (step_arguments floor h ms b) _ _ (λ y. applied (top y)) (λ q. n (then-answer _ b _ ∙ q)) ∙ sym (then-answer _ b _)
    where
      top : step_arguments floor h ms b ≡ Accepted → f < h.commit
      top y = above-commit h up (terms-of floor h ms b y)

      applied : f < h.commit → SameUnless11 (step_applied (all_applied h b ms) h ms b).answer (step_applied (all_applied h left ms) h ms left).answer
      applied t m = ap (λ (u : Bool). (step_applied u h ms left).answer) (checks.step-all h ms up t) ∙ step-applied (all_applied h b ms) h ms up t a m

  step-batch : (q : Option (List Mutation)) (h : CommitTerms) → ((ms : List Mutation) → q ≡ some ms → ascend key_inside ms ≡ true) → f < h.start
      → SameUnless11 (of_counted q (step_all floor h) b).done.answer (of_counted q (step_all f h) left).done.answer
  unfolding of_counted step_all
  step-batch none h a up n = refl
  step-batch (some ms) h a up n = step_call h ms up (a ms refl) n

  pub calls-as-before : CallsAsBefore f floor b
  unfolding prewrite_batch commit_batch rollback_batch one_step
  calls-as-before = record {
    prewrites = λ h s up. batch-same (mutations s) (prewrite_all floor h) (prewrite_all f h) b left (λ ms e. prewrite-call h ms up (mutations-ascend s ms e));
    commits = λ h s up. commit-batch (keys s) h up;
    rollbacks = λ txn start s up. batch-same (keys s) (rollback_all floor txn start) (rollback_all f txn start) b left (λ ks e. rollback-call txn start ks up (keys-ascend s ks e));
    one_steps = λ h s up. step-batch (mutations s) h (λ ms e. mutations-ascend s ms e) up;
  }
