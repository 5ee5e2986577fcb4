-- What holds of a box and its log, from an empty store or another on, after any sequence of calls, follows from what each entry does: one law
-- for every such claim. An entry finds the box as the entries before it left it; what it was allowed on the box as the call found it, it is allowed
-- then. A collection is a call of its own: it comes on a floor that is not lower, with every lock above it. Assumes nothing.
use Prim.Native.Nat.{ℕ, ◌≤◌}
use mathlib.Core.Path.{◌≡◌, refl, sym, subst}
use mathlib.Core.Bool.{Bool, true, false}
use mathlib.Core.List.{List, [], ◌∷◌}
use mathlib.Core.Option.{Option, none, some}
use borrow.Author.Tests.{leb-true}
use Rattle.forms.specs.Bytes.{Bytes}
use Rattle.forms.specs.Key.{Key, key_form}
use Rattle.forms.specs.Batch.{Mutation, key_inside, ascend, mutations, keys}
use Rattle.rules.specs.Answers.{Answer, Accepted, No, Held}
use Rattle.rules.specs.Box.{Box, fresh}
use Rattle.rules.specs.Calls.{Done, settle, settle_state, of_batch, row_argument}
use Rattle.rules.specs.Prewrite.{PrewriteTerms, prewrite_terms_step, prewrite_all, prewrite_batch, prewrite_steps, prewrite_entry, prewrite_entries, apply_prewrite, apply_prewrites}
use Rattle.rules.specs.declared.terms.CommitTerms.{CommitTerms}
use Rattle.rules.specs.Commit.{commit_terms_step, commit_all, commit_batch, commit_steps, commit_key, commit_keys, apply_commit, apply_commits}
use Rattle.rules.specs.Rollback.{rollback_terms_step, rollback_all, rollback_batch, rollback_steps, rollback_key, rollback_keys, apply_rollback, apply_rollbacks}
use Rattle.rules.specs.OneStep.{one_step, of_counted, step_all, step_done, step_arguments, arguments_step, step_applied, step_new, apply_step, apply_steps, then_applied, all_applied, applied_in, is_already}
use Rattle.laws.proofs.StepLaws.{then-left, then-right, need-true, and_left, and_right}
use Rattle.laws.proofs.FrameLaws.{ascend-rest, mutations-ascend, keys-ascend}
use Rattle.laws.proofs.BatchLaws.{check_all}
use Rattle.laws.proofs.PrewriteLaws.{prewrite-still}
use Rattle.laws.proofs.CommitLaws.{commit-still}
use Rattle.laws.proofs.RollbackLaws.{rollback-still}
use Rattle.laws.proofs.OneStepLaws.{step_check, steps-check, step-still}
use Rattle.rules.specs.Collect.{collected, locks_above_step, collect_steps, collect}
use Rattle.rules.specs.Call.{Changing, perform}
use Rattle.ledger.specs.Ledger.{Named, of_mutation, of_key, entries_in, each_named, named_by, dropped_by, onto, logged, Past, then, after, empty}

-- a claim that every accepted entry keeps, on one floor
pub record Entries (floor : ℕ) (P : Box → List Named → Type 0) : Type 0 where
  pub prewritten : (h : PrewriteTerms) (m : Mutation) (b : Box) (log : List Named) → prewrite_terms_step floor h ≡ Accepted → prewrite_entry h b m ≡ Accepted → P b log → P (apply_prewrite h m b) (of_mutation h.start m ∷ log)
  pub committed : (h : CommitTerms) (k : Key) (b : Box) (log : List Named) → commit_terms_step floor h ≡ Accepted → commit_key h b k ≡ Accepted → P b log → P (apply_commit h k b) (of_key h.start k ∷ log)
  pub rolled-back : (txn s : ℕ) (k : Key) (b : Box) (log : List Named) → rollback_terms_step floor txn s ≡ Accepted → rollback_key txn s b k ≡ Accepted → P b log → P (apply_rollback s k b) (of_key s k ∷ log)
  pub stepped : (h : CommitTerms) (m : Mutation) (b : Box) (log : List Named) → commit_terms_step floor h ≡ Accepted → key_form m.key ≡ true → row_argument m.row ≡ true → step_check h b m ≡ Accepted → P b log
      → P (apply_step h m b) (of_mutation h.start m ∷ log)
  pub applied_before : (h : CommitTerms) (m : Mutation) (b : Box) (log : List Named) → commit_terms_step floor h ≡ Accepted → is_already (applied_in h b m) ≡ true → P b log → P b (of_mutation h.start m ∷ log)

module _ (floor : ℕ) (P : Box → List Named → Type 0) (kept : Entries floor P) where
  -- ---- a batch, entry by entry

  prewrites : (h : PrewriteTerms) (ms : List Mutation) (b : Box) (log : List Named) → prewrite_terms_step floor h ≡ Accepted → ascend key_inside ms ≡ true → prewrite_entries h b ms ≡ Accepted → P b log
      → P (apply_prewrites h ms b) (onto (each_named (of_mutation h.start) ms) log)
  unfolding prewrite_entries apply_prewrites each_named onto
  prewrites h [] b log z a p v = v
  prewrites h (m ∷ ms) b log z a p v =
      prewrites h ms (apply_prewrite h m b) (of_mutation h.start m ∷ log) z (ascend-rest key_inside m ms a) (prewrite-still h m ms b a p)
      (kept.prewritten h m b log z (then-left _ _ p) v)

  commits : (h : CommitTerms) (ks : List Key) (b : Box) (log : List Named) → commit_terms_step floor h ≡ Accepted → ascend (λ k. k) ks ≡ true → commit_keys h b ks ≡ Accepted → P b log
      → P (apply_commits h ks b) (onto (each_named (of_key h.start) ks) log)
  unfolding commit_keys apply_commits each_named onto
  commits h [] b log z a p v = v
  commits h (k ∷ ks) b log z a p v =
      commits h ks (apply_commit h k b) (of_key h.start k ∷ log) z (ascend-rest (λ k. k) k ks a) (commit-still h k ks b a p)
      (kept.committed h k b log z (then-left _ _ p) v)

  rollbacks : (txn s : ℕ) (ks : List Key) (b : Box) (log : List Named) → rollback_terms_step floor txn s ≡ Accepted → ascend (λ k. k) ks ≡ true → rollback_keys txn s b ks ≡ Accepted → P b log
      → P (apply_rollbacks s ks b) (onto (each_named (of_key s) ks) log)
  unfolding rollback_keys apply_rollbacks each_named onto
  rollbacks txn s [] b log z a p v = v
  rollbacks txn s (k ∷ ks) b log z a p v =
      rollbacks txn s ks (apply_rollback s k b) (of_key s k ∷ log) z (ascend-rest (λ k. k) k ks a) (rollback-still txn s k ks b a p)
      (kept.rolled-back txn s k b log z (then-left _ _ p) v)

  steps : (h : CommitTerms) (ms : List Mutation) (b : Box) (log : List Named) → commit_terms_step floor h ≡ Accepted → ascend key_inside ms ≡ true → arguments_step ms ≡ Accepted → check_all (step_check h) b ms ≡ Accepted → P b log
      → P (apply_steps h ms b) (onto (each_named (of_mutation h.start) ms) log)
  unfolding arguments_step check_all apply_steps each_named onto
  steps h [] b log z a f p v = v
  steps h (m ∷ ms) b log z a f p v =
      steps h ms (apply_step h m b) (of_mutation h.start m ∷ log) z (ascend-rest key_inside m ms a) (then-right _ _ (then-right _ _ f)) (step-still h m ms b a p)
      (kept.stepped h m b log z (need-true _ _ (then-left _ _ f)) (need-true _ _ (then-left _ _ (then-right _ _ f))) (then-left _ _ p) v)

  -- a batch that is applied already
  agains : (h : CommitTerms) (ms : List Mutation) (b : Box) (log : List Named) → commit_terms_step floor h ≡ Accepted → all_applied h b ms ≡ true → P b log → P b (onto (each_named (of_mutation h.start) ms) log)
  unfolding all_applied each_named onto
  agains h [] b log z p v = v
  agains h (m ∷ ms) b log z p v =
      agains h ms b (of_mutation h.start m ∷ log) z (and_right (is_already (applied_in h b m)) _ p) (kept.applied_before h m b log z (and_left _ _ p) v)

  -- ---- a call: its box, and the log with its entries if it is accepted

  abbrev Kept : Done → List Named → List Named → Type 0
  Kept d ns log = P d.box (logged d.answer ns log)

  settle-kept : (a : Answer) (new old : Box) (ns log : List Named) → (a ≡ Accepted → P new (onto ns log)) → P old log → Kept (settle a new old) ns log
  unfolding settle logged
  settle-kept Accepted new old ns log h v = h refl
  settle-kept (No n) new old ns log h v = v
  settle-kept (Held o) new old ns log h v = v

  -- a batch in form, or 6
  batch-kept : {A : Type 0} (f : A → Named) (o : Option (List A)) (call : List A → Box → Done) (b : Box) (log : List Named)
      → ((xs : List A) → o ≡ some xs → Kept (call xs b) (each_named f xs) log) → P b log → Kept (of_batch o call b) (each_named f (entries_in o)) log
  unfolding of_batch entries_in logged
  batch-kept f none call b log h v = v
  batch-kept f (some xs) call b log h v = h xs refl

  module _ (b : Box) (log : List Named) (v : P b log) where
    prewrite_all-kept : (h : PrewriteTerms) (ms : List Mutation) → ascend key_inside ms ≡ true → Kept (prewrite_all floor h ms b) (each_named (of_mutation h.start) ms) log
    unfolding prewrite_all prewrite_steps
    prewrite_all-kept h ms a =
        settle-kept _ _ b _ log (λ p. prewrites h ms b log (then-left _ _ (then-right _ _ p)) a (then-left _ _ (then-right _ _ (then-right _ _ p))) v) v

    commit_all-kept : (h : CommitTerms) (ks : List Key) → ascend (λ k. k) ks ≡ true → Kept (commit_all floor h ks b) (each_named (of_key h.start) ks) log
    unfolding commit_all commit_steps
    commit_all-kept h ks a = settle-kept _ _ b _ log (λ p. commits h ks b log (then-left _ _ (then-right _ _ p)) a (then-right _ _ (then-right _ _ p)) v) v

    rollback_all-kept : (txn s : ℕ) (ks : List Key) → ascend (λ k. k) ks ≡ true → Kept (rollback_all floor txn s ks b) (each_named (of_key s) ks) log
    unfolding rollback_all rollback_steps
    rollback_all-kept txn s ks a =
        settle-kept _ _ b _ log (λ p. rollbacks txn s ks b log (then-left _ _ (then-right _ _ p)) a (then-left _ _ (then-right _ _ (then-right _ _ p))) v) v

    -- one-step: all applied before, or none
    applied-kept : (t : Bool) (h : CommitTerms) (ms : List Mutation) → all_applied h b ms ≡ t → ascend key_inside ms ≡ true → commit_terms_step floor h ≡ Accepted → arguments_step ms ≡ Accepted
        → Kept (step_applied t h ms b) (each_named (of_mutation h.start) ms) log
    unfolding step_applied step_new logged
    applied-kept true h ms e a z f = agains h ms b log z e v
    applied-kept false h ms e a z f = settle-kept _ _ b _ log (λ p. steps h ms b log z a f (steps-check h b ms (then-left _ _ (then-right _ _ p)) (then-left _ _ (then-right _ _ (then-right _ _ p)))) v) v

    arguments-kept : (a : Answer) (d : Done) (ns : List Named) → (a ≡ Accepted → Kept d ns log) → Kept (then_applied a b d) ns log
    unfolding then_applied logged
    arguments-kept Accepted d ns h = h refl
    arguments-kept (No n) d ns h = v
    arguments-kept (Held o) d ns h = v

    step_kept : (h : CommitTerms) (o : Option (List Mutation)) → ((ms : List Mutation) → o ≡ some ms → ascend key_inside ms ≡ true)
        → Kept (of_counted o (step_all floor h) b).done (each_named (of_mutation h.start) (entries_in o)) log
    unfolding of_counted step_all step_done step_arguments entries_in logged
    step_kept h none a = v
    step_kept h (some ms) a =
        arguments-kept _ _ _ (λ p. applied-kept (all_applied h b ms) h ms refl (a ms refl) (then-left _ _ p) (then-left _ _ (then-right _ _ p)))

    pub prewrite-kept : (h : PrewriteTerms) (s : Bytes) → Kept (prewrite_batch floor h s b) (each_named (of_mutation h.start) (entries_in (mutations s))) log
    unfolding prewrite_batch
    prewrite-kept h s = batch-kept _ (mutations s) (prewrite_all floor h) b log (λ ms e. prewrite_all-kept h ms (mutations-ascend s ms e)) v

    pub commit-kept : (h : CommitTerms) (s : Bytes) → Kept (commit_batch floor h s b) (each_named (of_key h.start) (entries_in (keys s))) log
    unfolding commit_batch
    commit-kept h s = batch-kept _ (keys s) (commit_all floor h) b log (λ ks e. commit_all-kept h ks (keys-ascend s ks e)) v

    pub rollback-kept : (txn start : ℕ) (s : Bytes) → Kept (rollback_batch floor txn start s b) (each_named (of_key start) (entries_in (keys s))) log
    unfolding rollback_batch
    rollback-kept txn start s = batch-kept _ (keys s) (rollback_all floor txn start) b log (λ ks e. rollback_all-kept txn start ks (keys-ascend s ks e)) v

    pub one_step-kept : (h : CommitTerms) (s : Bytes) → Kept (one_step floor h s b).done (each_named (of_mutation h.start) (entries_in (mutations s))) log
    unfolding one_step
    one_step-kept h s = step_kept h (mutations s) (λ ms e. mutations-ascend s ms e)

-- ---- every call

-- a claim on floor, dropped names, box and log that every accepted entry keeps on its floor, and every accepted collection
pub record Inductive (P : ℕ → List Named → Box → List Named → Type 0) : Type 0 where
  pub at_first : P 0 [] fresh []
  pub entries : (f : ℕ) (ds : List Named) → Entries f (P f ds)
  pub collects : (f g : ℕ) (ds : List Named) (b : Box) (log : List Named) → f ≤ g → locks_above_step g b.lines ≡ Accepted → P f ds b log
      → P g (onto (dropped_by (Changing.Collect g) b) ds) (collected g b) log

-- a call that drops nothing
unlogged : (a : Answer) (ds : List Named) → logged a [] ds ≡ ds
unfolding logged onto
unlogged Accepted ds = refl
unlogged (No n) ds = refl
unlogged (Held h) ds = refl

module _ (P : ℕ → List Named → Box → List Named → Type 0) (kept : Inductive P) where
  abbrev pub Of : Past → Type 0
  Of p = P p.floor p.dropped p.box p.log

  -- an accepted collection, or a refused one
  settled : (a : Answer) (g f : ℕ) (c b : Box) (names ds log : List Named) → (a ≡ Accepted → P g (onto names ds) c log) → P f ds b log
      → let e = settle_state a (record { box = c; floor = g }) (record { box = b; floor = f }) in P e.state.floor (logged e.answer names ds) e.state.box (logged e.answer [] log)
  unfolding settle_state logged onto
  settled Accepted g f c b names ds log h v = h refl
  settled (No n) g f c b names ds log h v = v
  settled (Held o) g f c b names ds log h v = v

  unmoved : (f : ℕ) (a : Answer) (ds : List Named) (b : Box) (log : List Named) → P f ds b log → P f (logged a [] ds) b log
  unmoved f a ds b log v = subst (λ (es : List Named). P f es b log) (sym (unlogged a ds)) v

  pub then-kept : (c : Changing) (p : Past) → Of p → Of (then c p)
  unfolding then perform named_by dropped_by collect collect_steps
  then-kept (Changing.Prewrite h s) p v =
      unmoved p.floor _ p.dropped _ _ (prewrite-kept p.floor (P p.floor p.dropped) (kept.entries p.floor p.dropped) p.box p.log v h s)
  then-kept (Changing.Commit h s) p v =
      unmoved p.floor _ p.dropped _ _ (commit-kept p.floor (P p.floor p.dropped) (kept.entries p.floor p.dropped) p.box p.log v h s)
  then-kept (Changing.Rollback txn start s) p v =
      unmoved p.floor _ p.dropped _ _ (rollback-kept p.floor (P p.floor p.dropped) (kept.entries p.floor p.dropped) p.box p.log v txn start s)
  then-kept (Changing.OneStep h s) p v =
      unmoved p.floor _ p.dropped _ _ (one_step-kept p.floor (P p.floor p.dropped) (kept.entries p.floor p.dropped) p.box p.log v h s)
  then-kept (Changing.Collect g) p v =
      settled _ g p.floor (collected g p.box) p.box _ p.dropped p.log
      (λ q. kept.collects p.floor g p.dropped p.box p.log (leb-true p.floor g (need-true _ _ (then-left _ _ q))) (then-right _ _ q) v) v

  -- ---- every sequence

  pub after_kept : (cs : List Changing) (p : Past) → Of p → Of (after cs p)
  unfolding after
  after_kept [] p v = v
  after_kept (c ∷ cs) p v = after_kept cs (then c p) (then-kept c p v)

  pub always : (cs : List Changing) → Of (after cs empty)
  unfolding empty
  always cs = after_kept cs empty kept.at_first
