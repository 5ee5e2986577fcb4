-- "A refusal changes nothing in store or buffers": one law over `settle`, and a line for each changing call. What holds of the box as it
-- came, and of the box that the accepted call makes, holds of the box after the call.
-- Assumes nothing.
use Prim.Native.Nat.{ℕ}
use mathlib.Core.Path.{◌≡◌, refl, ap, ◌∙◌}
use mathlib.Core.Bool.{Bool, true, false, not}
use mathlib.Core.List.{List}
use mathlib.Core.Option.{Option, none, some}
use lib.ListN.{length}
use Rattle.forms.specs.Bytes.{Bytes}
use Rattle.forms.specs.Key.{Key}
use Rattle.forms.specs.Batch.{Mutation, mutations, keys}
use Rattle.rules.specs.Answers.{Answer, Accepted, No, Held, ◌▸◌, need}
use Rattle.rules.specs.Box.{Box}
use Rattle.rules.specs.Calls.{Done, settle, State, settle_state, of_batch, non_empty}
use Rattle.rules.specs.Prewrite.{PrewriteTerms, prewrite_all, prewrite_batch, prewrite_steps, apply_prewrites}
use Rattle.rules.specs.declared.terms.CommitTerms.{CommitTerms}
use Rattle.rules.specs.Commit.{commit_all, commit_batch, commit_steps, apply_commits}
use Rattle.rules.specs.Rollback.{rollback_all, rollback_batch, rollback_steps, apply_rollbacks}
use Rattle.rules.specs.OneStep.{one_step, step_all, step_done, step_applied, then_applied, of_counted, count_if, step_arguments, all_applied, some_applied, step_new, apply_steps}

-- ---- settle, of_batch, if_passed

pub settle-answer : (a : Answer) (new old : Box) → (settle a new old).answer ≡ a
unfolding settle
settle-answer Accepted new old = refl
settle-answer (No n) new old = refl
settle-answer (Held o) new old = refl

pub settle-new : (a : Answer) (new old : Box) → a ≡ Accepted → settle a new old ≡ record { answer = Accepted; box = new }
unfolding settle
settle-new a new old e = rw e

pub settle-old : (a : Answer) (new old : Box) → (a ≡ Accepted → ⊥) → settle a new old ≡ record { answer = a; box = old }
unfolding settle
settle-old Accepted new old n = absurd (n refl)
settle-old (No m) new old n = refl
settle-old (Held o) new old n = refl

-- the call leaves the box where it refuses
abbrev pub Leaves : Box → Done → Type 0
Leaves b d = (d.answer ≡ Accepted → ⊥) → d.box ≡ b

pub settle-leaves : (a : Answer) (new old : Box) → Leaves old (settle a new old)
settle-leaves a new old n = ap (λ (d : Done). d.box) (settle-old a new old (λ e. n (settle-answer a new old ∙ e)))

pub of_batch-leaves : {A : Type 0} (o : Option (List A)) (call : List A → Box → Done) (b : Box) → ((xs : List A) → Leaves b (call xs b)) → Leaves b (of_batch o call b)
unfolding of_batch
of_batch-leaves none call b h n = refl
of_batch-leaves (some xs) call b h n = h xs n

-- what holds of the old box, and of the new one where the steps passed, holds after the call
pub settle-keeps : (P : Box → Type 0) (a : Answer) (new old : Box) → P old → (a ≡ Accepted → P new) → P (settle a new old).box
unfolding settle
settle-keeps P Accepted new old p q = q refl
settle-keeps P (No n) new old p q = p
settle-keeps P (Held o) new old p q = p

pub of_batch-keeps : {A : Type 0} (P : Box → Type 0) (o : Option (List A)) (call : List A → Box → Done) (b : Box) → P b → ((xs : List A) → o ≡ some xs → P (call xs b).box) → P (of_batch o call b).box
unfolding of_batch
of_batch-keeps P none call b p q = p
of_batch-keeps P (some xs) call b p q = q xs refl

pub of_batch-some : {A : Type 0} (o : Option (List A)) (call : List A → Box → Done) (b : Box) (xs : List A) → o ≡ some xs → of_batch o call b ≡ call xs b
unfolding of_batch
of_batch-some o call b xs e = rw e

pub of_batch-none : {A : Type 0} (o : Option (List A)) (call : List A → Box → Done) (b : Box) → o ≡ none → of_batch o call b ≡ record { answer = No 6; box = b }
unfolding of_batch
of_batch-none o call b e = rw e

-- ---- settle_state, of a call that can change the floor too

pub settle_state-answer : (a : Answer) (new old : State) → (settle_state a new old).answer ≡ a
unfolding settle_state
settle_state-answer Accepted new old = refl
settle_state-answer (No n) new old = refl
settle_state-answer (Held h) new old = refl

pub settle_state-new : {a : Answer} (new old : State) → a ≡ Accepted → (settle_state a new old).state ≡ new
unfolding settle_state
settle_state-new new old e = ap (λ (x : Answer). (settle_state x new old).state) e

pub settle_state-leaves : (a : Answer) (new old : State) → ((settle_state a new old).answer ≡ Accepted → ⊥) → (settle_state a new old).state ≡ old
unfolding settle_state
settle_state-leaves Accepted new old n = absurd (n refl)
settle_state-leaves (No m) new old n = refl
settle_state-leaves (Held o) new old n = refl

pub settle_state-keeps : (P : State → Type 0) (a : Answer) (new old : State) → P old → (a ≡ Accepted → P new) → P (settle_state a new old).state
unfolding settle_state
settle_state-keeps P Accepted new old p q = q refl
settle_state-keeps P (No n) new old p q = p
settle_state-keeps P (Held o) new old p q = p

-- ---- each changing call: a refusal leaves the box

pub prewrite_all-leaves : (floor : ℕ) (h : PrewriteTerms) (ms : List Mutation) (b : Box) → Leaves b (prewrite_all floor h ms b)
unfolding prewrite_all
prewrite_all-leaves floor h ms b = settle-leaves (need (non_empty ms) 5 ▸ prewrite_steps floor h ms b) (apply_prewrites h ms b) b

pub prewrite_batch-leaves : (floor : ℕ) (h : PrewriteTerms) (s : Bytes) (b : Box) → Leaves b (prewrite_batch floor h s b)
unfolding prewrite_batch
prewrite_batch-leaves floor h s b = of_batch-leaves (mutations s) (prewrite_all floor h) b (λ ms. prewrite_all-leaves floor h ms b)

pub commit_all-leaves : (floor : ℕ) (h : CommitTerms) (ks : List Key) (b : Box) → Leaves b (commit_all floor h ks b)
unfolding commit_all
commit_all-leaves floor h ks b = settle-leaves (need (non_empty ks) 5 ▸ commit_steps floor h ks b) (apply_commits h ks b) b

pub commit_batch-leaves : (floor : ℕ) (h : CommitTerms) (s : Bytes) (b : Box) → Leaves b (commit_batch floor h s b)
unfolding commit_batch
commit_batch-leaves floor h s b = of_batch-leaves (keys s) (commit_all floor h) b (λ ks. commit_all-leaves floor h ks b)

module _ (floor txn start : ℕ) where
  pub rollback_all-leaves : (ks : List Key) (b : Box) → Leaves b (rollback_all floor txn start ks b)
  unfolding rollback_all
  rollback_all-leaves ks b = settle-leaves (need (non_empty ks) 5 ▸ rollback_steps floor txn start ks b) (apply_rollbacks start ks b) b

  pub rollback_batch-leaves : (s : Bytes) (b : Box) → Leaves b (rollback_batch floor txn start s b)
  unfolding rollback_batch
  rollback_batch-leaves s b = of_batch-leaves (keys s) (rollback_all floor txn start) b (λ ks. rollback_all-leaves ks b)

-- ---- one-step: arguments first, then all applied or not

pub then-leaves : (a : Answer) (b : Box) (d : Done) → Leaves b d → Leaves b (then_applied a b d)
unfolding then_applied
then-leaves Accepted b d h = h
then-leaves (No n) b d h = λ _. refl
then-leaves (Held o) b d h = λ _. refl

pub then_keeps : (P : Box → Type 0) (a : Answer) (b : Box) (d : Done) → P b → (a ≡ Accepted → P d.box) → P (then_applied a b d).box
unfolding then_applied
then_keeps P Accepted b d p q = q refl
then_keeps P (No n) b d p q = p
then_keeps P (Held o) b d p q = p

module _ (floor : ℕ) (h : CommitTerms) (ms : List Mutation) (b : Box) where
  applied-leaves : (t : Bool) → Leaves b (step_applied t h ms b)
  unfolding step_applied
  applied-leaves true = λ n. refl
  applied-leaves false = settle-leaves (need (not (some_applied h b ms)) 9 ▸ step_new h ms b) (apply_steps h ms b) b

  pub step_done-leaves : Leaves b (step_done floor h ms b)
  unfolding step_done
  step_done-leaves = then-leaves (step_arguments floor h ms b) b (step_applied (all_applied h b ms) h ms b) (applied-leaves (all_applied h b ms))

pub one_step-leaves : (floor : ℕ) (h : CommitTerms) (s : Bytes) (b : Box) → Leaves b (one_step floor h s b).done
unfolding one_step of_counted step_all
one_step-leaves floor h s b = go (mutations s)
  where
    go : (o : Option (List Mutation)) → Leaves b (of_counted o (step_all floor h) b).done
    go none = λ n. refl
    go (some ms) = step_done-leaves floor h ms b

-- "a refusal's counts are 0", "The count is the number of entries"
refused-zero : (a : Answer) (n : ℕ) → (a ≡ Accepted → ⊥) → count_if a n ≡ 0
unfolding count_if
refused-zero Accepted n r = absurd (r refl)
refused-zero (No m) n r = refl
refused-zero (Held o) n r = refl

pub one_step-refused : (floor : ℕ) (h : CommitTerms) (s : Bytes) (b : Box) → ((one_step floor h s b).done.answer ≡ Accepted → ⊥) → (one_step floor h s b).count ≡ 0
unfolding one_step of_counted step_all
one_step-refused floor h s b = go (mutations s)
  where
    go : (o : Option (List Mutation)) → ((of_counted o (step_all floor h) b).done.answer ≡ Accepted → ⊥) → (of_counted o (step_all floor h) b).count ≡ 0
    go none r = refl
    go (some ms) r = refused-zero (step_done floor h ms b).answer (length ms) r
