-- Every changing call, refused or not: a box in order stays in order, and a box that has room keeps to it.
-- Assumes nothing.
use Prim.Native.Nat.{ℕ}
use mathlib.Core.Path.{◌≡◌, refl}
use mathlib.Core.Bool.{Bool, true, false, not}
use mathlib.Core.List.{List}
use mathlib.Core.Option.{Option, none, some}
use Rattle.forms.specs.Bytes.{Bytes}
use Rattle.forms.specs.Key.{Key}
use Rattle.forms.specs.Batch.{Mutation, mutations, keys}
use Rattle.rules.specs.Answers.{Accepted, ◌▸◌, need}
use Rattle.rules.specs.Box.{Box, fresh}
use Rattle.rules.specs.Room.{room_for, fits, load_of, sum_of}
use Rattle.rules.specs.Calls.{non_empty}
use Rattle.rules.specs.Prewrite.{PrewriteTerms, prewrite_terms_step, prewrite_entries, prewrite_room, prewrite_steps, apply_prewrites, prewrite_all, prewrite_batch}
use Rattle.rules.specs.declared.terms.CommitTerms.{CommitTerms}
use Rattle.rules.specs.Commit.{commit_steps, apply_commits, commit_all, commit_batch}
use Rattle.rules.specs.Rollback.{rollback_terms_step, rollback_keys, rollback_room, rollback_steps, apply_rollbacks, rollback_all, rollback_batch}
use Rattle.rules.specs.OneStep.{step_entries, newest_step, step_new, apply_steps, step_applied, step_arguments, all_applied, some_applied, step_done, step_all, one_step, of_counted}
use Rattle.laws.proofs.StepLaws.{then-left, then-right, need-true}
use Rattle.laws.proofs.SettleLaws.{settle-keeps, of_batch-keeps, then_keeps}
use Rattle.laws.proofs.CommitLaws.{commits-room}

abbrev HasRoom : Box → Type 0
HasRoom b = room_for b ≡ true

-- ---- a fresh box

pub fresh-room : room_for fresh ≡ true
unfolding room_for fits load_of sum_of fresh
fresh-room = refl

-- ---- what the steps of a call say where they pass

pub prewrite-steps : (floor : ℕ) (h : PrewriteTerms) (ms : List Mutation) (b : Box) → prewrite_steps floor h ms b ≡ Accepted → (prewrite_terms_step floor h ≡ Accepted) × (prewrite_entries h b ms ≡ Accepted) × (room_for (apply_prewrites h ms b) ≡ true)
unfolding prewrite_steps prewrite_room
prewrite-steps floor h ms b p =
    let q = then-right (prewrite_terms_step floor h) _ p in
    (then-left _ _ p, then-left _ _ q, need-true _ _ (then-right (prewrite_entries h b ms) _ q))

pub rollback-steps : (floor txn start : ℕ) (ks : List Key) (b : Box) → rollback_steps floor txn start ks b ≡ Accepted → (rollback_terms_step floor txn start ≡ Accepted) × (rollback_keys txn start b ks ≡ Accepted) × (room_for (apply_rollbacks start ks b) ≡ true)
unfolding rollback_steps rollback_room
rollback-steps floor txn start ks b p =
    let q = then-right (rollback_terms_step floor txn start) _ p in
    (then-left _ _ p, then-left _ _ q, need-true _ _ (then-right (rollback_keys txn start b ks) _ q))

pub step-new : (h : CommitTerms) (ms : List Mutation) (b : Box) → step_new h ms b ≡ Accepted → (step_entries h b ms ≡ Accepted) × (newest_step h b ms ≡ Accepted) × (room_for (apply_steps h ms b) ≡ true)
unfolding step_new
step-new h ms b p =
    let q = then-right (step_entries h b ms) _ p in
    (then-left _ _ p, then-left _ _ q, need-true _ _ (then-right (newest_step h b ms) _ q))

-- ---- the order

-- what holds of the box before the call, and of the box of a first application, holds after a one-step call
pub step_done-keeps : (P : Box → Type 0) (floor : ℕ) (h : CommitTerms) (ms : List Mutation) (b : Box) → P b → (step_arguments floor h ms b ≡ Accepted → step_new h ms b ≡ Accepted → P (apply_steps h ms b)) → P (step_done floor h ms b).box
unfolding step_done step_applied
step_done-keeps P floor h ms b p q = then_keeps P (step_arguments floor h ms b) b (step_applied (all_applied h b ms) h ms b) p (λ a. go a (all_applied h b ms))
  where
    go : step_arguments floor h ms b ≡ Accepted → (t : Bool) → P (step_applied t h ms b).box
    go a true = p
    go a false = settle-keeps P (need (not (some_applied h b ms)) 9 ▸ step_new h ms b) (apply_steps h ms b) b p (λ r. q a (then-right (need (not (some_applied h b ms)) 9) _ r))

pub one_step-keeps : (P : Box → Type 0) (floor : ℕ) (h : CommitTerms) (s : Bytes) (b : Box) → P b → ((ms : List Mutation) → mutations s ≡ some ms → P (step_done floor h ms b).box) → P (one_step floor h s b).done.box
unfolding one_step of_counted step_all
one_step-keeps P floor h s b p q = go (mutations s) refl
  where
    go : (o : Option (List Mutation)) → mutations s ≡ o → P (of_counted o (step_all floor h) b).done.box
    go none e = p
    go (some ms) e = q ms e

-- ---- the room

pub prewrite_all-room : (floor : ℕ) (h : PrewriteTerms) (ms : List Mutation) (b : Box) → room_for b ≡ true → room_for (prewrite_all floor h ms b).box ≡ true
unfolding prewrite_all
prewrite_all-room floor h ms b r = settle-keeps HasRoom (need (non_empty ms) 5 ▸ prewrite_steps floor h ms b) (apply_prewrites h ms b) b r (λ p. (prewrite-steps floor h ms b (then-right (need (non_empty ms) 5) _ p)).2)

pub prewrite_batch-room : (floor : ℕ) (h : PrewriteTerms) (s : Bytes) (b : Box) → room_for b ≡ true → room_for (prewrite_batch floor h s b).box ≡ true
unfolding prewrite_batch
prewrite_batch-room floor h s b r = of_batch-keeps HasRoom (mutations s) (prewrite_all floor h) b r (λ ms e. prewrite_all-room floor h ms b r)

pub commit_all-room : (floor : ℕ) (h : CommitTerms) (ks : List Key) (b : Box) → room_for b ≡ true → room_for (commit_all floor h ks b).box ≡ true
unfolding commit_all
commit_all-room floor h ks b r = settle-keeps HasRoom (need (non_empty ks) 5 ▸ commit_steps floor h ks b) (apply_commits h ks b) b r (λ p. commits-room h ks b r)

pub commit_batch-room : (floor : ℕ) (h : CommitTerms) (s : Bytes) (b : Box) → room_for b ≡ true → room_for (commit_batch floor h s b).box ≡ true
unfolding commit_batch
commit_batch-room floor h s b r = of_batch-keeps HasRoom (keys s) (commit_all floor h) b r (λ ks e. commit_all-room floor h ks b r)

module _ (floor txn start : ℕ) where
  pub rollback_all-room : (ks : List Key) (b : Box) → room_for b ≡ true → room_for (rollback_all floor txn start ks b).box ≡ true
  unfolding rollback_all
  rollback_all-room ks b r = settle-keeps HasRoom (need (non_empty ks) 5 ▸ rollback_steps floor txn start ks b) (apply_rollbacks start ks b) b r (λ p. (rollback-steps floor txn start ks b (then-right (need (non_empty ks) 5) _ p)).2)

  pub rollback_batch-room : (s : Bytes) (b : Box) → room_for b ≡ true → room_for (rollback_batch floor txn start s b).box ≡ true
  unfolding rollback_batch
  rollback_batch-room s b r = of_batch-keeps HasRoom (keys s) (rollback_all floor txn start) b r (λ ks e. rollback_all-room ks b r)

pub one_step-room : (floor : ℕ) (h : CommitTerms) (s : Bytes) (b : Box) → room_for b ≡ true → room_for (one_step floor h s b).done.box ≡ true
one_step-room floor h s b r = one_step-keeps HasRoom floor h s b r (λ ms e. step_done-keeps HasRoom floor h ms b r (λ v p. (step-new h ms b p).2))
