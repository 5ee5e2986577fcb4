-- Document 01: "Single forms, here and below, take the steps without 6 and 5; the kind is Put or Delete, and a Delete's row argument is
-- ignored." Document 02, CR 10: "the single form disappears as a step of its own and is a batch of one. For a key and row that fit the batch's
-- length bytes the answers and states are those of before; a longer key is still 1 and a longer row 2, tested where the single form tested them."
-- For each single form as a step of its own (specs/Singles) the law that its batch of one is the same for every argument: the same answer and the
-- same box. Then where a longer key and a longer row are refused. Assumes nothing.
use Prim.Native.Nat.{ℕ, ◌<◌}
use native.Mathlib.Omega.{arith}
use mathlib.Core.Path.{◌≡◌, refl, sym, ap, ap₂, ◌∙◌}
use mathlib.Core.Bool.{Bool, true, false, ◌&&◌, true≢false}
use mathlib.Core.List.{List, [], ◌∷◌}
use mathlib.Core.Option.{Option, none, some}
use lib.ListN.{length}
use lib.Dec.{leb}
use borrow.Author.Tests.{leb-false, lt-leb, le-leb}
use Rattle.forms.specs.Bytes.{Bytes}
use Rattle.forms.specs.Key.{Key, key_form}
use Rattle.forms.specs.Row.{Row, row_form}
use Rattle.forms.specs.Batch.{Mutation, mutations, keys}
use Rattle.forms.specs.Ones.{fitted, fitted_row, fitted_entry, one_mutation, one_key}
use Rattle.forms.proofs.OneLaws.{fits-stays, long-empty, one-mutation, one_key_lem}
use Rattle.rules.specs.Answers.{Answer, Accepted, No, Held, ◌▸◌, need}
use Rattle.rules.specs.Box.{Box}
use Rattle.rules.specs.Calls.{Done, settle, of_batch, row_argument}
use Rattle.rules.specs.Prewrite.{PrewriteTerms, prewrite_terms_step, prewrite_entry, prewrite_entries, prewrite_room, prewrite_steps, apply_prewrite, apply_prewrites, prewrite_all, prewrite_batch, prewrite}
use Rattle.rules.specs.declared.terms.CommitTerms.{CommitTerms}
use Rattle.rules.specs.Commit.{commit_terms_step, commit_key, commit_keys, commit_steps, apply_commit, apply_commits, commit_all, commit_batch, commit}
use Rattle.rules.specs.Rollback.{rollback_terms_step, rollback_key, rollback_keys, rollback_steps, apply_rollback, apply_rollbacks, rollback_all, rollback_batch, rollback}
pub use Rattle.laws.specs.Singles.{prewrite_alone, commit_alone, rollback_alone}
use Rattle.laws.specs.Singles.{FitsByte, RowFits}
use Rattle.laws.proofs.StepLaws.{then-right, and-false, and-false-right}

-- ---- a key or a row that fits no length byte is out of form, and so is the empty one

empty-key : key_form [] ≡ false
unfolding key_form
empty-key = refl

long-key : (k : Key) → leb (length k) 255 ≡ false → key_form k ≡ false
unfolding key_form
long-key k h =
    let far : 255 < length k = leb-false _ _ h in
    and-false (leb 5 (length k) && leb (length k) 48) _ (and-false-right (leb 5 (length k)) _ (lt-leb (length k) 48 (omega arith)))

empty-row : row_form [] ≡ false
unfolding row_form
empty-row = refl

long-row : (r : Row) → leb (length r) 255 ≡ false → row_form r ≡ false
unfolding row_form
long-row r h = and-false (leb 3 (length r) && leb (length r) 255) _ (and-false-right (leb 3 (length r)) _ h)

-- ---- a refusal, whatever goes before it

abbrev pub refused : Answer → Box → Done
refused a b = record { answer = a; box = b }

ends : (a : Answer) (n : ℕ) (new b : Box) → settle (a ▸ No n) new b ≡ refused (a ▸ No n) b
unfolding settle ◌▸◌
ends Accepted n new b = refl
ends (No m) n new b = refl
ends (Held o) n new b = refl

either : (a : Answer) (t : Bool) (x y : Answer) (new b : Box) → settle (a ▸ ((need t 1 ▸ No 2) ▸ x) ▸ y) new b ≡ refused (a ▸ need t 1 ▸ No 2) b
unfolding need ◌▸◌
either a true x y new b = ends a 2 new b
either a false x y new b = ends a 1 new b

-- ---- an accepted call had nothing to replace

never : (n : ℕ) → No n ≡ Accepted → ⊥
never n e = true≢false (cc)

told : {d : Done} {a : Answer} {b : Box} → d ≡ refused a b → d.answer ≡ Accepted → a ≡ Accepted
told e p = cc

unless-long : (s : Bytes) → (leb (length s) 255 ≡ false → ⊥) → fitted s ≡ s
unless-long s f = go (leb (length s) 255) refl
  where
    go : (t : Bool) → leb (length s) 255 ≡ t → fitted s ≡ s
    go true e = fits-stays s e
    go false e = absurd (f e)

-- ---- the batch of one names its entry, where nothing was replaced

mutation-named : (m : Mutation) → fitted m.key ≡ m.key → fitted_row m.row ≡ m.row → mutations (one_mutation m) ≡ some (m ∷ [])
mutation-named m e f = one-mutation m ∙ ap₂ (λ (k : Key) (o : Option Row). alone (record { key = k; row = o })) e f
  where
    alone : Mutation → Option (List Mutation)
    alone x = some (x ∷ [])

key-named : (k : Key) → fitted k ≡ k → keys (one_key k) ≡ some (k ∷ [])
key-named k e = one_key_lem k ∙ cc e

byte-stays : (s : Bytes) → FitsByte s → fitted s ≡ s
byte-stays s h = fits-stays s (le-leb (length s) 255 h)

-- "For a key and row that fit the batch's length bytes"
pub mutation-fits : (m : Mutation) → FitsByte m.key → RowFits m.row → mutations (one_mutation m) ≡ some (m ∷ [])
mutation-fits m h g = mutation-named m (byte-stays m.key h) (row m.row g)
  where
    row : (o : Option Row) → RowFits o → fitted_row o ≡ o
    row none f = refl
    row (some r) f = ap some (byte-stays r f)

pub key-fits : (k : Key) → FitsByte k → keys (one_key k) ≡ some (k ∷ [])
key-fits k h = key-named k (byte-stays k h)

-- ---- prewrite

module _ (floor : ℕ) (h : PrewriteTerms) (b : Box) where
  key-ends : (m : Mutation) → key_form m.key ≡ false → prewrite_alone floor h m b ≡ refused (prewrite_terms_step floor h ▸ No 1) b
  unfolding prewrite_alone prewrite_steps prewrite_entries prewrite_entry need ◌▸◌
  key-ends m e = rw e (ends (prewrite_terms_step floor h) 1 (apply_prewrite h m b) b)

  row_ends : (m : Mutation) → row_argument m.row ≡ false → prewrite_alone floor h m b ≡ refused (prewrite_terms_step floor h ▸ need (key_form m.key) 1 ▸ No 2) b
  unfolding prewrite_alone prewrite_steps prewrite_entries prewrite_entry need ◌▸◌
  row_ends m e = rw e (either (prewrite_terms_step floor h) (key_form m.key) Accepted (prewrite_room h (m ∷ []) b) (apply_prewrite h m b) b)

  -- a batch of one takes the steps of its entry alone
  pub prewrite-one : (s : Bytes) (m : Mutation) → mutations s ≡ some (m ∷ []) → prewrite_batch floor h s b ≡ prewrite_alone floor h m b
  unfolding prewrite_batch of_batch prewrite_all apply_prewrites prewrite_alone need ◌▸◌
  prewrite-one s m e = ap (λ (o : Option (List Mutation)). of_batch o (prewrite_all floor h) b) e

  prewrite-entry : (m : Mutation) → prewrite floor h m b ≡ prewrite_alone floor h (fitted_entry m) b
  unfolding prewrite
  prewrite-entry m = prewrite-one (one_mutation m) (fitted_entry m) (one-mutation m)

  module _ (k : Key) where
    row_same : (o : Option Row) → prewrite_alone floor h (record { key = k; row = fitted_row o }) b ≡ prewrite_alone floor h (record { key = k; row = o }) b
    row_same none = refl
    row_same (some r) = go (leb (length r) 255) refl
      where
        go : (t : Bool) → leb (length r) 255 ≡ t → prewrite_alone floor h (record { key = k; row = some (fitted r) }) b ≡ prewrite_alone floor h (record { key = k; row = some r }) b
        go true e = rw (fits-stays r e)
        go false e = rw (long-empty r e) (row_ends (record { key = k; row = some [] }) empty-row ∙ sym (row_ends (record { key = k; row = some r }) (long-row r e)))

    key-same : (o : Option Row) → prewrite_alone floor h (record { key = fitted k; row = o }) b ≡ prewrite_alone floor h (record { key = k; row = o }) b
    key-same o = go (leb (length k) 255) refl
      where
        go : (t : Bool) → leb (length k) 255 ≡ t → prewrite_alone floor h (record { key = fitted k; row = o }) b ≡ prewrite_alone floor h (record { key = k; row = o }) b
        go true e = rw (fits-stays k e)
        go false e = rw (long-empty k e) (key-ends (record { key = []; row = o }) empty-key ∙ sym (key-ends (record { key = k; row = o }) (long-key k e)))

  -- "the answers and states are those of before"
  pub prewrite-single : (m : Mutation) → prewrite floor h m b ≡ prewrite_alone floor h m b
  prewrite-single m = prewrite-entry m ∙ row_same (fitted m.key) m.row ∙ key-same m.key m.row

  -- "a longer key is still 1": after 3, the primary and the time to live
  pub prewrite-long-key : (m : Mutation) → leb (length m.key) 255 ≡ false → prewrite floor h m b ≡ refused (prewrite_terms_step floor h ▸ No 1) b
  prewrite-long-key m e = prewrite-single m ∙ key-ends m (long-key m.key e)

  -- "and a longer row 2": after the key's 1, and before 9, 8 and 7
  pub prewrite-row-too-long : (m : Mutation) (r : Row) → m.row ≡ some r → leb (length r) 255 ≡ false → prewrite floor h m b ≡ refused (prewrite_terms_step floor h ▸ need (key_form m.key) 1 ▸ No 2) b
  prewrite-row-too-long m r q e = prewrite-single m ∙ row_ends m (ap row_argument q ∙ long-row r e)

  pub prewrite-long-row : (k : Key) (r : Row) → leb (length r) 255 ≡ false → prewrite floor h (record { key = k; row = some r }) b ≡ refused (prewrite_terms_step floor h ▸ need (key_form k) 1 ▸ No 2) b
  prewrite-long-row k r e = prewrite-row-too-long (record { key = k; row = some r }) r refl e

  -- what an accepted call names is its own key and row
  pub prewrite-named : (m : Mutation) → (prewrite floor h m b).answer ≡ Accepted → mutations (one_mutation m) ≡ some (m ∷ [])
  prewrite-named m p = mutation-named m (unless-long m.key (λ e. never 1 (then-right (prewrite_terms_step floor h) _ (told (prewrite-long-key m e) p)))) (row m.row refl)
    where
      row : (o : Option Row) → m.row ≡ o → fitted_row o ≡ o
      row none q = refl
      row (some r) q = ap some (unless-long r (λ e. never 2 (then-right _ _ (then-right (prewrite_terms_step floor h) _ (told (prewrite-row-too-long m r q e) p)))))

-- ---- commit

module _ (floor : ℕ) (h : CommitTerms) (b : Box) where
  commit-ends : (k : Key) → key_form k ≡ false → commit_alone floor h k b ≡ refused (commit_terms_step floor h ▸ No 1) b
  unfolding commit_alone commit_steps commit_keys commit_key need ◌▸◌
  commit-ends k e = rw e (ends (commit_terms_step floor h) 1 (apply_commit h k b) b)

  pub commit-one : (s : Bytes) (k : Key) → keys s ≡ some (k ∷ []) → commit_batch floor h s b ≡ commit_alone floor h k b
  unfolding commit_batch of_batch commit_all apply_commits commit_alone need ◌▸◌
  commit-one s k e = ap (λ (o : Option (List Key)). of_batch o (commit_all floor h) b) e

  commit-entry : (k : Key) → commit floor h k b ≡ commit_alone floor h (fitted k) b
  unfolding commit
  commit-entry k = commit-one (one_key k) (fitted k) (one_key_lem k)

  pub commit-single : (k : Key) → commit floor h k b ≡ commit_alone floor h k b
  commit-single k = commit-entry k ∙ go (leb (length k) 255) refl
    where
      go : (t : Bool) → leb (length k) 255 ≡ t → commit_alone floor h (fitted k) b ≡ commit_alone floor h k b
      go true e = rw (fits-stays k e)
      go false e = rw (long-empty k e) (commit-ends [] empty-key ∙ sym (commit-ends k (long-key k e)))

  pub commit-long-key : (k : Key) → leb (length k) 255 ≡ false → commit floor h k b ≡ refused (commit_terms_step floor h ▸ No 1) b
  commit-long-key k e = commit-single k ∙ commit-ends k (long-key k e)

  pub commit-named : (k : Key) → (commit floor h k b).answer ≡ Accepted → keys (one_key k) ≡ some (k ∷ [])
  commit-named k p = key-named k (unless-long k (λ e. never 1 (then-right (commit_terms_step floor h) _ (told (commit-long-key k e) p))))

-- ---- rollback

module _ (floor txn start : ℕ) (b : Box) where
  rollback-ends : (k : Key) → key_form k ≡ false → rollback_alone floor txn start k b ≡ refused (rollback_terms_step floor txn start ▸ No 1) b
  unfolding rollback_alone rollback_steps rollback_keys rollback_key need ◌▸◌
  rollback-ends k e = rw e (ends (rollback_terms_step floor txn start) 1 (apply_rollback start k b) b)

  pub rollback-one : (s : Bytes) (k : Key) → keys s ≡ some (k ∷ []) → rollback_batch floor txn start s b ≡ rollback_alone floor txn start k b
  unfolding rollback_batch of_batch rollback_all apply_rollbacks rollback_alone need ◌▸◌
  rollback-one s k e = ap (λ (o : Option (List Key)). of_batch o (rollback_all floor txn start) b) e

  rollback-entry : (k : Key) → rollback floor txn start k b ≡ rollback_alone floor txn start (fitted k) b
  unfolding rollback
  rollback-entry k = rollback-one (one_key k) (fitted k) (one_key_lem k)

  pub rollback-single : (k : Key) → rollback floor txn start k b ≡ rollback_alone floor txn start k b
  rollback-single k = rollback-entry k ∙ go (leb (length k) 255) refl
    where
      go : (t : Bool) → leb (length k) 255 ≡ t → rollback_alone floor txn start (fitted k) b ≡ rollback_alone floor txn start k b
      go true e = rw (fits-stays k e)
      go false e = rw (long-empty k e) (rollback-ends [] empty-key ∙ sym (rollback-ends k (long-key k e)))

  pub rollback-long-key : (k : Key) → leb (length k) 255 ≡ false → rollback floor txn start k b ≡ refused (rollback_terms_step floor txn start ▸ No 1) b
  rollback-long-key k e = rollback-single k ∙ rollback-ends k (long-key k e)

  pub rollback-named : (k : Key) → (rollback floor txn start k b).answer ≡ Accepted → keys (one_key k) ≡ some (k ∷ [])
  rollback-named k p = key-named k (unless-long k (λ e. never 1 (then-right (rollback_terms_step floor txn start) _ (told (rollback-long-key k e) p))))
