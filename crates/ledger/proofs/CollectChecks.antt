-- A call with a start above the floor finds on what a collection left what it found before (specs/Collected), in a tidy box: the records that went
-- are at or below the floor with stamp and start, and so is the start of the rows that went. Assumes nothing.
use Prim.Native.Nat.{ℕ, ◌<◌}
use native.Mathlib.Omega.{arith}
use mathlib.Core.Path.{◌≡◌, refl, ap, ap₂, ◌∙◌}
use mathlib.Core.Logic.{inl}
use mathlib.Core.Bool.{Bool, ◌&&◌, ◌||◌, not}
use mathlib.Core.List.{List, [], ◌∷◌}
use mathlib.Core.Option.{Option, none, some}
use Rattle.forms.specs.Key.{Key}
use Rattle.forms.specs.Row.{Row}
use Rattle.forms.specs.Batch.{Mutation}
use Rattle.rules.specs.Answers.{Answer, ◌▸◌, need, need_own}
use Rattle.rules.specs.declared.records.Record.{Record}
use Rattle.rules.specs.declared.terms.CommitTerms.{CommitTerms}
use Rattle.rules.specs.Box.{Box, Lock, holder_of, records_of, lock_of, row_of}
use Rattle.rules.specs.Sound.{all_sound}
use Rattle.rules.specs.Calls.{owns, all_below, kind_ready, stamped_at}
use Rattle.rules.specs.Prewrite.{PrewriteTerms, prewrite_entry, prewrite_entries}
use Rattle.rules.specs.Commit.{with_start, commit_lock, commit_step, commit_key, commit_keys}
use Rattle.rules.specs.Rollback.{rollback_records, rollback_key, rollback_keys}
use Rattle.rules.specs.OneStep.{applied_in, is_other, is_already, none_other, all_applied, some_applied, step_entry, step_entries, newest_step, step_arguments}
use Rattle.rules.specs.Collect.{collected}
use Rattle.laws.proofs.CollectLaws.{lock-kept, records-kept, records-thinned, thinned-below, thinned-started, thinned-stamped, thinned-rollback, thinned-sound}
use Rattle.ledger.specs.Tidy.{Tidy}
use Rattle.ledger.specs.Collected.{ChecksAsBefore}
use Rattle.ledger.proofs.Unmet.{records-sound}
use Rattle.ledger.proofs.CollectPairs.{PairLeft, whole, neither, pair_left, dropped-low}
use Rattle.ledger.proofs.CollectReads.{row-whole}

-- what the steps ask of a key's records, lock and row
pub record Unseen (f : ℕ) (c b : Box) (k : Key) : Type 0 where
  pub lock : lock_of k c.lines ≡ lock_of k b.lines
  pub sound : all_sound (records_of k c.lines) ≡ all_sound (records_of k b.lines)
  pub below : (s : ℕ) → f < s → all_below s (records_of k c.lines) ≡ all_below s (records_of k b.lines)
  pub started : (s : ℕ) → f < s → with_start s (records_of k c.lines) ≡ with_start s (records_of k b.lines)
  pub stamped : (s : ℕ) → f < s → stamped_at s (records_of k c.lines) ≡ stamped_at s (records_of k b.lines)
  pub rolls : (s : ℕ) → f < s → rollback_records s (records_of k c.lines) ≡ rollback_records s (records_of k b.lines)
  pub row : (s : ℕ) → f < s → row_of k s c.defaults ≡ row_of k s b.defaults

pub unseen : (f : ℕ) (b : Box) → Tidy b → (k : Key) → Unseen f (collected f b) b k
unfolding collected
unseen f b v k =
    let e = records-kept f k b.lines in
    let t = records-thinned f (records_of k b.lines) (records-sound b v k) in
    record {
      lock = lock-kept f k b.lines;
      sound = ap all_sound e ∙ thinned-sound t;
      below = λ s up. ap (all_below s) e ∙ thinned-below f s up t;
      started = λ s up. ap (with_start s) e ∙ thinned-started f s up t;
      stamped = λ s up. ap (stamped_at s) e ∙ thinned-stamped f s up t;
      rolls = λ s up. ap (rollback_records s) e ∙ thinned-rollback f s up t;
      row = λ s up. go s up (pair_left f b k s (v.pairs k s));
    }
  where
    go : (s : ℕ) → f < s → PairLeft f b k s → row_of k s (collected f b).defaults ≡ row_of k s b.defaults
    go s up (whole a d n) = row-whole f b k s d
    go s up (neither a d x n) = absurd (omega (arith, up, (dropped-low f b v.sound k s x (rw n (inl refl))).1))

-- a commit's step sees its records only by their newest stamp
commit-step : (h : CommitTerms) (vs ws : List Record) (stored : Option Row) (lock : Option Lock) (o : Option Record) → all_below h.commit vs ≡ all_below h.commit ws → commit_step h vs stored lock o ≡ commit_step h ws stored lock o
unfolding commit_step commit_lock
commit-step h vs ws stored lock (some w) e = refl
commit-step h vs ws stored none none e = refl
commit-step h vs ws stored (some l) none e = ap (λ (t : Bool). need_own (owns h.txn h.start l) (holder_of l) ▸ need t 8 ▸ need (kind_ready l.kind stored) 9) e

module _ (f : ℕ) (b : Box) (v : Tidy b) where
  abbrev left : Box
  left = collected f b

  -- ---- one entry

  prewrite-same : (h : PrewriteTerms) (m : Mutation) → f < h.start → prewrite_entry h left m ≡ prewrite_entry h b m
  unfolding prewrite_entry
  prewrite-same h m up = let u = unseen f b v m.key in rw (u.sound, u.below h.start up, u.row h.start up, u.lock)

  commit-same : (h : CommitTerms) (k : Key) → f < h.start → f < h.commit → commit_key h left k ≡ commit_key h b k
  unfolding commit_key
  commit-same h k up top =
      let u = unseen f b v k in
      rw (u.sound, u.row h.start up, u.lock, u.started h.start up, commit-step h (records_of k left.lines) (records_of k b.lines) (row_of k h.start b.defaults) (lock_of k b.lines) (with_start h.start (records_of k b.lines)) (u.below h.commit top))

  rollback-same : (txn s : ℕ) (k : Key) → f < s → rollback_key txn s left k ≡ rollback_key txn s b k
  unfolding rollback_key
  rollback-same txn s k up = let u = unseen f b v k in rw (u.rolls s up, u.row s up, u.lock, u.stamped s up)

  applied-same : (h : CommitTerms) (m : Mutation) → f < h.start → f < h.commit → applied_in h left m ≡ applied_in h b m
  unfolding applied_in
  applied-same h m up top = let u = unseen f b v m.key in rw (u.row h.start up, u.stamped h.commit top)

  step_same : (h : CommitTerms) (m : Mutation) → f < h.start → step_entry h left m ≡ step_entry h b m
  unfolding step_entry
  step_same h m up = let u = unseen f b v m.key in rw (u.lock, u.sound, u.below h.start up)

  -- ---- the batch

  prewrites : (h : PrewriteTerms) (ms : List Mutation) → f < h.start → prewrite_entries h left ms ≡ prewrite_entries h b ms
  unfolding prewrite_entries
  prewrites h [] up = refl
  prewrites h (m ∷ ms) up = ap₂ ◌▸◌ (prewrite-same h m up) (prewrites h ms up)

  commits : (h : CommitTerms) (ks : List Key) → f < h.start → f < h.commit → commit_keys h left ks ≡ commit_keys h b ks
  unfolding commit_keys
  commits h [] up top = refl
  commits h (k ∷ ks) up top = ap₂ ◌▸◌ (commit-same h k up top) (commits h ks up top)

  rollbacks : (txn s : ℕ) (ks : List Key) → f < s → rollback_keys txn s left ks ≡ rollback_keys txn s b ks
  unfolding rollback_keys
  rollbacks txn s [] up = refl
  rollbacks txn s (k ∷ ks) up = ap₂ ◌▸◌ (rollback-same txn s k up) (rollbacks txn s ks up)

  others : (h : CommitTerms) (ms : List Mutation) → f < h.start → f < h.commit → none_other h left ms ≡ none_other h b ms
  unfolding none_other
  others h [] up top = refl
  others h (m ∷ ms) up top = ap₂ (λ (s t : Bool). not s && t) (ap is_other (applied-same h m up top)) (others h ms up top)

  applied : (h : CommitTerms) (ms : List Mutation) → f < h.start → f < h.commit → all_applied h left ms ≡ all_applied h b ms
  unfolding all_applied
  applied h [] up top = refl
  applied h (m ∷ ms) up top = ap₂ ◌&&◌ (ap is_already (applied-same h m up top)) (applied h ms up top)

  some-applied : (h : CommitTerms) (ms : List Mutation) → f < h.start → f < h.commit → some_applied h left ms ≡ some_applied h b ms
  unfolding some_applied
  some-applied h [] up top = refl
  some-applied h (m ∷ ms) up top = ap₂ ◌||◌ (ap is_already (applied-same h m up top)) (some-applied h ms up top)

  entries : (h : CommitTerms) (ms : List Mutation) → f < h.start → step_entries h left ms ≡ step_entries h b ms
  unfolding step_entries
  entries h [] up = refl
  entries h (m ∷ ms) up = ap₂ ◌▸◌ (step_same h m up) (entries h ms up)

  newest : (h : CommitTerms) (ms : List Mutation) → f < h.commit → newest_step h left ms ≡ newest_step h b ms
  unfolding newest_step
  newest h [] top = refl
  newest h (m ∷ ms) top = ap₂ (λ (t : Bool) (a : Answer). need t 8 ▸ a) ((unseen f b v m.key).below h.commit top) (newest h ms top)

  pub checks-as-before : ChecksAsBefore f b
  unfolding step_arguments
  checks-as-before = record {
    prewrites = prewrites;
    commits = commits;
    rollbacks = rollbacks;
    step-arguments = λ floor h ms up top. rw (others h ms up top);
    step-all = applied;
    step_some = some-applied;
    step-entries = entries;
    step_newest = newest;
  }
