-- Document 02, CR 7, what a collection leaves to see: "Reads and pages at moments at or above F answer as before; the record counts of CR 6 may
-- fall." Locks stay, so intent pages, conflicting intents and one intent at a point do so at every moment. And a call with a start above F finds
-- what it found before, but for the room. Said of the boxes that stores show; proofs/CollectSays, CollectReads, CollectChecks and
-- CollectCalls have the theorems.
-- Assumes nothing.
use Rattle.std.specs.Prelude.{ℕ, ◌≤◌, ◌<◌, ◌≡◌, ◌⊎◌, ◌↔◌}
use mathlib.Core.List.{List, Memᴰ}
use Rattle.forms.specs.Bytes.{Bytes}
use Rattle.forms.specs.Key.{Key}
use Rattle.forms.specs.Batch.{Mutation}
use Rattle.rules.specs.Answers.{Answer, No}
use Rattle.rules.specs.declared.terms.CommitTerms.{CommitTerms}
use Rattle.rules.specs.declared.records.Kind.TheVariants.{Put}
use Rattle.rules.specs.declared.records.Record.{Record}
use Rattle.rules.specs.Box.{Box, records_of, lock_of}
use Rattle.rules.specs.Shown.{Newest}
use Rattle.rules.specs.Restore.{pointed_to}
use Rattle.rules.specs.Read.{those, examine, read}
use Rattle.rules.specs.Intent.{intent_at}
use Rattle.rules.specs.Page.{Bounds, Limits, page, intent_page, conflict_page}
use Rattle.rules.specs.Prewrite.{PrewriteTerms, prewrite_entries, prewrite_batch}
use Rattle.rules.specs.Commit.{commit_keys, commit_batch}
use Rattle.rules.specs.Rollback.{rollback_keys, rollback_batch}
use Rattle.rules.specs.OneStep.{step_arguments, all_applied, some_applied, step_entries, newest_step, one_step}
use Rattle.rules.specs.Collect.{collected}

-- "of records stamped at or below F keep the newest that is not a Rollback, if it is a Put", and those above F: said without the definition's own
-- walk, in the words of demand 2's sentence on shown rows
abbrev pub Stays : ℕ → List Record → Record → Type 0
Stays f ws w = (f < w.stamp) ⊎ (Newest f ws w × (w.kind ≡ Put))

-- "for each key, .. keep .., and drop the rest with their rows": which records are left, that locks stay, and which rows are left
pub record CollectSays (f : ℕ) (b : Box) : Type 0 where
  pub records : (k : Key) (w : Record) → Memᴰ w (records_of k (collected f b).lines) ↔ (Memᴰ w (records_of k b.lines) × Stays f (records_of k b.lines) w)
  pub locks : (k : Key) → lock_of k (collected f b).lines ≡ lock_of k b.lines
  -- a row stays exactly if a Put line that stays points to it
  pub rows : (collected f b).defaults ≡ those (pointed_to (collected f b).lines) b.defaults

-- the same of a box before and a box after
pub record CollectsTo (f : ℕ) (b after : Box) : Type 0 where
  pub records : (k : Key) (w : Record) → Memᴰ w (records_of k after.lines) ↔ (Memᴰ w (records_of k b.lines) × Stays f (records_of k b.lines) w)
  pub locks : (k : Key) → lock_of k after.lines ≡ lock_of k b.lines
  pub rows : after.defaults ≡ those (pointed_to after.lines) b.defaults

-- "Reads and pages at moments at or above F answer as before": on the floor F after the collection, on the store's before it
pub record AnswersAsBefore (f floor : ℕ) (b : Box) : Type 0 where
  pub reads : (k : Key) (m : ℕ) → f ≤ m → read f k m (collected f b) ≡ read floor k m b
  -- "the record counts of CR 6 may fall", and never rise
  pub counts : (k : Key) (m : ℕ) → f ≤ m → (examine f k m (collected f b)).count ≤ (examine floor k m b).count
  pub pages : (a : Bounds) (m : ℕ) (l : Limits) → f ≤ m → page f a m l (collected f b) ≡ page floor a m l b
  pub intents : (a : Bounds) (limit : ℕ) → intent_page a limit (collected f b) ≡ intent_page a limit b
  pub conflicts : (a : Bounds) (m : ℕ) (l : Limits) → conflict_page a m l (collected f b) ≡ conflict_page a m l b
  pub points : (k : Key) (m : ℕ) → intent_at k m (collected f b) ≡ intent_at k m b

-- a call with a start above F: each of its steps on the store answers as before; only the room is another, which was freed
pub record ChecksAsBefore (f : ℕ) (b : Box) : Type 0 where
  pub prewrites : (h : PrewriteTerms) (ms : List Mutation) → f < h.start → prewrite_entries h (collected f b) ms ≡ prewrite_entries h b ms
  pub commits : (h : CommitTerms) (ks : List Key) → f < h.start → f < h.commit → commit_keys h (collected f b) ks ≡ commit_keys h b ks
  pub rollbacks : (txn start : ℕ) (ks : List Key) → f < start → rollback_keys txn start (collected f b) ks ≡ rollback_keys txn start b ks
  pub step-arguments : (floor : ℕ) (h : CommitTerms) (ms : List Mutation) → f < h.start → f < h.commit → step_arguments floor h ms (collected f b) ≡ step_arguments floor h ms b
  pub step-all : (h : CommitTerms) (ms : List Mutation) → f < h.start → f < h.commit → all_applied h (collected f b) ms ≡ all_applied h b ms
  pub step_some : (h : CommitTerms) (ms : List Mutation) → f < h.start → f < h.commit → some_applied h (collected f b) ms ≡ some_applied h b ms
  pub step-entries : (h : CommitTerms) (ms : List Mutation) → f < h.start → step_entries h (collected f b) ms ≡ step_entries h b ms
  pub step_newest : (h : CommitTerms) (ms : List Mutation) → f < h.commit → newest_step h (collected f b) ms ≡ newest_step h b ms

-- "Changing calls with a start above F answer as before, but for room that was freed" (our reading of the request): where the answer was not 11
abbrev pub SameUnless11 : Answer → Answer → Type 0
SameUnless11 was is = (was ≡ No 11 → ⊥) → is ≡ was

-- the calls, on the floor F after the collection and on the store's before it
pub record CallsAsBefore (f floor : ℕ) (b : Box) : Type 0 where
  pub prewrites : (h : PrewriteTerms) (s : Bytes) → f < h.start → SameUnless11 (prewrite_batch floor h s b).answer (prewrite_batch f h s (collected f b)).answer
  pub commits : (h : CommitTerms) (s : Bytes) → f < h.start → (commit_batch f h s (collected f b)).answer ≡ (commit_batch floor h s b).answer
  pub rollbacks : (txn start : ℕ) (s : Bytes) → f < start → SameUnless11 (rollback_batch floor txn start s b).answer (rollback_batch f txn start s (collected f b)).answer
  pub one_steps : (h : CommitTerms) (s : Bytes) → f < h.start → SameUnless11 (one_step floor h s b).done.answer (one_step f h s (collected f b)).done.answer
