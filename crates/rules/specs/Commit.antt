-- Document 01: "Commit: 6, 5; 3; per key: 1; records sound, 9; the lowest-stamped record with this start, if any: Rollback, 8; other commit,
-- 8; equal commit, accepted and unchanged, but 9 if this start's lock stands or a Put's default is missing. None: no lock, 8; another's lock,
-- 7; newest stamp at or above commit, 8; Put whose default is missing or does not decode, Delete with a default, or kind Rollback, 9. Then a
-- record of the lock's start and kind, stamped with the commit, replaces the lock; a Put's row stays."
-- Document 02, CR 7: "14, below the floor, .. for a start at or below F in any changing call (after the last 3, ..)".
-- Assumes nothing.
use Rattle.std.specs.Prelude.{ℕ, Bool, true, ◌&&◌, not, List, [], ◌∷◌, ltb, eqb}
use Rattle.std.proofs.Math.Option.{Option, none, some}
use Rattle.forms.specs.Bytes.{Bytes}
use Rattle.forms.specs.Key.{Key, key_form}
use Rattle.forms.specs.Row.{Row}
use Rattle.forms.specs.Readers.{is_some}
use Rattle.forms.specs.Batch.{keys}
use Rattle.forms.specs.Ones.{one_key}
use Rattle.rules.specs.Answers.{Answer, Accepted, No, ◌▸◌, need, need_own}
use Rattle.rules.specs.declared.records.Kind.{Kind}
use Rattle.rules.specs.declared.records.Kind.TheVariants.{Put, Delete, Rollback}
use Rattle.rules.specs.declared.records.Record.{Record}
use Rattle.rules.specs.declared.terms.CommitTerms.{CommitTerms}
use Rattle.rules.specs.Box.{Box, Lock, Finished, holder_of, records_of, lock_of, row_of, eq_kind, insert_line, drop_lock}
use Rattle.rules.specs.Sound.{all_sound}
use Rattle.rules.specs.Calls.{Done, settle, of_batch, non_empty, owns, zero_step, all_below, lock_at, kind_ready, found_if, record_for}

-- "3": "zero transaction, start ..; commit not above start"; "after the last 3" 14, of a commit and of a one-step batch
unfoldable pub commit_terms_step : ℕ → CommitTerms → Answer
commit_terms_step floor h =
    zero_step h.txn h.start ▸
    need (ltb h.start h.commit) 3 ▸
    need (ltb floor h.start) 14

-- "the lowest-stamped record with this start, if any"
unfoldable pub with_start : ℕ → List Record → Option Record
with_start s [] = none
with_start s (w ∷ ws) = found_if (eqb s w.start) w (with_start s ws)

-- "or a Put's default is missing"
abbrev pub put_has_row : Kind → Option Row → Bool
put_has_row Put stored = is_some stored
put_has_row Delete stored = true
put_has_row Rollback stored = true

-- "None: no lock, 8; another's lock, 7; newest stamp at or above commit, 8; Put whose default .., 9"
unfoldable pub commit_lock : CommitTerms → List Record → Option Row → Option Lock → Answer
commit_lock h ws stored none = No 8
commit_lock h ws stored (some l) =
    need_own (owns h.txn h.start l) (holder_of l) ▸
    need (all_below h.commit ws) 8 ▸
    need (kind_ready l.kind stored) 9

-- "Rollback, 8; other commit, 8; equal commit, accepted and unchanged, but 9 if this start's lock stands or a Put's default is missing"
unfoldable pub commit_step : CommitTerms → List Record → Option Row → Option Lock → Option Record → Answer
commit_step h ws stored lock (some w) =
    need (not (eq_kind w.kind Rollback)) 8 ▸
    need (eqb w.commit h.commit) 8 ▸
    need (not (lock_at h.start lock) && put_has_row w.kind stored) 9
commit_step h ws stored lock none = commit_lock h ws stored lock

-- "per key: 1; records sound, 9; .."
unfoldable pub commit_key : CommitTerms → Box → Key → Answer
commit_key h b k =
    need (key_form k) 1 ▸
    need (all_sound (records_of k b.lines)) 9 ▸
    commit_step h (records_of k b.lines) (row_of k h.start b.defaults) (lock_of k b.lines)
    (with_start h.start (records_of k b.lines))

unfoldable pub commit_keys : CommitTerms → Box → List Key → Answer
commit_keys h b [] = Accepted
commit_keys h b (k ∷ ks) = commit_key h b k ▸ commit_keys h b ks

-- "Then a record of the lock's start and kind, stamped with the commit, replaces the lock; a Put's row stays"
unfoldable pub commit_to : ℕ → Box → Key → Option Record → Option Lock → Box
commit_to commit b k (some w) lock = b
commit_to commit b k none none = b
commit_to commit b k none (some l) =
    record {
      lines = insert_line (record { key = k; line = Finished (record_for l.start commit l.kind) }) (drop_lock k b.lines);
      defaults = b.defaults;
    }

unfoldable pub apply_commit : CommitTerms → Key → Box → Box
apply_commit h k b = commit_to h.commit b k (with_start h.start (records_of k b.lines)) (lock_of k b.lines)

unfoldable pub apply_commits : CommitTerms → List Key → Box → Box
apply_commits h [] b = b
apply_commits h (k ∷ ks) b = apply_commits h ks (apply_commit h k b)

-- the steps after 6 and 5; no 11: a line replaces a line, and live bytes fall by the primary
unfoldable pub commit_steps : ℕ → CommitTerms → List Key → Box → Answer
commit_steps floor h ks b =
    commit_terms_step floor h ▸
    commit_keys h b ks

unfoldable pub commit_all : ℕ → CommitTerms → List Key → Box → Done
commit_all floor h ks b = settle (need (non_empty ks) 5 ▸ commit_steps floor h ks b) (apply_commits h ks b) b

-- "6, 5; 3; per key: .."
unfoldable pub commit_batch : ℕ → CommitTerms → Bytes → Box → Done
commit_batch floor h s b = of_batch (keys s) (commit_all floor h) b

-- document 02, CR 10: "the single form disappears as a step of its own and is a batch of one"
unfoldable pub commit : ℕ → CommitTerms → Key → Box → Done
commit floor h k b = commit_batch floor h (one_key k) b
