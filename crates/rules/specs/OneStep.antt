-- Document 01: "One-step batch: 6; 3; each entry in turn 1, 2; empty, accepted with count 0. An entry is applied if the record at commit has
-- this start, this kind and, for a Put, this row; same start but other kind or row, 9. All applied: accepted, unchanged. Some: 9. None: per
-- entry, another's lock 7, own lock of other kind 9, unsound record 9, record at or above start 8; then per entry newest at or above commit 8;
-- 11. Each entry gets a record of this start and its kind, stamped with the commit; a Put's row is stored and replaces one already stored at
-- this start; an own lock goes. The count is the number of entries."
-- Document 02, CR 7: "14, below the floor, .. (after the last 3, .. and before any entry is judged)"; so before "empty, accepted" too.
-- Assumes nothing.
use Rattle.std.specs.Prelude.{ℕ, Bool, true, false, ◌&&◌, ◌||◌, not, List, [], ◌∷◌, length, eqb}
use Rattle.std.proofs.Math.Option.{Option, none, some}
use Rattle.forms.specs.Bytes.{Bytes}
use Rattle.forms.specs.Key.{Key, key_form}
use Rattle.forms.specs.Row.{Row}
use Rattle.forms.specs.Batch.{Mutation, mutations}
use Rattle.rules.specs.Answers.{Answer, Accepted, No, Held, ◌▸◌, need, need_own}
use Rattle.rules.specs.declared.records.Kind.{Kind}
use Rattle.rules.specs.declared.records.Record.{Record}
unfoldable pub use Rattle.rules.specs.Answers.{count_if}
use Rattle.rules.specs.Box.{Box, Lock, Finished, Default, holder_of, records_of, lock_of, row_of, eq_kind, insert_line, insert_default, drop_lock, drop_row}
use Rattle.rules.specs.Sound.{all_sound}
use Rattle.rules.specs.Room.{room_for}
use Rattle.rules.specs.Calls.{Done, settle, kind_of, owns, all_below, row_argument, row_stands, stamped_at, record_for}
use Rattle.rules.specs.declared.terms.CommitTerms.{CommitTerms}
use Rattle.rules.specs.Commit.{commit_terms_step}

-- "each entry in turn 1, 2"
unfoldable pub arguments_step : List Mutation → Answer
arguments_step [] = Accepted
arguments_step (m ∷ ms) =
    need (key_form m.key) 1 ▸
    need (row_argument m.row) 2 ▸
    arguments_step ms

-- an entry is applied already, or not yet, or the record at commit has its start but another kind or row
pub data Applied : Type 0 where
  already not_yet otherwise : Applied

unfoldable pub applied_if : Bool → Bool → Applied
applied_if true true = already
applied_if true false = otherwise
applied_if false same = not_yet

-- "An entry is applied if the record at commit has this start, this kind and, for a Put, this row; same start but other kind or row, 9"
unfoldable pub applied_by : ℕ → Option Row → Option Row → Option Record → Applied
applied_by start row stored none = not_yet
applied_by start row stored (some w) = applied_if (eqb w.start start) (eq_kind w.kind (kind_of row) && row_stands row stored)

unfoldable pub applied_in : CommitTerms → Box → Mutation → Applied
applied_in h b m = applied_by h.start m.row (row_of m.key h.start b.defaults) (stamped_at h.commit (records_of m.key b.lines))

abbrev pub is_other : Applied → Bool
is_other already = false
is_other not_yet = false
is_other otherwise = true

abbrev pub is_already : Applied → Bool
is_already already = true
is_already not_yet = false
is_already otherwise = false

-- "same start but other kind or row, 9": of no entry
unfoldable pub none_other : CommitTerms → Box → List Mutation → Bool
none_other h b [] = true
none_other h b (m ∷ ms) = not (is_other (applied_in h b m)) && none_other h b ms

unfoldable pub all_applied : CommitTerms → Box → List Mutation → Bool
all_applied h b [] = true
all_applied h b (m ∷ ms) = is_already (applied_in h b m) && all_applied h b ms

unfoldable pub some_applied : CommitTerms → Box → List Mutation → Bool
some_applied h b [] = false
some_applied h b (m ∷ ms) = is_already (applied_in h b m) || some_applied h b ms

-- "another's lock 7, own lock of other kind 9"
unfoldable pub step_lock : CommitTerms → Kind → Option Lock → Answer
step_lock h kind none = Accepted
step_lock h kind (some l) =
    need_own (owns h.txn h.start l) (holder_of l) ▸
    need (eq_kind l.kind kind) 9

-- "per entry, another's lock 7, own lock of other kind 9, unsound record 9, record at or above start 8"
unfoldable pub step_entry : CommitTerms → Box → Mutation → Answer
step_entry h b m =
    step_lock h (kind_of m.row) (lock_of m.key b.lines) ▸
    need (all_sound (records_of m.key b.lines)) 9 ▸
    need (all_below h.start (records_of m.key b.lines)) 8

unfoldable pub step_entries : CommitTerms → Box → List Mutation → Answer
step_entries h b [] = Accepted
step_entries h b (m ∷ ms) = step_entry h b m ▸ step_entries h b ms

-- "then per entry newest at or above commit 8"
unfoldable pub newest_step : CommitTerms → Box → List Mutation → Answer
newest_step h b [] = Accepted
newest_step h b (m ∷ ms) = need (all_below h.commit (records_of m.key b.lines)) 8 ▸ newest_step h b ms

-- "a Put's row is stored and replaces one already stored at this start"
unfoldable pub replace_if : Key → ℕ → Option Row → List Default → List Default
replace_if k s none ds = ds
replace_if k s (some r) ds = insert_default (record { key = k; start = s; row = r }) (drop_row k s ds)

-- "Each entry gets a record of this start and its kind, stamped with the commit; ..; an own lock goes"
unfoldable pub apply_step : CommitTerms → Mutation → Box → Box
apply_step h m b =
    record {
      lines = insert_line (record { key = m.key; line = Finished (record_for h.start h.commit (kind_of m.row)) }) (drop_lock m.key b.lines);
      defaults = replace_if m.key h.start m.row b.defaults;
    }

unfoldable pub apply_steps : CommitTerms → List Mutation → Box → Box
apply_steps h [] b = b
apply_steps h (m ∷ ms) b = apply_steps h ms (apply_step h m b)

-- "None: per entry ..; then per entry ..; 11"
unfoldable pub step_new : CommitTerms → List Mutation → Box → Answer
step_new h ms b =
    step_entries h b ms ▸
    newest_step h b ms ▸
    need (room_for (apply_steps h ms b)) 11

-- "All applied: accepted, unchanged. Some: 9. None: .." The empty batch has all applied: accepted, unchanged, with count 0.
unfoldable pub step_applied : Bool → CommitTerms → List Mutation → Box → Done
step_applied true h ms b = record { answer = Accepted; box = b }
step_applied false h ms b =
    settle
    (need (not (some_applied h b ms)) 9 ▸
    step_new h ms b)
    (apply_steps h ms b)
    b

-- "3", 14; "each entry in turn 1, 2; .. same start but other kind or row, 9"
unfoldable pub step_arguments : ℕ → CommitTerms → List Mutation → Box → Answer
step_arguments floor h ms b =
    commit_terms_step floor h ▸
    arguments_step ms ▸
    need (none_other h b ms) 9

unfoldable pub then_applied : Answer → Box → Done → Done
then_applied Accepted b d = d
then_applied (No n) b d = record { answer = No n; box = b }
then_applied (Held o) b d = record { answer = Held o; box = b }

-- a one-step call's answer, the box after it, and "The count is the number of entries"
pub record Counted : Type 0 where
  pub done : Done
  pub count : ℕ

unfoldable pub step_done : ℕ → CommitTerms → List Mutation → Box → Done
step_done floor h ms b = then_applied (step_arguments floor h ms b) b (step_applied (all_applied h b ms) h ms b)

unfoldable pub step_all : ℕ → CommitTerms → List Mutation → Box → Counted
step_all floor h ms b = record { done = step_done floor h ms b; count = count_if (step_done floor h ms b).answer (length ms) }

unfoldable pub of_counted : Option (List Mutation) → (List Mutation → Box → Counted) → Box → Counted
of_counted none call b = record { done = record { answer = No 6; box = b }; count = 0 }
of_counted (some ms) call b = call ms b

-- "6; 3; .."
unfoldable pub one_step : ℕ → CommitTerms → Bytes → Box → Counted
one_step floor h s b = of_counted (mutations s) (step_all floor h) b
