-- The statement's words on one sequence: key a is prewritten with a row, taken over in one step with another, rolled back and committed by
-- bytes out of form, both refused, and committed again; then key b is rolled back. Four names, two pairs, two lines; a's row is the second.
-- Then a collection up to 11, one with a lower floor and a rollback of start 11, both refused: the same names, and one line, as b's was dropped.
-- Assumes nothing.
use mathlib.Core.Path.{◌≡◌, refl}
use mathlib.Core.Bool.{false}
use mathlib.Core.List.{List, [], ◌∷◌, ◌++◌}
use mathlib.Core.Option.{some}
use lib.ListN.{length}
use Rattle.forms.specs.Bytes.{cmp, eq_bytes, lt_bytes}
use Rattle.forms.specs.Readers.{read_on, ◌>>=◌, just, only, byte, stretch, piece, up_to, times, section, ended, whole}
use Rattle.forms.specs.Numbers.{number_from, number_of}
use Rattle.forms.specs.Key.{Key, table_of, key_form}
use Rattle.forms.specs.Row.{Row, integers, texts, fields, mask_bytes, bone, none_set, spares_zero, bones, row_from, row_form}
use Rattle.forms.specs.Batch.{of_kind, mutation, above, ascend, if_ascend, batch_of, mutations, keys}
use Rattle.forms.specs.Ones.{fitted, one_mutation, one_key}
use Rattle.rules.specs.Answers.{◌▸◌, need, need_own}
use Rattle.rules.specs.Box.{fresh, records_of, add_record, lock_of, add_lock, row_of, add_row, before, row_before, put_in, insert_by, drop_lock, unless_lock, drop_row, unless_row}
use Rattle.rules.specs.Sound.{all_sound, sound_lock}
use Rattle.rules.specs.Room.{sum_of, load_of, fits, room_for}
use Rattle.rules.specs.Calls.{settle, settle_state, of_batch, zero_step, all_below, found_if, stamped_at}
use Rattle.rules.specs.Prewrite.{prewrite_terms_step, lock_step, prewrite_entry, prewrite_entries, store_if, lock_line, unless_locked, apply_prewrite, apply_prewrites, prewrite_room, prewrite_steps, prewrite_all, prewrite_batch}
use Rattle.rules.specs.declared.terms.CommitTerms.{CommitTerms}
use Rattle.rules.specs.Commit.{commit_terms_step, with_start, commit_lock, commit_step, commit_key, commit_keys, commit_to, apply_commit, apply_commits, commit_steps, commit_all, commit_batch}
use Rattle.rules.specs.Rollback.{rollback_terms_step, rollback_records, rollback_lock, rollback_step, rollback_key, rollback_keys, rollback_to, apply_rollback, apply_rollbacks, rollback_room, rollback_steps, rollback_all, rollback_batch}
use Rattle.rules.specs.OneStep.{arguments_step, applied_if, applied_by, applied_in, none_other, all_applied, some_applied, step_lock, step_entry, step_entries, newest_step, replace_if, apply_step, apply_steps, step_new, step_applied, step_arguments, then_applied, count_if, step_done, step_all, of_counted, one_step}
use Rattle.rules.specs.Read.{keep_if, those}
use Rattle.rules.specs.Restore.{pointed_to}
use Rattle.rules.specs.Collect.{none_counts, kept_lines, dropped_lines, collected, locks_above_step, collect_steps, collect}
use Rattle.rules.specs.Call.{Changing, perform}
use Rattle.ledger.specs.Ledger.{entries_in, each_named, named_by, dropped_by, onto, logged, Past, then, after, empty, named, row_if, or_older, last_row, suc_unless, different_pairs, cons_if, chosen, lines_at, rows_at}

key_a : Key
key_a = 0 ∷ 0 ∷ 0 ∷ 1 ∷ 97 ∷ []

key_b : Key
key_b = 0 ∷ 0 ∷ 0 ∷ 1 ∷ 98 ∷ []

-- no integer, no text and no bone; no integer, one empty text and no bone
row₁ : Row
row₁ = 0 ∷ 0 ∷ 0 ∷ []

row₂ : Row
row₂ = 0 ∷ 1 ∷ 0 ∷ 0 ∷ []

ending : CommitTerms
ending = record { txn = 7; start = 10; commit = 12 }

calls : List Changing
calls =
    Changing.Prewrite (record { txn = 7; start = 10; primary = key_a; ttl = 1 }) (one_mutation (record { key = key_a; row = some row₁ })) ∷
    Changing.OneStep ending (0 ∷ 1 ∷ 5 ∷ key_a ++ (1 ∷ 4 ∷ row₂)) ∷
    Changing.Rollback 7 10 (one_key key_a) ∷
    Changing.Commit ending (0 ∷ []) ∷
    Changing.Commit ending (one_key key_a) ∷
    Changing.Rollback 7 5 (one_key key_b) ∷
    []

past : Past
past = after calls empty

later : List Changing
later = Changing.Collect 11 ∷ Changing.Collect 10 ∷ Changing.Rollback 7 11 (one_key key_b) ∷ []

-- document 02, CR 7
collected_past : Past
collected_past = after later past

record Seen (p : Past) : Type 0 where
  names : length p.log ≡ 4
  pairs : different_pairs p.log ≡ 2
  lines : length p.box.lines ≡ 2
  last : last_row key_a 10 p.log ≡ some row₂
  stored : rows_at key_a 10 p.box.defaults ≡ row₂ ∷ []
  none_of_b : rows_at key_b 5 p.box.defaults ≡ []
  stamp_is_no_start : named key_a 12 p.log ≡ false

record SeenLater (p : Past) : Type 0 where
  floor : p.floor ≡ 11
  names : length p.log ≡ 4
  pairs : different_pairs p.log ≡ 2
  dropped : different_pairs p.dropped ≡ 1
  lines : length p.box.lines ≡ 1
  stored : rows_at key_a 10 p.box.defaults ≡ row₂ ∷ []
  stored_line : length (lines_at key_a 10 p.box.lines) ≡ 1
  dropped_line : length (lines_at key_b 5 p.box.lines) ≡ 0

both : Seen past × SeenLater collected_past
unfolding later collected_past rollback_terms_step dropped_by collect collect_steps settle_state locks_above_step collected kept_lines dropped_lines none_counts pointed_to those keep_if key_a key_b row₁ row₂ ending calls past cmp eq_bytes lt_bytes read_on ◌>>=◌ just only byte stretch piece up_to times section ended whole number_from number_of table_of key_form integers texts fields mask_bytes bone none_set spares_zero bones row_from row_form of_kind mutation above ascend if_ascend batch_of mutations keys fitted one_mutation one_key ◌▸◌ need need_own fresh records_of add_record lock_of add_lock row_of add_row before row_before put_in insert_by drop_lock unless_lock drop_row unless_row all_sound sound_lock sum_of load_of fits room_for settle of_batch zero_step all_below found_if stamped_at prewrite_terms_step lock_step prewrite_entry prewrite_entries store_if lock_line unless_locked apply_prewrite apply_prewrites prewrite_room prewrite_steps prewrite_all prewrite_batch commit_terms_step with_start commit_lock commit_step commit_key commit_keys commit_to apply_commit apply_commits commit_steps commit_all commit_batch rollback_records rollback_lock rollback_step rollback_key rollback_keys rollback_to apply_rollback apply_rollbacks rollback_room rollback_steps rollback_all rollback_batch arguments_step applied_if applied_by applied_in none_other all_applied some_applied step_lock step_entry step_entries newest_step replace_if apply_step apply_steps step_new step_applied step_arguments then_applied count_if step_done step_all of_counted one_step perform entries_in each_named named_by onto logged then after empty named row_if or_older last_row suc_unless different_pairs cons_if chosen
both = (record { names = refl; pairs = refl; lines = refl; last = refl; stored = refl; none_of_b = refl; stamp_is_no_start = refl }, record { floor = refl; names = refl; pairs = refl; dropped = refl; lines = refl; stored = refl; stored_line = refl; dropped_line = refl })
