-- Document 01, "Proved table": W1 to W11, one table under one claim. Each row says what a call gives and what the paper says, both as the
-- numbers that a caller sees, the holder as document 02, CR 9, has it; the claim is that the list of rows which differ is empty, so that a
-- wrong row is named.
-- Document 02's rows stand with them: CR 6's counts, CR 7's collections and 14s. W1 to W11 are on the floor 0, where the store begins.
-- "Table 1, key a = 00 00 00 01 61 (b ends in 62), row 00 00, transaction 7; where unsaid, primary a, time to live 1, row limit 1, no bounds."
-- Document 02, CR 4: "the smallest row is 00 00 00, and 01's row cases gain that byte, so the byte limits of W9 and W10 become 8 and 7."
-- Assumes nothing.
use Prim.Native.Nat.{ℕ, zero, suc, ◌-◌}
use Prim.Native.String.{String}
use mathlib.Core.Path.{◌≡◌, refl}
use mathlib.Core.Bool.{Bool, true, false, ◌&&◌, ◌||◌, not}
use mathlib.Core.List.{List, [], ◌∷◌, ◌++◌, reverse}
use mathlib.Core.Option.{Option, none, some}
use lib.ListN.{length, replicate}
use Rattle.forms.specs.Bytes.{Bytes, cmp, eq_bytes, lt_bytes}
use Rattle.forms.specs.Readers.{read_on, ◌>>=◌, just, only, byte, stretch, piece, up_to, times, section, ended, whole}
use Rattle.forms.specs.Numbers.{number_from, digits, number_of}
use Rattle.forms.specs.Key.{Key, table_of, key_form}
use Rattle.forms.specs.Row.{Row, integers, texts, fields, mask_bytes, bone, none_set, spares_zero, bones, row_from, row_form}
use Rattle.forms.specs.Batch.{Mutation, of_kind, mutation, above, ascend, if_ascend, batch_of, mutations, keys}
use Rattle.forms.specs.Ones.{fitted, one_mutation, one_key}
use Rattle.rules.specs.Answers.{Answer, number, holder, ◌▸◌, need, need_own, Reply, nothing, shown, refused, answer_of, if_passed}
use Rattle.rules.specs.declared.records.Kind.TheVariants.{Put, Delete}
use Rattle.rules.specs.Box.{Box, fresh, Lock, Line, Standing, Finished, KeyLine, Default, kind_byte, records_of, add_record, lock_of, add_lock, row_of, add_row, before, row_before, put_in, insert_by, drop_lock, unless_lock, drop_row, unless_row}
use Rattle.rules.specs.Sound.{all_sound, sound_lock}
use Rattle.rules.specs.Room.{sum_of, load_of, fits, room_for}
use Rattle.rules.specs.Read.{lock_lets, keep_if, those, at_or_below, newest_first, show_if, show_row, one_record, walk, Examined, read_steps, examine, read}
use Rattle.rules.specs.Intent.{lock_if, judge_lock, intent_at}
use Rattle.rules.specs.Page.{Bounds, Limits, bounds_step, page_arguments, intent_arguments, row_page_steps, locks_of, locks_within, sound_step, unless_above, conflicting, conflict_page, keys_of, keys_within, on_page, too_large, cost_step, limit_step, on_judged, page_walk, unless_past, read_key, page, intent_walk, intent_page}
use Rattle.rules.specs.Written.{lock_bytes, key_row_bytes, key_lock_bytes, all_bytes, page_bytes, Written, write_if, written, scan_page, scan_intent_page, scan_conflicting_intents}
use Rattle.rules.specs.Calls.{Done, settle, State, fresh_state, Ended, settle_state, on_floor, of_batch, zero_step, all_below, found_if, stamped_at, record_for}
use Rattle.rules.specs.Prewrite.{PrewriteTerms, prewrite_terms_step, lock_step, prewrite_entry, prewrite_entries, store_if, lock_line, unless_locked, apply_prewrite, apply_prewrites, prewrite_room, prewrite_steps, prewrite_all, prewrite_batch, prewrite}
use Rattle.rules.specs.declared.terms.CommitTerms.{CommitTerms}
use Rattle.rules.specs.Commit.{commit_terms_step, with_start, commit_lock, commit_step, commit_key, commit_keys, commit_to, apply_commit, apply_commits, commit_steps, commit_all, commit_batch, commit}
use Rattle.rules.specs.Rollback.{rollback_terms_step, rollback_records, rollback_lock, rollback_step, rollback_key, rollback_keys, rollback_to, apply_rollback, apply_rollbacks, rollback_room, rollback_steps, rollback_all, rollback_batch, rollback}
use Rattle.rules.specs.OneStep.{Counted, arguments_step, applied_if, applied_by, applied_in, none_other, all_applied, some_applied, step_lock, step_entry, step_entries, newest_step, replace_if, apply_step, apply_steps, step_new, step_applied, step_arguments, then_applied, count_if, step_done, step_all, of_counted, one_step}
use Rattle.rules.specs.Restore.{pointed_to}
use Rattle.rules.specs.Collect.{none_counts, kept_lines, dropped_lines, collected, locks_above_step, collect_steps, collect}

-- ---- a row of the table, and the rows that differ

pub record Case : Type 0 where
  pub name : String
  pub got : List ℕ
  pub wanted : List ℕ

unfoldable pub name_unless : Bool → String → List String → List String
name_unless true n ns = ns
name_unless false n ns = n ∷ ns

unfoldable pub differing : List Case → List String
differing [] = []
differing (c ∷ cs) = name_unless (eq_bytes c.got c.wanted) c.name (differing cs)

-- ---- what a caller sees, as numbers: the answer's number and the holder's transaction, start, time to live and kind; then what else the call
-- gives

unfoldable pub saw : Answer → List ℕ → List ℕ
saw a more = number a ∷ (holder a).txn ∷ (holder a).start ∷ (holder a).ttl ∷ (holder a).kind ∷ more

-- "every other answer carries zeros"
unfoldable pub plain : ℕ → List ℕ → List ℕ
plain n more = n ∷ 0 ∷ 0 ∷ 0 ∷ 0 ∷ more

unfoldable pub saw_done : Done → List ℕ
saw_done d = saw d.answer []

-- the count, and 0 where nothing is shown, 1 and the row
unfoldable pub saw_row : Reply Row → List ℕ
saw_row nothing = 0 ∷ []
saw_row (shown r) = 1 ∷ r
saw_row (refused a) = 0 ∷ []

unfoldable pub saw_read : Examined → List ℕ
saw_read x = saw (answer_of x.reply) (x.count ∷ saw_row x.reply)

unfoldable pub saw_count : Counted → List ℕ
saw_count c = saw c.done.answer (c.count ∷ [])

unfoldable pub saw_page : Written → List ℕ
saw_page w = saw w.answer (w.count ∷ w.buffer)

-- a box as numbers, each entry after its length
unfoldable pub flat_line : Line → List ℕ
flat_line (Standing l) = 1 ∷ l.txn ∷ l.start ∷ l.ttl ∷ kind_byte l.kind ∷ length l.primary ∷ l.primary
flat_line (Finished w) = 2 ∷ w.stamp ∷ w.start ∷ w.commit ∷ kind_byte w.kind ∷ []

unfoldable pub flat_lines : List KeyLine → List ℕ
flat_lines [] = []
flat_lines (e ∷ es) = length e.key ∷ e.key ++ flat_line e.line ++ flat_lines es

unfoldable pub flat_defaults : List Default → List ℕ
flat_defaults [] = []
flat_defaults (d ∷ ds) = length d.key ∷ d.key ++ (d.start ∷ length d.row ∷ d.row) ++ flat_defaults ds

unfoldable pub flat : Box → List ℕ
flat b = length b.lines ∷ flat_lines b.lines ++ flat_defaults b.defaults

-- ---- the calls of the table

unfoldable pub key_a : Key
key_a = 0 ∷ 0 ∷ 0 ∷ 1 ∷ 0x61 ∷ []

unfoldable pub key_b : Key
key_b = 0 ∷ 0 ∷ 0 ∷ 1 ∷ 0x62 ∷ []

unfoldable pub row : Row
row = 0 ∷ 0 ∷ 0 ∷ []

unfoldable pub put : Key → Mutation
put k = record { key = k; row = some row }

unfoldable pub head : ℕ → PrewriteTerms
head start = record { txn = 7; start = start; primary = key_a; ttl = 1 }

unfoldable pub ending : ℕ → ℕ → CommitTerms
ending start commit = record { txn = 7; start = start; commit = commit }

prewrite_a : ℕ → Box → Done
prewrite_a start b = prewrite 0 (head start) (put key_a) b

commit_a : ℕ → ℕ → Box → Done
commit_a start at b = commit 0 (ending start at) key_a b

rollback_a : ℕ → Box → Done
rollback_a start b = rollback 0 7 start key_a b

-- a mutation batch of Puts, as bytes
unfoldable pub batch_a : Bytes
batch_a = 0 ∷ 1 ∷ 5 ∷ 0 ∷ 0 ∷ 0 ∷ 1 ∷ 0x61 ∷ 1 ∷ 3 ∷ 0 ∷ 0 ∷ 0 ∷ []

unfoldable pub batch_aB : Bytes
batch_aB = 0 ∷ 2 ∷ 5 ∷ 0 ∷ 0 ∷ 0 ∷ 1 ∷ 0x61 ∷ 1 ∷ 3 ∷ 0 ∷ 0 ∷ 0 ∷ 5 ∷ 0 ∷ 0 ∷ 0 ∷ 1 ∷ 0x62 ∷ 1 ∷ 3 ∷ 0 ∷ 0 ∷ 0 ∷ []

unfoldable pub no_bounds : Bounds
no_bounds = record { from = none; to = none; resume = none }

-- a page at 12 with row limit 1, into a buffer of 14 bytes that hold 238
buffer : Bytes
buffer = replicate 14 238

page_at12 : ℕ → Box → Written
page_at12 bytes b = scan_page 0 no_bounds 12 (record { rows = 1; bytes = bytes }) b buffer

box1 : Box
box1 = (prewrite_a 10 fresh).box

box2 : Box
box2 = (commit_a 10 12 box1).box

box6 : Box
box6 = (rollback_a 5 fresh).box

-- "a shown, b locked by the moment"
box11 : Box
box11 = (prewrite 0 (head 11) (put key_b) box2).box

pub table : List Case
table =
    record { name = "W1 prewrite Put start 10"; got = saw_done (prewrite_a 10 fresh); wanted = plain 0 [] } ∷
    record { name = "W1 read at 9 nothing"; got = saw_read (examine 0 key_a 9 box1); wanted = plain 0 (0 ∷ 0 ∷ []) } ∷
    record { name = "W1 read at 10 answer 7 with 7, 10, time to live 1, Put"; got = saw_read (examine 0 key_a 10 box1); wanted = 7 ∷ 7 ∷ 10 ∷ 1 ∷ 1 ∷ 0 ∷ 0 ∷ [] } ∷
    record { name = "W2 then commit at 12"; got = saw_done (commit_a 10 12 box1); wanted = plain 0 [] } ∷
    record { name = "W2 read at 11 nothing"; got = saw_read (examine 0 key_a 11 box2); wanted = plain 0 (0 ∷ 0 ∷ []) } ∷
    record { name = "W2 read at 12 the row"; got = saw_read (examine 0 key_a 12 box2); wanted = plain 0 (1 ∷ 1 ∷ row) } ∷
    record { name = "W3 then rollback of start 12: 9"; got = saw_done (rollback_a 12 box2); wanted = plain 9 [] } ∷
    record { name = "W4 after W2, rollback of start 10: 8"; got = saw_done (rollback_a 10 box2); wanted = plain 8 [] } ∷
    record { name = "W5 after W2, prewrite start 12: 8"; got = saw_done (prewrite_a 12 box2); wanted = plain 8 [] } ∷
    record { name = "W5 start 13: 0"; got = saw_done (prewrite_a 13 box2); wanted = plain 0 [] } ∷
    record { name = "W6 fresh, rollback start 5: 0, one line"; got = saw (rollback_a 5 fresh).answer (length box6.lines ∷ []); wanted = plain 0 (1 ∷ []) } ∷
    record { name = "W6 again: 0, same state"; got = saw (rollback_a 5 box6).answer (flat (rollback_a 5 box6).box); wanted = plain 0 (flat box6) } ∷
    record { name = "02, CR 6: then read at 5, a Rollback passed over"; got = saw_read (examine 0 key_a 5 box6); wanted = plain 0 (1 ∷ 0 ∷ []) } ∷
    record { name = "02, CR 6: after W2 and a rollback of start 14, read at 14"; got = saw_read (examine 0 key_a 14 (rollback_a 14 box2).box); wanted = plain 0 (2 ∷ 1 ∷ row) } ∷
    record { name = "W7 then prewrite start 5: 8"; got = saw_done (prewrite_a 5 box6); wanted = plain 8 [] } ∷
    record { name = "W8 after W2, one-step (10, 12) of a alone with that row: 0, count 1"; got = saw_count (one_step 0 (ending 10 12) batch_a box2); wanted = plain 0 (1 ∷ []) } ∷
    record { name = "W8 of a and b: 9"; got = saw_count (one_step 0 (ending 10 12) batch_aB box2); wanted = plain 9 (0 ∷ []) } ∷
    record {
      name = "W9 after W2, page at 12, byte limit 8";
      got = saw_page (page_at12 8 box2);
      wanted = plain 0 (13 ∷ 0x00 ∷ 0x01 ∷ 0x05 ∷ 0x00 ∷ 0x00 ∷ 0x00 ∷ 0x01 ∷ 0x61 ∷ 0x03 ∷ 0x00 ∷ 0x00 ∷ 0x00 ∷ 0x00 ∷ 238 ∷ []);
    } ∷
    record { name = "W10 byte limit 7: 10"; got = saw_page (page_at12 7 box2); wanted = plain 10 (0 ∷ buffer) } ∷
    record { name = "W11 a shown, b locked by the moment, row limit 1: 7"; got = saw_page (page_at12 8 box11); wanted = 7 ∷ 7 ∷ 11 ∷ 1 ∷ 1 ∷ 0 ∷ buffer } ∷
    []

-- ---- "Room": the load that a caller could count, and 11 only after every earlier refusal

saw_load : Box → List ℕ
saw_load b = (load_of b).lines ∷ (load_of b).locks ∷ (load_of b).defaults ∷ (load_of b).bytes ∷ []

-- n locks, on keys of table 2 that ascend
unfoldable pub locks : ℕ → List KeyLine
locks zero = []
locks (suc n) = record { key = 0 ∷ 0 ∷ 0 ∷ 2 ∷ (255 - n) ∷ []; line = Standing (record { txn = 9; primary = key_a; start = 20; ttl = 1; kind = Delete }) } ∷ locks n

-- a record of a at 12, and as many locks as there may be
full : Box
full = record { lines = record { key = key_a; line = Finished (record_for 10 12 Delete) } ∷ locks 256; defaults = [] }

-- a record of a at 12, and a lock too many
crowded : Box
crowded = record { lines = record { key = key_a; line = Finished (record_for 10 12 Delete) } ∷ locks 257; defaults = [] }

pub room_table : List Case
room_table =
    record { name = "a lock counts key plus primary, a default key plus row"; got = saw_load box1; wanted = 1 ∷ 1 ∷ 1 ∷ 18 ∷ [] } ∷
    record { name = "a record counts its key"; got = saw_load box2; wanted = 1 ∷ 0 ∷ 1 ∷ 13 ∷ [] } ∷
    record { name = "256 locks of 10 bytes each, and a record"; got = saw_load full; wanted = 257 ∷ 256 ∷ 0 ∷ 2565 ∷ [] } ∷
    record { name = "no room for one lock more: 11"; got = saw_done (prewrite_a 13 full); wanted = plain 11 [] } ∷
    record { name = "no room, and history forbids it: 8 goes before 11"; got = saw_done (prewrite_a 12 full); wanted = plain 8 [] } ∷
    record { name = "a lock too many, rollback: 11"; got = saw_done (rollback_a 13 crowded); wanted = plain 11 [] } ∷
    record { name = "a lock too many, rollback of start 10: 8 goes before 11"; got = saw_done (rollback_a 10 crowded); wanted = plain 8 [] } ∷
    record { name = "a lock too many, one-step (13, 14): 11"; got = saw_count (one_step 0 (ending 13 14) batch_a crowded); wanted = plain 11 (0 ∷ []) } ∷
    record { name = "a lock too many, one-step (12, 14): 8 goes before 11"; got = saw_count (one_step 0 (ending 12 14) batch_a crowded); wanted = plain 8 (0 ∷ []) } ∷
    record { name = "a lock too many, the steps of a one-step (13, 12): newest's 8 goes before 11"; got = saw (step_new (ending 13 12) (put key_a ∷ []) crowded) []; wanted = plain 8 [] } ∷
    []

-- ---- document 02, CR 7

unfoldable pub saw_ended : Ended → List ℕ
saw_ended e = saw e.answer (e.state.floor ∷ flat e.state.box)

-- a store on the floor 0, and the store that a collection leaves
on0 : Box → State
on0 b = record { box = b; floor = 0 }

after : ℕ → Box → State
after f b = (collect f (on0 b)).state

-- a as Put (1, 2) and Delete (3, 4)
deleted : Box
deleted = record { lines = record { key = key_a; line = Finished (record_for 1 2 Put) } ∷ record { key = key_a; line = Finished (record_for 3 4 Delete) } ∷ []; defaults = record { key = key_a; start = 1; row = row } ∷ [] }

-- a locked at 4, b at 3
locked : Box
locked = (prewrite 0 (head 3) (put key_b) (prewrite_a 4 fresh).box).box

unfoldable pub short : Key
short = 0 ∷ 0 ∷ 0 ∷ 1 ∷ []

pub floor_table : List Case
floor_table =
    record { name = "a fresh store, collect 0: 0"; got = saw_ended (collect 0 fresh_state); wanted = plain 0 (0 ∷ flat fresh) } ∷
    record { name = "after W6, collect 5: no line"; got = saw_ended (collect 5 (on0 box6)); wanted = plain 0 (5 ∷ flat fresh) } ∷
    record { name = "again: 0, same state"; got = saw_ended (collect 5 (after 5 box6)); wanted = plain 0 (5 ∷ flat fresh) } ∷
    record { name = "then collect 4: 14"; got = saw_ended (collect 4 (after 5 box6)); wanted = plain 14 (5 ∷ flat fresh) } ∷
    record { name = "Put, then Delete, collect 5: both go"; got = saw_ended (collect 5 (on0 deleted)); wanted = plain 0 (5 ∷ flat fresh) } ∷
    record { name = "Put, then Delete, collect 3: the Put stays with its row"; got = saw_ended (collect 3 (on0 deleted)); wanted = plain 0 (3 ∷ flat deleted) } ∷
    record { name = "after W2, collect 11: the line is above"; got = saw_ended (collect 11 (on0 box2)); wanted = plain 0 (11 ∷ flat box2) } ∷
    record { name = "after W2, collect 12: the newest Put stays"; got = saw_ended (collect 12 (on0 box2)); wanted = plain 0 (12 ∷ flat box2) } ∷
    record { name = "after W2 and a rollback of start 14, collect 14: the Rollback goes"; got = saw_ended (collect 14 (on0 (rollback_a 14 box2).box)); wanted = plain 0 (14 ∷ flat box2) } ∷
    record { name = "b locked at 3, a at 4, collect 5: 7 with a's holder"; got = saw_ended (collect 5 (on0 locked)); wanted = 7 ∷ 7 ∷ 4 ∷ 1 ∷ 1 ∷ 0 ∷ flat locked } ∷
    record { name = "collect 3: 7 with b's"; got = saw_ended (collect 3 (on0 locked)); wanted = 7 ∷ 7 ∷ 3 ∷ 1 ∷ 1 ∷ 0 ∷ flat locked } ∷
    record { name = "floor 5, read at 4: 14"; got = saw_read (examine 5 key_a 4 fresh); wanted = plain 14 (0 ∷ 0 ∷ []) } ∷
    record { name = "floor 5, read at 4 of a key of 4 bytes: 1"; got = saw_read (examine 5 short 4 fresh); wanted = plain 1 (0 ∷ 0 ∷ []) } ∷
    record { name = "floor 12, after W2, read at 12 the row"; got = saw_read (examine 12 key_a 12 box2); wanted = plain 0 (1 ∷ 1 ∷ row) } ∷
    record { name = "floor 1, page at 0, end and resume a: 14"; got = saw_page (scan_page 1 (record { from = none; to = some key_a; resume = some key_a }) 0 (record { rows = 1; bytes = 1 }) fresh []); wanted = plain 14 (0 ∷ []) } ∷
    record { name = "floor 1, page at 0, resume of 4 bytes: 1"; got = saw_page (scan_page 1 (record { from = none; to = none; resume = some short }) 0 (record { rows = 1; bytes = 1 }) fresh []); wanted = plain 1 (0 ∷ []) } ∷
    record { name = "a locked at 10, conflicting intents at 3: an empty page"; got = saw_page (scan_conflicting_intents no_bounds 3 (record { rows = 1; bytes = 1 }) (after 5 box1).box (9 ∷ 9 ∷ 9 ∷ [])); wanted = plain 0 (3 ∷ 0 ∷ 0 ∷ 0 ∷ []) } ∷
    record { name = "floor 5, prewrite start 5: 14"; got = saw_done (prewrite 5 (head 5) (put short) fresh); wanted = plain 14 [] } ∷
    record { name = "floor 5, prewrite start 6: 0"; got = saw_done (prewrite 5 (head 6) (put key_a) fresh); wanted = plain 0 [] } ∷
    record { name = "floor 5, prewrite start 5, time to live 0: 3"; got = saw_done (prewrite 5 (record { txn = 7; start = 5; primary = key_a; ttl = 0 }) (put key_a) fresh); wanted = plain 3 [] } ∷
    record { name = "floor 5, commit (5, 9): 14"; got = saw_done (commit 5 (ending 5 9) key_a fresh); wanted = plain 14 [] } ∷
    record { name = "floor 5, commit (5, 5): 3"; got = saw_done (commit 5 (ending 5 5) key_a fresh); wanted = plain 3 [] } ∷
    record { name = "floor 5, rollback start 5 of a key of 4 bytes: 14"; got = saw_done (rollback 5 7 5 short fresh); wanted = plain 14 [] } ∷
    record { name = "floor 5, one-step (3, 9) of an empty batch: 14"; got = saw_count (one_step 5 (ending 3 9) (0 ∷ 0 ∷ []) fresh); wanted = plain 14 (0 ∷ []) } ∷
    record { name = "floor 5, one-step (5, 9) of a key of 4 bytes: 14"; got = saw_count (one_step 5 (ending 5 9) (one_mutation (put short)) fresh); wanted = plain 14 (0 ∷ []) } ∷
    record { name = "floor 10, W8 again: 14"; got = saw_count (one_step 10 (ending 10 12) batch_a (after 10 box2).box); wanted = plain 14 (0 ∷ []) } ∷
    []

-- ---- the claim

-- what a case computes with: a proof that unfolds this unfolds all that its line names
unfoldable pub opened : Unit {0}
unfolding saw_ended short fresh_state settle_state none_counts kept_lines dropped_lines pointed_to those collected locks_above_step collect_steps collect row_page_steps locks_of locks_within sound_step unless_above conflicting conflict_page key_lock_bytes scan_conflicting_intents rollback_terms_step locks name_unless differing saw plain saw_done saw_row saw_read saw_count saw_page flat_line flat_lines flat_defaults flat key_a key_b row put head ending batch_a batch_aB no_bounds cmp eq_bytes lt_bytes read_on ◌>>=◌ just only byte stretch piece up_to times section ended whole number_from digits number_of table_of key_form integers texts fields mask_bytes bone none_set spares_zero bones row_from row_form of_kind mutation above ascend if_ascend batch_of mutations keys fitted one_mutation one_key ◌▸◌ need need_own if_passed fresh records_of add_record lock_of add_lock row_of add_row before row_before put_in insert_by drop_lock unless_lock drop_row unless_row all_sound sound_lock sum_of load_of fits room_for lock_lets keep_if at_or_below newest_first show_if show_row one_record walk read_steps examine read bounds_step page_arguments keys_of keys_within on_page too_large cost_step limit_step on_judged page_walk unless_past read_key page key_row_bytes all_bytes page_bytes write_if written scan_page settle of_batch zero_step all_below found_if stamped_at prewrite_terms_step lock_step prewrite_entry prewrite_entries store_if lock_line unless_locked apply_prewrite apply_prewrites prewrite_room prewrite_steps prewrite_all prewrite_batch prewrite commit_terms_step with_start commit_lock commit_step commit_key commit_keys commit_to apply_commit apply_commits commit_steps commit_all commit_batch commit rollback_records rollback_lock rollback_step rollback_key rollback_keys rollback_to apply_rollback apply_rollbacks rollback_room rollback_steps rollback_all rollback_batch rollback arguments_step applied_if applied_by applied_in none_other all_applied some_applied step_lock step_entry step_entries newest_step replace_if apply_step apply_steps step_new step_applied step_arguments then_applied count_if step_done step_all of_counted one_step intent_arguments intent_walk intent_page lock_bytes scan_intent_page lock_if Rattle.rules.specs.Intent.unless_above judge_lock intent_at
opened = tt

-- no row of the tables differs
all : (differing table ≡ []) × (differing room_table ≡ []) × (differing floor_table ≡ [])
unfolding opened on0 after deleted locked floor_table saw_load full crowded room_table prewrite_a commit_a rollback_a buffer page_at12 box1 box2 box6 box11 table
all = (refl, refl, refl)

pub worked : differing table ≡ []
worked = all.0

pub room-worked : differing room_table ≡ []
room-worked = all.1

pub floor-worked : differing floor_table ≡ []
floor-worked = all.2
