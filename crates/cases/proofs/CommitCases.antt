-- Commit over boxes made by hand: each step that no store can meet, alone, and the order of the steps. The call is of a, start 10, commit 12,
-- where nothing else is said.
-- Assumes nothing.
use mathlib.Core.Path.{◌≡◌, refl}
use mathlib.Core.Option.{none, some}
use mathlib.Core.List.{List, [], ◌∷◌}
use Rattle.forms.specs.Bytes.{piece_bytes}
use Rattle.rules.specs.declared.records.Kind.TheVariants.{Put, Delete, Rollback}
use Rattle.rules.specs.Box.{Box, fresh}
use Rattle.rules.specs.Calls.{Done}
use Rattle.rules.specs.Commit.{commit_step, commit_batch, commit}
use Rattle.rules.proofs.Worked.{Case, differing, opened, saw, plain, key_a, key_b, ending, short}
use Rattle.cases.proofs.Untidy.{box, lock, write, stored, broken, at, beyond, mine, theirs, unsound, both, nobody, held, leaves}

abbrev committing : Box → Done
committing b = commit 0 (ending 10 12) key_a b

pub commit_table : List Case
commit_table =
    -- "6, 5; 3": "zero transaction, start", "commit not above start"; "after the last 3" 14
    leaves "commit: 6 goes before 3" (commit_batch 0 nobody (0 ∷ [])) fresh (plain 6 []) ∷
    leaves "commit: 5 goes before 3" (commit_batch 0 nobody (0 ∷ 0 ∷ [])) fresh (plain 5 []) ∷
    leaves "commit: transaction 0, 3 goes before 14" (commit 10 nobody key_a) fresh (plain 3 []) ∷
    leaves "commit: start 0, 3 goes before 14" (commit 0 (ending 0 12) key_a) fresh (plain 3 []) ∷
    leaves "commit: commit not above start, 3 goes before 14" (commit 10 (ending 10 10) key_a) fresh (plain 3 []) ∷
    leaves "commit: 14 goes before a key's 1" (commit 10 (ending 10 12) short) fresh (plain 14 []) ∷
    -- "per key: 1; records sound, 9"
    leaves "commit: 1 goes before 9" (commit 0 (ending 10 12) short) (box (at short unsound ∷ []) []) (plain 1 []) ∷
    leaves "commit: an unsound record: 9" committing (box (mine Put ∷ unsound ∷ []) (stored 10 ∷ [])) (plain 9 []) ∷
    leaves "commit: 9 goes before a Rollback's 8" committing (box (write 14 10 10 Rollback ∷ []) []) (plain 9 []) ∷
    leaves "commit: 9 goes before no lock's 8" committing (box (unsound ∷ []) []) (plain 9 []) ∷
    -- "the lowest-stamped record with this start, if any: Rollback, 8; other commit, 8; equal commit, accepted and unchanged, but 9 if this
    -- start's lock stands or a Put's default is missing"
    leaves "commit: a Rollback, 8 goes before the lock's 9" committing (box (mine Put ∷ write 10 10 10 Rollback ∷ []) (stored 10 ∷ [])) (plain 8 []) ∷
    -- a Rollback with the call's commit is unsound, so only the step itself can be asked
    record { name = "commit: a Rollback with this commit: 8"; got = saw (commit_step (ending 10 12) [] none none (some (record { stamp = 12; start = 10; commit = 12; kind = Rollback }))) []; wanted = plain 8 [] } ∷
    leaves "commit: other commit, 8 goes before the lock's 9" committing (box (mine Delete ∷ write 14 10 14 Delete ∷ []) []) (plain 8 []) ∷
    leaves "commit: other commit, 8 goes before the missing row's 9" committing (box (write 14 10 14 Put ∷ []) []) (plain 8 []) ∷
    leaves "commit: equal commit, this start's lock stands: 9" committing (box (theirs ∷ write 12 10 12 Delete ∷ []) []) (plain 9 []) ∷
    leaves "commit: equal commit, a Put's row missing: 9" committing (box (write 12 10 12 Put ∷ []) []) (plain 9 []) ∷
    leaves "commit: equal commit: 0" committing (box (write 12 10 12 Put ∷ []) (stored 10 ∷ [])) (plain 0 []) ∷
    leaves "commit: equal commit, a Put's row does not decode: 0" committing (box (write 12 10 12 Put ∷ []) (broken 10 ∷ [])) (plain 0 []) ∷
    leaves "commit: equal commit, a Delete with a row: 0" committing (box (write 12 10 12 Delete ∷ []) (stored 10 ∷ [])) (plain 0 []) ∷
    leaves "commit: equal commit, another start's lock: 0" committing (box (lock 9 13 3 Delete ∷ write 12 10 12 Delete ∷ []) []) (plain 0 []) ∷
    leaves "commit: two of this start, asked with the lower: 0" committing (box (write 12 10 12 Delete ∷ write 14 10 14 Delete ∷ []) []) (plain 0 []) ∷
    leaves "commit: two of this start, asked with the higher: 8" (commit 0 (ending 10 14) key_a) (box (write 12 10 12 Delete ∷ write 14 10 14 Delete ∷ []) []) (plain 8 []) ∷
    -- "None: no lock, 8; another's lock, 7; newest stamp at or above commit, 8; Put whose default is missing or does not decode, Delete with a
    -- default, or kind Rollback, 9"
    leaves "commit: no lock: 8" committing (box [] (stored 10 ∷ [])) (plain 8 []) ∷
    leaves "commit: another transaction's lock, 7 goes before 8" committing (box (theirs ∷ write 12 4 12 Delete ∷ []) []) (held 9 10 3 2) ∷
    leaves "commit: a lock of another start, 7 goes before 9" committing (box (lock 7 9 1 Put ∷ []) []) (held 7 9 1 1) ∷
    leaves "commit: newest stamp at the commit, 8 goes before 9" committing (box (mine Put ∷ write 12 4 12 Delete ∷ []) []) (plain 8 []) ∷
    leaves "commit: own Put lock, its row missing: 9" committing (box (mine Put ∷ []) []) (plain 9 []) ∷
    leaves "commit: own Put lock, its row does not decode: 9" committing (box (mine Put ∷ []) (broken 10 ∷ [])) (plain 9 []) ∷
    leaves "commit: own Delete lock with a row: 9" committing (box (mine Delete ∷ []) (stored 10 ∷ [])) (plain 9 []) ∷
    leaves "commit: own lock of kind Rollback: 9" committing (box (mine Rollback ∷ []) []) (plain 9 []) ∷
    -- one key after the other
    leaves "commit: a's 8 goes before the next key's 1" (commit_batch 0 (ending 10 12) (both (piece_bytes key_a) (piece_bytes beyond))) fresh (plain 8 []) ∷
    leaves "commit: b's missing row refuses a too: 9" (commit_batch 0 (ending 10 12) (both (piece_bytes key_a) (piece_bytes key_b))) (box (mine Delete ∷ at key_b (mine Put) ∷ []) []) (plain 9 []) ∷
    []

pub commit-worked : differing commit_table ≡ []
unfolding opened commit_table
commit-worked = refl
