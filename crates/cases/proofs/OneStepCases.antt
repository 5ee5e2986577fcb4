-- One-step batch over boxes made by hand: each step that no store can meet, alone, and the order of the steps. The call is a Put of a with the
-- row 00 00 00, start 10, commit 12, where nothing else is said. The two 9s of entries that are applied stand in an order that nothing can tell.
-- Assumes nothing.
use mathlib.Core.Path.{◌≡◌, refl}
use mathlib.Core.List.{List, [], ◌∷◌, ◌++◌}
use mathlib.Core.Option.{none}
use Rattle.forms.specs.Bytes.{Bytes}
use Rattle.forms.specs.Ones.{one_mutation}
use Rattle.rules.specs.declared.records.Kind.TheVariants.{Put, Delete}
use Rattle.rules.specs.Box.{Box, fresh}
use Rattle.rules.specs.Calls.{Done}
use Rattle.rules.specs.OneStep.{Counted, step_new, one_step}
use Rattle.rules.proofs.Worked.{Case, differing, opened, plain, saw, key_a, key_b, put, ending, batch_a, batch_aB, short}
use Rattle.cases.proofs.Untidy.{box, lock, write, stored, at, beyond, mine, theirs, unsound, unsound_above, put_of, both, nobody, held, makes, leaves_count}

abbrev stepped : Bytes → Box → Counted
stepped batch b = one_step 0 (ending 10 12) batch b

abbrev putting : Box → Counted
putting b = stepped batch_a b

abbrev putting_both : Box → Counted
putting_both b = stepped batch_aB b

abbrev deleting : Box → Counted
deleting b = stepped (one_mutation (record { key = key_a; row = none })) b

-- what a step leaves
abbrev left : (Box → Counted) → Box → Done
left call b = (call b).done

abbrev broken_row : Bytes
broken_row = 1 ∷ 2 ∷ 0 ∷ 0 ∷ []

pub one_step_table : List Case
one_step_table =
    -- "6; 3": "zero transaction, start", "commit not above start"; "after the last 3, .. and before any entry is judged" 14
    leaves_count "one-step: 6 goes before 3" (one_step 0 nobody (0 ∷ [])) fresh (plain 6 []) 0 ∷
    leaves_count "one-step: transaction 0, 3 goes before 14" (one_step 10 nobody batch_a) fresh (plain 3 []) 0 ∷
    leaves_count "one-step: start 0, 3 goes before 14" (one_step 0 (ending 0 12) batch_a) fresh (plain 3 []) 0 ∷
    leaves_count "one-step: commit not above start, 3 goes before 14" (one_step 10 (ending 10 10) batch_a) fresh (plain 3 []) 0 ∷
    leaves_count "one-step: 3 goes before an empty batch's 0" (one_step 0 nobody (0 ∷ 0 ∷ [])) fresh (plain 3 []) 0 ∷
    leaves_count "one-step: an empty batch: 0, count 0" (stepped (0 ∷ 0 ∷ [])) fresh (plain 0 []) 0 ∷
    -- "each entry in turn 1, 2"
    leaves_count "one-step: 1 goes before 2" (stepped (0 ∷ 1 ∷ 4 ∷ short ++ broken_row)) fresh (plain 1 []) 0 ∷
    leaves_count "one-step: a's 2 goes before the next key's 1" (stepped (0 ∷ 2 ∷ 5 ∷ key_a ++ broken_row ++ put_of beyond)) fresh (plain 2 []) 0 ∷
    leaves_count "one-step: the next key's 1 goes before a's 9" (stepped (both (put_of key_a) (put_of beyond))) (box (write 12 10 12 Delete ∷ []) []) (plain 1 []) 0 ∷
    -- "An entry is applied if the record at commit has this start, this kind and, for a Put, this row; same start but other kind or row, 9"
    leaves_count "one-step: other kind: 9" putting (box (write 12 10 12 Delete ∷ []) (stored 10 ∷ [])) (plain 9 []) 0 ∷
    leaves_count "one-step: other row: 9" putting (box (write 12 10 12 Put ∷ []) (record { key = key_a; start = 10; row = 0 ∷ 0 ∷ 1 ∷ 1 ∷ [] } ∷ [])) (plain 9 []) 0 ∷
    leaves_count "one-step: its row missing: 9" putting (box (write 12 10 12 Put ∷ []) []) (plain 9 []) 0 ∷
    leaves_count "one-step: other kind, 9 goes before 7" putting (box (theirs ∷ write 12 10 12 Delete ∷ []) []) (plain 9 []) 0 ∷
    leaves_count "one-step: another start's record at commit: 8" putting (box (write 12 9 12 Put ∷ []) (stored 10 ∷ [])) (plain 8 []) 0 ∷
    -- "All applied: accepted, unchanged. Some: 9"
    leaves_count "one-step: applied by an unsound record: 0, count 1" putting (box (write 12 10 13 Put ∷ []) (stored 10 ∷ [])) (plain 0 []) 1 ∷
    leaves_count "one-step: applied, and the own lock stands: 0, count 1" putting (box (mine Put ∷ write 12 10 12 Put ∷ []) (stored 10 ∷ [])) (plain 0 []) 1 ∷
    leaves_count "one-step: some, 9 goes before b's 7" putting_both (box (write 12 10 12 Put ∷ at key_b theirs ∷ []) (stored 10 ∷ [])) (plain 9 []) 0 ∷
    -- "None: per entry, another's lock 7, own lock of other kind 9, unsound record 9, record at or above start 8"
    leaves_count "one-step: another transaction's lock, 7 goes before 9" putting (box (theirs ∷ []) []) (held 9 10 3 2) 0 ∷
    leaves_count "one-step: a lock of another start, 7 goes before an unsound record's 9" putting (box (lock 7 9 1 Put ∷ unsound ∷ []) []) (held 7 9 1 1) 0 ∷
    leaves_count "one-step: own lock of other kind, 9 goes before 8" putting (box (mine Delete ∷ write 11 4 11 Delete ∷ []) []) (plain 9 []) 0 ∷
    leaves_count "one-step: own lock of other kind: 9" putting (box (mine Delete ∷ []) []) (plain 9 []) 0 ∷
    leaves_count "one-step: an unsound record: 9" putting (box (unsound ∷ []) []) (plain 9 []) 0 ∷
    leaves_count "one-step: an unsound record, 9 goes before 8" putting (box (unsound_above ∷ []) []) (plain 9 []) 0 ∷
    leaves_count "one-step: a record at the start: 8" putting (box (write 10 4 10 Delete ∷ []) []) (plain 8 []) 0 ∷
    leaves_count "one-step: a's 8 goes before b's 7" putting_both (box (write 10 4 10 Delete ∷ at key_b theirs ∷ []) []) (plain 8 []) 0 ∷
    -- "then per entry newest at or above commit 8": such a record is at or above the start too, unless the terms are those that 3 has refused
    record { name = "one-step: newest at the commit: 8"; got = saw (step_new (ending 13 12) (put key_a ∷ []) (box (write 12 4 12 Delete ∷ []) [])) []; wanted = plain 8 [] } ∷
    -- "Each entry gets a record ..; a Put's row is stored and replaces one already stored at this start; an own lock goes"
    makes "one-step: the own lock goes, though its row was missing" (left putting) (box (mine Put ∷ []) []) (plain 0 []) (box (write 12 10 12 Put ∷ []) (stored 10 ∷ [])) ∷
    makes "one-step: a Delete leaves a row that stood at its start" (left deleting) (box [] (stored 10 ∷ [])) (plain 0 []) (box (write 12 10 12 Delete ∷ []) (stored 10 ∷ [])) ∷
    []

pub one-step-worked : differing one_step_table ≡ []
unfolding opened one_step_table
one-step-worked = refl
