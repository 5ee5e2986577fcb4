-- Rollback over boxes made by hand: each step that no store can meet, alone, and the order of the steps. The call is of a, start 10, where
-- nothing else is said.
-- Assumes nothing.
use Prim.Native.Nat.{ℕ}
use Prim.Native.String.{String}
use mathlib.Core.Path.{◌≡◌, refl}
use mathlib.Core.List.{List, [], ◌∷◌}
use mathlib.Core.Option.{none, some}
use Rattle.forms.specs.Bytes.{piece_bytes}
use Rattle.rules.specs.declared.records.Kind.{Kind}
use Rattle.rules.specs.declared.records.Kind.TheVariants.{Put, Delete, Rollback}
use Rattle.rules.specs.Box.{Box, fresh}
use Rattle.rules.specs.Calls.{Done}
use Rattle.rules.specs.Rollback.{rollback_step, rollback_batch, rollback}
use Rattle.rules.proofs.Worked.{Case, differing, opened, plain, saw, key_a, key_b, short}
use Rattle.cases.proofs.Untidy.{box, lock, write, stored, broken, at, stored_at, beyond, mine, theirs, unsound, both, held, leaves}

abbrev rolling : Box → Done
rolling b = rollback 0 7 10 key_a b

-- 9 for a record of a start and a kind that is stamped 10
abbrev stamped : String → ℕ → Kind → Case
stamped name start kind = record { name = name; got = saw (rollback_step 7 10 none none (some (record { stamp = 10; start = start; commit = 10; kind = kind }))) []; wanted = plain 9 [] }

pub rollback_table : List Case
rollback_table =
    -- "6, 5; 3": "zero transaction, start"; "after the last 3" 14
    leaves "rollback: 6 goes before 3" (rollback_batch 0 0 10 (0 ∷ [])) fresh (plain 6 []) ∷
    leaves "rollback: 5 goes before 3" (rollback_batch 0 0 10 (0 ∷ 0 ∷ [])) fresh (plain 5 []) ∷
    leaves "rollback: transaction 0, 3 goes before 14" (rollback 10 0 10 key_a) fresh (plain 3 []) ∷
    leaves "rollback: start 0, 3 goes before 14" (rollback 0 7 0 key_a) fresh (plain 3 []) ∷
    leaves "rollback: 14 goes before a key's 1" (rollback 10 7 10 short) fresh (plain 14 []) ∷
    -- "per key: 1; records by ascending stamp, each sound (9), with this start and not Rollback 8"
    leaves "rollback: 1 goes before 9" (rollback 0 7 10 short) (box (at short unsound ∷ []) []) (plain 1 []) ∷
    leaves "rollback: an unsound record: 9" rolling (box (unsound ∷ []) []) (plain 9 []) ∷
    leaves "rollback: of one record 9 goes before 8" rolling (box (write 12 10 13 Put ∷ []) (stored 10 ∷ [])) (plain 9 []) ∷
    leaves "rollback: 8 at 12 goes before 9 at 14" rolling (box (write 12 10 12 Delete ∷ write 14 3 15 Put ∷ []) []) (plain 8 []) ∷
    leaves "rollback: 9 at 8 goes before 8 at 12" rolling (box (unsound ∷ write 12 10 12 Delete ∷ []) []) (plain 9 []) ∷
    leaves "rollback: a Delete with this start: 8" rolling (box (write 12 10 12 Delete ∷ []) []) (plain 8 []) ∷
    -- "a record stamped with this start that is not its Rollback, 9; its Rollback with lock or default at this start, 9, else accepted and unchanged"
    leaves "rollback: 8 at 12 goes before 9 of the record stamped 10" rolling (box (write 10 4 10 Delete ∷ write 12 10 12 Delete ∷ []) []) (plain 8 []) ∷
    leaves "rollback: a Delete stamped with this start: 9" rolling (box (write 10 4 10 Delete ∷ []) []) (plain 9 []) ∷
    leaves "rollback: stamped with this start, 9 goes before 7" rolling (box (theirs ∷ write 10 4 10 Delete ∷ []) []) (plain 9 []) ∷
    leaves "rollback: its Rollback and this start's lock, 9 goes before 7" rolling (box (theirs ∷ write 10 10 10 Rollback ∷ []) []) (plain 9 []) ∷
    leaves "rollback: its Rollback and a row at this start: 9" rolling (box (write 10 10 10 Rollback ∷ []) (stored 10 ∷ [])) (plain 9 []) ∷
    leaves "rollback: its Rollback, another start's lock and row: 0" rolling (box (lock 9 13 3 Put ∷ write 10 10 10 Rollback ∷ []) (stored 13 ∷ [])) (plain 0 []) ∷
    -- the step before has refused a Rollback of another start (unsound) and a Put of this one, so only the step itself can be asked
    stamped "rollback: a Rollback of another start is not its Rollback" 9 Rollback ∷
    stamped "rollback: a Put of this start is not its Rollback" 10 Put ∷
    -- "another's lock 7; Put lock without decoding default 9; Delete lock or no lock with a default 9; kind Rollback 9"
    leaves "rollback: another transaction's lock, 7 goes before 9" rolling (box (lock 9 10 3 Put ∷ []) []) (held 9 10 3 1) ∷
    leaves "rollback: a lock of another start, 7 goes before 9" rolling (box (lock 7 9 1 Delete ∷ []) (stored 10 ∷ [])) (held 7 9 1 2) ∷
    leaves "rollback: own Put lock, its row missing: 9" rolling (box (mine Put ∷ []) []) (plain 9 []) ∷
    leaves "rollback: own Put lock, its row does not decode: 9" rolling (box (mine Put ∷ []) (broken 10 ∷ [])) (plain 9 []) ∷
    leaves "rollback: own Delete lock with a row: 9" rolling (box (mine Delete ∷ []) (stored 10 ∷ [])) (plain 9 []) ∷
    leaves "rollback: no lock with a row: 9" rolling (box [] (stored 10 ∷ [])) (plain 9 []) ∷
    leaves "rollback: own lock of kind Rollback: 9" rolling (box (mine Rollback ∷ []) []) (plain 9 []) ∷
    -- one key after the other; Worked has the 11
    leaves "rollback: a's 8 goes before the next key's 1" (rollback_batch 0 7 10 (both (piece_bytes key_a) (piece_bytes beyond))) (box (write 12 10 12 Delete ∷ []) []) (plain 8 []) ∷
    leaves "rollback: b's row without lock refuses a too: 9" (rollback_batch 0 7 10 (both (piece_bytes key_a) (piece_bytes key_b))) (box [] (stored_at key_b 10 ∷ [])) (plain 9 []) ∷
    []

pub rollback-worked : differing rollback_table ≡ []
unfolding opened rollback_table
rollback-worked = refl
