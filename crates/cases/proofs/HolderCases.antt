-- Document 02, CR 9: "Answer 7 shall carry, besides transaction and start, the lock's time to live and kind, in every call that can give it." One
-- 7 of each such call, with all four fields of the lock; and the order of a collection's steps, which no store can tell.
-- Assumes nothing.
use Prim.Native.Nat.{ℕ}
use mathlib.Core.Path.{◌≡◌, refl}
use mathlib.Core.List.{List, [], ◌∷◌, ◌++◌}
use Rattle.rules.specs.declared.records.Kind.TheVariants.{Delete, Rollback}
use Rattle.rules.specs.Box.{Box}
use Rattle.rules.specs.Read.{examine}
use Rattle.rules.specs.Written.{scan_page}
use Rattle.rules.specs.Calls.{State}
use Rattle.rules.specs.Prewrite.{prewrite}
use Rattle.rules.specs.Commit.{commit}
use Rattle.rules.specs.Rollback.{rollback}
use Rattle.rules.specs.OneStep.{one_step}
use Rattle.rules.specs.Collect.{collect}
use Rattle.rules.proofs.Worked.{Case, differing, opened, plain, saw_read, saw_page, saw_ended, flat, key_a, put, head, ending, batch_a, no_bounds}
use Rattle.cases.proofs.Untidy.{box, lock, held, leaves, leaves_count}

-- a locked by transaction 9 at 4, time to live 3, a Delete
abbrev locked_box : Box
locked_box = box (lock 9 4 3 Delete ∷ []) []

on : ℕ → Box → State
on floor b = record { box = b; floor = floor }

pub holder_table : List Case
unfolding on
holder_table =
    record { name = "7 of a read"; got = saw_read (examine 0 key_a 5 locked_box); wanted = held 9 4 3 2 ++ (0 ∷ 0 ∷ []) } ∷
    record { name = "7 of a page"; got = saw_page (scan_page 0 no_bounds 5 (record { rows = 1; bytes = 8 }) locked_box (8 ∷ [])); wanted = held 9 4 3 2 ++ (0 ∷ 8 ∷ []) } ∷
    leaves "7 of a prewrite" (prewrite 0 (head 10) (put key_a)) locked_box (held 9 4 3 2) ∷
    leaves "7 of a commit" (commit 0 (ending 10 12) key_a) locked_box (held 9 4 3 2) ∷
    leaves "7 of a rollback" (rollback 0 7 10 key_a) locked_box (held 9 4 3 2) ∷
    leaves_count "7 of a one-step batch" (one_step 0 (ending 10 12) batch_a) locked_box (held 9 4 3 2) 0 ∷
    record { name = "7 of a collection"; got = saw_ended (collect 5 (on 0 locked_box)); wanted = held 9 4 3 2 ++ (0 ∷ flat locked_box) } ∷
    -- "for a collection with a lower floor, tested first; a collection with a lock at or below F answers 7"
    record { name = "collect: 14 goes before 7"; got = saw_ended (collect 5 (on 6 locked_box)); wanted = plain 14 [] ++ (6 ∷ flat locked_box) } ∷
    record { name = "collect: an unsound lock: 7"; got = saw_ended (collect 5 (on 0 (box (lock 0 0 0 Rollback ∷ []) []))); wanted = held 0 0 0 3 ++ (0 ∷ flat (box (lock 0 0 0 Rollback ∷ []) [])) } ∷
    []

pub holder-worked : differing holder_table ≡ []
unfolding opened holder_table on
holder-worked = refl
