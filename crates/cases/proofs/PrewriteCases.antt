-- Prewrite over boxes made by hand: each step that no store can meet, alone, and the order of the steps. The call is a Put of a with the row
-- 00 00 00, start 10, where nothing else is said.
-- Assumes nothing.
use Prim.Native.Nat.{ℕ}
use mathlib.Core.Path.{◌≡◌, refl}
use mathlib.Core.List.{List, [], ◌∷◌}
use mathlib.Core.Option.{none, some}
use Rattle.forms.specs.Key.{Key}
use Rattle.rules.specs.declared.records.Kind.TheVariants.{Put, Delete}
use Rattle.rules.specs.Box.{Box, Standing, fresh}
use Rattle.rules.specs.Calls.{Done}
use Rattle.rules.specs.Prewrite.{PrewriteTerms, prewrite_batch, prewrite}
use Rattle.rules.proofs.Worked.{Case, differing, opened, plain, key_a, key_b, put, head, short}
use Rattle.cases.proofs.Untidy.{box, lock, write, stored, stored_at, beyond, mine, theirs, unsound, unsound_above, put_of, both, held, leaves}

abbrev terms : ℕ → ℕ → Key → ℕ → PrewriteTerms
terms txn start primary ttl = record { txn = txn; start = start; primary = primary; ttl = ttl }

abbrev putting : Box → Done
putting b = prewrite 0 (head 10) (put key_a) b

abbrev deleting : Box → Done
deleting b = prewrite 0 (head 10) (record { key = key_a; row = none }) b

-- a Put of a key whose row lacks the bone count
abbrev putting_broken : Key → Box → Done
putting_broken k b = prewrite 0 (head 10) (record { key = k; row = some (0 ∷ 0 ∷ []) }) b

-- a record at the start, with nothing else against the call
abbrev late : Box
late = box (write 10 4 10 Delete ∷ []) []

pub prewrite_table : List Case
prewrite_table =
    -- "batch 6, 5; transaction, start 3; primary 1; time to live 3"
    leaves "prewrite: 6 goes before 3" (prewrite_batch 0 (terms 0 10 key_a 1) (0 ∷ [])) fresh (plain 6 []) ∷
    leaves "prewrite: 5 goes before 3" (prewrite_batch 0 (terms 0 10 key_a 1) (0 ∷ 0 ∷ [])) fresh (plain 5 []) ∷
    leaves "prewrite: transaction 0, 3 goes before the primary's 1" (prewrite 0 (terms 0 10 short 1) (put key_a)) fresh (plain 3 []) ∷
    leaves "prewrite: start 0, 3 goes before the primary's 1" (prewrite 0 (terms 7 0 short 1) (put key_a)) fresh (plain 3 []) ∷
    leaves "prewrite: the primary's 1 goes before the time to live's 3" (prewrite 0 (terms 7 10 short 0) (put key_a)) fresh (plain 1 []) ∷
    leaves "prewrite: time to live 0, 3 goes before 14" (prewrite 10 (terms 7 10 key_a 0) (put key_a)) fresh (plain 3 []) ∷
    leaves "prewrite: 14 goes before an entry's 1" (prewrite 10 (head 10) (put short)) fresh (plain 14 []) ∷
    -- "then per entry ascending: 1, 2; each record of the key sound (9); any record stamp at or above start, 8"
    leaves "prewrite: 1 goes before 2" (putting_broken short) fresh (plain 1 []) ∷
    leaves "prewrite: 2 goes before 9" (putting_broken key_a) (box (unsound ∷ []) []) (plain 2 []) ∷
    leaves "prewrite: an unsound record: 9" putting (box (unsound ∷ []) []) (plain 9 []) ∷
    leaves "prewrite: 9 goes before 8" putting (box (unsound_above ∷ []) []) (plain 9 []) ∷
    leaves "prewrite: a record at the start: 8" putting late (plain 8 []) ∷
    leaves "prewrite: 8 goes before 7" putting (box (theirs ∷ write 14 4 14 Delete ∷ []) []) (plain 8 []) ∷
    leaves "prewrite: 8 goes before an own equal lock" putting (box (mine Put ∷ write 14 4 14 Delete ∷ []) (stored 10 ∷ [])) (plain 8 []) ∷
    -- "a lock of another transaction or start, 7; own lock with any other field, or a Put whose stored row is missing or different, 9"
    leaves "prewrite: another transaction's lock, 7 goes before 9" putting (box (theirs ∷ []) []) (held 9 10 3 2) ∷
    leaves "prewrite: a lock of another start: 7" putting (box (lock 7 9 1 Put ∷ []) (stored 10 ∷ [])) (held 7 9 1 1) ∷
    leaves "prewrite: own lock with another primary: 9" putting (box (record { key = key_a; line = Standing (record { txn = 7; primary = key_b; start = 10; ttl = 1; kind = Put }) } ∷ []) (stored 10 ∷ [])) (plain 9 []) ∷
    leaves "prewrite: own lock with another time to live: 9" putting (box (lock 7 10 3 Put ∷ []) (stored 10 ∷ [])) (plain 9 []) ∷
    leaves "prewrite: own lock of another kind: 9" putting (box (mine Delete ∷ []) (stored 10 ∷ [])) (plain 9 []) ∷
    leaves "prewrite: own lock, its row missing: 9" putting (box (mine Put ∷ []) []) (plain 9 []) ∷
    leaves "prewrite: own lock, its row different: 9" putting (box (mine Put ∷ []) (record { key = key_a; start = 10; row = 0 ∷ 0 ∷ 1 ∷ 1 ∷ [] } ∷ [])) (plain 9 []) ∷
    -- "own equal lock, accepted and unchanged; a default without lock, 9"
    leaves "prewrite: own equal lock: 0" putting (box (mine Put ∷ []) (stored 10 ∷ [])) (plain 0 []) ∷
    leaves "prewrite: own equal Delete lock beside a row: 0" deleting (box (mine Delete ∷ []) (stored 10 ∷ [])) (plain 0 []) ∷
    leaves "prewrite: a row without lock: 9" putting (box [] (stored 10 ∷ [])) (plain 9 []) ∷
    leaves "prewrite: a row without lock, of a Delete: 9" deleting (box [] (stored 10 ∷ [])) (plain 9 []) ∷
    -- one entry after the other
    leaves "prewrite: a's 8 goes before the next key's 1" (prewrite_batch 0 (head 10) (both (put_of key_a) (put_of beyond))) late (plain 8 []) ∷
    leaves "prewrite: b's row without lock refuses a too: 9" (prewrite_batch 0 (head 10) (both (put_of key_a) (put_of key_b))) (box [] (stored_at key_b 10 ∷ [])) (plain 9 []) ∷
    []

pub prewrite-worked : differing prewrite_table ≡ []
unfolding opened prewrite_table
prewrite-worked = refl
