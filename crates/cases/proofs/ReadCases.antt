-- Read, and one intent at a point, over boxes made by hand: each step that no store can meet, alone, and the order of the steps.
-- Assumes nothing.
use Prim.Native.Nat.{ℕ}
use Prim.Native.String.{String}
use mathlib.Core.Path.{◌≡◌, refl}
use mathlib.Core.List.{List, [], ◌∷◌, ◌++◌}
use Rattle.forms.specs.Key.{Key}
use Rattle.rules.specs.declared.records.Kind.TheVariants.{Put, Delete, Rollback}
use Rattle.rules.specs.Answers.{Reply, nothing, shown, refused, answer_of}
use Rattle.rules.specs.Box.{Box, Lock, Standing, KeyLine}
use Rattle.rules.specs.Read.{examine}
use Rattle.rules.specs.Intent.{intent_at}
use Rattle.rules.proofs.Worked.{Case, differing, opened, saw, plain, saw_read, flat_line, key_a, key_b, row, short}
use Rattle.cases.proofs.Untidy.{box, lock, write, stored, broken, at, stored_at, mine, theirs, unsound, held}

-- a read of a on the floor 0
abbrev reads : String → ℕ → Box → List ℕ → Case
reads name moment b wanted = record { name = name; got = saw_read (examine 0 key_a moment b); wanted = wanted }

-- 9 at a record: "the number of write records it examined, the refusing one included", and nothing shown
abbrev refused_at : ℕ → List ℕ
refused_at count = plain 9 (count ∷ 0 ∷ [])

abbrev shows : ℕ → List ℕ
shows count = plain 0 (count ∷ 1 ∷ row)

pub read_table : List Case
read_table =
    -- "then records from the newest at or below the moment downward, each checked (9)"
    -- "Sound record: its commit equals its write stamp; start not 0; Put and Delete have commit above start, Rollback has commit equal to start"
    reads "read: a Put whose commit is not its stamp: 9" 9 (box (unsound ∷ []) (stored 3 ∷ [])) (refused_at 1) ∷
    reads "read: a Put of start 0: 9" 9 (box (write 8 0 8 Put ∷ []) (stored 0 ∷ [])) (refused_at 1) ∷
    reads "read: a Put whose commit is its start: 9" 9 (box (write 8 8 8 Put ∷ []) (stored 8 ∷ [])) (refused_at 1) ∷
    reads "read: a Delete whose commit is its start: 9" 9 (box (write 8 8 8 Delete ∷ []) []) (refused_at 1) ∷
    reads "read: a Rollback whose commit is not its start: 9" 9 (box (write 8 3 8 Rollback ∷ []) []) (refused_at 1) ∷
    reads "read: a Rollback passed over, then an unsound record: 9, count 2" 14 (box (unsound ∷ write 14 14 14 Rollback ∷ []) (stored 3 ∷ [])) (refused_at 2) ∷
    reads "read: an unsound record below the one that shows is not checked" 12 (box (unsound ∷ write 12 10 12 Put ∷ []) (stored 10 ∷ [])) (shows 1) ∷
    reads "read: an unsound record above the moment is not checked" 7 (box (write 6 5 6 Put ∷ unsound ∷ []) (stored 5 ∷ [])) (shows 1) ∷
    -- "Put, its default must exist and decode (9), shown"
    reads "read: a Put without its row: 9" 12 (box (write 12 10 12 Put ∷ []) []) (refused_at 1) ∷
    reads "read: a Put with rows of another start and another key: 9" 12 (box (write 12 10 12 Put ∷ []) (stored 9 ∷ stored_at key_b 10 ∷ [])) (refused_at 1) ∷
    reads "read: a Put whose row does not decode: 9" 12 (box (write 12 10 12 Put ∷ []) (broken 10 ∷ [])) (refused_at 1) ∷
    reads "read: a Rollback passed over, then a Put without its row: 9, count 2" 14 (box (write 12 10 12 Put ∷ write 14 14 14 Rollback ∷ []) []) (refused_at 2) ∷
    reads "read: a Delete passes over a row of its start" 12 (box (write 12 10 12 Delete ∷ []) (stored 10 ∷ [])) (plain 0 (1 ∷ 0 ∷ [])) ∷
    -- "1; lock with start at or below the moment, 7; then records ..": the order. "in a read after 1" 14
    record { name = "read: 1 goes before 7"; got = saw_read (examine 0 short 10 (box (at short (mine Put) ∷ []) [])); wanted = plain 1 (0 ∷ 0 ∷ []) } ∷
    record { name = "read: 14 goes before 7"; got = saw_read (examine 11 key_a 10 (box (mine Put ∷ []) [])); wanted = plain 14 (0 ∷ 0 ∷ []) } ∷
    reads "read: 7 goes before 9, and counts 0" 10 (box (theirs ∷ unsound ∷ []) []) (held 9 10 3 2 ++ (0 ∷ 0 ∷ [])) ∷
    reads "read: an unsound lock: 7, not 9" 10 (box (lock 0 10 0 Rollback ∷ []) []) (held 0 10 0 3 ++ (0 ∷ 0 ∷ [])) ∷
    []

-- ---- one intent at a point

-- 0 where nothing is shown, 1 and the lock
saw_lock : Reply Lock → List ℕ
saw_lock nothing = 0 ∷ []
saw_lock (shown l) = 1 ∷ flat_line (Standing l)
saw_lock (refused a) = 0 ∷ []

abbrev asks : String → Key → ℕ → List KeyLine → List ℕ → Case
asks name k moment lines wanted =
    let reply = intent_at k moment (box lines []) in
    record { name = name; got = saw (answer_of reply) (saw_lock reply); wanted = wanted }

abbrev nothing_shown : ℕ → List ℕ
nothing_shown n = plain n (0 ∷ [])

pub intent_table : List Case
unfolding saw_lock
intent_table =
    -- "1; no lock or one above the moment, nothing; unsound, 9; else the lock"
    -- "Sound lock: transaction, start, time to live not 0, kind Put or Delete, primary a key"
    asks "one intent: no lock" key_a 10 [] (nothing_shown 0) ∷
    asks "one intent: a lock above the moment" key_a 9 (mine Put ∷ []) (nothing_shown 0) ∷
    asks "one intent: the lock" key_a 10 (theirs ∷ []) (plain 0 (1 ∷ 1 ∷ 9 ∷ 10 ∷ 3 ∷ 2 ∷ 5 ∷ key_a)) ∷
    asks "one intent: transaction 0: 9" key_a 10 (lock 0 10 1 Put ∷ []) (nothing_shown 9) ∷
    asks "one intent: start 0: 9" key_a 10 (lock 7 0 1 Put ∷ []) (nothing_shown 9) ∷
    asks "one intent: time to live 0: 9" key_a 10 (lock 7 10 0 Put ∷ []) (nothing_shown 9) ∷
    asks "one intent: kind Rollback: 9" key_a 10 (lock 7 10 1 Rollback ∷ []) (nothing_shown 9) ∷
    asks "one intent: a primary of 4 bytes: 9" key_a 10 (record { key = key_a; line = Standing (record { txn = 7; primary = short; start = 10; ttl = 1; kind = Put }) } ∷ []) (nothing_shown 9) ∷
    asks "one intent: above the moment goes before 9" key_a 9 (lock 0 10 1 Put ∷ []) (nothing_shown 0) ∷
    asks "one intent: 1 goes before nothing" short 9 (at short (mine Put) ∷ []) (nothing_shown 1) ∷
    asks "one intent: 1 goes before 9" short 10 (at short (lock 0 10 1 Put) ∷ []) (nothing_shown 1) ∷
    []

pub read-worked : differing read_table ≡ []
unfolding opened read_table
read-worked = refl

pub intent-worked : differing intent_table ≡ []
unfolding opened intent_table saw_lock
intent-worked = refl
