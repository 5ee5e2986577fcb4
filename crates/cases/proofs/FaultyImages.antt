-- Restore: an image for each of document 01's checks that only this check refuses, bytes out of form, and 11 after every 13. SickImages has the
-- images of document 02, CR 3 and CR 7, which these checks let in.
-- Assumes nothing.
use Prim.Native.Nat.{ℕ}
use Prim.Native.String.{String}
use mathlib.Core.Path.{◌≡◌, refl}
use mathlib.Core.Bool.{Bool, true, false, ◌&&◌, true≢false, false≢true}
use mathlib.Core.List.{List, [], ◌∷◌, ◌++◌}
use Rattle.forms.specs.Key.{Key}
use Rattle.rules.specs.Answers.{No, number, ◌▸◌, need}
use Rattle.rules.specs.declared.records.Kind.{Kind}
use Rattle.rules.specs.declared.records.Kind.TheVariants.{Put, Delete, Rollback}
use Rattle.rules.specs.Box.{Default, fresh}
use Rattle.rules.specs.Room.{room_for}
use Rattle.rules.specs.Page.{KeyLock}
use Rattle.rules.specs.Calls.{State}
use Rattle.rules.specs.Image.{Image, KeyRecord, kind_if, kind_from, default_from, lock_from, key_lock_from, write_from, sections_from, image_from, image}
use Rattle.rules.specs.Restore.{all_good, none_like, no_second, good_image, healthy_image, floored_image, place_defaults, place_writes, place_locks, box_of, restore_steps, state_of, restore_to, restore}
use Rattle.rules.proofs.Worked.{Case, differing, opened, plain, saw_ended, flat, key_a, key_b, short}
use Rattle.cases.proofs.Untidy.{box, lock, stored, broken}

-- entries of an image
abbrev lock_in : Key → ℕ → Kind → KeyLock
lock_in k s kind = record { key = k; lock = record { txn = 7; primary = key_a; start = s; ttl = 1; kind = kind } }

abbrev write_in : Key → ℕ → ℕ → Kind → KeyRecord
write_in k s c kind = record { key = k; write = record { stamp = c; start = s; commit = c; kind = kind } }

-- whether 01's checks let an image of a table in, and restore's number
abbrev judged : String → ℕ → List Default → List KeyLock → List KeyRecord → List ℕ → Case
judged name table ds ls ws wanted =
    let i : Image = record { table = table; floor = 0; defaults = ds; locks = ls; writes = ws } in
    record { name = name; got = number (need (good_image i) 13) ∷ number (restore_steps i) ∷ []; wanted = wanted }

abbrev fault : List ℕ
fault = 13 ∷ 13 ∷ []

-- a store that restore replaces
abbrev replaced : State
replaced = record { box = box (lock 7 10 1 Delete ∷ []) []; floor = 5 }

-- an image of table 1 without entries, on the floor 9
abbrev empty_image : List ℕ
empty_image = 0 ∷ 0 ∷ 0 ∷ 1 ∷ 0 ∷ 0 ∷ 0 ∷ 0 ∷ 0 ∷ 0 ∷ 0 ∷ 9 ∷ 0 ∷ 0 ∷ 0 ∷ 0 ∷ 0 ∷ 0 ∷ []

pub fault_table : List Case
fault_table =
    -- "form, table number not zero, then each entry, in any order: key of this table"
    record { name = "restore: bytes out of form: 13"; got = saw_ended (restore (0 ∷ []) replaced); wanted = plain 13 [] ++ (5 ∷ flat replaced.box) } ∷
    record { name = "restore: an image without entries: 0, with its floor"; got = saw_ended (restore empty_image replaced); wanted = plain 0 [] ++ (9 ∷ flat fresh) } ∷
    judged "restore: table 0: 13" 0 [] [] [] fault ∷
    judged "restore: a lock of another table: 13" 2 [] (lock_in key_a 10 Delete ∷ []) [] fault ∷
    judged "restore: a record of another table: 13" 2 [] [] (write_in key_a 10 12 Delete ∷ []) fault ∷
    judged "restore: a row of another table: 13" 2 (stored 10 ∷ []) [] [] fault ∷
    judged "restore: a key of 4 bytes: 13" 1 [] [] (write_in short 10 12 Delete ∷ []) fault ∷
    -- "default start not 0, row decodes; lock sound; record sound"
    judged "restore: a row of start 0: 13" 1 (stored 0 ∷ []) [] [] fault ∷
    judged "restore: a row without the bone count: 13" 1 (broken 10 ∷ []) [] (write_in key_a 10 12 Put ∷ []) fault ∷
    judged "restore: an unsound lock: 13" 1 [] (lock_in key_a 10 Rollback ∷ []) [] fault ∷
    judged "restore: an unsound record: 13" 1 [] [] (write_in key_a 10 10 Delete ∷ []) fault ∷
    -- "no second default or write for one key and stamp, no second lock for a key; every write Put has its default"
    judged "restore: a second row of a pair: 13" 1 (stored 10 ∷ stored 10 ∷ []) [] (write_in key_a 10 12 Put ∷ []) fault ∷
    judged "restore: a second record of a stamp: 13" 1 [] [] (write_in key_a 3 12 Delete ∷ write_in key_a 4 12 Delete ∷ []) fault ∷
    judged "restore: a second lock of a key: 13" 1 [] (lock_in key_a 10 Delete ∷ lock_in key_a 11 Delete ∷ []) [] fault ∷
    judged "restore: a Put record without its row: 13" 1 [] [] (write_in key_a 10 12 Put ∷ []) fault ∷
    judged "restore: the same of two keys: 0" 1 [] (lock_in key_a 10 Delete ∷ lock_in key_b 10 Delete ∷ []) (write_in key_a 4 9 Delete ∷ write_in key_b 4 9 Delete ∷ []) (0 ∷ 0 ∷ []) ∷
    []

pub fault-worked : differing fault_table ≡ []
unfolding opened fault_table kind_if kind_from default_from lock_from key_lock_from write_from sections_from image_from image all_good none_like no_second good_image healthy_image floored_image place_defaults place_writes place_locks box_of restore_steps state_of restore_to restore
fault-worked = refl

-- ---- "Any fault 13, then 11", of every image: one that exceeds the room by hand would be long

-- no check finds a fault: 01's, CR 3's, CR 7's
abbrev pub faultless : Image → Bool
faultless i = good_image i && healthy_image i && floored_image i

pub fault-first : (i : Image) → faultless i ≡ false → restore_steps i ≡ No 13
unfolding restore_steps ◌▸◌ need
fault-first i = go (good_image i) (healthy_image i) (floored_image i)
  where
    go : (g h f : Bool) → g && h && f ≡ false → need g 13 ▸ need h 13 ▸ need f 13 ▸ need (room_for (box_of i)) 11 ≡ No 13
    go true true true e = absurd (true≢false e)
    go true true false e = refl
    go true false f e = refl
    go false h f e = refl

pub room-last : (i : Image) → faultless i ≡ true → restore_steps i ≡ need (room_for (box_of i)) 11
unfolding restore_steps ◌▸◌ need
room-last i = go (good_image i) (healthy_image i) (floored_image i)
  where
    go : (g h f : Bool) → g && h && f ≡ true → need g 13 ▸ need h 13 ▸ need f 13 ▸ need (room_for (box_of i)) 11 ≡ need (room_for (box_of i)) 11
    go true true true e = refl
    go true true false e = absurd (false≢true e)
    go true false f e = absurd (false≢true e)
    go false h f e = absurd (false≢true e)
