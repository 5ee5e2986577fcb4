-- Document 01: "Restore (replaces the whole store): form, table number not zero, then each entry, in any order: key of this table; default
-- start not 0, row decodes; lock sound; record sound; no second default or write for one key and stamp, no second lock for a key; every write
-- Put has its default. Any fault 13, then 11."
-- Document 02, CR 3: "Restore shall also refuse: a Put lock without its default; a default to which no Put lock or Put record of its key and
-- start points; two lines of one key and start. .. all are 13, after 01's image checks and before 11."
-- CR 7: "a restored store taking the image's" floor; "a collection with a lock at or below F ..; an image with such a lock is 13".
-- Assumes nothing.
use Rattle.std.specs.Prelude.{ℕ, Bool, true, false, ◌&&◌, ◌||◌, not, List, [], ◌∷◌, ◌++◌, map, ltb, eqb}
use Rattle.std.proofs.Math.Option.{Option, none, some}
use Rattle.forms.specs.Bytes.{Bytes, eq_bytes}
use Rattle.forms.specs.Key.{Key, key_form, table_of}
use Rattle.forms.specs.Row.{Row, row_form}
use Rattle.forms.specs.Readers.{is_some}
use Rattle.rules.specs.Answers.{Answer, No, ◌▸◌, need}
use Rattle.rules.specs.declared.records.Kind.{Kind}
use Rattle.rules.specs.declared.records.Kind.TheVariants.{Put, Delete, Rollback}
use Rattle.rules.specs.Box.{Box, Standing, Finished, KeyLine, Default, start_of, kind_in, eq_kind, line_is, row_of, insert_line, insert_default}
use Rattle.rules.specs.Sound.{sound_record, sound_lock}
use Rattle.rules.specs.Room.{room_for}
use Rattle.rules.specs.Page.{KeyLock}
use Rattle.rules.specs.Calls.{State, Ended, settle_state}
use Rattle.rules.specs.Image.{Image, KeyRecord, image}

-- "key of this table"
abbrev pub of_table : ℕ → Key → Bool
of_table t k = key_form k && eqb (table_of k) t

-- "default start not 0, row decodes", in a form of rows
abbrev pub good_default_by : (Row → Bool) → ℕ → Default → Bool
good_default_by form t d = of_table t d.key && not (eqb d.start 0) && form d.row

abbrev pub good_default : ℕ → Default → Bool
good_default t d = good_default_by row_form t d

-- "lock sound"
abbrev pub good_lock : ℕ → KeyLock → Bool
good_lock t x = of_table t x.key && sound_lock x.lock

-- "record sound"
abbrev pub good_write : ℕ → KeyRecord → Bool
good_write t x = of_table t x.key && sound_record x.write

unfoldable pub all_good : {A : Type 0} → (A → Bool) → List A → Bool
all_good p [] = true
all_good p (x ∷ xs) = p x && all_good p xs

unfoldable pub none_like : {A : Type 0} → (A → A → Bool) → A → List A → Bool
none_like eq x [] = true
none_like eq x (y ∷ ys) = not (eq x y) && none_like eq x ys

-- no second of its like
unfoldable pub no_second : {A : Type 0} → (A → A → Bool) → List A → Bool
no_second eq [] = true
no_second eq (x ∷ xs) = none_like eq x xs && no_second eq xs

-- "no second default or write for one key and stamp, no second lock for a key"
abbrev pub like_default : Default → Default → Bool
like_default a b = eq_bytes a.key b.key && eqb a.start b.start

abbrev pub like_lock : KeyLock → KeyLock → Bool
like_lock a b = eq_bytes a.key b.key

abbrev pub like_write : KeyRecord → KeyRecord → Bool
like_write a b = eq_bytes a.key b.key && eqb a.write.stamp b.write.stamp

abbrev pub kind_has_default : Kind → Bool → Bool
kind_has_default Put has = has
kind_has_default Delete has = true
kind_has_default Rollback has = true

-- "every write Put has its default"
abbrev pub has_default : List Default → KeyRecord → Bool
has_default ds x = kind_has_default x.write.kind (is_some (row_of x.key x.write.start ds))

-- "table number not zero, then each entry, in any order: .. Any fault 13", in a form of rows: document 01's own, or that of document 02, CR 4
abbrev pub good_image_by : (Row → Bool) → Image → Bool
good_image_by form i =
    not (eqb i.table 0) &&
    all_good (good_default_by form i.table) i.defaults &&
    all_good (good_lock i.table) i.locks &&
    all_good (good_write i.table) i.writes &&
    no_second like_default i.defaults &&
    no_second like_lock i.locks &&
    no_second like_write i.writes &&
    all_good (has_default i.defaults) i.writes

unfoldable pub good_image : Image → Bool
good_image i = good_image_by row_form i

-- ---- document 02, CR 3

abbrev pub lock_line : KeyLock → KeyLine
lock_line x = record { key = x.key; line = Standing x.lock }

abbrev pub write_line : KeyRecord → KeyLine
write_line x = record { key = x.key; line = Finished x.write }

-- the image's lines: its locks, then its writes
abbrev pub image_lines : Image → List KeyLine
image_lines i = map lock_line i.locks ++ map write_line i.writes

-- "a Put lock without its default": none is
abbrev pub lock_has_default : List Default → KeyLock → Bool
lock_has_default ds x = kind_has_default x.lock.kind (is_some (row_of x.key x.lock.start ds))

-- a line points to a default if it is a Put of its key and start
abbrev pub points_to : Default → KeyLine → Bool
points_to d e = line_is d.key d.start e && eq_kind (kind_in e.line) Put

-- "a default to which no Put lock or Put record of its key and start points": to each, one does
unfoldable pub pointed_to : List KeyLine → Default → Bool
pointed_to [] d = false
pointed_to (e ∷ es) d = points_to d e || pointed_to es d

-- "two lines of one key and start": no second of a pair, lock or record, of any kind
abbrev pub like_line : KeyLine → KeyLine → Bool
like_line a b = line_is a.key (start_of a.line) b

-- an image that is not sick
unfoldable pub healthy_image : Image → Bool
healthy_image i =
    all_good (lock_has_default i.defaults) i.locks &&
    all_good (pointed_to (image_lines i)) i.defaults &&
    no_second like_line (image_lines i)

-- ---- document 02, CR 7

-- a lock starts above the floor
abbrev pub lock_above : ℕ → KeyLock → Bool
lock_above floor x = ltb floor x.lock.start

-- "an image with such a lock is 13", a lock at or below the image's own floor: none is
unfoldable pub floored_image : Image → Bool
floored_image i = all_good (lock_above i.floor) i.locks

-- ---- the box

-- the image's entries, each at its place
unfoldable pub place_defaults : List Default → List Default
place_defaults [] = []
place_defaults (d ∷ ds) = insert_default d (place_defaults ds)

unfoldable pub place_writes : List KeyRecord → List KeyLine
place_writes [] = []
place_writes (x ∷ xs) = insert_line (write_line x) (place_writes xs)

unfoldable pub place_locks : List KeyLock → List KeyLine → List KeyLine
place_locks [] es = es
place_locks (x ∷ xs) es = insert_line (lock_line x) (place_locks xs es)

unfoldable pub box_of : Image → Box
box_of i = record { lines = place_locks i.locks (place_writes i.writes); defaults = place_defaults i.defaults }

-- "Any fault 13, then 11"; "all are 13, after 01's image checks and before 11"
unfoldable pub restore_steps : Image → Answer
restore_steps i =
    need (good_image i) 13 ▸
    need (healthy_image i) 13 ▸
    need (floored_image i) 13 ▸
    need (room_for (box_of i)) 11

-- "replaces the whole store", its floor too: "a restored store taking the image's"
unfoldable pub state_of : Image → State
state_of i = record { box = box_of i; floor = i.floor }

unfoldable pub restore_to : Option Image → State → Ended
restore_to none st = record { answer = No 13; state = st }
restore_to (some i) st = settle_state (restore_steps i) (state_of i) st

unfoldable pub restore : Bytes → State → Ended
restore s st = restore_to (image s) st
