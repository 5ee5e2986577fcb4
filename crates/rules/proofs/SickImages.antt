-- Document 02, CR 3 and CR 7, worked: images that 01's checks let in, and what restore says of each; the list of those which differ is empty.
-- Keys and numbers as in Worked: a = 00 00 00 01 61, row 00 00 00, transaction 7, primary a, time to live 1.
-- Assumes nothing.
use Prim.Native.Nat.{ℕ}
use mathlib.Core.Path.{◌≡◌, refl}
use mathlib.Core.List.{List, [], ◌∷◌}
use Rattle.forms.specs.Bytes.{cmp, eq_bytes}
use Rattle.forms.specs.Readers.{read_on, ◌>>=◌, just, only, byte, stretch, piece, up_to, times, section, ended, whole}
use Rattle.forms.specs.Numbers.{number_from, number_of}
use Rattle.forms.specs.Key.{table_of, key_form}
use Rattle.forms.specs.Row.{integers, texts, fields, mask_bytes, bone, none_set, spares_zero, bones, row_from, row_form}
use Rattle.rules.specs.declared.records.Kind.{Kind}
use Rattle.rules.specs.declared.records.Kind.TheVariants.{Put, Delete, Rollback}
use Rattle.rules.specs.Answers.{number, ◌▸◌, need}
use Rattle.rules.specs.Box.{Default, row_of, add_row, before, row_before, put_in, insert_by}
use Rattle.rules.specs.Sound.{sound_lock}
use Rattle.rules.specs.Room.{sum_of, load_of, fits, room_for}
use Rattle.rules.specs.Page.{KeyLock}
use Rattle.rules.specs.Calls.{record_for}
use Rattle.rules.specs.Image.{Image, KeyRecord}
use Rattle.rules.specs.Restore.{all_good, none_like, no_second, good_image, pointed_to, healthy_image, place_defaults, place_writes, place_locks, box_of, floored_image, restore_steps}
use Rattle.rules.proofs.Worked.{Case, key_a, row, name_unless, differing}

-- entries of a
stored : ℕ → Default
stored s = record { key = key_a; start = s; row = row }

locked : ℕ → Kind → KeyLock
locked s kind = record { key = key_a; lock = record { txn = 7; primary = key_a; start = s; ttl = 1; kind = kind } }

written : ℕ → ℕ → Kind → KeyRecord
written s c kind = record { key = key_a; write = record_for s c kind }

-- whether 01's checks let an image in, and restore's number
saw_on : ℕ → List Default → List KeyLock → List KeyRecord → List ℕ
saw_on f ds ls ws =
    let i : Image = record { table = 1; floor = f; defaults = ds; locks = ls; writes = ws } in
    number (need (good_image i) 13) ∷ number (restore_steps i) ∷ []

saw : List Default → List KeyLock → List KeyRecord → List ℕ
saw ds ls ws = saw_on 0 ds ls ws

max : ℕ
max = 18446744073709551615

pub sick_table : List Case
sick_table =
    record { name = "an empty image"; got = saw [] [] []; wanted = 0 ∷ 0 ∷ [] } ∷
    record { name = "a Put lock with its default"; got = saw (stored 10 ∷ []) (locked 10 Put ∷ []) []; wanted = 0 ∷ 0 ∷ [] } ∷
    record { name = "a Put lock without"; got = saw [] (locked 10 Put ∷ []) []; wanted = 0 ∷ 13 ∷ [] } ∷
    record { name = "a Put lock, and another start's default"; got = saw (stored 9 ∷ []) (locked 10 Put ∷ []) (written 9 12 Put ∷ []); wanted = 0 ∷ 13 ∷ [] } ∷
    record { name = "a Put record with its default"; got = saw (stored 10 ∷ []) [] (written 10 12 Put ∷ []); wanted = 0 ∷ 0 ∷ [] } ∷
    record { name = "a default alone"; got = saw (stored 10 ∷ []) [] []; wanted = 0 ∷ 13 ∷ [] } ∷
    record { name = "a default and a Delete record"; got = saw (stored 10 ∷ []) [] (written 10 12 Delete ∷ []); wanted = 0 ∷ 13 ∷ [] } ∷
    record { name = "a default and a Delete lock"; got = saw (stored 10 ∷ []) (locked 10 Delete ∷ []) []; wanted = 0 ∷ 13 ∷ [] } ∷
    record { name = "two records of one start"; got = saw [] [] (written 3 4 Delete ∷ written 3 7 Delete ∷ []); wanted = 0 ∷ 13 ∷ [] } ∷
    record { name = "a lock and a Rollback of its start"; got = saw [] (locked 3 Delete ∷ []) (written 3 3 Rollback ∷ []); wanted = 0 ∷ 13 ∷ [] } ∷
    record { name = "a lock below a stamp of its key"; got = saw [] (locked 5 Delete ∷ []) (written 7 9 Delete ∷ []); wanted = 0 ∷ 0 ∷ [] } ∷
    record { name = "floor 5, a lock at 5"; got = saw_on 5 [] (locked 5 Delete ∷ []) []; wanted = 0 ∷ 13 ∷ [] } ∷
    record { name = "floor 5, a lock at 6"; got = saw_on 5 [] (locked 6 Delete ∷ []) []; wanted = 0 ∷ 0 ∷ [] } ∷
    record { name = "floor 9, records below it"; got = saw_on 9 [] [] (written 3 4 Delete ∷ written 5 6 Delete ∷ []); wanted = 0 ∷ 0 ∷ [] } ∷
    record { name = "the last floor"; got = saw_on max [] [] (written 3 4 Delete ∷ []); wanted = 0 ∷ 0 ∷ [] } ∷
    record { name = "a lock at the last stamp"; got = saw [] (locked max Delete ∷ []) (written 7 max Delete ∷ []); wanted = 0 ∷ 0 ∷ [] } ∷
    []

pub sick-worked : differing sick_table ≡ []
unfolding stored locked written saw_on saw max sick_table key_a row name_unless differing cmp eq_bytes read_on ◌>>=◌ just only byte stretch piece up_to times section ended whole number_from number_of table_of key_form integers texts fields mask_bytes bone none_set spares_zero bones row_from row_form ◌▸◌ need row_of add_row before row_before put_in insert_by sound_lock sum_of load_of fits room_for all_good none_like no_second good_image pointed_to healthy_image place_defaults place_writes place_locks box_of floored_image restore_steps
sick-worked = refl
