-- Document 02, CR 1 and CR 7, worked: what the definition writes of some boxes, and what the call answers; the list of those which differ is empty.
-- Keys and numbers as in rules/proofs/Worked: a = 00 00 00 01 61, row 00 00 00, transaction 7, time to live 1; c is a key of table 2.
-- Assumes nothing.
use Prim.Native.Nat.{ℕ}
use mathlib.Core.Path.{◌≡◌, refl}
use mathlib.Core.List.{List, [], ◌∷◌, ◌++◌}
use Rattle.forms.specs.Bytes.{Bytes, cmp, eq_bytes}
use Rattle.forms.specs.Numbers.{number_from, digits}
use Rattle.forms.specs.Key.{Key, table_of, key_form}
use Rattle.rules.specs.declared.records.Kind.TheVariants.{Put, Delete}
use Rattle.rules.specs.Answers.{number}
use Rattle.rules.specs.Box.{Box, Standing, Finished, KeyLine, Default, fresh}
use Rattle.rules.specs.Read.{keep_if, those}
use Rattle.rules.specs.Page.{locks_of}
use Rattle.rules.specs.Written.{lock_bytes, key_lock_bytes, all_bytes, Written, write_if}
use Rattle.rules.specs.Calls.{record_for}
use Rattle.rules.specs.Capture.{part_of, writes_of, entries_of, default_bytes, record_bytes, write_bytes, section_bytes, image_bytes, image_of, capture_if, capture_image}
use Rattle.rules.proofs.Worked.{Case, key_a, row, name_unless, differing}

key_c : Key
key_c = 0 ∷ 0 ∷ 0 ∷ 2 ∷ 99 ∷ []

stored : Key → ℕ → Default
stored k s = record { key = k; start = s; row = row }

-- a Delete's lock
locked : Key → Key → ℕ → KeyLine
locked k primary s = record { key = k; line = Standing (record { txn = 7; primary = primary; start = s; ttl = 1; kind = Delete }) }

wrote : Key → ℕ → ℕ → KeyLine
wrote k s c = record { key = k; line = Finished (record_for s c Put) }

-- "by image: Put (5, 20) and Put (6, 10) of a": its lines stand by stamp, its rows by start
crossed : Box
crossed = record { lines = wrote key_a 6 10 ∷ wrote key_a 5 20 ∷ []; defaults = stored key_a 5 ∷ stored key_a 6 ∷ [] }

-- a lock of a whose primary is of table 2, and a row of table 2
mixed : Box
mixed = record { lines = locked key_a key_c 3 ∷ wrote key_c 4 9 ∷ []; defaults = stored key_c 4 ∷ [] }

-- 8 bytes
eight : ℕ → Bytes
eight n = 0 ∷ 0 ∷ 0 ∷ 0 ∷ 0 ∷ 0 ∷ 0 ∷ n ∷ []

piece_a : Bytes
piece_a = 5 ∷ 0 ∷ 0 ∷ 0 ∷ 1 ∷ 97 ∷ []

piece_c : Bytes
piece_c = 5 ∷ 0 ∷ 0 ∷ 0 ∷ 2 ∷ 99 ∷ []

piece_row : Bytes
piece_row = 3 ∷ 0 ∷ 0 ∷ 0 ∷ []

-- a table number of one byte, and a floor
head : ℕ → ℕ → Bytes
head t f = 0 ∷ 0 ∷ 0 ∷ t ∷ eight f

-- number, count, and the buffer
saw : Written → List ℕ
saw w = number w.answer ∷ w.count ∷ w.buffer

pub image_table : List Case
image_table =
    record { name = "a fresh store"; got = image_of 0 1 fresh; wanted = head 1 0 ++ (0 ∷ 0 ∷ 0 ∷ 0 ∷ 0 ∷ 0 ∷ []) } ∷
    record { name = "a floor"; got = image_of 9 1 fresh; wanted = head 1 9 ++ (0 ∷ 0 ∷ 0 ∷ 0 ∷ 0 ∷ 0 ∷ []) } ∷
    record {
      name = "rows by start, writes by stamp";
      got = image_of 0 1 crossed;
      wanted =
          head 1 0 ++ (0 ∷ 2 ∷ []) ++ piece_a ++ eight 5 ++ piece_row ++ piece_a ++ eight 6 ++ piece_row ++ (0 ∷ 0 ∷ 0 ∷ 2 ∷ [])
          ++ piece_a ++ eight 10 ++ eight 6 ++ eight 10 ++ (1 ∷ []) ++ piece_a ++ eight 20 ++ eight 5 ++ eight 20 ++ (1 ∷ []);
    } ∷
    record {
      name = "a primary of another table";
      got = image_of 2 1 mixed;
      wanted = head 1 2 ++ (0 ∷ 0 ∷ 0 ∷ 1 ∷ []) ++ piece_a ++ eight 7 ++ piece_c ++ eight 3 ++ eight 1 ++ (2 ∷ 0 ∷ 0 ∷ []);
    } ∷
    record {
      name = "the other table, with the same floor";
      got = image_of 2 2 mixed;
      wanted = head 2 2 ++ (0 ∷ 1 ∷ []) ++ piece_c ++ eight 4 ++ piece_row ++ (0 ∷ 0 ∷ 0 ∷ 1 ∷ []) ++ piece_c ++ eight 9 ++ eight 4 ++ eight 9 ++ (1 ∷ []);
    } ∷
    record { name = "table 0 and an empty buffer"; got = saw (capture_image 0 0 crossed []); wanted = 3 ∷ 0 ∷ [] } ∷
    record { name = "a buffer that is one byte short"; got = saw (capture_image 0 1 fresh (eight 8 ++ eight 8 ++ (9 ∷ []))); wanted = 12 ∷ 0 ∷ eight 8 ++ eight 8 ++ (9 ∷ []) } ∷
    record { name = "a longer buffer"; got = saw (capture_image 0 1 fresh (eight 8 ++ eight 8 ++ (9 ∷ 9 ∷ 9 ∷ []))); wanted = 0 ∷ 18 ∷ head 1 0 ++ (0 ∷ 0 ∷ 0 ∷ 0 ∷ 0 ∷ 0 ∷ 9 ∷ []) } ∷
    []

pub image-worked : differing image_table ≡ []
unfolding key_c stored locked wrote crossed mixed eight head piece_a piece_c piece_row saw image_table key_a row name_unless differing cmp eq_bytes number_from digits table_of key_form fresh keep_if locks_of lock_bytes key_lock_bytes all_bytes write_if those part_of writes_of entries_of default_bytes record_bytes write_bytes section_bytes image_bytes image_of capture_if capture_image
image-worked = refl
