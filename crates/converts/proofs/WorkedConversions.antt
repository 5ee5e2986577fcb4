-- Document 02, CR 4, worked: what the converter answers and writes; the list of the cases which differ is empty.
-- Table 1, a = 00 00 00 01 61, b ends in 62, the old row 00 00, start 5; the buffer has bytes 9.
-- Assumes nothing.
use Prim.Native.Nat.{ℕ}
use mathlib.Core.Path.{◌≡◌, refl}
use mathlib.Core.List.{List, [], ◌∷◌, ◌++◌}
use lib.ListN.{replicate}
use Rattle.forms.specs.Bytes.{Bytes, cmp, eq_bytes}
use Rattle.forms.specs.Readers.{read_on, ◌>>=◌, just, only, byte, stretch, piece, up_to, times, section, ended, whole}
use Rattle.forms.specs.Numbers.{number_from, digits, number_of}
use Rattle.forms.specs.Key.{table_of, key_form}
use Rattle.forms.specs.Row.{integers, texts, fields, old_row_form}
use Rattle.rules.specs.Answers.{number}
use Rattle.rules.specs.Box.{row_of, add_row}
use Rattle.rules.specs.Sound.{sound_lock}
use Rattle.rules.specs.Written.{all_bytes, Written, write_if}
use Rattle.rules.specs.Image.{kind_if, kind_from, default_from, lock_from, key_lock_from, write_from, sections_from, old_image_from, old_image}
use Rattle.rules.specs.Restore.{all_good, none_like, no_second}
use Rattle.rules.specs.Capture.{default_bytes, section_bytes}
use Rattle.rules.specs.Convert.{front_from, front_bytes, converted_bytes, convertible, convert_if, convert_image}
use Rattle.rules.proofs.Worked.{Case, name_unless, differing}

-- 8 bytes
eight : ℕ → Bytes
eight n = 0 ∷ 0 ∷ 0 ∷ 0 ∷ 0 ∷ 0 ∷ 0 ∷ n ∷ []

-- the key that ends in n, after its length
key : ℕ → Bytes
key n = 5 ∷ 0 ∷ 0 ∷ 0 ∷ 1 ∷ n ∷ []

-- a default of start 5 with a row
old : ℕ → Bytes → Bytes
old n row = key n ++ eight 5 ++ row

-- a write Put of start 5 at a stamp
put : ℕ → ℕ → Bytes
put n stamp = key n ++ eight stamp ++ eight 5 ++ eight stamp ++ (1 ∷ [])

table : Bytes
table = 0 ∷ 0 ∷ 0 ∷ 1 ∷ []

two : ℕ → Bytes
two n = 0 ∷ n ∷ []

-- number, count, and the buffer
saw : Written → List ℕ
saw w = number w.answer ∷ w.count ∷ w.buffer

nines : ℕ → Bytes
nines n = replicate n 9

-- "A converter adds a zero count to each row of an old image": b's default, to which nothing points, before a's, which two writes share
given : Bytes
given = table ++ two 2 ++ old 98 (2 ∷ 0 ∷ 0 ∷ []) ++ old 97 (2 ∷ 0 ∷ 0 ∷ []) ++ two 0 ++ two 2 ++ put 97 9 ++ put 97 7

gives : Bytes
gives = table ++ eight 0 ++ two 2 ++ old 98 (3 ∷ 0 ∷ 0 ∷ 0 ∷ []) ++ old 97 (3 ∷ 0 ∷ 0 ∷ 0 ∷ []) ++ two 0 ++ two 2 ++ put 97 9 ++ put 97 7

pub convert_table : List Case
convert_table =
    record { name = "in the order given, sick or not"; got = saw (convert_image given (nines 117)); wanted = 0 ∷ 116 ∷ gives ++ nines 1 } ∷
    record { name = "a buffer that is one byte short"; got = saw (convert_image given (nines 115)); wanted = 12 ∷ 0 ∷ nines 115 } ∷
    record { name = "converted again"; got = saw (convert_image gives (nines 3)); wanted = 13 ∷ 0 ∷ nines 3 } ∷
    record { name = "without defaults"; got = saw (convert_image (table ++ two 0 ++ two 0 ++ two 0) (nines 18)); wanted = 0 ∷ 18 ∷ table ++ eight 0 ++ two 0 ++ two 0 ++ two 0 } ∷
    record { name = "without defaults, converted again"; got = saw (convert_image (table ++ eight 0 ++ two 0 ++ two 0 ++ two 0) []); wanted = 13 ∷ 0 ∷ [] } ∷
    record { name = "table 0, and a byte too many"; got = saw (convert_image (two 0 ++ two 0 ++ two 0 ++ two 0 ++ two 0) []) ++ saw (convert_image (table ++ two 0 ++ two 0 ++ two 0 ++ (0 ∷ [])) []); wanted = 13 ∷ 0 ∷ 13 ∷ 0 ∷ [] } ∷
    record { name = "a write Put without its default"; got = saw (convert_image (table ++ two 0 ++ two 0 ++ two 1 ++ put 97 9) []); wanted = 13 ∷ 0 ∷ [] } ∷
    record { name = "a default twice"; got = saw (convert_image (table ++ two 2 ++ old 97 (2 ∷ 0 ∷ 0 ∷ []) ++ old 97 (2 ∷ 0 ∷ 0 ∷ []) ++ two 0 ++ two 0) []); wanted = 13 ∷ 0 ∷ [] } ∷
    []

pub convert-worked : differing convert_table ≡ []
unfolding eight key old put table two saw nines given gives convert_table name_unless differing cmp eq_bytes read_on ◌>>=◌ just only byte stretch piece up_to times section ended whole number_from digits number_of table_of key_form integers texts fields old_row_form row_of add_row sound_lock all_bytes write_if kind_if kind_from default_from lock_from key_lock_from write_from sections_from old_image_from old_image all_good none_like no_second default_bytes section_bytes front_from front_bytes converted_bytes convertible convert_if convert_image
convert-worked = refl
