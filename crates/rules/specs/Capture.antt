-- Document 02, CR 1: "From a store and a table number, write that table's image: defaults, locks, writes, each ascending by key, then stamp.
-- Restoring what was written gives that table's part of the store, and two stores holding only that table have equal bytes exactly when they
-- hold the same entries. Refusals: a zero table number 3, then a short buffer 12." The entries' forms are those that restore reads (Image).
-- CR 7: the floor "stands in the image, 8 bytes, after the table number"; "CR 1's equal bytes now need equal floors too".
-- Assumes nothing.
use Rattle.std.specs.Prelude.{ℕ, ◌^◌, ◌<◌, ◌≡◌, ◌⊎◌, Bool, true, false, not, List, [], ◌∷◌, ◌++◌, length, leb, eqb}
use Rattle.seqs.specs.Tables.{All}
use Rattle.forms.specs.Bytes.{Bytes, lt_bytes, piece_bytes}
use Rattle.forms.specs.Numbers.{digits}
use Rattle.forms.specs.Key.{Key}
use Rattle.rules.specs.Answers.{No}
use Rattle.rules.specs.declared.records.Record.{Record}
use Rattle.rules.specs.Box.{Box, Lock, Line, Standing, Finished, KeyLine, Default, kind_byte}
use Rattle.rules.specs.Read.{those}
use Rattle.rules.specs.Page.{KeyLock, locks_of}
use Rattle.rules.specs.Written.{key_lock_bytes, all_bytes, Written, write_if}
use Rattle.rules.specs.Image.{Image, KeyRecord}
use Rattle.rules.specs.Restore.{of_table}

-- ---- "that table's part of the store"

-- the key of a line, and of a default, is of the table
abbrev pub line_of_table : ℕ → KeyLine → Bool
line_of_table t e = of_table t e.key

abbrev pub row_of_table : ℕ → Default → Bool
row_of_table t d = of_table t d.key

-- "that table's part of the store": the entries whose key is of the table. A lock's primary is a field, and may be of another table.
unfoldable pub part_of : ℕ → Box → Box
part_of t b = record { lines = those (line_of_table t) b.lines; defaults = those (row_of_table t) b.defaults }

-- ---- its entries

abbrev pub add_write : Key → Line → List KeyRecord → List KeyRecord
add_write k (Standing l) xs = xs
add_write k (Finished w) xs = record { key = k; write = w } ∷ xs

unfoldable pub writes_of : List KeyLine → List KeyRecord
writes_of [] = []
writes_of (e ∷ es) = add_write e.key e.line (writes_of es)

-- "defaults, locks, writes, each ascending by key, then stamp": as a box stands in order, so do they (`part_ascends`). The image of any table has
-- the store's floor.
unfoldable pub entries_of : ℕ → ℕ → Box → Image
entries_of floor t b = record { table = t; floor = floor; defaults = (part_of t b).defaults; locks = locks_of (part_of t b).lines; writes = writes_of (part_of t b).lines }

-- ---- their order

-- "ascending by key, then stamp": by key in document 01's order, "bytewise unsigned, a proper prefix first", and at one key by number
abbrev pub Ascends : Key → ℕ → Key → ℕ → Type 0
Ascends k n j m = (lt_bytes k j ≡ true) ⊎ ((k ≡ j) × (n < m))

-- each before all that follow it
unfoldable pub Ascending : {A : Type 0} → (A → A → Type 0) → List A → Type 0
Ascending R [] = Unit {0}
Ascending R (x ∷ xs) = All (R x) xs × Ascending R xs

-- "defaults, locks, writes, each ascending by key, then stamp": a default's number is its start, a write's its write stamp, and a key has one lock
pub record AscendingImage (i : Image) : Type 0 where
  pub defaults : Ascending (λ (a b : Default). Ascends a.key a.start b.key b.start) i.defaults
  pub locks : Ascending (λ (a b : KeyLock). lt_bytes a.key b.key ≡ true) i.locks
  pub writes : Ascending (λ (a b : KeyRecord). Ascends a.key a.write.stamp b.key b.write.stamp) i.writes

-- ---- its bytes

-- "key length, key, 8-byte start, row length, row"
unfoldable pub default_bytes : Default → Bytes
default_bytes d = piece_bytes d.key ++ (digits 8 d.start ++ piece_bytes d.row)

-- "key length, key, 8-byte write stamp, start, commit, kind byte"
unfoldable pub record_bytes : Record → Bytes
record_bytes w = digits 8 w.stamp ++ (digits 8 w.start ++ (digits 8 w.commit ++ (kind_byte w.kind ∷ [])))

unfoldable pub write_bytes : KeyRecord → Bytes
write_bytes x = piece_bytes x.key ++ record_bytes x.write

-- a section after its "2-byte count"
unfoldable pub section_bytes : {A : Type 0} → (A → Bytes) → List A → Bytes
section_bytes f xs = digits 2 (length xs) ++ all_bytes f xs

-- "Image: 4-byte table number; 2-byte count of defaults ..; 2-byte count of locks ..; 2-byte count of writes .."; the floor, "8 bytes, after the
-- table number"
unfoldable pub image_bytes : Image → Bytes
image_bytes i =
    digits 4 i.table ++ (digits 8 i.floor ++ (section_bytes default_bytes i.defaults ++ (section_bytes key_lock_bytes i.locks ++ section_bytes write_bytes i.writes)))

-- "From a store and a table number, write that table's image"
unfoldable pub image_of : ℕ → ℕ → Box → Bytes
image_of floor t b = image_bytes (entries_of floor t b)

-- ---- the call

unfoldable pub capture_if : Bool → Bytes → Bytes → Written
capture_if true bytes buffer = write_if (leb (length bytes) (length buffer)) bytes buffer
capture_if false bytes buffer = record { answer = No 3; count = 0; buffer = buffer }

-- "a zero table number 3, then a short buffer 12"
unfoldable pub capture_image : ℕ → ℕ → Box → Bytes → Written
capture_image floor t b buffer = capture_if (not (eqb t 0)) (image_of floor t b) buffer

-- ---- what its numbers need to fit their bytes

-- "Stamps and transaction numbers are 64-bit unsigned."
abbrev pub Word : ℕ → Type 0
Word n = n < 256 ^ 8

abbrev pub LockWords : Lock → Type 0
LockWords l = Word l.txn × Word l.start × Word l.ttl

abbrev pub RecordWords : Record → Type 0
RecordWords w = Word w.stamp × Word w.start × Word w.commit

abbrev pub LineWords : Line → Type 0
LineWords (Standing l) = LockWords l
LineWords (Finished w) = RecordWords w

pub record Words (b : Box) : Type 0 where
  pub lines : All (λ (e : KeyLine). LineWords e.line) b.lines
  pub defaults : All (λ (d : Default). Word d.start) b.defaults

-- a section whose count fits 2 bytes, and whose numbers fit theirs
pub record Few {A : Type 0} (P : A → Type 0) (xs : List A) : Type 0 where
  pub count : length xs < 256 ^ 2
  pub words : All P xs

pub record ImageWords (i : Image) : Type 0 where
  pub table : i.table < 256 ^ 4
  pub floor : Word i.floor
  pub defaults : Few (λ (d : Default). Word d.start) i.defaults
  pub locks : Few (λ (x : KeyLock). LockWords x.lock) i.locks
  pub writes : Few (λ (x : KeyRecord). RecordWords x.write) i.writes
