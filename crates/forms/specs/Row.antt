-- Document 01: "Row: count byte 0 to 8, that many 8-byte signed integers; count byte 0 to 8, that many texts, each a length byte
-- and its bytes. Length 2 to 255." Document 02, CR 4: "A row gets a third section: a bone count byte 0 to 255, then the fewest bytes that hold
-- one bit a bone, bone 0 in the lowest bit of the first byte, spare bits zero." A stored row decodes when it is in this form.
-- Assumes nothing.
use Rattle.std.specs.Prelude.{ℕ, zero, suc, ◌+◌, ◌-◌, ◌*◌, ◌/◌, ◌%◌, ◌^◌, Bool, true, false, ◌&&◌, not, List, [], length, get_or, leb, eqb}
use Rattle.std.proofs.Math.Option.{Option, none, some}
use Rattle.forms.specs.Bytes.{Bytes}
use Rattle.forms.specs.Readers.{Reader, ◌>>=◌, only, byte, stretch, piece, up_to, section, whole, is_some}

abbrev pub Row : Type 0
Row = Bytes

-- ---- document 01's two sections

-- "count byte 0 to 8, that many 8-byte signed integers"
unfoldable pub integers : Reader Bytes
integers = do
  n ← up_to 8 byte
  stretch (8 * n)

-- "count byte 0 to 8, that many texts, each a length byte and its bytes"
unfoldable pub texts : Reader (List Bytes)
texts = section (up_to 8 byte) piece

unfoldable pub fields : Reader (List Bytes)
fields = do
  _ ← integers
  texts

-- document 01's own form, which the converter reads: "Length 2 to 255"
unfoldable pub old_row_form : Row → Bool
old_row_form r = leb 2 (length r) && leb (length r) 255 && is_some (whole fields r)

-- ---- the bones

-- "the fewest bytes that hold one bit a bone"
unfoldable pub mask_bytes : ℕ → ℕ
mask_bytes n = (n + 7) / 8

-- "bone 0 in the lowest bit of the first byte": bone n is bit n % 8, from the lowest, of byte n / 8
unfoldable pub bone : Bytes → ℕ → Bool
bone mask n = eqb (get_or mask (n / 8) 0 / 2 ^ (n % 8) % 2) 1

-- none of the k bits from bit n on is set
unfoldable pub none_set : Bytes → ℕ → ℕ → Bool
none_set mask n zero = true
none_set mask n (suc k) = not (bone mask n) && none_set mask (suc n) k

-- "spare bits zero": the bits of the mask from the count on
unfoldable pub spares_zero : ℕ → Bytes → Bool
spares_zero n mask = none_set mask n (8 * length mask - n)

pub record Bones : Type 0 where
  pub count : ℕ
  pub mask : Bytes

-- "a bone count byte 0 to 255, then the fewest bytes that hold one bit a bone, .. spare bits zero"
unfoldable pub bones : Reader Bones
bones = do
  n ← up_to 255 byte
  mask ← stretch (mask_bytes n)
  only (spares_zero n mask) (record { count = n; mask = mask })

-- ---- the row

-- "A row gets a third section"
unfoldable pub row_from : Reader Bones
row_from = do
  _ ← fields
  bones

-- "Lengths stay at most 255, the smallest row is 00 00 00"
unfoldable pub row_form : Row → Bool
row_form r = leb 3 (length r) && leb (length r) 255 && is_some (whole row_from r)

abbrev pub or_no_bones : Option Bones → Bones
or_no_bones none = record { count = 0; mask = [] }
or_no_bones (some b) = b

-- the bones of a row in form
unfoldable pub bones_of : Row → Bones
bones_of r = or_no_bones (whole row_from r)

-- ---- "how many bones are shown"

abbrev pub one : Bool → ℕ
one true = 1
one false = 0

-- of how many numbers below n the test holds
unfoldable pub count_below : (ℕ → Bool) → ℕ → ℕ
count_below p zero = 0
count_below p (suc n) = one (p n) + count_below p n
