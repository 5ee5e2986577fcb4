-- Document 01, "Order: bytewise unsigned, a proper prefix first": the order of byte lists, of which equal and less are taken.
-- Assumes nothing.
use Rattle.std.specs.Prelude.{Bool, true, false, List, [], ◌∷◌, ℕ, ◌<◌, ltb, length, get_or, take, drop}
use Rattle.std.specs.declared.cmp.Ordering.{Ordering}
use Rattle.std.specs.declared.cmp.Ordering.TheVariants.{Less, Equal, Greater}

abbrev pub Bytes : Type 0
Bytes = List ℕ

-- less, greater, and else what the rest says
abbrev pub pick : Bool → Bool → Ordering → Ordering
pick true g o = Less
pick false true o = Greater
pick false false o = o

-- "bytewise unsigned, a proper prefix first"
unfoldable pub cmp : Bytes → Bytes → Ordering
cmp [] [] = Equal
cmp [] (y ∷ ys) = Less
cmp (x ∷ xs) [] = Greater
cmp (x ∷ xs) (y ∷ ys) = pick (ltb x y) (ltb y x) (cmp xs ys)

abbrev pub is_less : Ordering → Bool
is_less Less = true
is_less Equal = false
is_less Greater = false

abbrev pub is_equal : Ordering → Bool
is_equal Less = false
is_equal Equal = true
is_equal Greater = false

unfoldable pub eq_bytes : Bytes → Bytes → Bool
eq_bytes a b = is_equal (cmp a b)

unfoldable pub lt_bytes : Bytes → Bytes → Bool
lt_bytes a b = is_less (cmp a b)

-- the bytes of s from a place on, len of them
abbrev pub bytes_at : Bytes → ℕ → ℕ → Bytes
bytes_at s at len = take len (drop at s)

-- "a length byte and its bytes"
abbrev pub piece_bytes : Bytes → Bytes
piece_bytes s = length s ∷ s

-- each number is a byte: of what the code is lent, its type says so
abbrev pub AllBytes : Bytes → Type 0
AllBytes s = (i : ℕ) → get_or s i 0 < 256
