-- Document 01, "Numbers are big-endian": the number that bytes say, and the bytes of a number, over every width. And numbers that go by a test.
-- Assumes nothing.
use Rattle.std.specs.Prelude.{ℕ, zero, suc, ◌+◌, ◌*◌, ◌/◌, ◌%◌, Bool, true, false, [], ◌∷◌, ◌++◌}
use Rattle.forms.specs.Bytes.{Bytes}
use Rattle.forms.specs.Readers.{Reader, ◌>>=◌, just, stretch}
use Rattle.forms.specs.declared.number.Width.{Width}
use Rattle.forms.specs.declared.number.Width.TheVariants.{Two, Four, Eight}

-- the number whose first bytes said v and whose other bytes are s
unfoldable pub number_from : ℕ → Bytes → ℕ
number_from v [] = v
number_from v (x ∷ s) = number_from (v * 256 + x) s

abbrev pub number : Bytes → ℕ
number s = number_from 0 s

-- the w lowest bytes of v, the highest of them first
unfoldable pub digits : ℕ → ℕ → Bytes
digits zero v = []
digits (suc w) v = digits w (v / 256) ++ (v % 256 ∷ [])

-- a number of w bytes
unfoldable pub number_of : ℕ → Reader ℕ
number_of w = do
  s ← stretch w
  just (number s)

-- the widths that the forms use
abbrev pub width_of : Width → ℕ
width_of Two = 2
width_of Four = 4
width_of Eight = 8

-- ---- by a test

-- the first where it holds, else the other
abbrev pub either_if : Bool → ℕ → ℕ → ℕ
either_if true a b = a
either_if false a b = b

-- as many where it holds, else none
abbrev pub only_if : Bool → ℕ → ℕ
only_if true n = n
only_if false n = 0
