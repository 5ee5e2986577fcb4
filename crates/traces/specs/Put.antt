-- What a write leaves: bytes over the front of a buffer, where they fit, and all else as it was.
-- Assumes nothing.
use Rattle.std.specs.Prelude.{ℕ, ◌≡◌, Bool, true, false, ◌++◌, length, drop, leb}
use Rattle.forms.specs.Bytes.{Bytes}

abbrev pub room : Bytes → Bytes → Bool
room b s = leb (length b) (length s)

abbrev pub length_if : Bool → Bytes → ℕ
length_if true b = length b
length_if false b = 0

abbrev pub put_if : Bool → Bytes → Bytes → Bytes
put_if true b s = b ++ drop (length b) s
put_if false b s = s

-- the bytes b over the front of the buffer s, where they fit; else the buffer as it was, and 0
pub record Put (fits : Bool) (b s : Bytes) (r : ℕ) (s' : Bytes) : Type 0 where
  pub count : r ≡ length_if fits b
  pub is : s' ≡ put_if fits b s
