-- What a writer leaves in a buffer: the one promise of all functions that write bytes; and what the writer of a piece asks.
-- Assumes nothing.
use Rattle.std.specs.Prelude.{ℕ, ◌+◌, ◌≤◌, ◌≡◌, ◌++◌, length, take, drop}
use Rattle.forms.specs.Bytes.{Bytes}

-- the n bytes b stand from `at` on, up to r, and all else is as it was
pub record Laid (at n : ℕ) (b s : Bytes) (r : ℕ) (s' : Bytes) : Type 0 where
  pub size : length b ≡ n
  pub next : r ≡ at + n
  pub within : r ≤ length s
  pub length_is : length s' ≡ length s
  pub is : s' ≡ take at s ++ (b ++ drop r s)

-- as many bytes as a length byte can tell, and room for n from `at` on
pub record PieceAsks (b : Bytes) (n at : ℕ) (s : Bytes) : Type 0 where
  pub short : length b ≤ 255
  pub room : at + n ≤ length s
