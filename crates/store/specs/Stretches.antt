-- What the writer of a stretch asks: that it lies in the area, and that there is room for it. Assumes nothing.
use Rattle.std.specs.Prelude.{ℕ, ◌+◌, ◌≤◌, length}
use Rattle.forms.specs.Bytes.{Bytes}

-- a stretch of the area that a length byte can tell, and room for it and k bytes more from `at` on
pub record StretchAsks (area : Bytes) (from len k at : ℕ) (out : Bytes) : Type 0 where
  pub within : from + len ≤ length area
  pub short : len ≤ 255
  pub room : at + (len + k) ≤ length out
