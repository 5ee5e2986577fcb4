-- Document 01, "Room": what a box holds, and whether that is too much.
-- Assumes nothing.
use Rattle.std.specs.Prelude.{ℕ, ◌+◌, ◌≤◌, Bool, ◌&&◌, List, [], ◌∷◌, length, leb}
use Rattle.forms.specs.Key.{Key}
use Rattle.rules.specs.declared.room.Load.{Load}
use Rattle.rules.specs.Box.{Box, KeyLine, Default, Line, Standing, Finished}

unfoldable pub sum_of : {A : Type 0} → (A → ℕ) → List A → ℕ
sum_of f [] = 0
sum_of f (x ∷ xs) = f x + sum_of f xs

abbrev pub one_lock : Line → ℕ
one_lock (Standing l) = 1
one_lock (Finished w) = 0

abbrev pub lock_count : List KeyLine → ℕ
lock_count es = sum_of (λ (e : KeyLine). one_lock e.line) es

-- "a lock, key plus primary; a record, key"
abbrev pub line_bytes : Key → Line → ℕ
line_bytes k (Standing l) = length k + length l.primary
line_bytes k (Finished w) = length k

abbrev pub bytes_of_lines : List KeyLine → ℕ
bytes_of_lines es = sum_of (λ (e : KeyLine). line_bytes e.key e.line) es

-- "for a default, key plus row"
abbrev pub bytes_of_defaults : List Default → ℕ
bytes_of_defaults ds = sum_of (λ (d : Default). length d.key + length d.row) ds

unfoldable pub load_of : Box → Load
load_of b = record {
  lines = length b.lines;
  locks = lock_count b.lines;
  defaults = length b.defaults;
  bytes = bytes_of_lines b.lines + bytes_of_defaults b.defaults;
}

-- "At most 1,024 lines (locks plus records), 256 locks, 1,024 defaults, 49,152 live bytes"
unfoldable pub fits : Load → Bool
fits l = leb l.lines 1024 && leb l.locks 256 && leb l.defaults 1024 && leb l.bytes 49152

-- the same, said
pub record Fits (l : Load) : Type 0 where
  pub lines : l.lines ≤ 1024
  pub locks : l.locks ≤ 256
  pub defaults : l.defaults ≤ 1024
  pub bytes : l.bytes ≤ 49152

-- "Answer 11 is given exactly when the state that the whole call would leave exceeds one of the four"
unfoldable pub room_for : Box → Bool
room_for b = fits (load_of b)
