-- Document 01: "Row: count byte 0 to 8, that many 8-byte signed integers; count byte 0 to 8, that many texts, each a length byte and its bytes."
-- Assumes nothing.
use Rattle.std.specs.Prelude.{ℕ, ◌+◌, ◌*◌, get_or}
use Rattle.forms.specs.Bytes.{Bytes}

-- where a row's first text begins: past both counts and the integers
abbrev pub text_place : Bytes → ℕ
text_place s = 2 + 8 * get_or s 0 0
