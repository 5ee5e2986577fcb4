-- Document 01: "Key: table number, 4 bytes, not zero; then a name of 1 to 44 bytes, any values. Length 5 to 48."
-- Assumes nothing.
use Rattle.std.specs.Prelude.{ℕ, Bool, ◌&&◌, not, length, take, leb, eqb}
use Rattle.forms.specs.Bytes.{Bytes}
use Rattle.forms.specs.Numbers.{number}

abbrev pub Key : Type 0
Key = Bytes

-- "table number, 4 bytes"
unfoldable pub table_of : Key → ℕ
table_of k = number (take 4 k)

unfoldable pub key_form : Key → Bool
key_form k = leb 5 (length k) && leb (length k) 48 && not (eqb (table_of k) 0)
