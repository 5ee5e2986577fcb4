-- docs/TRACE.md, the table of arguments: a reader for each.
-- Assumes nothing.
use Rattle.std.specs.Prelude.{ℕ, Bool, true, false, [], leb, eqb}
use Rattle.std.proofs.Math.Option.{Option, none, some}
use Rattle.forms.specs.Bytes.{Bytes}
use Rattle.forms.specs.Readers.{Reader, ◌>>=◌, just, byte, stretch}
use Rattle.forms.specs.Numbers.{number_of}
use Rattle.forms.specs.Key.{Key}
use Rattle.rules.specs.declared.records.Kind.{Kind}
use Rattle.rules.specs.declared.records.Kind.TheVariants.{Put, Delete}

-- "number (moment, limit, transaction, start, commit, time to live, bone number, floor) | 8"
abbrev pub number : Reader ℕ
number = number_of 8

unfoldable pub kind_if : Bool → Bool → Reader Kind
kind_if true delete = just Put
kind_if false true = just Delete
kind_if false false = λ s. none

-- "kind | 1: 1 Put, 2 Delete"; "Not in form: a kind byte other than 1 or 2"
unfoldable pub kind : Reader Kind
kind = do
  b ← byte
  kind_if (eqb b 1) (eqb b 2)

-- "key, primary, row | a 2-byte length, then that many bytes of any value"
unfoldable pub text : Reader Bytes
text = do
  n ← number_of 2
  stretch n

unfoldable pub bound_if : Bool → Bool → Reader (Option Key)
bound_if true present = just none
bound_if false true = do
  k ← text
  just (some k)
bound_if false false = λ s. none

-- "bound | a flag byte: 0 absent; 1 present, then a key"; "Not in form: a flag byte other than 0 or 1"
unfoldable pub bound : Reader (Option Key)
bound = do
  b ← byte
  bound_if (eqb b 0) (eqb b 1)

-- "buffer | a 2-byte length: the call is lent a buffer of that many bytes, each 0xEE before the call"
abbrev pub buffer : Reader ℕ
buffer = number_of 2

-- "table | 4"
abbrev pub table : Reader ℕ
table = number_of 4

unfoldable pub long_if : Bool → ℕ → Reader ℕ
long_if true n = just n
long_if false n = λ s. none

-- "long buffer | a 4-byte length, at most 262,144: the call is lent a buffer of that many bytes, each 0xEE before the call"; "Not in form: .. a
-- long buffer above 262,144"
unfoldable pub long_buffer : Reader ℕ
long_buffer = do
  n ← number_of 4
  long_if (leb n 262144) n

-- "batch, image | the rest of the call, any bytes"
unfoldable pub remaining : Reader Bytes
remaining s = some (record { got = s; rest = [] })
