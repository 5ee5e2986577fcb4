-- Document 02, CR 10: "the single form disappears as a step of its own and is a batch of one. For a key and row that fit the batch's length
-- bytes the answers and states are those of before; a longer key is still 1 and a longer row 2, tested where the single form tested them."
-- Here are the bytes of a batch of one. A key or a Put's row that fits no length byte is replaced by the empty one, which is in batch form and
-- out of form itself: so it is refused with 1 or 2 in the entry's turn.
-- Assumes nothing.
use Rattle.std.specs.Prelude.{Bool, true, false, [], ◌∷◌, ◌++◌, length, leb}
use Rattle.std.proofs.Math.Option.{Option, none, some}
use Rattle.forms.specs.Bytes.{Bytes, piece_bytes}
use Rattle.forms.specs.Key.{Key}
use Rattle.forms.specs.Row.{Row}
use Rattle.forms.specs.Batch.{Mutation}

abbrev pub or_empty : Bool → Bytes → Bytes
or_empty true s = s
or_empty false s = []

-- what fits a length byte, and else the empty one
unfoldable pub fitted : Bytes → Bytes
fitted s = or_empty (leb (length s) 255) s

abbrev pub fitted_row : Option Row → Option Row
fitted_row none = none
fitted_row (some r) = some (fitted r)

-- the entry that the batch of one has
abbrev pub fitted_entry : Mutation → Mutation
fitted_entry m = record { key = fitted m.key; row = fitted_row m.row }

-- "kind byte (1 Put, 2 Delete) and, for a Put only, a row length byte and row"
abbrev pub kind_bytes : Option Row → Bytes
kind_bytes none = 2 ∷ []
kind_bytes (some r) = 1 ∷ piece_bytes (fitted r)

-- "Mutation batch: 2-byte count .., then for each a key length byte, key, kind byte ..", of one entry
unfoldable pub one_mutation : Mutation → Bytes
one_mutation m = 0 ∷ 1 ∷ (piece_bytes (fitted m.key) ++ kind_bytes m.row)

-- "Key batch: 2-byte count .., then length byte and key", of one key
unfoldable pub one_key : Key → Bytes
one_key k = 0 ∷ 1 ∷ piece_bytes (fitted k)
