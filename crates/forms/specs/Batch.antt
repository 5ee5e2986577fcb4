-- Document 01: "Mutation batch: 2-byte count 0 to 32, then for each a key length byte, key, kind byte (1 Put, 2 Delete) and, for a
-- Put only, a row length byte and row. Key batch: 2-byte count 0 to 32, then length byte and key. Keys strictly ascend. Key and row
-- contents are judged later."
-- Assumes nothing.
use Rattle.std.specs.Prelude.{Bool, true, false, ◌&&◌, List, [], ◌∷◌, eqb}
use Rattle.std.proofs.Math.Option.{Option, none, some}
use Rattle.forms.specs.Bytes.{Bytes, lt_bytes}
use Rattle.forms.specs.Readers.{Reader, ◌>>=◌, just, byte, piece, up_to, section, whole, when}
use Rattle.forms.specs.Numbers.{number_of}
use Rattle.forms.specs.Key.{Key}
use Rattle.forms.specs.Row.{Row}

-- an entry: a Put carries its row, a Delete none
pub record Mutation : Type 0 where
  pub key : Key
  pub row : Option Row

abbrev pub key_inside : Mutation → Key
key_inside m = m.key

-- "kind byte (1 Put, 2 Delete) and, for a Put only, a row length byte and row"
unfoldable pub of_kind : Bool → Bool → Key → Reader Mutation
of_kind true del k = do
  r ← piece
  just (record { key = k; row = some r })
of_kind false true k = just (record { key = k; row = none })
of_kind false false k = λ s. none

-- "for each a key length byte, key, kind byte .."
unfoldable pub mutation : Reader Mutation
mutation = do
  k ← piece
  b ← byte
  of_kind (eqb b 1) (eqb b 2) k

-- "Keys strictly ascend"
unfoldable pub above : {A : Type 0} → (A → Key) → Key → List A → Bool
above key k [] = true
above key k (m ∷ ms) = lt_bytes k (key m) && above key (key m) ms

unfoldable pub ascend : {A : Type 0} → (A → Key) → List A → Bool
ascend key [] = true
ascend key (m ∷ ms) = above key (key m) ms

unfoldable pub if_ascend : {A : Type 0} → (A → Key) → Option (List A) → Option (List A)
if_ascend key none = none
if_ascend key (some ms) = when (ascend key ms) ms

-- "2-byte count 0 to 32, then for each .. Keys strictly ascend"
unfoldable pub batch_of : {A : Type 0} → (A → Key) → Reader A → Bytes → Option (List A)
batch_of key r s = if_ascend key (whole (section (up_to 32 (number_of 2)) r) s)

-- "Mutation batch"
unfoldable pub mutations : Bytes → Option (List Mutation)
mutations s = batch_of key_inside mutation s

-- "Key batch"
unfoldable pub keys : Bytes → Option (List Key)
keys s = batch_of (λ k. k) piece s
