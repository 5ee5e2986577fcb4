-- What the code takes off the front of a call's bytes, held against the definition's readers.
-- Assumes nothing.
use Rattle.std.specs.Borrow.{Bor}
use Rattle.std.specs.Prelude.{ℕ, ◌≡◌, Bool, true, false, Option as Maybe, None, Some}
use Rattle.std.proofs.Math.Option.{Option, none, some}
use Rattle.forms.specs.Bytes.{Bytes}
use Rattle.forms.specs.Readers.{Read, Reader, just, whole}
use Rattle.forms.specs.Key.{Key}
use Rattle.traces.specs.Arguments.{buffer, long_buffer}

-- an option of the code, as the definitions have it
abbrev pub some_of : {A : Type 0} → Maybe A → Option A
some_of None = none
some_of (Some x) = some x

-- what the code took, seen as the definition's value, and what it left of the bytes; or it refuses
abbrev pub took : {A B : Type 0} → (B → A) → Maybe B → Bytes → Option (Read A)
took view None left = none
took view (Some x) left = some (record { got = view x; rest = left })

-- the definition's reader reads of the bytes s what the code took of them, and leaves the same; after a refusal nothing is said of what is left
pub record Takes {A B : Type 0} (r : Reader A) (view : B → A) (s : Bytes) (o : Maybe B) (left : Bytes) : Type 0 where
  pub is : r s ≡ took view o left

-- what the code made of all of the bytes, seen as the definition's value; or it refuses
abbrev pub said : {A B : Type 0} → (B → A) → Maybe B → Option A
said view None = none
said view (Some x) = some (view x)

-- the definition's reader reads all of the bytes s, and finds what the code says; or there is no such reading
pub record Ends {A B : Type 0} (r : Reader A) (view : B → A) (s : Bytes) (o : Maybe B) : Type 0 where
  pub is : whole r s ≡ said view o

-- ---- what the code's values say

-- the bytes that a slice shows
abbrev pub behind : Bor Bytes → Bytes
behind t = t.now

-- a bound is absent, or a key
abbrev pub key_behind : Maybe (Bor Bytes) → Option Key
key_behind None = none
key_behind (Some k) = some k.now

-- ---- an argument that a call has or has not

abbrev pub given : {A : Type 0} → Bool → Reader A → A → Reader A
given true r x = r
given false r x = just x

-- the first number of a call, or the table of the image that it writes
abbrev pub first_width : (long : Bool) → ℕ
first_width true = 4
first_width false = 8

-- the buffer of the image that a call writes, or of its page if it has one
abbrev pub buffer_by : (long page : Bool) → Reader ℕ
buffer_by true page = long_buffer
buffer_by false page = given page buffer 0

abbrev pub buffer_below : (long : Bool) → ℕ
buffer_below true = 262145
buffer_below false = 65536
