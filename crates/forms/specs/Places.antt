-- What the code's places say: a reader of the code finds at a place what the definition's reader reads there, and where it ends.
-- Assumes nothing.
use Rattle.std.specs.Prelude.{ℕ, ◌+◌, ◌≤◌, ◌<◌, ◌^◌, ◌≡◌, Bool, true, false, List, map, length, take, drop, None, Some}
use Rattle.std.specs.Prelude.{Option as Maybe}
use Rattle.std.proofs.Math.Option.{Option, none, some}
use Rattle.seqs.specs.Tables.{All}
use Rattle.forms.specs.Bytes.{Bytes, bytes_at, lt_bytes}
use Rattle.forms.specs.Readers.{Read, Reader, when, byte, up_to, times, piece, whole}
use Rattle.forms.specs.Numbers.{number_of}
use Rattle.forms.specs.Key.{Key}
use Rattle.forms.specs.Row.{Row, Bones, mask_bytes, bones, row_form, bones_of}
use Rattle.forms.specs.Batch.{Mutation, key_inside, mutation, above, ascend}
use Rattle.forms.specs.declared.part.Part.{Part}
use Rattle.forms.specs.declared.row.Mask.{Mask}
use Rattle.forms.specs.declared.batch.Entry.{Entry}
use Rattle.forms.specs.declared.batch.Step.{Step}
use Rattle.forms.specs.declared.entries.Entries.{Entries}

-- what was found, and what follows from the place next on; or nothing
abbrev pub found : {A : Type 0} → Bytes → Bool → A → ℕ → Option (Read A)
found s ok x next = when ok (record { got = x; rest = drop next s })

-- a reader reads x at a place, and the rest begins at next
pub record Found {A : Type 0} (r : Reader A) (s : Bytes) (at : ℕ) (x : A) (next : ℕ) : Type 0 where
  pub is : r (drop at s) ≡ some (record { got = x; rest = drop next s })
  pub within : next ≤ length s

-- ---- numbers

pub record IsNumber (w : ℕ) (s : Bytes) (at v : ℕ) : Type 0 where
  pub read : Found (number_of w) s at v (at + w)
  pub small : v < 256 ^ w

abbrev pub NumberAt : ℕ → Bytes → ℕ → Maybe ℕ → Type 0
NumberAt w s at None = number_of w (drop at s) ≡ none
NumberAt w s at (Some v) = IsNumber w s at v

-- ---- a length byte and its bytes

-- what the places of a part say
abbrev pub part_of : Bytes → Part → Bytes
part_of s p = bytes_at s p.at p.len

-- they lie in the bytes
pub record PartIn (s : Bytes) (p : Part) : Type 0 where
  pub within : p.at + p.len ≤ length s
  pub small : p.len ≤ 255

-- the same of a part that there may be
abbrev pub given_part : Bytes → Maybe Part → Option Bytes
given_part s None = none
given_part s (Some p) = some (part_of s p)

abbrev pub GivenIn : Bytes → Maybe Part → Type 0
GivenIn s None = Unit {0}
GivenIn s (Some p) = PartIn s p

pub record IsPart (s : Bytes) (at : ℕ) (p : Part) : Type 0 where
  pub read : Found piece s at (part_of s p) (p.at + p.len)
  pub inside : PartIn s p

abbrev pub PartAt : Bytes → ℕ → Maybe Part → Type 0
PartAt s at None = piece (drop at s) ≡ none
PartAt s at (Some p) = IsPart s at p

-- ---- sections of a row: how many each has, and where it ends

pub record IsCount (s : Bytes) (at n : ℕ) : Type 0 where
  pub read : Found (up_to 8 byte) s at n (at + 1)
  pub small : n ≤ 8

abbrev pub CountAt : Bytes → ℕ → Maybe ℕ → Type 0
CountAt s at None = up_to 8 byte (drop at s) ≡ none
CountAt s at (Some n) = IsCount s at n

-- what is left of the bytes
abbrev pub rest_of : {A : Type 0} → Option (Read A) → Option Bytes
rest_of none = none
rest_of (some r) = some r.rest

pub record IsRest (s : Bytes) (o : Option Bytes) (at : ℕ) : Type 0 where
  pub is : o ≡ some (drop at s)
  pub within : at ≤ length s

abbrev pub RestAt : Bytes → Option Bytes → Maybe ℕ → Type 0
RestAt s o None = o ≡ none
RestAt s o (Some at) = IsRest s o at

-- ---- the bones of a row

-- what the places of a mask say
abbrev pub bones_at : Bytes → Mask → Bones
bones_at s m = record { count = m.count; mask = bytes_at s m.at (mask_bytes m.count) }

pub record IsMask (s : Bytes) (at : ℕ) (m : Mask) : Type 0 where
  pub read : Found bones s at (bones_at s m) m.end
  pub size : m.end ≡ m.at + mask_bytes m.count

abbrev pub BonesAt : Bytes → ℕ → Maybe Mask → Type 0
BonesAt s at None = bones (drop at s) ≡ none
BonesAt s at (Some m) = IsMask s at m

-- those of a whole row, which end where it ends
pub record AreBones (r : Row) (m : Mask) : Type 0 where
  pub form : row_form r ≡ true
  pub is : bones_of r ≡ bones_at r m
  pub size : m.at + mask_bytes m.count ≡ length r

abbrev pub RowBones : Row → Maybe Mask → Type 0
RowBones r None = row_form r ≡ false
RowBones r (Some m) = AreBones r m

-- ---- one entry of a batch

-- its key, and what it says
abbrev pub key_at : Bytes → Entry → Key
key_at s e = part_of s e.key

abbrev pub mutation_of : Bytes → Entry → Mutation
mutation_of s e = record { key = key_at s e; row = given_part s e.row }

-- its places lie in the bytes
pub record EntryIn (s : Bytes) (e : Entry) : Type 0 where
  pub key_in : PartIn s e.key
  pub row-in : GivenIn s e.row

-- what a reader of entries found at a place
pub record IsStep {A : Type 0} (r : Reader A) (item : Entry → A) (s : Bytes) (at : ℕ) (t : Step) : Type 0 where
  pub read : Found r s at (item t.entry) t.next
  pub inside : EntryIn s t.entry

abbrev pub StepAt : {A : Type 0} → Reader A → (Entry → A) → Bytes → ℕ → Maybe Step → Type 0
StepAt r item s at None = r (drop at s) ≡ none
StepAt r item s at (Some t) = IsStep r item s at t

-- the entries of a mutation batch are mutations, those of a key batch are keys
abbrev pub Item : Bool → Type 0
Item true = Mutation
Item false = Key

abbrev pub item_at : (rows : Bool) → Reader (Item rows)
item_at true = mutation
item_at false = piece

abbrev pub item_key : (rows : Bool) → Item rows → Key
item_key true = key_inside
item_key false = λ k. k

abbrev pub item_of : (rows : Bool) → Bytes → Entry → Item rows
item_of true = mutation_of
item_of false = key_at

-- ---- a batch, decoded

-- n entries that are all of the bytes
unfoldable pub entries : {A : Type 0} → Reader A → ℕ → Bytes → Option (List A)
entries r n s = whole (times n r) s

-- at most 32 entries, whose places lie in the bytes
pub record Listed (s : Bytes) (es : List Entry) : Type 0 where
  pub short : length es ≤ 32
  pub inside : All (EntryIn s) es

-- and their keys ascend, as those of a batch in form do
pub record InForm (s : Bytes) (es : List Entry) : Type 0 where
  pub listed : Listed s es
  pub ascends : ascend (λ k. k) (map (key_at s) es) ≡ true

-- what the bytes say is what the entries say
pub record AreEntries {A : Type 0} (item : Entry → A) (s : Bytes) (o : Option (List A)) (es : List Entry) : Type 0 where
  pub is : o ≡ some (map item es)
  pub listed : Listed s es

-- the entries that count
abbrev pub counting : Entries → List Entry
counting v = take v.count v.list

-- or they are not in form
abbrev pub Decoded : {A : Type 0} → (Entry → A) → Bytes → Option (List A) → Maybe Entries → Type 0
Decoded item s o None = o ≡ none
Decoded item s o (Some v) = AreEntries item s o (counting v)

-- ---- the walk over a batch: the key before, if any

abbrev pub above_head : Option Key → Key → Bool
above_head none k = true
above_head (some j) k = lt_bytes j k

abbrev pub above_all : {A : Type 0} → (A → Key) → Option Key → List A → Bool
above_all key none ms = ascend key ms
above_all key (some k) ms = above key k ms
