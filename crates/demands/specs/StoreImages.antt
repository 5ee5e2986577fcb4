-- Document 02, CR 1, of the store: "write that table's image: defaults, locks, writes, each ascending by key, then stamp. Restoring what was written
-- gives that table's part of the store, and two stores holding only that table have equal bytes exactly when they hold the same entries." CR 7: "CR 1's
-- equal bytes now need equal floors too". Said of calls that kept their promises; nothing else is known of the code, and nothing else is asked for.
-- proofs/StoreImages.antt has the theorems.
-- Assumes nothing.
use Rattle.std.specs.Prelude.{ℕ, ◌≡◌, ◌↔◌}
use Rattle.forms.specs.Bytes.{Bytes}
use Rattle.rules.specs.Answers.{Accepted}
use Rattle.rules.specs.Outcomes.{Wrote}
use Rattle.rules.specs.Calls.{State}
use Rattle.rules.specs.Call.{Call}
use Rattle.rules.specs.Capture.{part_of, entries_of, image_of, AscendingImage}
use Rattle.ledger.specs.BoxImages.{HoldsOnly}
use Rattle.store.specs.View.{state_shown}
use Rattle.captures.specs.Promise.{image_in}
use Rattle.calls.specs.Settled.{Changed}
use Rattle.demands.specs.Calls.{calling, Lent, box_in, floor_in, paged, changed, Kept}

-- a store was asked for the image of a table, and accepted: `count` bytes of the buffer are the image
pub record Writes (w : Lent) (t : ℕ) (r : Wrote) (out : Bytes) : Type 0 where
  pub kept : Kept w (calling (Call.Capture t)) (paged r out)
  pub accepted : r.answer ≡ Accepted

-- "defaults, locks, writes, each ascending by key, then stamp": the bytes are those of the table's entries, which so ascend
abbrev pub WrittenAscends : Type 0
WrittenAscends =
    (w : Lent) (t : ℕ) (r : Wrote) (out : Bytes)
    → Writes w t r out
    → (image_in r out ≡ image_of (floor_in w) t (box_in w)) × AscendingImage (entries_of (floor_in w) t (box_in w))

-- "that table's part of the store", and the store's floor
abbrev pub part_state : ℕ → Lent → State
part_state t w = record { box = part_of t (box_in w); floor = floor_in w }

-- "Restoring what was written gives that table's part of the store", and its floor, into whatever store
abbrev pub RestoresPart : Type 0
RestoresPart =
    (w v : Lent) (t : ℕ) (r : Wrote) (out : Bytes) (q : Changed) (area : Bytes)
    → Writes w t r out
    → Kept v (calling (Call.Restore (image_in r out))) (changed q area)
    → (q.answer ≡ Accepted) × (state_shown q.store area ≡ part_state t w)

-- "have equal bytes exactly when they hold the same entries", of that table; they "need equal floors too"
abbrev pub SameBytes : Type 0
SameBytes =
    (w v : Lent) (t : ℕ) (r s : Wrote) (out out' : Bytes)
    → Writes w t r out
    → Writes v t s out'
    → (image_in r out ≡ image_in s out') ↔ ((floor_in w ≡ floor_in v) × (part_of t (box_in w) ≡ part_of t (box_in v)))

-- "two stores holding only that table"
abbrev pub SameBytesOnly : Type 0
SameBytesOnly =
    (w v : Lent) (t : ℕ) (r s : Wrote) (out out' : Bytes)
    → Writes w t r out
    → Writes v t s out'
    → HoldsOnly t (box_in w)
    → HoldsOnly t (box_in v)
    → (image_in r out ≡ image_in s out') ↔ ((floor_in w ≡ floor_in v) × (box_in w ≡ box_in v))

-- what is restored is written the same: the image, restored into whatever store and written again
abbrev pub WrittenAgain : Type 0
WrittenAgain =
    (w v : Lent) (t : ℕ) (r s : Wrote) (out out' buffer : Bytes) (q : Changed) (area : Bytes)
    → Writes w t r out
    → Kept v (calling (Call.Restore (image_in r out))) (changed q area)
    → Writes (record { store = q.store; area = area; buffer = buffer }) t s out'
    → image_in s out' ≡ image_in r out
