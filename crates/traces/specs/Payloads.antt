-- docs/TRACE.md, "Answers": the payload of each call that has one.
-- Assumes nothing.
use Rattle.std.specs.Prelude.{ℕ, Bool, true, false, List, [], ◌∷◌}
use Rattle.forms.specs.Bytes.{Bytes}
use Rattle.forms.specs.Numbers.{digits}
use Rattle.forms.specs.Key.{Key}
use Rattle.forms.specs.Row.{Row}
use Rattle.rules.specs.declared.records.Kind.{Kind}
use Rattle.rules.specs.declared.figures.Stats.{Stats}
use Rattle.rules.specs.declared.figures.Marks.{Marks}
use Rattle.rules.specs.Answers.{Reply, nothing, shown, refused}
use Rattle.rules.specs.Box.{Lock}
use Rattle.rules.specs.Written.{lock_bytes, all_bytes}

-- "the byte 0"
abbrev pub nothing_payload : Bytes
nothing_payload = 0 ∷ []

-- "or 1 and the row"
abbrev pub row_payload : Row → Bytes
row_payload r = 1 ∷ r

-- "or 1 and the lock in the image's form"
abbrev pub lock_payload : ℕ → Key → ℕ → ℕ → Kind → Bytes
lock_payload txn primary start ttl kind = 1 ∷ lock_bytes (record { txn = txn; primary = primary; start = start; ttl = ttl; kind = kind })

-- "Payload of a read: the byte 0 where nothing is shown, or 1 and the row. .. On a refusal of either, the single byte 0."
unfoldable pub read_payload : Reply Row → Bytes
read_payload nothing = nothing_payload
read_payload (shown r) = row_payload r
read_payload (refused a) = nothing_payload

-- "Of one intent: the byte 0, or 1 and the lock in the image's form."
unfoldable pub intent_payload : Reply Lock → Bytes
intent_payload nothing = nothing_payload
intent_payload (shown l) = lock_payload l.txn l.primary l.start l.ttl l.kind
intent_payload (refused a) = nothing_payload

-- "one byte, 1 if shown, else 0; 0 on a refusal"
abbrev pub bone_payload : Bool → Bytes
bone_payload true = 1 ∷ []
bone_payload false = 0 ∷ []

-- "one byte, how many; 0 on a refusal"
abbrev pub bones_payload : ℕ → Bytes
bones_payload n = n ∷ []

-- numbers of 8 bytes, one after the other
abbrev pub numbers_bytes : List ℕ → Bytes
numbers_bytes ns = all_bytes (digits 8) ns

-- "keys with a default, defaults, locks, keys with a record, records; then for defaults and after that for records the chains of 1, of 2 to
-- 4, of 5 to 16, above 16, and the longest (0 if there are none): 15 numbers of 8 bytes"
abbrev pub stats_payload : Stats → Bytes
stats_payload s =
    numbers_bytes
    (s.defaults.keys ∷ s.defaults.all ∷ s.locks ∷ s.records.keys ∷ s.records.all ∷
    s.defaults.one ∷ s.defaults.four ∷ s.defaults.sixteen ∷ s.defaults.above ∷ s.defaults.longest ∷
    s.records.one ∷ s.records.four ∷ s.records.sixteen ∷ s.records.above ∷ s.records.longest ∷ [])

-- "Of the marks: two numbers."
abbrev pub marks_payload : Marks → Bytes
marks_payload m = numbers_bytes (m.txn ∷ m.stamp ∷ [])
