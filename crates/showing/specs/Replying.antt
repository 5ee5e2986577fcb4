-- What a read and an intent at a point answer, told: the payload, with the part of the area that is handed back, the row or the primary.
-- Assumes nothing.
use Rattle.std.specs.Prelude.{None, Some, Ok, Err}
use Rattle.forms.specs.Bytes.{Bytes}
use Rattle.reads.specs.Seen.{RowSeen, LockSeen}
use Rattle.traces.specs.Payloads.{nothing_payload, row_payload, lock_payload}

abbrev pub seen_payload : RowSeen → Bytes → Bytes
seen_payload (Ok None) row = nothing_payload
seen_payload (Ok (Some p)) row = row_payload row
seen_payload (Err r) row = nothing_payload

abbrev pub pointed_payload : LockSeen → Bytes → Bytes
pointed_payload (Ok None) primary = nothing_payload
pointed_payload (Ok (Some l)) primary = lock_payload l.txn primary l.start l.ttl l.kind
pointed_payload (Err r) primary = nothing_payload
