-- Document 01, "Room": what an entry of a changing call adds to the load of a box, and what it frees, told from the box before the call. "Room
-- that was freed counts as free at once." With `plus (load_of b) added ≡ plus freed (load_of after)` a program finds the room that the whole
-- call would leave in one walk over its entries.
-- Assumes nothing.
use Rattle.std.specs.Prelude.{ℕ, ◌+◌, ◌-◌, List, [], ◌∷◌, length}
use Rattle.std.proofs.Math.Option.{Option, none, some}
use Rattle.forms.specs.Key.{Key}
use Rattle.forms.specs.Row.{Row}
use Rattle.forms.specs.Batch.{Mutation}
use Rattle.rules.specs.declared.room.Load.{Load}
use Rattle.rules.specs.declared.records.Record.{Record}
use Rattle.rules.specs.Box.{Box, Lock, KeyLine, Default, records_of, lock_of, row_of}
use Rattle.rules.specs.Room.{one_lock, line_bytes, lock_count, bytes_of_lines, bytes_of_defaults}
use Rattle.rules.specs.Calls.{stamped_at}
use Rattle.rules.specs.Prewrite.{PrewriteTerms, unless_locked}
use Rattle.rules.specs.declared.terms.CommitTerms.{CommitTerms}
use Rattle.rules.specs.Commit.{with_start}

abbrev pub no_load : Load
no_load = record { lines = 0; locks = 0; defaults = 0; bytes = 0 }

abbrev pub plus : Load → Load → Load
plus a b = record { lines = a.lines + b.lines; locks = a.locks + b.locks; defaults = a.defaults + b.defaults; bytes = a.bytes + b.bytes }

abbrev pub minus : Load → Load → Load
minus a b = record { lines = a.lines - b.lines; locks = a.locks - b.locks; defaults = a.defaults - b.defaults; bytes = a.bytes - b.bytes }

-- the loads of a list's entries, together
unfoldable pub sum_loads : {A : Type 0} → (A → Load) → List A → Load
sum_loads f [] = no_load
sum_loads f (x ∷ xs) = plus (f x) (sum_loads f xs)

-- ---- one line, one default

-- "a lock, key plus primary"
abbrev pub lock_load : Key → Key → Load
lock_load k p = record { lines = 1; locks = 1; defaults = 0; bytes = length k + length p }

-- "a record, key"
abbrev pub record_load : Key → Load
record_load k = record { lines = 1; locks = 0; defaults = 0; bytes = length k }

-- "for a default, key plus row"
abbrev pub row_load : Key → Row → Load
row_load k r = record { lines = 0; locks = 0; defaults = 1; bytes = length k + length r }

abbrev pub line_load : KeyLine → Load
line_load e = record { lines = 1; locks = one_lock e.line; defaults = 0; bytes = line_bytes e.key e.line }

-- the lock of a key, if it has one
unfoldable pub of_lock : Key → Option Lock → Load
of_lock k none = no_load
of_lock k (some l) = lock_load k l.primary

-- a row of a key, if there is one
unfoldable pub of_row : Key → Option Row → Load
of_row k none = no_load
of_row k (some r) = row_load k r

-- a box's lines, and its defaults
abbrev pub lines_load : List KeyLine → Load
lines_load es = record { lines = length es; locks = lock_count es; defaults = 0; bytes = bytes_of_lines es }

abbrev pub defaults_load : List Default → Load
defaults_load ds = record { lines = 0; locks = 0; defaults = length ds; bytes = bytes_of_defaults ds }

-- ---- prewrite: an entry not yet locked adds its lock and a Put's row, and nothing is freed

unfoldable pub prewrite_adds : PrewriteTerms → Box → Mutation → Load
prewrite_adds h b m = unless_locked (lock_of m.key b.lines) (plus (lock_load m.key h.primary) (of_row m.key m.row)) no_load

-- ---- commit: a record for the lock, where the key has no record of this start

unfoldable pub if_new : Option Record → Load → Load
if_new none a = a
if_new (some w) a = no_load

unfoldable pub if_locked : Option Lock → Load → Load
if_locked none a = no_load
if_locked (some l) a = a

unfoldable pub commit_adds : CommitTerms → Box → Key → Load
commit_adds h b k = if_new (with_start h.start (records_of k b.lines)) (if_locked (lock_of k b.lines) (record_load k))

unfoldable pub commit_frees : CommitTerms → Box → Key → Load
commit_frees h b k = if_new (with_start h.start (records_of k b.lines)) (of_lock k (lock_of k b.lines))

-- ---- rollback: a record, where the key has none of this stamp; its lock and row go

unfoldable pub rollback_adds : ℕ → Box → Key → Load
rollback_adds start b k = if_new (stamped_at start (records_of k b.lines)) (record_load k)

unfoldable pub rollback_frees : ℕ → Box → Key → Load
rollback_frees start b k = if_new (stamped_at start (records_of k b.lines)) (plus (of_lock k (lock_of k b.lines)) (of_row k (row_of k start b.defaults)))

-- ---- one-step: a record and a Put's row; an own lock goes, and the row that a Put's replaces

unfoldable pub step_adds : Mutation → Load
step_adds m = plus (record_load m.key) (of_row m.key m.row)

-- what a Put's row replaces
unfoldable pub replaced_by : Option Row → Load → Load
replaced_by none a = no_load
replaced_by (some r) a = a

unfoldable pub step_frees : CommitTerms → Box → Mutation → Load
step_frees h b m = plus (of_lock m.key (lock_of m.key b.lines)) (replaced_by m.row (of_row m.key (row_of m.key h.start b.defaults)))
