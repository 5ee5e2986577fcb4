-- The box that a store shows: each slot below the count is a line of the box, read from its stretch of the area; the defaults are the rows
-- that the Put lines carry, each at its place. So every row belongs to one Put line, and every Put line has its row.
-- Assumes nothing.
use Rattle.std.specs.Prelude.{false, List, [], ◌∷◌, ℕ, ◌+◌, ◌≤◌}
use Rattle.std.proofs.Math.Option.{Option, none, some}
use Rattle.seqs.specs.Tables.{shown}
use Rattle.forms.specs.Bytes.{Bytes, bytes_at}
use Rattle.forms.specs.Key.{Key}
use Rattle.forms.specs.Row.{Row}
use Rattle.forms.specs.Numbers.{number}
use Rattle.rules.specs.declared.records.Kind.{Kind}
use Rattle.rules.specs.declared.records.Kind.TheVariants.{Put, Delete, Rollback}
use Rattle.rules.specs.Box as box
use Rattle.rules.specs.Box.{start_of, kind_in}
use Rattle.rules.specs.Calls.{State}
use Rattle.store.specs.declared.table.Line.{Line}
use Rattle.store.specs.declared.table.Line.TheVariants.{Standing, Finished}
use Rattle.store.specs.declared.table.Slot.{Slot}
use Rattle.store.specs.declared.table.Store.{Store}

-- ---- a line's stretch; `at` is the place past its key

abbrev pub eight_at : Bytes → ℕ → ℕ
eight_at area at = number (bytes_at area at 8)

abbrev pub row_len : Line → ℕ
row_len (Standing l) = l.rowlen
row_len (Finished w) = w.rowlen

abbrev pub line_in : Bytes → ℕ → Line → box.Line
line_in area at (Standing l) =
    box.Standing (record {
      txn = eight_at area at;
      primary = bytes_at area (at + 8 + 8 + l.rowlen + 8) l.plen;
      start = eight_at area (at + 8);
      ttl = eight_at area (at + 8 + 8 + l.rowlen);
      kind = l.kind;
    })
line_in area at (Finished w) = box.Finished (record { stamp = eight_at area at; start = eight_at area (at + 8); commit = eight_at area at; kind = w.kind })

-- how many bytes a line has past its key
abbrev pub past : Line → ℕ
past (Standing l) = 8 + 8 + l.rowlen + 8 + l.plen
past (Finished w) = 8 + 8 + w.rowlen

-- ---- a slot

-- where its stretch begins: `at` counts pairs of bytes
abbrev pub place_of : Slot → ℕ
place_of s = s.at + s.at

-- so many pairs of bytes are the fewest that hold `top` bytes
pub record Pairs (top at : ℕ) : Type 0 where
  pub holds : top ≤ at + at
  pub fewest : at + at ≤ top + 1

abbrev pub key_of : Bytes → Slot → Key
key_of area s = bytes_at area (place_of s) s.len

abbrev pub line_of : Bytes → Slot → box.KeyLine
line_of area s = record { key = key_of area s; line = line_in area (place_of s + s.len) s.line }

abbrev pub row_in : Bytes → Slot → Row
row_in area s = bytes_at area (place_of s + s.len + 8 + 8) (row_len s.line)

-- how many bytes of the area it takes
abbrev pub size_of : Slot → ℕ
size_of s = s.len + past s.line

-- ---- the rows that lines carry

abbrev pub if_put : Kind → box.Default → Option box.Default
if_put Put d = some d
if_put Delete d = none
if_put Rollback d = none

-- only a Put has a row
abbrev pub row_if : Kind → Row → Option Row
row_if Put r = some r
row_if Delete r = none
row_if Rollback r = none

-- a Put line carries its row
abbrev pub carries : box.KeyLine → Row → Option box.Default
carries e r = if_put (kind_in e.line) (record { key = e.key; start = start_of e.line; row = r })

abbrev pub default_in : Bytes → Slot → Option box.Default
default_in area s = carries (line_of area s) (row_in area s)

unfoldable pub add_if : Option box.Default → List box.Default → List box.Default
add_if none ds = ds
add_if (some d) ds = box.insert_default d ds

-- those that are there, each at its place
unfoldable pub stored : List (Option box.Default) → List box.Default
stored [] = []
stored (o ∷ os) = add_if o (stored os)

-- ---- what a store shows

abbrev pub box_of : Store → Bytes → box.Box
box_of s area = record { lines = shown (line_of area) s.load.lines s.lines; defaults = stored (shown (default_in area) s.load.lines s.lines) }

-- document 02, CR 7: "The floor is part of the store"
abbrev pub state_shown : Store → Bytes → State
state_shown s area = record { box = box_of s area; floor = s.floor }

-- the one empty slot
abbrev pub no_slot : Slot
no_slot = record { at = 0; len = 0; used = false; line = Standing (record { plen = 0; rowlen = 0; kind = Put }) }
