-- What the three pages ask of the walk.
-- Assumes nothing.
use Rattle.std.specs.Prelude.{ℕ, Bool, true, false, ◌&&◌}
use Rattle.turns.specs.declared.asked.Scan.{Scan}
use Rattle.turns.specs.declared.asked.Scan.TheVariants.{Rows, Intents, Conflicts}

-- a page of rows judges a key at its last line, one of locks each line by itself
abbrev pub by_key : Scan → Bool
by_key Rows = true
by_key Intents = false
by_key Conflicts = false

-- whether the key's turn is not yet: there are more lines, and the next one has the key
abbrev pub waits_for : Scan → Bool → Bool → Bool
waits_for scan more next = by_key scan && (more && next)

-- "14, below the floor, for a .. row page moment below F": a page of locks asks for none, as one on the floor 0
abbrev pub floor_of : Scan → ℕ → ℕ
floor_of Rows floor = floor
floor_of Intents floor = 0
floor_of Conflicts floor = 0

-- how many bytes an entry has besides its cost: the lengths of key and row; of the key, since a lock's 26 have the primary's
abbrev pub over_of : Scan → ℕ
over_of Rows = 2
over_of Intents = 1
over_of Conflicts = 1
