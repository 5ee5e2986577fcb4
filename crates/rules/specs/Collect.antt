-- Document 02, CR 7: "Collect up to a floor F: for each key, of records stamped at or below F keep the newest that is not a Rollback, if it is a
-- Put, and drop the rest with their rows. .. Refusals: 14, below the floor, .. for a collection with a lower floor, tested first; a collection
-- with a lock at or below F answers 7 for the first such key". F is the floor that the collection names; the store's is another number.
-- Assumes nothing.
use Rattle.std.specs.Prelude.{ℕ, Bool, true, ◌&&◌, ◌||◌, not, List, [], ◌∷◌, leb, ltb}
use Rattle.rules.specs.Answers.{Answer, Accepted, ◌▸◌, need, need_own}
use Rattle.rules.specs.declared.records.Kind.TheVariants.{Put, Rollback}
use Rattle.rules.specs.declared.records.Record.{Record}
use Rattle.rules.specs.Box.{Box, Line, Standing, Finished, KeyLine, Default, holder_of, eq_kind, records_of}
use Rattle.rules.specs.Read.{keep_if, those}
use Rattle.rules.specs.Calls.{State, Ended, settle_state}
use Rattle.rules.specs.Restore.{pointed_to}

-- ---- which records stay

-- a record "stamped at or below F" "that is not a Rollback"
abbrev pub counts_by : ℕ → Record → Bool
counts_by f w = leb w.stamp f && not (eq_kind w.kind Rollback)

-- none of these records does
unfoldable pub none_counts : ℕ → List Record → Bool
none_counts f [] = true
none_counts f (w ∷ ws) = not (counts_by f w) && none_counts f ws

-- "of records stamped at or below F keep the newest that is not a Rollback, if it is a Put": a Put, and none of its key's newer records counts.
-- A record above F stays.
abbrev pub record_stays : ℕ → List Record → Record → Bool
record_stays f newer w = ltb f w.stamp || (eq_kind w.kind Put && none_counts f newer)

-- locks stay; of a key the newer records are those on the lines that follow, as the lines stand in order
abbrev pub line_stays : ℕ → List KeyLine → KeyLine → Line → Bool
line_stays f es e (Standing l) = true
line_stays f es e (Finished w) = record_stays f (records_of e.key es) w

abbrev pub stays : ℕ → List KeyLine → KeyLine → Bool
stays f es e = line_stays f es e e.line

-- ---- "keep ..", "drop the rest with their rows"

unfoldable pub kept_lines : ℕ → List KeyLine → List KeyLine
kept_lines f [] = []
kept_lines f (e ∷ es) = keep_if (stays f es e) e (kept_lines f es)

unfoldable pub dropped_lines : ℕ → List KeyLine → List KeyLine
dropped_lines f [] = []
dropped_lines f (e ∷ es) = keep_if (not (stays f es e)) e (dropped_lines f es)

-- "with their rows": the row of a dropped Put's key and start goes
abbrev pub row_stays : ℕ → List KeyLine → Default → Bool
row_stays f es d = not (pointed_to (dropped_lines f es) d)

unfoldable pub collected : ℕ → Box → Box
collected f b = record { lines = kept_lines f b.lines; defaults = those (row_stays f b.lines) b.defaults }

-- ---- the call

-- a lock at or below F holds the collection up
abbrev pub line_above_step : ℕ → Line → Answer
line_above_step f (Standing l) = need_own (ltb f l.start) (holder_of l)
line_above_step f (Finished w) = Accepted

-- "answers 7 for the first such key", as the lines stand in order
unfoldable pub locks_above_step : ℕ → List KeyLine → Answer
locks_above_step f [] = Accepted
locks_above_step f (e ∷ es) = line_above_step f e.line ▸ locks_above_step f es

-- "14, below the floor, .. for a collection with a lower floor, tested first; .. 7 for the first such key"
unfoldable pub collect_steps : ℕ → State → Answer
collect_steps f st =
    need (leb st.floor f) 14 ▸
    locks_above_step f st.box.lines

-- the store's floor is F from then on
unfoldable pub collect : ℕ → State → Ended
collect f st = settle_state (collect_steps f st) (record { box = collected f st.box; floor = f }) st
