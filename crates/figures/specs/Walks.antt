-- The walks over the lines of a store, from the last line to the first. The one that counts chains keeps the key before, and for rows and for
-- records the length of that key's run and the figures of the runs that have ended. The other keeps the marks.
-- Assumes nothing.
use Rattle.std.specs.Prelude.{ℕ, zero, suc, ◌+◌, ◌≤◌, max, ◌≡◌, Bool, true, false, ◌&&◌, not, List, [], ◌∷◌, length, leb}
use Rattle.std.specs.Prelude.{None, Some}
use Rattle.std.specs.Prelude.{Option as Maybe}
use Rattle.std.proofs.Math.Option.{Option, some, none}
use Rattle.forms.specs.Bytes.{Bytes, eq_bytes}
use Rattle.forms.specs.Key.{Key}
use Rattle.forms.specs.declared.part.Part.{Part}
use Rattle.forms.specs.Places.{given_part}
use Rattle.rules.specs.declared.records.Kind.{Kind}
use Rattle.rules.specs.declared.records.Kind.TheVariants.{Put, Delete, Rollback}
use Rattle.rules.specs.declared.figures.Figures.{Figures}
use Rattle.rules.specs.declared.figures.Marks.{Marks}
use Rattle.rules.specs.Box.{Line, Standing, Finished, KeyLine, kind_in}
use Rattle.rules.specs.Figures.{suc_if, line_txn, line_stamp, largest}
use Rattle.store.specs.View.{place_of, line_of}
use Rattle.store.specs.declared.table.Slot.{Slot}
use Rattle.store.specs.declared.table.Line as table
use Rattle.store.specs.declared.table.Line.TheVariants as slot
use Rattle.figures.specs.declared.runs.Run.{Run}
use Rattle.figures.specs.declared.runs.Added.{Added}
use Rattle.figures.specs.declared.runs.Runs.{Runs}

-- ---- a run ends

abbrev pub no_run : Run
no_run = record { long = 0; closed = record { keys = 0; all = 0; one = 0; four = 0; sixteen = 0; above = 0; longest = 0 } }

-- "chains of 1, 2 to 4, 5 to 16 and above 16, and the longest": one chain more, n long
unfoldable pub one_chain : ℕ → Figures → Figures
one_chain n f = record {
  keys = suc f.keys;
  all = n + f.all;
  one = suc_if (leb 1 n && leb n 1) f.one;
  four = suc_if (leb 2 n && leb n 4) f.four;
  sixteen = suc_if (leb 5 n && leb n 16) f.sixteen;
  above = suc_if (not (leb n 16)) f.above;
  longest = max n f.longest;
}

-- a run of none is no run
unfoldable pub ended : ℕ → Figures → Figures
ended zero f = f
ended (suc n) f = one_chain (suc n) f

-- no count is above the number of those in the runs that have ended, and with n more these are at most 1,024
pub record Few (n : ℕ) (f : Figures) : Type 0 where
  pub all : n + f.all ≤ 1024
  pub keys : f.keys ≤ f.all
  pub one : f.one ≤ f.all
  pub four : f.four ≤ f.all
  pub sixteen : f.sixteen ≤ f.all
  pub above : f.above ≤ f.all

-- ---- one line more

-- it adds n to the run of its key: the run goes on, or ends and another begins
abbrev pub next_run : Bool → ℕ → Run → Run
next_run true n r = record { long = n + r.long; closed = r.closed }
next_run false n r = record { long = n; closed = ended r.long r.closed }

abbrev pub if_row : Kind → ℕ
if_row Put = 1
if_row Delete = 0
if_row Rollback = 0

-- what a line adds to the rows, and to the records
abbrev pub rows_in : Line → ℕ
rows_in x = if_row (kind_in x)

abbrev pub records_in : Line → ℕ
records_in (Standing l) = 0
records_in (Finished w) = 1

-- both, of a slot's line
abbrev pub added_by : table.Line → Added
added_by (slot.Standing l) = record { rows = if_row l.kind; records = 0 }
added_by (slot.Finished w) = record { rows = if_row w.kind; records = 1 }

-- the run goes on: there is a key before, and it is this one
abbrev pub goes_on : Option Key → Key → Bool
goes_on none k = false
goes_on (some j) k = eq_bytes j k

pub record Sight : Type 0 where
  pub key : Option Key
  pub rows : Run
  pub records : Run

abbrev pub add_line : KeyLine → Sight → Sight
add_line e s = record {
  key = some e.key;
  rows = next_run (goes_on s.key e.key) (rows_in e.line) s.rows;
  records = next_run (goes_on s.key e.key) (records_in e.line) s.records;
}

-- ---- the walk

unfoldable pub key_at : List KeyLine → Option Key
key_at [] = none
key_at (e ∷ es) = some e.key

unfoldable pub run_of : (Line → ℕ) → List KeyLine → Run
run_of n [] = no_run
run_of n (e ∷ es) = next_run (goes_on (key_at es) e.key) (n e.line) (run_of n es)

abbrev pub sight_of : List KeyLine → Sight
sight_of es = record { key = key_at es; rows = run_of rows_in es; records = run_of records_in es }

-- what the code keeps
abbrev pub sight_in : Bytes → Runs → Sight
sight_in area q = record { key = given_part area q.key; rows = q.rows; records = q.records }

abbrev pub KeyIn : Bytes → Maybe Part → Type 0
KeyIn area None = Unit {0}
KeyIn area (Some key) = key.at + key.len ≤ length area

-- what one line more asks: both keys lie in the area, and the counts are few
pub record NextLine (area : Bytes) (seen : Runs) (s : Slot) : Type 0 where
  pub before_in : KeyIn area seen.key
  pub key_in : place_of s + s.len ≤ length area
  pub rows : Few seen.rows.long seen.rows.closed
  pub records : Few seen.records.long seen.records.closed

pub record LineCounted (area : Bytes) (seen : Runs) (s : Slot) (q : Runs) : Type 0 where
  pub is : sight_in area q ≡ add_line (line_of area s) (sight_in area seen)
  pub within : KeyIn area q.key

-- ---- high-water marks

abbrev pub add_mark : KeyLine → Marks → Marks
add_mark e m = record { txn = max (line_txn e.line) m.txn; stamp = max (line_stamp e.line) m.stamp }

unfoldable pub line_marks : List KeyLine → Marks
line_marks es = record { txn = largest (λ (e : KeyLine). line_txn e.line) es; stamp = largest (λ (e : KeyLine). line_stamp e.line) es }
