-- What every store has, however it came to be: a pair of key and start has at most one line, a row is stored for exactly the pairs whose line
-- is a Put, and lines and rows are sound. Each call keeps it, an accepted restore gives it (proofs/Tidiness, proofs/Restored), and no call
-- finds there what document 01 answers with 9 because the store contradicts itself (proofs/Unmet).
-- Assumes nothing.
use Rattle.std.specs.Prelude.{ℕ, ◌≡◌, Bool, true, ◌&&◌, not, List, [], ◌∷◌, ltb, eqb}
use Rattle.std.proofs.Math.Option.{some}
use Rattle.forms.specs.Key.{Key, key_form}
use Rattle.forms.specs.Row.{Row, row_form}
use Rattle.rules.specs.declared.records.Kind.{Kind}
use Rattle.rules.specs.declared.records.Kind.TheVariants.{Put, Delete, Rollback}
use Rattle.rules.specs.Box.{Box, Lock, Line, Standing, Finished, KeyLine, Default, kind_in, records_of, lock_of, in_order}
use Rattle.rules.specs.Sound.{sound_record, sound_lock}
use Rattle.rules.specs.Room.{room_for}
use Rattle.rules.specs.Calls.{all_below}
use Rattle.rules.specs.Restore.{all_good}
use Rattle.rules.specs.Collect.{dropped_lines}
use Rattle.ledger.specs.Ledger.{lines_at, rows_at}

-- ---- pairs

-- "a row is stored for exactly the pairs whose line is a Put", one row
abbrev pub RowsOf : Kind → List Row → Type 0
RowsOf Put stored = (r : Row) × (stored ≡ r ∷ [])
RowsOf Delete stored = stored ≡ []
RowsOf Rollback stored = stored ≡ []

-- a pair has no line and no row; or exactly one line, and the rows of its kind
pub data Paired (b : Box) (k : Key) (s : ℕ) : Type 0 where
  free : lines_at k s b.lines ≡ [] → rows_at k s b.defaults ≡ [] → Paired b k s
  taken : (x : Line) → lines_at k s b.lines ≡ x ∷ [] → RowsOf (kind_in x) (rows_at k s b.defaults) → Paired b k s

-- ---- lines and rows

-- "Sound lock: ..", "Sound record: .."
abbrev pub sound_line : Line → Bool
sound_line (Standing l) = sound_lock l
sound_line (Finished w) = sound_record w

abbrev pub good_line : KeyLine → Bool
good_line e = key_form e.key && sound_line e.line

-- key and row in form, start not 0
abbrev pub good_row : Default → Bool
good_row d = key_form d.key && not (eqb d.start 0) && row_form d.row

pub record Sound (b : Box) : Type 0 where
  pub lines : all_good good_line b.lines ≡ true
  pub rows : all_good good_row b.defaults ≡ true

-- what every store has
pub record Tidy (b : Box) : Type 0 where
  pub pairs : (k : Key) (s : ℕ) → Paired b k s
  pub sound : Sound b

-- ---- the floor

-- document 02, CR 7: a collection with "a lock at or below F" is refused, an image with such a lock too, and a prewrite's start is above it
abbrev pub line_above : ℕ → Line → Bool
line_above f (Standing l) = ltb f l.start
line_above f (Finished w) = true

-- every lock of the store starts above the floor
abbrev pub LocksAbove : ℕ → Box → Type 0
LocksAbove f b = all_good (λ (e : KeyLine). line_above f e.line) b.lines ≡ true

-- ---- without a restore: where calls alone have made the box, from an empty store

-- in order, and a lock starts above every stamp of its key
pub record Rising (b : Box) : Type 0 where
  pub order : in_order b ≡ true
  pub above : (k : Key) (l : Lock) → lock_of k b.lines ≡ some l → all_below l.start (records_of k b.lines) ≡ true

-- a collection at the store's own floor would drop nothing: what stands at or below it was collected, or nothing does
abbrev pub Collected : ℕ → Box → Type 0
Collected f b = dropped_lines f b.lines ≡ []

pub record Unrestored (f : ℕ) (b : Box) : Type 0 where
  pub tidy : Tidy b
  pub rising : Rising b
  -- "At most 1,024 lines (locks plus records), 256 locks, 1,024 defaults, 49,152 live bytes"
  pub room : room_for b ≡ true
  pub above : LocksAbove f b
  pub collected : Collected f b
