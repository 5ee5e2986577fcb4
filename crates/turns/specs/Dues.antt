-- What the lines of a key so far say to a page.
-- Assumes nothing.
use Rattle.std.specs.Prelude.{ℕ, Bool, true, false, ◌||◌, not, [], leb, ltb, Option, Some, None}
use Rattle.rules.specs.Answers.{Answer, Accepted, need_own}
use Rattle.rules.specs.Outcomes.{outcome}
use Rattle.rules.specs.declared.records.Kind.{Kind}
use Rattle.rules.specs.declared.records.Kind.TheVariants.{Put, Delete, Rollback}
use Rattle.rules.specs.Box.{holder_of}
use Rattle.store.specs.declared.table.Slot.{Slot}
use Rattle.store.specs.declared.views.LineView.{LineView}
use Rattle.store.specs.declared.views.LineView.TheVariants as view
use Rattle.store.specs.Views.{lock_in}
use Rattle.turns.specs.declared.asked.Scan.{Scan}
use Rattle.turns.specs.declared.asked.Scan.TheVariants.{Rows, Intents, Conflicts}
use Rattle.turns.specs.declared.dues as code

-- the answer of the key's lock to a read, and the line that would be listed
pub record Due : Type 0 where
  pub lets : Answer
  pub line : Option Slot

abbrev pub due_in : code.Due.Due → Due
due_in d = record { lets = outcome d.lets; line = d.line }

abbrev pub no_due : Due
no_due = record { lets = Accepted; line = None }

-- ---- a row: "lock with start at or below the moment, 7; then records from the newest at or below the moment downward"

abbrev pub list_by : Kind → Slot → Option Slot → Option Slot
list_by Put s old = Some s
list_by Delete s old = None
list_by Rollback s old = old

abbrev pub list_if : Bool → Kind → Slot → Option Slot → Option Slot
list_if true kind s old = list_by kind s old
list_if false kind s old = old

-- a holder has no bytes of the area: any will do
abbrev pub see_row : ℕ → Due → Slot → LineView → Due
see_row moment d s (view.Standing i) = record { lets = need_own (ltb moment i.start) (holder_of (lock_in [] i)); line = d.line }
see_row moment d s (view.Finished w) = record { lets = d.lets; line = list_if (leb w.stamp moment) w.kind s d.line }

-- ---- a lock, by itself: all of them, or "skipped if it starts above the moment"

abbrev pub due_if : Bool → Slot → Due
due_if true s = record { lets = Accepted; line = Some s }
due_if false s = no_due

abbrev pub see_lock : Bool → ℕ → Slot → LineView → Due
see_lock every moment s (view.Standing i) = due_if (every || not (ltb moment i.start)) s
see_lock every moment s (view.Finished w) = no_due

abbrev pub due_after : Scan → ℕ → Due → Slot → LineView → Due
due_after Rows moment d s line = see_row moment d s line
due_after Intents moment d s line = see_lock true moment s line
due_after Conflicts moment d s line = see_lock false moment s line
