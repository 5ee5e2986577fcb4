-- What the changing calls share: the answer with the box after it, own locks, stored rows, and the steps on history that several calls make.
-- Assumes nothing.
use Rattle.std.specs.Prelude.{ℕ, Bool, true, false, ◌&&◌, not, List, [], ◌∷◌, ltb, eqb}
use Rattle.std.proofs.Math.Option.{Option, none, some}
use Rattle.forms.specs.Bytes.{eq_bytes}
use Rattle.forms.specs.Row.{Row, row_form}
use Rattle.forms.specs.Readers.{is_some}
use Rattle.rules.specs.Answers.{Answer, Accepted, No, Held, ◌▸◌, need}
use Rattle.rules.specs.declared.records.Kind.{Kind}
use Rattle.rules.specs.declared.records.Kind.TheVariants.{Put, Delete, Rollback}
use Rattle.rules.specs.declared.records.Record.{Record}
use Rattle.rules.specs.Box.{Box, Lock, fresh}

-- a call's answer, and the box after it
pub record Done : Type 0 where
  pub answer : Answer
  pub box : Box

-- "A refusal changes nothing in store or buffers"
unfoldable pub settle : Answer → Box → Box → Done
settle Accepted new old = record { answer = Accepted; box = new }
settle (No n) new old = record { answer = No n; box = old }
settle (Held h) new old = record { answer = Held h; box = old }

-- document 02, CR 7: "The floor is part of the store, begins at 0": what a store holds, and its floor beside it
pub record State : Type 0 where
  pub box : Box
  pub floor : ℕ

-- "a fresh store has none"; "begins at 0"
unfoldable pub fresh_state : State
fresh_state = record { box = fresh; floor = 0 }

-- a call's answer, and the state after it
pub record Ended : Type 0 where
  pub answer : Answer
  pub state : State

-- "A refusal changes nothing in store or buffers", of a call that can change the floor too
unfoldable pub settle_state : Answer → State → State → Ended
settle_state Accepted new old = record { answer = Accepted; state = new }
settle_state (No n) new old = record { answer = No n; state = old }
settle_state (Held h) new old = record { answer = Held h; state = old }

-- a call that leaves the floor as it is
abbrev pub on_floor : ℕ → Done → Ended
on_floor floor d = record { answer = d.answer; state = record { box = d.box; floor = floor } }

-- a batch out of form is 6; else what the call does with its entries
unfoldable pub of_batch : {A : Type 0} → Option (List A) → (List A → Box → Done) → Box → Done
of_batch none call b = record { answer = No 6; box = b }
of_batch (some xs) call b = call xs b

-- "empty batch where one entry is needed"
abbrev pub non_empty : {A : Type 0} → List A → Bool
non_empty [] = false
non_empty (x ∷ xs) = true

abbrev pub kind_of : Option Row → Kind
kind_of none = Delete
kind_of (some r) = Put

-- own means that both transaction and start are the call's
abbrev pub owns : ℕ → ℕ → Lock → Bool
owns txn start l = eqb l.txn txn && eqb l.start start

-- "zero transaction, start": the first steps of commit, rollback and one-step
unfoldable pub zero_step : ℕ → ℕ → Answer
zero_step txn start =
    need (not (eqb txn 0)) 3 ▸
    need (not (eqb start 0)) 3

-- each stamp is below
unfoldable pub all_below : ℕ → List Record → Bool
all_below s [] = true
all_below s (w ∷ ws) = ltb w.stamp s && all_below s ws

-- "2": a Put's row is in form
abbrev pub row_argument : Option Row → Bool
row_argument none = true
row_argument (some r) = row_form r

abbrev pub same_row : Row → Option Row → Bool
same_row r none = false
same_row r (some q) = eq_bytes r q

-- "for a Put, this row": stored, and the same
abbrev pub row_stands : Option Row → Option Row → Bool
row_stands none stored = true
row_stands (some r) stored = same_row r stored

-- this start's lock stands, whosever it is
abbrev pub lock_at : ℕ → Option Lock → Bool
lock_at s none = false
lock_at s (some l) = eqb l.start s

abbrev pub decodes : Option Row → Bool
decodes none = false
decodes (some r) = row_form r

-- "Put whose default is missing or does not decode, Delete with a default, or kind Rollback, 9"
abbrev pub kind_ready : Kind → Option Row → Bool
kind_ready Put stored = decodes stored
kind_ready Delete stored = not (is_some stored)
kind_ready Rollback stored = false

unfoldable pub found_if : Bool → Record → Option Record → Option Record
found_if true w o = some w
found_if false w o = o

-- the record stamped with this number
unfoldable pub stamped_at : ℕ → List Record → Option Record
stamped_at s [] = none
stamped_at s (w ∷ ws) = found_if (eqb s w.stamp) w (stamped_at s ws)

-- a record as our calls write it
abbrev pub record_for : ℕ → ℕ → Kind → Record
record_for start commit kind = record { stamp = commit; start = start; commit = commit; kind = kind }
