-- What one line does to a page.
-- Assumes nothing.
use Rattle.std.specs.Prelude.{ℕ, ◌+◌, ◌≤◌, ◌≡◌, Bool, true, false, leb, eqb, Option, Some, None}
use Rattle.rules.specs.Answers.{Answer, Accepted, No, Held}
use Rattle.store.specs.declared.table.Slot.{Slot}
use Rattle.store.specs.declared.table.Line.{Line}
use Rattle.store.specs.declared.table.Line.TheVariants.{Standing, Finished}
use Rattle.rules.specs.Outcomes.{refusal}
use Rattle.turns.specs.Dues.{Due}
use Rattle.turns.specs.declared.turns.Turn as code
use Rattle.turns.specs.declared.turns.Turn.TheVariants as turns

-- the walk goes on without the line, stops with more, is refused, or adds the line at its cost
pub data Turn : Type 0 where
  On : Turn
  Stop : Turn
  Refuse : Answer → Turn
  Add : Slot → ℕ → Turn

abbrev pub turn_in : code.Turn → Turn
turn_in turns.On = On
turn_in turns.Stop = Stop
turn_in (turns.Refuse r) = Refuse (refusal r)
turn_in (turns.Add s cost) = Add s cost

-- "Cost is key plus row length"; "key plus primary length plus 26"
abbrev pub cost_in : ℕ → Line → ℕ
cost_in len (Standing l) = len + l.plen + 26
cost_in len (Finished w) = len + w.rowlen

abbrev pub cost_of : Slot → ℕ
cost_of s = cost_in s.len s.line

pub record CostIn (len : ℕ) (line : Line) (r : ℕ) : Type 0 where
  pub is : r ≡ cost_in len line
  pub small : r ≤ 600

-- ---- the limits

-- "With the row limit reached, stop with more"
abbrev pub stop_if : Bool → Turn → Turn
stop_if true t = Stop
stop_if false t = t

-- "if the sum would pass the byte limit, 10 on an empty page, else stop with more"
abbrev pub large_if : Bool → Bool → Turn → Turn
large_if true first t = t
large_if false true t = Refuse (No 10)
large_if false false t = Stop

abbrev pub add : Slot → Turn
add s = Add s (cost_of s)

abbrev pub room_turn : (rows bytes count total : ℕ) → Turn → Turn
room_turn rows bytes count total t = stop_if (leb rows count) (large_if (leb total bytes) (eqb count 0) t)

-- ---- the turn

abbrev pub turn_by : Answer → Option Slot → (rows bytes count sum : ℕ) → Turn
turn_by Accepted None rows bytes count sum = On
turn_by Accepted (Some s) rows bytes count sum = room_turn rows bytes count (sum + cost_of s) (add s)
turn_by (No n) line rows bytes count sum = Refuse (No n)
turn_by (Held h) line rows bytes count sum = Refuse (Held h)

abbrev pub turn_of : Bool → Answer → Option Slot → (rows bytes count sum : ℕ) → Turn
turn_of true lets line rows bytes count sum = turn_by lets line rows bytes count sum
turn_of false lets line rows bytes count sum = On

abbrev pub turn_due : Bool → Due → (rows bytes count sum : ℕ) → Turn
turn_due inside d rows bytes count sum = turn_of inside d.lets d.line rows bytes count sum
