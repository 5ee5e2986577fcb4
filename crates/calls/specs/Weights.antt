-- What entries add and free, what the check of an entry, or of all entries, says of a box, and the room that is left.
-- Assumes nothing.
use Rattle.std.specs.Prelude.{ℕ, ◌*◌, ◌≤◌, ◌≡◌, List, Result}
use Rattle.rules.specs.Answers.{Answer, Accepted}
use Rattle.rules.specs.declared.answers.Refusal.{Refusal}
use Rattle.rules.specs.Outcomes.{outcome, value_or}
use Rattle.rules.specs.declared.room.Load.{Load}
use Rattle.rules.specs.Box.{Box}
use Rattle.laws.specs.Adds.{no_load, plus, sum_loads}
use Rattle.laws.proofs.BatchLaws.{check_all}
use Rattle.changes.specs.Loads.{Small, Within}
use Rattle.calls.specs.declared.weights.Weight.{Weight}

abbrev pub no_weight : Weight
no_weight = record { added = no_load; freed = no_load }

-- what n entries can add: each a line, a lock and a default at most, and `cap` bytes
pub record AddedBy (n cap : ℕ) (l : Load) : Type 0 where
  pub lines : l.lines ≤ n
  pub locks : l.locks ≤ n
  pub defaults : l.defaults ≤ n
  pub bytes : l.bytes ≤ n * cap

-- what n entries can add and free: each at most `add` and `free` bytes
pub record Light (n add free : ℕ) (w : Weight) : Type 0 where
  pub added : AddedBy n add w.added
  pub freed : AddedBy n free w.freed

-- small numbers, so that there is a sum
pub record Sums (a b : Weight) : Type 0 where
  pub added : Small a.added
  pub more_added : Small b.added
  pub freed : Small a.freed
  pub more_freed : Small b.freed

-- there is a sum, and what goes is in it
pub record LeftAsks (load : Load) (w : Weight) : Type 0 where
  pub load_small : Small load
  pub added_small : Small w.added
  pub freed_there : Within w.freed (plus load w.added)

-- ---- the steps of a call at one entry: its check, what it adds and what it frees, and the bytes that this can come to

pub record Steps (A : Type 0) : Type 0 where
  pub check : Box → A → Answer
  pub adds : Box → A → Load
  pub frees : Box → A → Load
  pub add : ℕ
  pub free : ℕ

-- what the check of an entry, or of all entries, says: the answer, and what would be added and freed
pub record Checked : Type 0 where
  pub answer : Answer
  pub weight : Weight

-- a refusal adds and frees nothing
abbrev pub checked : Result Weight Refusal → Checked
checked r = record { answer = outcome r; weight = value_or no_weight r }

-- the answer is the definition's; where it passes, so is what the entry adds and frees
pub record EntryChecked {A : Type 0} (c : Steps A) (b : Box) (x : A) (r : Checked) : Type 0 where
  pub answer_is : r.answer ≡ c.check b x
  pub added_is : r.answer ≡ Accepted → r.weight.added ≡ c.adds b x
  pub freed_is : r.answer ≡ Accepted → r.weight.freed ≡ c.frees b x
  pub light : Light 1 c.add c.free r.weight

-- the same of all entries
pub record AllChecked {A : Type 0} (c : Steps A) (b : Box) (xs : List A) (r : Checked) : Type 0 where
  pub answer_is : r.answer ≡ check_all c.check b xs
  pub added_is : r.answer ≡ Accepted → r.weight.added ≡ sum_loads (c.adds b) xs
  pub freed_is : r.answer ≡ Accepted → r.weight.freed ≡ sum_loads (c.frees b) xs
  pub light : Light 32 c.add c.free r.weight
