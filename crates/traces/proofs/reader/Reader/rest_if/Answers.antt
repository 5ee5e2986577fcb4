-- `traces::reader::Reader::rest_if` meets its contract: the rest is taken, or nothing may be left.
-- Assumes nothing.
use mathlib.Core.Path.{refl, sym, ◌∙◌}
use mathlib.Core.Bool.{true≢false}
use native.Mathlib.Omega.{arith}
use Rattle.std.proofs.lemmas.Grind.{common_steps}
use Rattle.traces.proofs.TakenLaws.{takes-nothing, left-over, takes-rest}
use Rattle.traces.proofs.reader.Reader.rest_if.Goals as goal
use Rattle.traces.proofs.reader.Reader.rest_if.Goals.{then-wanted, else-wanted}

pub returns-then-is_empty : goal.returns-then-is_empty
returns-then-is_empty c = elim c.if-wanted.branch [
  | then-wanted w ↦ takes-rest _ w.if-wanted.true refl
  | else-wanted w ↦ takes-nothing _ w.if-wanted.false (grind (arith, common_steps)) refl
]

pub returns-else-is_empty : goal.returns-else-is_empty
returns-else-is_empty c = elim c.if-wanted.branch [
  | then-wanted w ↦ absurd (true≢false (sym w.if-wanted.true ∙ sym w.value-is ∙ c.if-is_empty.false))
  | else-wanted w ↦ left-over _ _ w.if-wanted.false (grind (arith, common_steps))
]
