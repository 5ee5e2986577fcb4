-- `commits::checks::check_lock` meets its contract.
-- Assumes nothing.
use mathlib.Core.Path.{◌∙◌}
use Rattle.laws.proofs.ChainLaws.{chain, own_out, denied}
use Rattle.commits.proofs.checks.check_lock.Goals as goal

pub returns-then-not-owns : goal.returns-then-not-owns
returns-then-not-owns c = λ area. rw c.in-Some.is (c.held_by.ensures area ∙ own_out _ _ _ (denied _ _ (c.owns.ensures area) c.if-not-owns.true-raw))

pub returns-then-not-newer : goal.returns-then-not-newer
returns-then-not-newer c = λ area. let own = c.owns.ensures area in rw c.in-Some.is (search chain depth 8)

pub returns : goal.returns
returns c = λ area. let own = c.owns.ensures area in rw c.in-Some.is (search chain depth 8)
