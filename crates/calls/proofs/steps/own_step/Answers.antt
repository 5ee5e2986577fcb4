-- `calls::steps::own_step` meets its contract.
-- Assumes nothing.
use Rattle.laws.proofs.ChainLaws.{own-last-out, own-last-on}
use mathlib.Core.Path.{sym, ◌∙◌}
use Rattle.calls.proofs.steps.own_step.Goals as goal

pub returns-then-not-owns : goal.returns-then-not-owns
returns-then-not-owns c = λ area. rw c.in-Some.is (c.held_by.ensures area ∙ own-last-out _ _ (sym (c.owns.ensures area) ∙ c.if-not-owns.true))

pub returns-else-not-owns : goal.returns-else-not-owns
returns-else-not-owns c = λ area. rw c.in-Some.is (own-last-on _ _ (sym (c.owns.ensures area) ∙ c.if-not-owns.false))
