-- `pairs::puts::puts_match` meets its contract: each step and each way out is a law of `PutsMatchLaws`.
-- Assumes nothing.
use mathlib.Core.Path.{sym, ◌∙◌}
use Rattle.pairs.proofs.PutsMatchLaws.{match-end, match-other, match_none, match-wrong, match-next}
use native.Mathlib.Omega.{arith}
use Rattle.pairs.proofs.puts.puts_match.Goals as goal
use Rattle.pairs.proofs.puts.puts_match.Goals.{then-defaults-j-via-then-defaults-j, then-defaults-j-via-else-defaults-j+then-not-points_to, then-is_put+else-defaults-j+else-not-points_to, else-is_put}

pub returns-then-defaults-j : goal.returns-then-defaults-j
returns-then-defaults-j c =
    elim c.then-defaults-j.branch [
      | then-defaults-j-via-then-defaults-j w ↦ match_none c.loop-place.invariant c.loop-place-test.true c.line_at-e.ensures (sym c.is_put.ensures ∙ c.if-is_put.true) w.if-defaults-j.true
      | then-defaults-j-via-else-defaults-j+then-not-points_to w ↦
          match-wrong c.loop-place.invariant c.loop-place-test.true c.line_at-e.ensures (sym c.is_put.ensures ∙ c.if-is_put.true) w.if-defaults-j.false w.points_to.ensures w.if-not-points_to.true-raw
    ]

pub loop-place-preserved : goal.loop-place-preserved
loop-place-preserved c =
    elim c.if-is_put.branch [
      | then-is_put+else-defaults-j+else-not-points_to w ↦
          rw w.j-is (match-next c.loop-place.invariant c.loop-place-test.true c.line_at-e.ensures (sym c.is_put.ensures ∙ w.if-is_put.true) w.if-defaults-j.false w.points_to.ensures w.if-not-points_to.false-raw)
      | else-is_put w ↦ rw w.j-is (match-other c.loop-place.invariant c.loop-place-test.true c.line_at-e.ensures (sym c.is_put.ensures ∙ w.if-is_put.false))
    ]

pub returns : goal.returns
returns c = match-end c.loop-place.invariant (omega arith)
