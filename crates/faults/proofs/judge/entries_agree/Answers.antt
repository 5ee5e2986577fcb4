-- `faults::judge::entries_agree` meets its contract: each way out is a law of `JudgeLaws`.
-- Assumes nothing.
use Rattle.faults.proofs.JudgeLaws.{alike-above, alike-rows, alike-pairs, alike-puts, alike_end}
use Rattle.faults.proofs.judge.entries_agree.Goals as goal

pub returns-then-not-locks_above : goal.returns-then-not-locks_above
returns-then-not-locks_above c = alike-above c.requires.listed c.locks_above.ensures c.if-not-locks_above.true-raw

pub returns-then-not-order : goal.returns-then-not-order
returns-then-not-order c = alike-rows c.requires.listed c.locks_above.ensures c.if-not-locks_above.false-raw c.order.ensures c.if-not-order.true-raw

pub returns-then-not-order_both : goal.returns-then-not-order_both
returns-then-not-order_both c = alike-pairs c.requires.listed c.locks_above.ensures c.if-not-locks_above.false-raw c.order.ensures c.if-not-order.false-raw c.order_both.ensures c.if-not-order_both.true-raw

pub returns-then-not-puts_match : goal.returns-then-not-puts_match
returns-then-not-puts_match c = alike-puts c.requires.listed c.locks_above.ensures c.if-not-locks_above.false-raw c.order.ensures c.if-not-order.false-raw c.order_both.ensures c.if-not-order_both.false-raw c.puts_match.ensures c.if-not-puts_match.true-raw

pub returns : goal.returns
returns c = alike_end c.requires.listed c.locks_above.ensures c.if-not-locks_above.false-raw c.order.ensures c.if-not-order.false-raw c.order_both.ensures c.if-not-order_both.false-raw c.puts_match.ensures c.if-not-puts_match.false-raw c.order_both-2.ensures
