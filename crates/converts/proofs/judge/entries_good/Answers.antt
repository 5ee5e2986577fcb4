-- `converts::judge::entries_good` meets its contract: each way out is a law of `OldImageLaws`.
-- Assumes nothing.
use Rattle.converts.proofs.OldImageLaws.{good-rows, rows-stand, good-lines, good-puts}
use Rattle.converts.proofs.judge.entries_good.Goals as goal

pub returns-then-not-order : goal.returns-then-not-order
returns-then-not-order c = good-rows c.requires.listed c.order.ensures c.if-not-order.true-raw

pub returns-then-not-order_both : goal.returns-then-not-order_both
returns-then-not-order_both c = good-lines c.requires.listed c.order.ensures c.if-not-order.false-raw c.order_both.ensures c.if-not-order_both.true-raw

pub puts_have-requires : goal.puts_have-requires
puts_have-requires c = rows-stand c.requires.listed c.order.ensures c.if-not-order.false-raw

pub returns : goal.returns
returns c = good-puts c.requires.listed c.order.ensures c.if-not-order.false-raw c.order_both.ensures c.if-not-order_both.false-raw c.puts_have.ensures
