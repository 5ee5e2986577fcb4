-- `images::checks::good_at` meets its contract: each way out is a law of `GoodReaderLaws`.
-- Assumes nothing.
use Rattle.images.proofs.GoodReaderLaws.{good_none, good-bad, good-good}
use Rattle.images.proofs.checks.good_at.Goals as goal

pub returns-in_err-e : goal.returns-in_err-e
returns-in_err-e c = rw c.from_residual.ensures (good_none _ _ _ c.args.s.now c.args.at c.in_err-e.ensures)

pub returns-then-not-entry_good : goal.returns-then-not-entry_good
returns-then-not-entry_good c = good-bad _ _ _ _ _ c.in_ok-e.ensures c.entry_good.ensures c.if-not-entry_good.true-raw

pub returns : goal.returns
returns c = good-good _ _ _ _ _ c.in_ok-e.ensures c.entry_good.ensures c.if-not-entry_good.false-raw
