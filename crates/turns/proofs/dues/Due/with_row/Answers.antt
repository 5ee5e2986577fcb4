-- A lock says what `lock_lets` answers for it, whatever bytes its primary has.
-- Assumes nothing.
use Rattle.std.proofs.Common.{[]}
use Rattle.rules.specs.Read.{lock_lets}
use Rattle.turns.proofs.dues.Due.with_row.Goals as goal

pub returns-in-Standing : goal.returns-in-Standing
unfolding lock_lets
returns-in-Standing c = rw (c.lock_lets.ensures [], c.in-Standing.is)
