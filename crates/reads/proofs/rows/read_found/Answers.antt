-- `reads::rows::read_found` meets its contract, in any store in which the lookup found this. Assumes nothing.
use Rattle.std.proofs.Common.{ap}
use Rattle.rules.specs.Outcomes.{outcome}
use Rattle.reads.proofs.ReadLaws.{read_refused, read-newest}
use Rattle.reads.proofs.rows.read_found.Goals as goal

pub returns-in-Err : goal.returns-in-Err
returns-in-Err c = λ st area k b form above f. read_refused b form above f _ c.lock_lets.ensures c.in-Err.is c.refusal.ensures

pub returns : goal.returns
returns c = λ st area k b form above f. read-newest b form above f _ c.lock_lets.ensures (ap outcome c.in_default.is) c.newest_row-row.ensures
