-- `commits::batch::commit_all` meets its contract.
-- Assumes nothing.
use Rattle.commits.proofs.CommitPassLaws.{pass-asks, pass-settled}
use Rattle.commits.proofs.batch.commit_all.Goals as goal

pub settle-requires : goal.settle-requires
settle-requires c = λ move. pass-asks c.requires.0 c.args.terms c.check_all-judged.ensures move c.requires.1

pub returns : goal.returns
returns c = pass-settled c.requires.0 c.args.terms c.check_all-judged.ensures c.settle.ensures
