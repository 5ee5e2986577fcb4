-- `converts::rows::put_default` meets its contract (`laid-default` of `GrownLaws`).
-- Assumes nothing.
use Rattle.converts.proofs.GrownLaws.{laid-default}
use Rattle.converts.proofs.rows.put_default.Goals as goal

pub returns : goal.returns
returns c = laid-default c.requires c.of.ensures c.put_piece-p.ensures c.put_digits-q.ensures c.of-2.ensures c.put_row.ensures
