-- `forms::batch::decode` meets its contract: the count is missing, too large, or the entries are read, by `DecodeLaws`.
-- Assumes nothing.
use Rattle.forms.specs.Places.{item_of}
use Rattle.forms.proofs.DecodeLaws.{decode_short, decode_many, decode_few, decoded_as}
use Rattle.forms.proofs.batch.decode.Goals as goal

pub returns-in_err-count : goal.returns-in_err-count
returns-in_err-count g c = rw c.from_residual.ensures (decode_short _ _ _ c.in_err-count.ensures)

pub returns-then-count-gt-MOST : goal.returns-then-count-gt-MOST
returns-then-count-gt-MOST g c = decode_many _ _ _ c.in_ok-count.ensures c.if-count-gt-MOST.true

pub returns : goal.returns
returns g c = decoded_as (item_of g.F.Form.rows c.args.s.now) c.args.s.now c.read_all.result (decode_few _ _ _ c.in_ok-count.ensures c.if-count-gt-MOST.false) c.read_all.ensures
