-- `traces::payload::put_row` meets its contract: too short, or a byte and the row.
-- Assumes nothing.
use Rattle.forms.proofs.WriterLaws.{laid_then}
use Rattle.traces.proofs.PutLaws.{put_all}
use Rattle.traces.proofs.FormLaws.{row-long}
use Rattle.traces.proofs.payload.put_row.Goals as goal

pub returns-then-out-row : goal.returns-then-out-row
returns-then-out-row c = row-long c.if-out-row.true

pub returns : goal.returns
returns c = put_all (laid_then c.put_byte-a.ensures c.put_bytes.ensures)
