-- `traces::reader::Reader::framed` meets its contract: the length, then so many bytes.
-- Assumes nothing.
use Rattle.traces.specs.Trace.{framed}
use Rattle.traces.proofs.TakenLaws.{stops, goes_on}
use Rattle.traces.proofs.reader.Reader.framed.Goals as goal

pub returns-in_err-len : goal.returns-in_err-len
unfolding framed
returns-in_err-len c = rw c.from_residual.ensures (stops _ c.in_err-len.ensures)

pub returns : goal.returns
unfolding framed
returns c = goes_on _ c.in_ok-len.ensures c.stretch.ensures
