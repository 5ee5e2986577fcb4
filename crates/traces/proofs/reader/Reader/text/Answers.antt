use Rattle.traces.specs.Arguments.{text}
use Rattle.traces.proofs.TakenLaws.{stops, goes_on}
use Rattle.traces.proofs.reader.Reader.text.Goals as goal

pub returns-in_err-len : goal.returns-in_err-len
unfolding text
returns-in_err-len c = rw c.from_residual.ensures (stops _ c.in_err-len.ensures.taken)

pub returns : goal.returns
unfolding text
returns c = goes_on _ c.in_ok-len.ensures.taken c.stretch.ensures
