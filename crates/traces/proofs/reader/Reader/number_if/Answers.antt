use Rattle.traces.proofs.TakenLaws.{passes}
use Rattle.traces.proofs.reader.Reader.number_if.Goals as goal

pub returns-else-wanted-clause-taken : goal.returns-else-wanted-clause-taken
returns-else-wanted-clause-taken c = passes _ 0 c.if-wanted.false
