use Rattle.traces.proofs.TakenLaws.{passes}
use Rattle.traces.proofs.reader.Reader.text_if.Goals as goal

pub returns-else-wanted : goal.returns-else-wanted
returns-else-wanted c = passes _ _ c.if-wanted.false
