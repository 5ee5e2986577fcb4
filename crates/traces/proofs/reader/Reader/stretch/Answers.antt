use Rattle.forms.specs.Readers.{stretch}
use Rattle.seqs.proofs.Parts.{part_end}
use borrow.Author.Tests.{le-leb, lt-leb}
use Rattle.traces.proofs.reader.Reader.stretch.Goals as goal

pub returns-then-self-len : goal.returns-then-self-len
unfolding stretch
returns-then-self-len c = record { is = rw (lt-leb _ _ c.if-self-len.true) }

pub returns : goal.returns
unfolding stretch
returns c = record { is = rw (le-leb _ _ c.if-self-len.false, part_end) }
