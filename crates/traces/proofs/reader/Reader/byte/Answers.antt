use Rattle.forms.specs.Readers.{byte}
use Rattle.forms.proofs.ReaderLaws.{byte-none}
use native.Mathlib.Omega.{arith}
use Rattle.traces.proofs.reader.Reader.byte.Goals as goal

pub returns-in_err-first : goal.returns-in_err-first
returns-in_err-first c = rw c.from_residual.ensures (record { is = byte-none c.args.self.now.left.now 0 (omega (arith, c.in_err-first.ensures.cases)) })

pub returns : goal.returns
unfolding byte
returns c = record { is = rw c.in_ok-first.ensures.cases.0 }
