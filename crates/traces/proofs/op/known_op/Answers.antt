use mathlib.Core.Path.{◌∙◌, sym, ap}
use Rattle.forms.specs.Readers.{is_some}
use Rattle.traces.proofs.OpLaws.{known-named, some-is}
use Rattle.traces.proofs.op.known_op.Goals as goal

pub returns : goal.returns
returns c = c.is_some.ensures ∙ some-is c.op_of.result ∙ ap is_some c.op_of.ensures ∙ sym (known-named c.args.byte)
