use mathlib.Core.Path.{sym, ◌∙◌}
use Rattle.forms.proofs.SameLaws.{ends-unlike}
use Rattle.forms.proofs.key.same.Goals as goal

pub returns-then-ne : goal.returns-then-ne
returns-then-ne c = ends-unlike _ _ (c.copied.ensures ∙ c.last.ensures.value) (c.copied-2.ensures ∙ c.last-2.ensures.value) (sym c.ne.ensures ∙ c.if-ne.true)
