-- `images::checks::of_table` meets its contract.
-- Assumes nothing.
use mathlib.Core.Path.{sym, ◌∙◌}
use Rattle.images.proofs.GoodLaws.{table_is}
use Rattle.images.proofs.checks.of_table.Goals as goal

pub returns-then-key_in_form : goal.returns-then-key_in_form
returns-then-key_in_form c = c.eq.ensures ∙ table_is _ _ _ c.number_at.ensures (sym c.key_in_form.ensures ∙ c.if-key_in_form.true)
