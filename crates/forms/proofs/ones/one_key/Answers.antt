-- `forms::ones::one_key` meets its contract: a count of one, and the key.
-- Assumes nothing.
use Rattle.forms.proofs.OneLaws.{key_laid}
use Rattle.forms.proofs.ones.one_key.Goals as goal

pub returns : goal.returns
returns c = key_laid _ c.put_digits-a.ensures c.put_fitting.ensures
