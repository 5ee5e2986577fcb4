-- `pages::calls::scan_conflicting_intents` meets its contract: the entries of the walk's page are their bytes.
-- Assumes nothing.
use Rattle.rules.specs.Written.{scan_conflicting_intents}
use Rattle.pages.proofs.PageLaws.{paged-on}
use Rattle.pages.proofs.calls.scan_conflicting_intents.Goals as goal

pub returns : goal.returns
unfolding scan_conflicting_intents
returns c = paged-on _ _ _ c.scan.ensures
