-- `pages::calls::scan_intent_page` meets its contract: the entries of the walk's page are their bytes.
-- Assumes nothing.
use Rattle.rules.specs.Written.{scan_intent_page}
use Rattle.pages.proofs.PageLaws.{paged-on}
use Rattle.pages.proofs.calls.scan_intent_page.Goals as goal

pub returns : goal.returns
unfolding scan_intent_page
returns c = paged-on _ _ _ c.scan.ensures
