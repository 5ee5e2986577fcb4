-- `pages::calls::scan_page` meets its contract: the entries of the walk's page are their bytes.
-- Assumes nothing.
use Rattle.rules.specs.Written.{scan_page}
use Rattle.pages.proofs.PageLaws.{paged-on}
use Rattle.pages.proofs.calls.scan_page.Goals as goal

pub returns : goal.returns
unfolding scan_page
returns c = paged-on _ _ _ c.scan.ensures
