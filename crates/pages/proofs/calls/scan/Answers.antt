-- `pages::calls::scan` meets its contract: each way out is a law of `PageLaws`.
-- Assumes nothing.
use Rattle.std.proofs.Common.{ap, refl, arith}
use Rattle.rules.specs.Outcomes.{wrote}
use Rattle.rules.proofs.OutcomeLaws.{handed-is}
use Rattle.pages.proofs.PageLaws.{paged-short, page-asked, paged-put, paged-refused}
use Rattle.pages.proofs.calls.scan.Goals as goal

pub returns-in_err-w : goal.returns-in_err-w
returns-in_err-w c = paged-refused c.in_err-w.ensures _ _ refl (ap wrote (handed-is _ _ c.from_residual.ensures.1))

pub returns-then-out-w : goal.returns-then-out-w
returns-then-out-w c = paged-short c.in_ok-w.ensures _ refl c.if-out-w.true refl

pub put_page-requires : goal.put_page-requires
put_page-requires c = page-asked c.in_ok-w.ensures _ refl c.if-out-w.false

pub returns : goal.returns
returns c = paged-put c.in_ok-w.ensures _ refl c.if-out-w.false c.put_page.ensures
