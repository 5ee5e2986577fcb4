-- A page that was written lies in the buffer.
use Rattle.std.proofs.Common.{sym, length-take-le}
use Rattle.visits.proofs.WrittenPageLaws.{page-fits}
use Rattle.visits.proofs.visitors.asks_page.Goals as goal

pub slice_bounds-out-end : goal.slice_bounds-out-end
slice_bounds-out-end g c = page-fits _ _ _ _ _ _ c.scan_page.ensures c.in-Ok.is c.scan_page.auto.out

pub slice_bounds-say_page-end : goal.slice_bounds-say_page-end
slice_bounds-say_page-end g c = sym (length-take-le _ _ (page-fits _ _ _ _ _ _ c.scan_page.ensures c.in-Ok.is c.scan_page.auto.out))
