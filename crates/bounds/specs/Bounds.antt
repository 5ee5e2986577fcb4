-- The bounds that a page's arguments say.
-- Assumes nothing.
use Rattle.forms.specs.Readers.{given}
use Rattle.rules.specs.Page as page
use Rattle.bounds.specs.declared.asked.Bounds.{Bounds}

-- "start, end and resume may each be absent"
abbrev pub bounds_of : Bounds → page.Bounds
bounds_of b = record { from = given b.start; to = given b.end; resume = given b.resume }
