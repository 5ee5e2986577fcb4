-- `picks::sizes::with_line` meets its contract: the pieces of a lock or of a record, added up.
-- Assumes nothing.
use Rattle.picks.proofs.SizeLaws.{lock-added, write-added}
use Rattle.picks.proofs.sizes.with_line.Goals as goal

pub returns-in-Standing : goal.returns-in-Standing
returns-in-Standing c = λ area q. lock-added q c.args.z c.in-Standing.is

pub returns-in-Finished : goal.returns-in-Finished
returns-in-Finished c = λ area q. write-added q c.args.z c.in-Finished.is
