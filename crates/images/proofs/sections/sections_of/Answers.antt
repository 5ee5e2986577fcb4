-- `images::sections::sections_of` meets its contract: each way out is a law of `ImageLaws`.
-- Assumes nothing.
use Rattle.images.proofs.ImageLaws.{sections-zero, sections-no-defaults, sections-no-locks, sections-no-writes, sections-tail, sections-good}
use Rattle.images.proofs.sections.sections_of.Goals as goal

pub returns-then-head-eq0 : goal.returns-then-head-eq0
returns-then-head-eq0 c = sections-zero _ c.in_ok-head.ensures c.if-head-eq0.true

pub returns-in_err-of_defaults : goal.returns-in_err-of_defaults
returns-in_err-of_defaults c = rw c.from_residual-in_err-of_defaults.ensures (sections-no-defaults c.args.form c.in_ok-head.ensures c.in_err-of_defaults.ensures)

pub returns-in_err-of_locks : goal.returns-in_err-of_locks
returns-in_err-of_locks c = rw c.from_residual-in_err-of_locks.ensures (sections-no-locks c.args.form c.in_ok-head.ensures c.in_ok-of_defaults.ensures c.in_err-of_locks.ensures)

pub returns-in_err-of_writes : goal.returns-in_err-of_writes
returns-in_err-of_writes c = rw c.from_residual-in_err-of_writes.ensures (sections-no-writes c.args.form c.in_ok-head.ensures c.in_ok-of_defaults.ensures c.in_ok-of_locks.ensures c.in_err-of_writes.ensures)

pub returns-then-of_writes-s : goal.returns-then-of_writes-s
returns-then-of_writes-s c = sections-tail _ c.in_ok-head.ensures c.in_ok-of_defaults.ensures c.in_ok-of_locks.ensures c.in_ok-of_writes.ensures c.if-of_writes-s.true

pub returns : goal.returns
returns c = sections-good _ c.in_ok-head.ensures c.in_ok-of_defaults.ensures c.in_ok-of_locks.ensures c.in_ok-of_writes.ensures c.if-head-eq0.false c.if-of_writes-s.false
