-- `restores::fill::put_line` meets its contract: a line that comes has place and is shown with its row, else the slot is empty (`PutLineLaws`).
-- Assumes nothing.
use Rattle.restores.proofs.PutLineLaws.{put-row-asks, put-asks, put-done}
use borrow.Author.Tests.{lt-ltb, le-ltb}
use mathlib.Core.Path.{refl}
use Rattle.restores.proofs.fill.put_line.Goals as goal

pub find_row-found-requires : goal.find_row-found-requires
find_row-found-requires c = put-row-asks _ c.line_at-e.ensures refl _ _ _ (rw c.in-Some.is at c.requires)

pub write_lock-requires : goal.write_lock-requires
write_lock-requires c = put-asks _ c.line_at-e.ensures (lt-ltb _ _ c.if-place-writes.true) _ _ _ (rw c.in-Some.is at c.requires) c.find_row-found.ensures

pub write_record-requires : goal.write_record-requires
write_record-requires c = put-asks _ c.line_at-e.ensures (le-ltb _ _ c.if-place-writes.false) _ _ _ (rw c.in-Some.is at c.requires) c.find_row-found.ensures

pub returns-then-place-writes : goal.returns-then-place-writes
returns-then-place-writes c = rw c.in-Some.is (put-done _ c.line_at-e.ensures (lt-ltb _ _ c.if-place-writes.true) _ _ _ (rw c.in-Some.is at c.requires) c.find_row-found.ensures c.write_lock.ensures)

pub returns-else-place-writes : goal.returns-else-place-writes
returns-else-place-writes c = rw c.in-Some.is (put-done _ c.line_at-e.ensures (le-ltb _ _ c.if-place-writes.false) _ _ _ (rw c.in-Some.is at c.requires) c.find_row-found.ensures c.write_record.ensures)
