-- `captures::calls::capture_snapshot_table` meets its contract: each way out is a law of `CaptureImageLaws`; what was written restores as
-- `MadeStoredLaws` says.
-- Assumes nothing.
use Rattle.captures.proofs.CaptureImageLaws.{captured-zero, captured-short, put_front, captured-put}
use Rattle.captures.proofs.MadeLaws.{built-lined}
use Rattle.captures.proofs.MadeStoredLaws.{written-restores, refused}
use Rattle.std.proofs.Common.{arith, refl}
use Rattle.captures.proofs.calls.capture_snapshot_table.Goals as goal

pub returns-then-table-eq0 : goal.returns-then-table-eq0
returns-then-table-eq0 c = record { captured = captured-zero c.args.store.now c.args.area.now c.args.table c.args.out.now c.if-table-eq0.true refl; restores = λ e. absurd (refused 3 refl e) }

pub sizes_of-z-requires : goal.sizes_of-z-requires
sizes_of-z-requires c = built-lined c.requires.built

pub returns-then-out-z : goal.returns-then-out-z
returns-then-out-z c = record { captured = captured-short c.args.store.now c.args.area.now c.args.table c.args.out.now c.if-table-eq0.false c.sizes_of-z.ensures c.if-out-z.true refl; restores = λ e. absurd (refused 12 refl e) }

pub put_image-requires : goal.put_image-requires
put_image-requires c = record { lined = built-lined c.requires.built; sizes = c.sizes_of-z.ensures; room = c.if-out-z.false }

pub returns : goal.returns
returns c = record { captured = captured-put c.args.store.now c.args.area.now c.args.table c.args.out.now c.if-table-eq0.false c.sizes_of-z.ensures c.if-out-z.false c.put_image.ensures; restores = λ e. written-restores c.requires c.sizes_of-z.ensures.octets (omega arith) c.args.table (record { above = omega (arith, c.if-table-eq0.false); small = omega arith }) (put_front c.args.store.now c.args.area.now c.args.table c.args.out.now c.if-table-eq0.false c.sizes_of-z.ensures c.put_image.ensures) }
