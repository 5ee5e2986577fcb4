-- `walks::walk::waits` meets its contract: both lines' keys lie in the area.
-- Assumes nothing.
use Rattle.std.proofs.Common.{◌+◌, ◌<◌, arith}
use Rattle.walks.proofs.WalkLineLaws.{key_in}
use Rattle.walks.proofs.walk.waits.Goals as goal
use Rattle.walks.proofs.walk.waits.Goals.{then-by_key, else-by_key}

pub slots_share-requires : goal.slots_share-requires
slots_share-requires c =
    let next : c.args.i + 1 < c.args.store.now.load.lines = elim c.if-by_key.branch [ then-by_key w ↦ grind arith | else-by_key w ↦ grind arith ] in
    (key_in c.requires.0 c.args.i c.requires.1, key_in c.requires.0 (c.args.i + 1) next)
