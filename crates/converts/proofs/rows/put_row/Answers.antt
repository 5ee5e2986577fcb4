-- `converts::rows::put_row` meets its contract (`laid-row` of `GrownLaws`).
-- Assumes nothing.
use native.Mathlib.Omega.{arith}
use mathlib.Core.Path.{refl}
use Rattle.converts.proofs.GrownLaws.{laid-row}
use Rattle.converts.proofs.rows.put_row.Goals as goal

pub overflow_cast-len : goal.overflow_cast-len
overflow_cast-len c = omega (arith, c.requires.short)

pub put_byte-a-requires : goal.put_byte-a-requires
put_byte-a-requires c = omega (arith, c.requires.room)

pub put_bytes-b-requires : goal.put_bytes-b-requires
put_bytes-b-requires c = omega (arith, c.requires.room, c.put_byte-a.ensures.next, c.put_byte-a.ensures.length_is)

pub put_byte-requires : goal.put_byte-requires
put_byte-requires c = omega (arith, c.requires.room, c.put_byte-a.ensures.next, c.put_byte-a.ensures.length_is, c.put_bytes-b.ensures.next, c.put_bytes-b.ensures.length_is)

pub returns : goal.returns
returns c = laid-row refl c.put_byte-a.ensures c.put_bytes-b.ensures c.put_byte.ensures
