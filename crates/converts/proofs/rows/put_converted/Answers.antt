-- `converts::rows::put_converted` meets its contract (`put_all` of `GrownLaws`).
-- Assumes nothing.
use native.Mathlib.Omega.{arith}
use Rattle.converts.proofs.GrownLaws.{put-room, table-long, put-rows-ask, put_all}
use Rattle.converts.proofs.rows.put_converted.Goals as goal

pub put_bytes-a-requires : goal.put_bytes-a-requires
put_bytes-a-requires c = omega (arith, put-room c.requires, table-long c.requires)

pub put_digits-f-requires : goal.put_digits-f-requires
put_digits-f-requires c = omega (arith, put-room c.requires, table-long c.requires, c.put_bytes-a.ensures.next, c.put_bytes-a.ensures.length_is)

pub put_digits-b-requires : goal.put_digits-b-requires
put_digits-b-requires c = omega (arith, put-room c.requires, table-long c.requires, c.put_bytes-a.ensures.next, c.put_bytes-a.ensures.length_is, c.put_digits-f.ensures.next, c.put_digits-f.ensures.length_is)

pub put_rows-requires : goal.put_rows-requires
put_rows-requires c = put-rows-ask c.requires (omega (arith, c.put_bytes-a.ensures.length_is, c.put_digits-f.ensures.length_is, c.put_digits-b.ensures.length_is)) (omega (arith, table-long c.requires, c.put_bytes-a.ensures.next, c.put_digits-f.ensures.next, c.put_digits-b.ensures.next))

pub returns : goal.returns
returns c = put_all c.requires (λ i. omega (arith, c.type_inv.s i)) c.put_bytes-a.ensures c.put_digits-f.ensures c.put_digits-b.ensures c.put_rows.ensures
