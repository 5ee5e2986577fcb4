-- `converts::rows::put_rows` meets its contract. The loop's invariant: the rows from `from` on are left (`Growing` of `GrownLaws`).
-- Assumes nothing.
use Prim.Native.Nat.{◌-◌}
use Rattle.converts.proofs.GrownLaws.{Growing}
use Rattle.converts.proofs.rows.put_rows.Given as goal

abbrev pub invariant-loop : goal.invariant-loop
invariant-loop l = Growing l.s l.count l.first l.initial.out l.from l.at (l.count - l.counter) l.out
