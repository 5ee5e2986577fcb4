use Rattle.changes.proofs.PackLaws.{packing-start, packing-in, packing-room, packing-more, packing-end}
use Rattle.store.specs.View.{no_slot}
use Prim.Native.Nat.{ℕ, ◌+◌}
use mathlib.Core.Path.{ap}
use lib.ListN.{get_or}
use native.Mathlib.Omega.{arith}
use Rattle.changes.proofs.packing.pack.Goals as goal

pub loop-i-init : goal.loop-i-init
loop-i-init c = packing-start c.requires

pub overflow_add-size : goal.overflow_add-size
overflow_add-size c = omega (arith, packing-in c.requires c.loop-i.invariant c.loop-i-test.true, c.past_key.ensures)

pub overflow_add-at : goal.overflow_add-at
overflow_add-at c = omega (arith, packing-room c.requires c.loop-i.invariant c.loop-i-test.true)

pub slice_bounds-put_bytes-end : goal.slice_bounds-put_bytes-end
slice_bounds-put_bytes-end c = omega (arith, packing-in c.requires c.loop-i.invariant c.loop-i-test.true, c.past_key.ensures, c.place_of-from.ensures)

pub put_bytes-end-requires : goal.put_bytes-end-requires
put_bytes-end-requires c = omega (arith, packing-room c.requires c.loop-i.invariant c.loop-i-test.true, c.past_key.ensures, c.place_of-from.ensures, c.loop-i.invariant.length_is)

pub overflow_cast-store : goal.overflow_cast-store
overflow_cast-store c = omega (arith, packing-room c.requires c.loop-i.invariant c.loop-i-test.true)

pub pairs_in-at-requires : goal.pairs_in-at-requires
pairs_in-at-requires c = omega (arith, c.put_bytes-end.ensures.within, c.loop-i.invariant.length_is)

pub loop-i-preserved : goal.loop-i-preserved
loop-i-preserved c = packing-more c.requires c.loop-i.invariant c.loop-i-test.true c.place_of-from.ensures (ap (λ (m : ℕ). (get_or c.loop-i.store.lines c.loop-i.i no_slot).len + m) c.past_key.ensures) c.put_bytes-end.ensures c.pairs_in-at.ensures

pub overflow_add-store : goal.overflow_add-store
overflow_add-store c = omega (arith, c.loop-i.invariant.room)

pub returns : goal.returns
returns c = packing-end c.requires c.loop-i.invariant c.loop-i-test.false
