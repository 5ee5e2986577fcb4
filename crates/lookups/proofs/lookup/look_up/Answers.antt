use Rattle.store.proofs.BuiltLaws.{slot-in}
use Rattle.lookups.proofs.LookUpLaws.{looking-start, looking-equal, looking-other, looking-end, other-order}
use mathlib.Core.Path.{sym, ◌∙◌}
use native.Mathlib.Omega.{arith}
use Rattle.lookups.proofs.lookup.look_up.Goals as goal

pub loop-i-init : goal.loop-i-init
loop-i-init c = looking-start c.requires _ _ _ c.first_line-first.ensures c.nothing_at-seen.ensures

pub slot_order-requires : goal.slot_order-requires
slot_order-requires c = omega (arith, slot-in c.requires c.loop-i.i c.loop-i-test.true)

pub returns-in-Less : goal.returns-in-Less
returns-in-Less c = looking-other c.requires _ _ _ c.loop-i.invariant c.loop-i-test.true (other-order c.slot_order.ensures c.in-Less.is)

pub view_of-requires : goal.view_of-requires
view_of-requires c = slot-in c.requires c.loop-i.i c.loop-i-test.true

pub loop-i-preserved : goal.loop-i-preserved
loop-i-preserved c = looking-equal c.requires _ _ _ c.loop-i.invariant c.loop-i-test.true (sym c.slot_order.ensures ∙ c.in-Equal.is) c.view_of.ensures c.see-seen.ensures

pub returns : goal.returns
returns c = looking-end c.requires _ _ _ c.loop-i.invariant c.loop-i-test.false
