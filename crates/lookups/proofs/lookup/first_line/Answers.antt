use Rattle.lookups.proofs.LookUpLaws.{half-fits, key-in, halving-start, halving-up, halving-down}
use native.Mathlib.Omega.{arith}
use mathlib.Core.Path.{sym, ap, ◌∙◌}
use Rattle.forms.specs.Bytes.{is_less}
use Rattle.lookups.proofs.lookup.first_line.Goals as goal

pub loop-low-init : goal.loop-low-init
loop-low-init c = record { halving = halving-start c.requires _; enough = omega (arith, c.requires.lines.count_fits) }

pub slot_order-requires : goal.slot_order-requires
slot_order-requires c = key-in c.requires c.args.key.now _ c.loop-low.invariant.halving (omega arith) (omega (arith, c.loop-low-test.true))

pub loop-low-preserved-in-Less : goal.loop-low-preserved-in-Less
loop-low-preserved-in-Less c = record { halving = halving-up c.requires _ _ c.loop-low.invariant.halving (omega arith) (omega (arith, c.loop-low-test.true)) (ap is_less (sym c.slot_order.ensures ∙ c.in-Less.is)); enough = half-fits _ c.loop-low.invariant.enough (omega (arith, c.loop-low-test.true)) (omega (arith, c.loop-low-test.true)) }

pub loop-low-preserved-in-Equal : goal.loop-low-preserved-in-Equal
loop-low-preserved-in-Equal c = record { halving = halving-down c.requires _ _ c.loop-low.invariant.halving (omega arith) (omega (arith, c.loop-low-test.true)) (ap is_less (sym c.slot_order.ensures ∙ c.in-Equal.is)); enough = half-fits _ c.loop-low.invariant.enough (omega (arith, c.loop-low-test.true)) (omega (arith, c.loop-low-test.true)) }

pub loop-low-preserved : goal.loop-low-preserved
loop-low-preserved c = record { halving = halving-down c.requires _ _ c.loop-low.invariant.halving (omega arith) (omega (arith, c.loop-low-test.true)) (ap is_less (sym c.slot_order.ensures ∙ c.in-Greater.is)); enough = half-fits _ c.loop-low.invariant.enough (omega (arith, c.loop-low-test.true)) (omega (arith, c.loop-low-test.true)) }
