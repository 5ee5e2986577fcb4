use Rattle.std.proofs.Common.{arith, lit≤, false}
use Rattle.store.proofs.BuiltLaws.{slot-in}
use Rattle.collects.proofs.WalkLaws.{walk_start, walk-asks, walk_more}
use Rattle.collects.proofs.CollectedLaws.{packing-start, packing-goes, packing-stays, collect-low, held_low, collect-held, freed-within, collect-done}
use lib.ListN.{length-replicate}
use Rattle.collects.proofs.collecting.collect.Goals as goal
use Rattle.collects.proofs.collecting.collect.Goals.{then-kept-i, else-kept-i}

pub returns-then-floor-store : goal.returns-then-floor-store
returns-then-floor-store c = collect-low c.requires c.args.floor c.if-floor-store.true

pub loop-i-init : goal.loop-i-init
loop-i-init c = walk_start c.requires.built c.args.floor (length-replicate 1024 false) c.nothing_passed-p.ensures

pub pass_line-p-requires : goal.pass_line-p-requires
pass_line-p-requires c = walk-asks c.requires.built c.args.floor c.loop-i.invariant c.loop-i-test.true

pub loop-i-preserved : goal.loop-i-preserved
loop-i-preserved c = walk_more c.requires.built c.args.floor c.loop-i.invariant c.loop-i-test.true c.pass_line-p.ensures

pub line_step-requires : goal.line_step-requires
line_step-requires c = slot-in c.requires.built _ (held_low c.requires c.args.floor c.if-floor-store.false c.loop-i.invariant c.loop-i-test.false c.in-Some.is)

pub returns-in-Some : goal.returns-in-Some
returns-in-Some c = collect-held c.requires c.args.floor c.if-floor-store.false c.loop-i.invariant c.loop-i-test.false c.in-Some.is c.line_step.ensures

pub loop-i-2-init : goal.loop-i-2-init
loop-i-2-init c = packing-start (lit≤ tt)

pub offset_bounds-store-k : goal.offset_bounds-store-k
offset_bounds-store-k c = omega (arith, c.loop-i-2-test.true, c.requires.built.lines.count_fits, c.loop-i-2.invariant.packed.low)

pub bounds-store-k : goal.bounds-store-k
bounds-store-k c = omega (arith, c.loop-i-2-test.true, c.requires.built.lines.count_fits, c.loop-i-2.invariant.packed.low)

pub overflow_add-k : goal.overflow_add-k
overflow_add-k c = omega (arith, c.loop-i-2-test.true, c.requires.built.lines.count_fits, c.loop-i-2.invariant.packed.low)

pub loop-i-2-preserved : goal.loop-i-2-preserved
loop-i-2-preserved c =
    elim c.if-kept-i.branch [
      | then-kept-i w ↦ rw (w.store-is, w.k-is) (packing-stays c.requires.built c.loop-i.invariant c.loop-i-test.false c.loop-i-2.invariant c.loop-i-2-test.true c.no_slot.ensures w.if-kept-i.true)
      | else-kept-i w ↦ rw (w.store-is, w.k-is) (packing-goes c.requires.built c.loop-i.invariant c.loop-i-test.false c.loop-i-2.invariant c.loop-i-2-test.true c.no_slot.ensures w.if-kept-i.false)
    ]

pub less-store-requires : goal.less-store-requires
less-store-requires c = freed-within c.requires c.args.floor c.if-floor-store.false c.loop-i.invariant c.loop-i-test.false

pub bounds-store-first : goal.bounds-store-first
bounds-store-first c = omega (arith, held_low c.requires c.args.floor c.if-floor-store.false c.loop-i.invariant c.loop-i-test.false c.in-Some.is, c.requires.built.lines.count_fits)

pub returns : goal.returns
returns c = collect-done c.requires c.args.floor c.if-floor-store.false c.loop-i.invariant c.loop-i-test.false c.in_default.is c.loop-i-2.invariant c.loop-i-2-test.false c.less-store.ensures
