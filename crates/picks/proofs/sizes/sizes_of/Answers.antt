use Rattle.std.proofs.Common.{arith}
use Rattle.picks.proofs.SizeLaws.{counting-start, counting-asks, counting_more, counting-end}
use Rattle.picks.proofs.sizes.sizes_of.Goals as goal

pub loop-s-init : goal.loop-s-init
loop-s-init c = counting-start c.requires _

pub count_line-z-requires : goal.count_line-z-requires
count_line-z-requires c = counting-asks c.requires _ c.loop-s.invariant c.loop-s-test.true

pub loop-s-preserved : goal.loop-s-preserved
loop-s-preserved c = counting_more c.requires _ c.loop-s.invariant c.loop-s-test.true c.count_line-z.ensures

pub returns : goal.returns
returns c = counting-end c.requires _ c.loop-s.invariant c.loop-s-test.false (λ i. omega (arith, c.type_inv.area i))
