use Rattle.rules.proofs.EntryWriterLaws.{listing_start, listing-more, listing-end}
use Rattle.traces.proofs.PutLaws.{put_all, numbers-none, numbers-room}
use native.Mathlib.Omega.{arith}
use Rattle.traces.proofs.payload.put_numbers.Goals as goal

pub returns-then-out-values : goal.returns-then-out-values
returns-then-out-values c = numbers-none _ _ c.if-out-values.true

pub loop-value-init : goal.loop-value-init
loop-value-init c = listing_start _ _ _ _ (omega arith)

pub put_digits-at-requires : goal.put_digits-at-requires
put_digits-at-requires c = numbers-room c.loop-value.invariant c.if-out-values.false c.loop-value-test.true

pub loop-value-preserved : goal.loop-value-preserved
loop-value-preserved c = listing-more c.loop-value.invariant 0 c.loop-value-test.true c.put_digits-at.ensures

pub shape_of-out : goal.shape_of-out
shape_of-out c = c.loop-value.invariant.laid.length_is

pub returns : goal.returns
returns c = put_all (listing-end c.loop-value.invariant c.loop-value-test.false)
