-- `images::sections::section_at` meets its contract: each way out is a law of `SpanLaws`.
-- Assumes nothing.
use Rattle.images.specs.Good.{form_of}
use Rattle.images.proofs.SpanLaws.{span-no-count, listing_start, listing-bad, listing-room, listing-more, listing-end}
use native.Mathlib.Omega.{arith}
use Rattle.images.proofs.sections.section_at.Goals as goal

pub returns-in_err-count : goal.returns-in_err-count
returns-in_err-count c = rw c.from_residual.ensures (span-no-count (form_of c.args.form) c.args.section c.args.table c.args.s.now c.args.at c.args.places.now c.in_err-count.ensures)

pub loop-k-init : goal.loop-k-init
loop-k-init c = listing_start _ _ _ c.in_ok-count.ensures _

pub returns-in_err-e : goal.returns-in_err-e
returns-in_err-e c = rw c.from_residual-in_err-e.ensures (listing-bad _ _ _ c.in_ok-count.ensures c.loop-k.invariant c.loop-k.places (omega arith) c.in_err-e.ensures)

pub loop-k-preserved : goal.loop-k-preserved
loop-k-preserved c = listing-more _ _ _ c.in_ok-count.ensures c.loop-k.invariant c.in_ok-e.ensures (omega arith) (listing-room _ _ _ c.in_ok-count.ensures c.loop-k.invariant c.in_ok-e.ensures (omega arith) c.requires.0)

pub returns : goal.returns
returns c = listing-end _ _ _ c.in_ok-count.ensures c.loop-k.invariant (omega arith)
