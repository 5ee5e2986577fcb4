use native.Mathlib.Omega.{arith}
use Rattle.forms.specs.Numbers.{width_of}
use Rattle.forms.proofs.NumberLaws.{width_some, width_small, number-none, cut_twice, cut-bytes, reading-start, reading-fits, reading-more, reading-end}
use Rattle.forms.proofs.number.number_at.Goals as goal

pub returns-in_err-get : goal.returns-in_err-get
returns-in_err-get c = rw c.from_residual.ensures (number-none (width_of c.args.width) c.args.s.now c.args.at (omega (arith, width_some c.args.width, c.in_err-get.ensures.lookup)))

pub returns-in_err-bytes : goal.returns-in_err-bytes
returns-in_err-bytes c = rw c.from_residual-in_err-bytes.ensures (number-none (width_of c.args.width) c.args.s.now c.args.at (omega (arith, c.bytes_in.ensures, c.in_ok-get.ensures.lookup, c.in_err-bytes.ensures.lookup)))

pub loop-byte-init : goal.loop-byte-init
loop-byte-init c =
    reading-start _ (cut-bytes c.bytes_in.result c.args.s.now _ c.args.at (cut_twice c.bytes_in.result c.args.s.now _ _ c.args.at c.in_ok-get.ensures.lookup.0.2 c.in_ok-bytes.ensures.lookup.0.2) (λ i. omega (arith, c.type_inv.s i)))

pub overflow_mul-value : goal.overflow_mul-value
overflow_mul-value c = omega (arith, reading-fits c.loop-byte.invariant (omega (arith, width_small c.args.width, c.bytes_in.ensures, c.in_ok-bytes.ensures.lookup)))

pub loop-byte-preserved : goal.loop-byte-preserved
loop-byte-preserved c = rw c.from.ensures (reading-more c.loop-byte.invariant c.loop-byte-test.true)

pub returns : goal.returns
returns c =
    let h = c.in_ok-get.ensures.lookup in
    let g = c.in_ok-bytes.ensures.lookup in
    rw (← c.bytes_in.ensures) (reading-end (cut_twice c.bytes_in.result c.args.s.now _ _ c.args.at h.0.2 g.0.2) (omega (arith, h, g)) (omega (arith, g)) c.loop-byte.invariant)
