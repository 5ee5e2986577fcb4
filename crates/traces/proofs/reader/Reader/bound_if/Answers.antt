use mathlib.Core.Path.{refl}
use Rattle.std.specs.Prelude.{None, Some}
use borrow.Author.Tests.{ne_eqb}
use Rattle.traces.specs.Arguments.{bound, bound_if}
use Rattle.traces.proofs.TakenLaws.{passes, has, stops, goes_on, hands_on}
use native.Mathlib.Omega.{arith}
use Rattle.traces.proofs.reader.Reader.bound_if.Goals as goal

pub returns-then-not-wanted : goal.returns-then-not-wanted
returns-then-not-wanted c = passes _ None c.if-not-wanted.true

pub returns-in_err-byte : goal.returns-in_err-byte
unfolding bound
returns-in_err-byte c = rw c.from_residual.ensures (has _ _ c.if-not-wanted.false (stops _ c.in_err-byte.ensures))

pub returns-in-0 : goal.returns-in-0
unfolding bound bound_if
returns-in-0 c = has _ _ c.if-not-wanted.false (goes_on _ c.in_ok-byte.ensures (rw c.in-0.is (hands_on None)))

pub returns-in_err-text-in-1 : goal.returns-in_err-text-in-1
unfolding bound bound_if
returns-in_err-text-in-1 c = rw c.from_residual-in_err-text-in-1.ensures (has _ _ c.if-not-wanted.false (goes_on _ c.in_ok-byte.ensures (rw c.in-1.is (stops _ c.in_err-text-in-1.ensures))))

pub returns-in_ok-text-in-1 : goal.returns-in_ok-text-in-1
unfolding bound bound_if
returns-in_ok-text-in-1 c = has _ _ c.if-not-wanted.false (goes_on _ c.in_ok-byte.ensures (rw c.in-1.is (goes_on _ c.in_ok-text-in-1.ensures (hands_on (Some _)))))

pub returns-in_default : goal.returns-in_default
unfolding bound bound_if
returns-in_default c = has _ _ c.if-not-wanted.false (goes_on _ c.in_ok-byte.ensures (rw (ne_eqb c.in_ok-byte.field-0 0 (omega arith), ne_eqb c.in_ok-byte.field-0 1 (omega arith)) (record { is = refl })))
