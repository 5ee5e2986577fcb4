use mathlib.Core.Path.{refl}
use Rattle.rules.specs.declared.records.Kind.TheVariants.{Put, Delete}
use borrow.Author.Tests.{eq-eqb, ne_eqb}
use Rattle.traces.specs.Arguments.{kind, kind_if}
use Rattle.traces.proofs.TakenLaws.{passes, has, stops, goes_on, hands_on}
use native.Mathlib.Omega.{arith}
use Rattle.traces.proofs.reader.Reader.kind_if.Goals as goal

pub returns-then-not-wanted : goal.returns-then-not-wanted
returns-then-not-wanted c = passes _ Delete c.if-not-wanted.true

pub returns-in_err-byte : goal.returns-in_err-byte
unfolding kind
returns-in_err-byte c = rw c.from_residual.ensures (has _ _ c.if-not-wanted.false (stops _ c.in_err-byte.ensures))

pub returns-in-1 : goal.returns-in-1
unfolding kind kind_if
returns-in-1 c = has _ _ c.if-not-wanted.false (goes_on _ c.in_ok-byte.ensures (rw (eq-eqb _ _ c.in-1.is) (hands_on Put)))

pub returns-in-2 : goal.returns-in-2
unfolding kind kind_if
returns-in-2 c = has _ _ c.if-not-wanted.false (goes_on _ c.in_ok-byte.ensures (rw c.in-2.is (hands_on Delete)))

pub returns-in_default : goal.returns-in_default
unfolding kind kind_if
returns-in_default c = has _ _ c.if-not-wanted.false (goes_on _ c.in_ok-byte.ensures (rw (ne_eqb c.in_ok-byte.field-0 1 (omega arith), ne_eqb c.in_ok-byte.field-0 2 (omega arith)) (record { is = refl })))
