-- What reads a mutation meets its contract: each way out is a law of `BatchEntryLaws`.
-- Assumes nothing.
use native.Mathlib.Omega.{arith}
use Rattle.forms.proofs.BatchEntryLaws.{no_key, no_kind, other-kind, is-delete, no_row, is-put}
use Rattle.forms.proofs.batch.MutationsForm.step_at.Goals as goal

pub returns-in_err-key : goal.returns-in_err-key
returns-in_err-key c = rw c.from_residual.ensures (no_key c.args.s.now c.args.at c.in_err-key.ensures)

pub returns-in_err-get : goal.returns-in_err-get
returns-in_err-get c = rw c.from_residual-in_err-get.ensures (no_kind c.in_ok-key.ensures (omega (arith, c.end-kind.ensures, c.in_err-get.ensures.lookup.3)))

pub returns-in_err-row-in-1 : goal.returns-in_err-row-in-1
returns-in_err-row-in-1 c =
    let h = rw c.end-kind.ensures at c.in_ok-get.ensures.lookup.3 in
    rw c.from_residual-in_err-row-in-1.ensures (no_row c.in_ok-key.ensures (omega (arith, h.0)) (omega (arith, c.in-1.is, h.1 0)) (rw c.end-kind.ensures at c.in_err-row-in-1.ensures))

pub returns-in_ok-row-in-1 : goal.returns-in_ok-row-in-1
returns-in_ok-row-in-1 c =
    let h = rw c.end-kind.ensures at c.in_ok-get.ensures.lookup.3 in
    rw c.end.ensures (is-put c.in_ok-key.ensures (omega (arith, h.0)) (omega (arith, c.in-1.is, h.1 0)) (rw c.end-kind.ensures at c.in_ok-row-in-1.ensures))

pub returns-in-2 : goal.returns-in-2
returns-in-2 c =
    let h = rw c.end-kind.ensures at c.in_ok-get.ensures.lookup.3 in
    rw c.end-kind.ensures (is-delete c.in_ok-key.ensures (omega (arith, h.0)) (omega (arith, c.in-2.is, h.1 0)))

pub returns-in_default : goal.returns-in_default
returns-in_default c =
    let h = rw c.end-kind.ensures at c.in_ok-get.ensures.lookup.3 in
    other-kind c.in_ok-key.ensures (omega (arith, h.0)) (λ e. omega (arith, h.1 0)) (λ e. omega (arith, h.1 0))
