-- `forms::row::bones_at` meets its contract: each way out is a law of `BoneLaws`.
-- Assumes nothing.
use native.Mathlib.Omega.{arith}
use mathlib.Core.Path.{◌≡◌, ◌∙◌}
use lib.ListN.{get_or}
use Rattle.forms.proofs.BoneLaws.{bones-none, bones-short, bones-spare, bones-good, mask-in}
use Rattle.forms.proofs.row.bones_at.Goals as goal
use Rattle.forms.proofs.row.bones_at.Goals.{then-s-at-via-then-s-at, then-s-at-via-else-s-at+then-not-spares_zero}

pub returns-in_err-get : goal.returns-in_err-get
returns-in_err-get c = rw c.from_residual.ensures (bones-none c.args.s.now c.args.at c.in_err-get.ensures.lookup.3)

pub spares_zero-requires : goal.spares_zero-requires
spares_zero-requires c = mask-in _ _ _ c.in_ok-get.ensures.lookup.3.0 c.if-s-at.false

pub returns-then-s-at : goal.returns-then-s-at
returns-then-s-at c =
    let h = c.in_ok-get.ensures.lookup.3 in
    let e : c.from-count.result ≡ get_or c.args.s.now c.args.at 0 = c.from-count.ensures ∙ h.1 0 in
    elim c.then-s-at.branch [
      | then-s-at-via-then-s-at w ↦ bones-short c.args.s.now c.args.at _ h.0 e (omega (arith, c.type_inv.s c.args.at)) w.if-s-at.true
      | then-s-at-via-else-s-at+then-not-spares_zero w ↦ bones-spare c.args.s.now c.args.at _ h.0 e (omega (arith, c.type_inv.s c.args.at)) w.if-s-at.false w.spares_zero.ensures w.if-not-spares_zero.true
    ]

pub returns : goal.returns
returns c =
    let h = c.in_ok-get.ensures.lookup.3 in
    let e : c.from-count.result ≡ get_or c.args.s.now c.args.at 0 = c.from-count.ensures ∙ h.1 0 in
    bones-good c.args.s.now c.args.at _ h.0 e (omega (arith, c.type_inv.s c.args.at)) c.if-s-at.false c.spares_zero.ensures c.if-not-spares_zero.false
