-- `bones::shown::bones_shown` meets its contract: each way out is a law of `MaskLaws`.
-- Assumes nothing.
use native.Mathlib.Omega.{arith}
use mathlib.Core.Path.{◌≡◌, ap}
use Rattle.std.specs.Prelude.{Err}
use Rattle.rules.specs.declared.answers.Refusal.TheVariants.{RowForm}
use Rattle.std.proofs.lemmas.Result.{err_from_is_err_and}
use Rattle.bones.proofs.MaskLaws.{bones-unformed, row-short, sum_fits, bones-told}
use lib.ListN.{length, length-drop}
use Rattle.seqs.proofs.Parts.{part_end}
use Rattle.bones.proofs.shown.bones_shown.Goals as goal

pub returns-in_err-mask : goal.returns-in_err-mask
returns-in_err-mask c =
    let h = c.in_err-mask.ensures in
    let p = err_from_is_err_and c.from_residual.result c.from_residual.ensures.1 in
    let form = rw h.ok_part at c.bones_in.ensures in
    let value = rw h.ok_part at h.value in
    let r : c.from_residual.result ≡ Err RowForm = cc (p.1, p.2, value) in
    rw r (bones-unformed c.args.row.now form)

pub ones_in-requires : goal.ones_in-requires
ones_in-requires c =
    let v = rw c.in_ok-mask.ensures.ok_part at c.bones_in.ensures in
    omega (arith, row-short v, length-drop c.in_ok-mask.mask.at c.args.row.now, ap length (part_end c.in_ok-mask.mask.at c.args.row.now))

pub overflow_cast-result : goal.overflow_cast-result
overflow_cast-result c = omega (arith, sum_fits (rw c.in_ok-mask.ensures.ok_part at c.bones_in.ensures) (λ i. omega (arith, c.type_inv.row i)) c.ones_in.ensures)

pub returns : goal.returns
returns c = bones-told (rw c.in_ok-mask.ensures.ok_part at c.bones_in.ensures) (λ i. omega (arith, c.type_inv.row i)) c.ones_in.ensures
