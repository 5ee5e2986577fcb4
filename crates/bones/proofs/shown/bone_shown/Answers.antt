-- `bones::shown::bone_shown` meets its contract: each way out is a law of `MaskLaws`.
-- Assumes nothing.
use mathlib.Core.Path.{◌≡◌}
use Rattle.std.specs.Prelude.{Err}
use Rattle.rules.specs.declared.answers.Refusal.TheVariants.{RowForm}
use Rattle.std.proofs.lemmas.Result.{err_from_is_err_and}
use Rattle.bones.proofs.MaskLaws.{bone-unformed, bone-past, bone-in, bone-told}
use Rattle.bones.proofs.shown.bone_shown.Goals as goal

pub returns-in_err-mask : goal.returns-in_err-mask
returns-in_err-mask c =
    let h = c.in_err-mask.ensures in
    let p = err_from_is_err_and c.from_residual.result c.from_residual.ensures.1 in
    let form = rw h.ok_part at c.bones_in.ensures in
    let value = rw h.ok_part at h.value in
    let r : c.from_residual.result ≡ Err RowForm = cc (p.1, p.2, value) in
    rw r (bone-unformed c.args.row.now form c.args.n)

pub returns-then-mask-n : goal.returns-then-mask-n
returns-then-mask-n c = bone-past (rw c.in_ok-mask.ensures.ok_part at c.bones_in.ensures) c.if-mask-n.true

pub bounds-row-mask : goal.bounds-row-mask
bounds-row-mask c = bone-in (rw c.in_ok-mask.ensures.ok_part at c.bones_in.ensures) c.if-mask-n.false

pub returns : goal.returns
returns c = bone-told (rw c.in_ok-mask.ensures.ok_part at c.bones_in.ensures) c.if-mask-n.false
