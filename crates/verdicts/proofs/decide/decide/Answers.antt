-- `verdicts::decide::decide` meets its contract: each way out is a law of `VerdictLaws`.
-- Assumes nothing.
use Rattle.verdicts.proofs.VerdictLaws.{decided-full, rows_in, lines-in, decided}
use lib.Seq.{length-take-le}
use mathlib.Core.Path.{sym, ◌∙◌}
use Rattle.verdicts.proofs.decide.decide.Goals as goal

pub returns-then-not-load_fits : goal.returns-then-not-load_fits
returns-then-not-load_fits c = decided-full c.requires c.load_fits.ensures c.if-not-load_fits.true-raw

pub slice_bounds-copy_from_slice-end : goal.slice_bounds-copy_from_slice-end
slice_bounds-copy_from_slice-end c = rows_in c.requires c.load_fits.ensures c.if-not-load_fits.false-raw

pub slice_bounds-copy_from_slice-end-2 : goal.slice_bounds-copy_from_slice-end-2
slice_bounds-copy_from_slice-end-2 c = sym (length-take-le _ _ (rows_in c.requires c.load_fits.ensures c.if-not-load_fits.false-raw))

pub copy_from_slice-requires : goal.copy_from_slice-requires
copy_from_slice-requires c = length-take-le _ _ (rows_in c.requires c.load_fits.ensures c.if-not-load_fits.false-raw) ∙ sym (length-take-le _ _ c.requires.judged.few_rows)

pub slice_bounds-copy_from_slice-end-4 : goal.slice_bounds-copy_from_slice-end-4
slice_bounds-copy_from_slice-end-4 c = lines-in c.requires c.load_fits.ensures c.if-not-load_fits.false-raw

pub slice_bounds-copy_from_slice-end-5 : goal.slice_bounds-copy_from_slice-end-5
slice_bounds-copy_from_slice-end-5 c = sym (length-take-le _ _ (lines-in c.requires c.load_fits.ensures c.if-not-load_fits.false-raw))

pub copy_from_slice-requires-2 : goal.copy_from_slice-requires-2
copy_from_slice-requires-2 c = length-take-le _ _ (lines-in c.requires c.load_fits.ensures c.if-not-load_fits.false-raw) ∙ sym (length-take-le _ _ c.requires.judged.few_lines)

pub returns : goal.returns
returns c = decided c.requires c.load_fits.ensures c.if-not-load_fits.false-raw c.copy_from_slice.ensures.after c.copy_from_slice-2.ensures.after
