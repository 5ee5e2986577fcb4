-- `prewrites::batch::prewrite_all` meets its contract.
-- Assumes nothing.
use native.Mathlib.Omega.{arith}
use mathlib.Core.Path.{refl}
use borrow.Author.Tests.{ltb-true}
use Rattle.forms.specs.Places.{mutation_of}
use Rattle.laws.proofs.StepLaws.{need-true}
use Rattle.store.specs.View.{box_of}
use Rattle.actions.proofs.ApplyEntryLaws.{head-primary}
use Rattle.calls.proofs.DoneLaws.{pass-asks, pass-late, pass-checked, pass-fit, pass-settled}
use Rattle.prewrites.specs.Checks.{with_primary}
use Rattle.prewrites.proofs.PrewriteApplyLaws.{locks-ready}
use Rattle.prewrites.proofs.batch.prewrite_all.Goals as goal

pub check_all-judged-requires : goal.check_all-judged-requires
check_all-judged-requires c = let a = c.args in (c.requires.0, omega (arith, head-primary 0 (with_primary a.terms a.primary.now) c.requires.1))

pub settle-requires : goal.settle-requires
settle-requires c = λ move. let a = c.args in let item = mutation_of a.batch.now in let j = c.check_all-judged.ensures in pass-asks item c.requires.0 j move (locks-ready a.terms a.primary.now a.batch.now (box_of a.store.now a.area.now) c.requires.1 c.requires.0.form (pass-checked item c.requires.0 j move) (pass-fit item c.requires.0 j move)) (ltb-true _ _ (need-true _ 14 (pass-late item c.requires.0 j move)))

pub returns : goal.returns
returns c = pass-settled (mutation_of c.args.batch.now) c.requires.0 c.check_all-judged.ensures (λ e x. refl) c.settle.ensures
