-- `rollbacks::batch::rollback_all` meets its contract.
-- Assumes nothing.
use mathlib.Core.Path.{refl}
use Rattle.forms.specs.Places.{key_at}
use Rattle.store.specs.View.{box_of}
use Rattle.calls.proofs.DoneLaws.{pass-checked, pass-fit, pass-asks, pass-settled}
use Rattle.rollbacks.proofs.RollbackApplyLaws.{some-start, rolls-ready}
use Rattle.rollbacks.proofs.batch.rollback_all.Goals as goal

pub settle-requires : goal.settle-requires
settle-requires c = λ move. let a = c.args in let item = key_at a.batch.now in let j = c.check_all-judged.ensures in pass-asks item c.requires.0 j move (rolls-ready a.txn a.start _ (box_of a.store.now a.area.now) (some-start a.txn a.start c.requires.1) c.requires.0.form (pass-checked item c.requires.0 j move) (pass-fit item c.requires.0 j move)) tt

pub returns : goal.returns
returns c = pass-settled (key_at c.args.batch.now) c.requires.0 c.check_all-judged.ensures (λ e x. refl) c.settle.ensures
