-- `rollbacks::passes::check_all` meets its contract.
-- Assumes nothing.
use native.Mathlib.Omega.{arith}
use mathlib.Core.Bool.{false}
use Rattle.std.proofs.Common.{rules}
use Rattle.forms.specs.Places.{EntryIn}
use Rattle.seqs.proofs.Alls.{all-weaken}
use Rattle.calls.proofs.CheckEachLaws.{follows}
use Rattle.rollbacks.proofs.RollbackApplyLaws.{weighed}
use Rattle.rollbacks.proofs.passes.check_all.Goals as goal

pub check_each-requires-clause-callable : goal.check_each-requires-clause-callable
check_each-requires-clause-callable c = all-weaken (EntryIn c.args.batch.now) _ _ (λ e i. (c.requires.made.built, i)) c.requires.form.listed.inside

pub check_each-requires-clause-planned : goal.check_each-requires-clause-planned
check_each-requires-clause-planned c = (_, follows false (weighed c.args.txn c.args.start) (omega arith) (omega arith) c.requires (λ e i r h. search rules))

pub returns : goal.returns
returns c = c.check_each.ensures _ (follows false (weighed c.args.txn c.args.start) (omega arith) (omega arith) c.requires (λ e i r h. search rules))
