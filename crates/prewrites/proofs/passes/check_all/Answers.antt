-- `prewrites::passes::check_all` meets its contract.
-- Assumes nothing.
use native.Mathlib.Omega.{arith}
use mathlib.Core.Bool.{true}
use Rattle.std.proofs.Common.{rules}
use Rattle.forms.specs.Places.{EntryIn}
use Rattle.seqs.proofs.Alls.{all-weaken}
use Rattle.calls.proofs.CheckEachLaws.{follows}
use Rattle.prewrites.specs.Checks.{with_primary}
use Rattle.prewrites.proofs.PrewriteApplyLaws.{weighed}
use Rattle.prewrites.proofs.passes.check_all.Goals as goal

pub check_each-requires-clause-callable : goal.check_each-requires-clause-callable
check_each-requires-clause-callable c = all-weaken (EntryIn c.args.batch.now) _ _ (λ e i. (c.requires.0.made.built, c.requires.1, i)) c.requires.0.form.listed.inside

pub check_each-requires-clause-planned : goal.check_each-requires-clause-planned
check_each-requires-clause-planned c = (_, follows true (weighed (with_primary c.args.terms c.args.primary.now)) (omega arith) (omega arith) c.requires.0 (λ e i r h. search rules))

pub returns : goal.returns
returns c = c.check_each.ensures _ (follows true (weighed (with_primary c.args.terms c.args.primary.now)) (omega arith) (omega arith) c.requires.0 (λ e i r h. search rules))
