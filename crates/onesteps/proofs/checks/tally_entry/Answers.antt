-- `onesteps::checks::tally_entry` meets its contract.
-- Assumes nothing.
use mathlib.Core.Path.{sym, ◌∙◌}
use borrow.Author.Tests.{not-true, not-false}
use Rattle.forms.specs.Readers.{given}
use Rattle.calls.proofs.SettledLaws.{same-kind}
use Rattle.onesteps.proofs.StepCheckLaws.{none-stands, record-in, other-start, other-kind, same_kind}
use Rattle.onesteps.proofs.checks.tally_entry.Goals as goal

pub returns-then-w-start : goal.returns-then-w-start
returns-then-w-start c = other-start c.args.start (given c.args.row) c.args.area.now _ c.in-Some.is c.if-w-start.true

pub returns-then-ne : goal.returns-then-ne
returns-then-ne c = other-kind c.args.start (given c.args.row) c.args.area.now _ c.in-Some.is c.if-w-start.false (sym (same-kind _ _) ∙ not-true _ (sym (rw c.kind_for.ensures at c.ne.ensures) ∙ c.if-ne.true))

pub row_stands-requires : goal.row_stands-requires
row_stands-requires c = record-in c.args.start (given c.args.row) c.args.area.now _ c.in-Some.is c.requires

pub returns-in-None : goal.returns-in-None
returns-in-None c = none-stands c.args.start (given c.args.row) c.args.area.now _ c.in-None.is

pub returns-else-ne : goal.returns-else-ne
returns-else-ne c = same_kind c.args.start (given c.args.row) c.args.area.now _ c.in-Some.is c.if-w-start.false (sym (same-kind _ _) ∙ not-false _ (sym (rw c.kind_for.ensures at c.ne.ensures) ∙ c.if-ne.false)) c.row_stands.ensures
