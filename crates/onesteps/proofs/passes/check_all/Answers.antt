-- `onesteps::passes::check_all` meets its contract.
-- Assumes nothing.
use Rattle.calls.proofs.PassLaws.{pass-in}
use Rattle.onesteps.proofs.StepPassLaws.{check-asks, meeting-start, meeting-small, meeting-more, meeting-end}
use Rattle.onesteps.proofs.passes.check_all.Goals as goal

pub loop-e-init : goal.loop-e-init
loop-e-init c = meeting-start c.args.terms _ c.requires.form.listed

pub of-key-requires : goal.of-key-requires
of-key-requires c = (pass-in c.loop-e.invariant _ c.loop-e-test.true).key_in.within

pub row_of-row-requires : goal.row_of-row-requires
row_of-row-requires c = pass-in c.loop-e.invariant _ c.loop-e-test.true

pub check_entry-one-requires : goal.check_entry-one-requires
check_entry-one-requires c = (rw (c.of-key.ensures, c.row_of-row.ensures) (check-asks _ c.requires.made (pass-in c.loop-e.invariant _ c.loop-e-test.true)), c.look_up-found.ensures)

pub join-all-requires : goal.join-all-requires
join-all-requires c = meeting-small c.args.terms _ c.loop-e.invariant _ c.loop-e-test.true (rw (c.of-key.ensures, c.row_of-row.ensures) at c.check_entry-one.ensures)

pub loop-e-preserved : goal.loop-e-preserved
loop-e-preserved c = meeting-more c.args.terms _ c.loop-e.invariant _ c.loop-e-test.true (rw (c.of-key.ensures, c.row_of-row.ensures) at c.check_entry-one.ensures) c.join-all.ensures

pub returns : goal.returns
returns c = meeting-end c.args.terms _ c.loop-e.invariant c.loop-e-test.false
