-- `prewrites::checks::check_lock` meets its contract.
-- Assumes nothing.
use mathlib.Core.Path.{◌∙◌}
use Rattle.forms.specs.Readers.{given}
use Rattle.prewrites.specs.Checks.{with_primary}
use Rattle.calls.proofs.SettledLaws.{handed}
use Rattle.prewrites.proofs.CheckLockLaws.{lock-within, another's, free, own-differs, row-differs, own_same}
use Rattle.prewrites.proofs.checks.check_lock.Goals as goal

pub returns-in_err-own_step : goal.returns-in_err-own_step
returns-in_err-own_step c = handed _ _ c.from_residual.ensures.1 ∙ another's (with_primary c.args.terms c.args.primary.now) (given c.args.row) c.args.area.now c.args.lock _ c.in_err-own_step.ensures

pub same_lock-requires : goal.same_lock-requires
same_lock-requires c = (lock-within (with_primary c.args.terms c.args.primary.now) (given c.args.row) c.args.area.now c.args.lock _ c.in-Some.is c.requires).primary_in

pub returns-then-not-same_lock : goal.returns-then-not-same_lock
returns-then-not-same_lock c = own-differs (with_primary c.args.terms c.args.primary.now) (given c.args.row) c.args.area.now c.args.lock c.in_ok-own_step.ensures _ c.in-Some.is (rw c.kind_for.ensures at c.same_lock.ensures) c.if-not-same_lock.true

pub row_stands-requires : goal.row_stands-requires
row_stands-requires c = (lock-within (with_primary c.args.terms c.args.primary.now) (given c.args.row) c.args.area.now c.args.lock _ c.in-Some.is c.requires).row-in

pub returns-then-not-row_stands : goal.returns-then-not-row_stands
returns-then-not-row_stands c = row-differs (with_primary c.args.terms c.args.primary.now) (given c.args.row) c.args.area.now c.args.lock c.in_ok-own_step.ensures _ c.in-Some.is (rw c.kind_for.ensures at c.same_lock.ensures) c.row_stands.ensures c.if-not-row_stands.true

pub returns-in-None : goal.returns-in-None
returns-in-None c = free (with_primary c.args.terms c.args.primary.now) (given c.args.row) c.args.area.now c.args.lock c.in_ok-own_step.ensures c.in-None.is

pub returns-else-not-row_stands : goal.returns-else-not-row_stands
returns-else-not-row_stands c = own_same (with_primary c.args.terms c.args.primary.now) (given c.args.row) c.args.area.now c.args.lock c.in_ok-own_step.ensures _ c.in-Some.is (rw c.kind_for.ensures at c.same_lock.ensures) c.row_stands.ensures c.if-not-same_lock.false c.if-not-row_stands.false
