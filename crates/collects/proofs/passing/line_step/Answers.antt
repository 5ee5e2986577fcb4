-- `collects::passing::line_step` meets its contract. Assumes nothing.
use Rattle.collects.proofs.PassReturnLaws.{step-above, step-low, step-record}
use Rattle.collects.proofs.passing.line_step.Goals as goal

pub returns-in-Standing : goal.returns-in-Standing
returns-in-Standing c = step-low c.args.floor _ c.args.s c.view_of.ensures c.in-Standing.is c.if-l-floor.true c.held_by.ensures

pub returns-in_default : goal.returns-in_default
returns-in_default c = step-above c.args.floor _ c.args.s c.view_of.ensures c.in-Standing.is c.if-l-floor.false

pub returns-in_default-2 : goal.returns-in_default-2
returns-in_default-2 c = step-record c.args.floor _ c.args.s c.view_of.ensures c.in_default.is
