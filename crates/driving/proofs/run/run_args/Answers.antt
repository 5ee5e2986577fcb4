-- `driving::run::run_args` meets its contract: `by-op` for each sort of op.
-- Assumes nothing.
use Rattle.traces.specs.declared.op.Op.{Op}
use Rattle.driving.proofs.RunCallLaws.{by-op, ask-ran, convert-ran, long-small, table_fits, asks-capture}
use native.Mathlib.Omega.{arith}
use mathlib.Core.Path.{refl}
use Rattle.driving.proofs.run.run_args.Goals as goal

pub overflow_cast-args : goal.overflow_cast-args
overflow_cast-args c = omega (arith, table_fits c.args.args.now c.in-Capture.is)

pub run_capture-requires : goal.run_capture-requires
run_capture-requires c = asks-capture c.requires c.in-Capture.is

pub tell_convert-requires : goal.tell_convert-requires
tell_convert-requires c = long-small c.args.args.now {op = Op.Convert} refl c.in-Convert.is

pub returns-in-Shows : goal.returns-in-Shows
returns-in-Shows c = by-op c.args.args.now _ (Op.Shows _) c.in-Shows.is c.run_shown.ensures

pub returns-in-Changes : goal.returns-in-Changes
returns-in-Changes c = by-op c.args.args.now _ (Op.Changes _) c.in-Changes.is c.run_change.ensures

pub returns-in-OneStep : goal.returns-in-OneStep
returns-in-OneStep c = by-op c.args.args.now _ Op.OneStep c.in-OneStep.is c.run_step.ensures

pub returns-in-Asks : goal.returns-in-Asks
returns-in-Asks c = by-op c.args.args.now _ (Op.Asks _) c.in-Asks.is (ask-ran c.args.args.now _ _ c.requires.made refl c.requires.length_is c.tell_ask.ensures)

pub returns-in-Capture : goal.returns-in-Capture
returns-in-Capture c = by-op c.args.args.now _ Op.Capture c.in-Capture.is c.run_capture.ensures

pub returns-in-Convert : goal.returns-in-Convert
returns-in-Convert c = by-op c.args.args.now _ Op.Convert c.in-Convert.is (convert-ran c.args.args.now _ c.requires.made refl c.requires.length_is (long-small c.args.args.now {op = Op.Convert} refl c.in-Convert.is) c.tell_convert.ensures)
