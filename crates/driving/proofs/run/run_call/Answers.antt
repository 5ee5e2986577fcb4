-- `driving::run::run_call` meets its contract: the buffer is too short, the bytes are no call in form, or the call is run, by `RunCallLaws`.
-- Assumes nothing.
use Rattle.driving.proofs.RunCallLaws.{run_short, run-formless, run-formed}
use mathlib.Core.Path.{refl}
use Rattle.driving.proofs.run.run_call.Goals as goal

pub returns-then-out-lt-LONGEST : goal.returns-then-out-lt-LONGEST
returns-then-out-lt-LONGEST c = run_short c.if-out-lt-LONGEST.true

pub returns-in_default : goal.returns-in_default
returns-in_default c = run-formless c.requires c.in_default.ensures c.if-out-lt-LONGEST.false c.put_answer.ensures

pub run_args-requires : goal.run_args-requires
run_args-requires c = record { made = c.requires; op_is = refl; length_is = c.if-out-lt-LONGEST.false }

pub returns : goal.returns
returns c = run-formed c.in-Some.ensures c.if-out-lt-LONGEST.false c.run_args.ensures
