-- `traces::trace::read_calls` meets its contract. The loop's invariant: the calls still to be judged have the verdict of the whole
-- (`Counting` of `TraceLaws`).
-- Assumes nothing.
use Prim.Native.Nat.{◌-◌}
use Rattle.traces.specs.Trace.{framed_call}
use Rattle.traces.proofs.TraceLaws.{Counting}
use Rattle.traces.proofs.trace.read_calls.Given as goal

abbrev pub invariant-loop : goal.invariant-loop
invariant-loop l = Counting framed_call l.initial.reader.left.now l.end l.reader.left.now (l.end - l.counter)
