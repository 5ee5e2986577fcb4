-- The copy stays as long, and each call leaves fewer bytes of the input.
use Rattle.std.proofs.Common.{length}
use Rattle.bench.specs.Asks.{TurnAsks}
use Rattle.bench.proofs.turning.one_turn.Given as goal

abbrev pub invariant-loop-rest : goal.invariant-loop-rest
invariant-loop-rest l = TurnAsks l.subject l.copy

abbrev pub decreases-loop-rest : goal.decreases-loop-rest
decreases-loop-rest l = length l.rest
