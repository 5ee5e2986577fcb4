-- The copy stays as long.
use Rattle.bench.specs.Asks.{TurnAsks}
use Rattle.bench.proofs.turning.many_turns.Given as goal

abbrev pub invariant-loop-turn : goal.invariant-loop-turn
invariant-loop-turn l = TurnAsks l.subject l.copy
