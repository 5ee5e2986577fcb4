-- `pairs::puts::puts_match` meets its contract: each step and each way out is a law of `PutsMatchLaws`.
-- Assumes nothing.
use Rattle.pairs.proofs.PutsMatchLaws.{Matching}
use Rattle.pairs.proofs.puts.puts_match.Given as goal

abbrev pub invariant-loop-place : goal.invariant-loop-place
invariant-loop-place l = Matching l.s l.writes l.defaults l.lines l.place-index l.j
