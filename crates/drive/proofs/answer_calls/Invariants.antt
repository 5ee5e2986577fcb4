-- Each call leaves a made store and both buffers as long as they were. The measure is how many calls are left.
use Rattle.driving.proofs.KeepLaws.{Keeps}
use Rattle.drive.proofs.answer_calls.Given as goal

abbrev pub invariant-loop-call : goal.invariant-loop-call
invariant-loop-call g l = Keeps l.initial.out l.store l.area l.out

abbrev pub decreases-loop-call : goal.decreases-loop-call
decreases-loop-call g l = l.calls.left
