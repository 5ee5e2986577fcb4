-- The bytes that are left to pass over grow fewer.
use Rattle.drive.proofs.streams.pass_over.Given as goal

abbrev pub decreases-loop-buffer : goal.decreases-loop-buffer
decreases-loop-buffer g l = l.left
