-- `traces::call::args_for` meets its contract: the arguments one after the other, of which the first that is not in form refuses.
-- Assumes nothing.
use mathlib.Core.Path.{refl}
use Rattle.traces.specs.Args.{shaped}
use Rattle.traces.proofs.TakenLaws.{stops_all, goes_all, ends_all, refuses-all}
use Rattle.traces.proofs.call.args_for.Goals as goal

pub returns-in_err-first : goal.returns-in_err-first
unfolding shaped
returns-in_err-first c = rw c.from_residual.ensures (stops_all _ c.in_err-first.ensures.taken)

pub returns-in_err-second : goal.returns-in_err-second
unfolding shaped
returns-in_err-second c = rw c.from_residual-in_err-second.ensures (goes_all _ c.in_ok-first.ensures.taken (stops_all _ c.in_err-second.ensures.taken))

pub returns-in_err-third : goal.returns-in_err-third
unfolding shaped
returns-in_err-third c = rw c.from_residual-in_err-third.ensures (goes_all _ c.in_ok-first.ensures.taken (goes_all _ c.in_ok-second.ensures.taken (stops_all _ c.in_err-third.ensures.taken)))

pub returns-in_err-kind : goal.returns-in_err-kind
unfolding shaped
returns-in_err-kind c = rw c.from_residual-in_err-kind.ensures (goes_all _ c.in_ok-first.ensures.taken (goes_all _ c.in_ok-second.ensures.taken (goes_all _ c.in_ok-third.ensures.taken (stops_all _ c.in_err-kind.ensures))))

pub returns-in_err-primary : goal.returns-in_err-primary
unfolding shaped
returns-in_err-primary c = rw c.from_residual-in_err-primary.ensures (goes_all _ c.in_ok-first.ensures.taken (goes_all _ c.in_ok-second.ensures.taken (goes_all _ c.in_ok-third.ensures.taken (goes_all _ c.in_ok-kind.ensures (stops_all _ c.in_err-primary.ensures)))))

pub returns-in_err-key : goal.returns-in_err-key
unfolding shaped
returns-in_err-key c = rw c.from_residual-in_err-key.ensures (goes_all _ c.in_ok-first.ensures.taken (goes_all _ c.in_ok-second.ensures.taken (goes_all _ c.in_ok-third.ensures.taken (goes_all _ c.in_ok-kind.ensures (goes_all _ c.in_ok-primary.ensures (stops_all _ c.in_err-key.ensures))))))

pub returns-in_err-row : goal.returns-in_err-row
unfolding shaped
returns-in_err-row c = rw c.from_residual-in_err-row.ensures (goes_all _ c.in_ok-first.ensures.taken (goes_all _ c.in_ok-second.ensures.taken (goes_all _ c.in_ok-third.ensures.taken (goes_all _ c.in_ok-kind.ensures (goes_all _ c.in_ok-primary.ensures (goes_all _ c.in_ok-key.ensures (stops_all _ c.in_err-row.ensures)))))))

pub returns-in_err-from : goal.returns-in_err-from
unfolding shaped
returns-in_err-from c = rw c.from_residual-in_err-from.ensures (goes_all _ c.in_ok-first.ensures.taken (goes_all _ c.in_ok-second.ensures.taken (goes_all _ c.in_ok-third.ensures.taken (goes_all _ c.in_ok-kind.ensures (goes_all _ c.in_ok-primary.ensures (goes_all _ c.in_ok-key.ensures (goes_all _ c.in_ok-row.ensures (stops_all _ c.in_err-from.ensures))))))))

pub returns-in_err-to : goal.returns-in_err-to
unfolding shaped
returns-in_err-to c = rw c.from_residual-in_err-to.ensures (goes_all _ c.in_ok-first.ensures.taken (goes_all _ c.in_ok-second.ensures.taken (goes_all _ c.in_ok-third.ensures.taken (goes_all _ c.in_ok-kind.ensures (goes_all _ c.in_ok-primary.ensures (goes_all _ c.in_ok-key.ensures (goes_all _ c.in_ok-row.ensures (goes_all _ c.in_ok-from.ensures (stops_all _ c.in_err-to.ensures)))))))))

pub returns-in_err-resume : goal.returns-in_err-resume
unfolding shaped
returns-in_err-resume c = rw c.from_residual-in_err-resume.ensures (goes_all _ c.in_ok-first.ensures.taken (goes_all _ c.in_ok-second.ensures.taken (goes_all _ c.in_ok-third.ensures.taken (goes_all _ c.in_ok-kind.ensures (goes_all _ c.in_ok-primary.ensures (goes_all _ c.in_ok-key.ensures (goes_all _ c.in_ok-row.ensures (goes_all _ c.in_ok-from.ensures (goes_all _ c.in_ok-to.ensures (stops_all _ c.in_err-resume.ensures))))))))))

pub returns-in_err-buffer : goal.returns-in_err-buffer
unfolding shaped
returns-in_err-buffer c = rw c.from_residual-in_err-buffer.ensures (goes_all _ c.in_ok-first.ensures.taken (goes_all _ c.in_ok-second.ensures.taken (goes_all _ c.in_ok-third.ensures.taken (goes_all _ c.in_ok-kind.ensures (goes_all _ c.in_ok-primary.ensures (goes_all _ c.in_ok-key.ensures (goes_all _ c.in_ok-row.ensures (goes_all _ c.in_ok-from.ensures (goes_all _ c.in_ok-to.ensures (goes_all _ c.in_ok-resume.ensures (stops_all _ c.in_err-buffer.ensures.taken)))))))))))

pub returns-in_err-rest : goal.returns-in_err-rest
unfolding shaped
returns-in_err-rest c = rw c.from_residual-in_err-rest.ensures (goes_all _ c.in_ok-first.ensures.taken (goes_all _ c.in_ok-second.ensures.taken (goes_all _ c.in_ok-third.ensures.taken (goes_all _ c.in_ok-kind.ensures (goes_all _ c.in_ok-primary.ensures (goes_all _ c.in_ok-key.ensures (goes_all _ c.in_ok-row.ensures (goes_all _ c.in_ok-from.ensures (goes_all _ c.in_ok-to.ensures (goes_all _ c.in_ok-resume.ensures (goes_all _ c.in_ok-buffer.ensures.taken (refuses-all _ c.in_err-rest.ensures))))))))))))

pub returns : goal.returns
unfolding shaped
returns c = goes_all _ c.in_ok-first.ensures.taken (goes_all _ c.in_ok-second.ensures.taken (goes_all _ c.in_ok-third.ensures.taken (goes_all _ c.in_ok-kind.ensures (goes_all _ c.in_ok-primary.ensures (goes_all _ c.in_ok-key.ensures (goes_all _ c.in_ok-row.ensures (goes_all _ c.in_ok-from.ensures (goes_all _ c.in_ok-to.ensures (goes_all _ c.in_ok-resume.ensures (goes_all _ c.in_ok-buffer.ensures.taken (ends_all _ refl c.in_ok-rest.ensures)))))))))))
