-- `reads::locks::intent_for_read` meets its contract: 1, or the lock that the lookup found. Assumes nothing.
use Rattle.std.proofs.Common.{refl}
use Rattle.laws.proofs.ChainLaws.{denied, granted}
use Rattle.reads.proofs.IntentLaws.{point-invalid}
use Rattle.reads.proofs.locks.intent_for_read.Goals as goal

pub returns-then-not-key_in_form : goal.returns-then-not-key_in_form
returns-then-not-key_in_form c = point-invalid _ _ _ _ (denied _ _ c.key_in_form.ensures c.if-not-key_in_form.true-raw)

pub returns : goal.returns
returns c = c.lock_seen.ensures _ _ _ _ c.requires.built (granted _ _ c.key_in_form.ensures c.if-not-key_in_form.false-raw) c.look_up-found.ensures refl
