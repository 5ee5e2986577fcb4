-- `showing::replying::show_lock` meets its contract: answer and payload of what one intent answers are the reply's.
-- Assumes nothing.
use Rattle.showing.proofs.TellLaws.{shown-as, written-front}
use Rattle.showing.proofs.ReplyLaws.{intent-short, pointed-answer, pointed-payload, primary_short, lock-fits}
use mathlib.Core.Path.{refl, ◌∙◌}
use Rattle.showing.proofs.replying.show_lock.Goals as goal

pub put_pointed-len-requires : goal.put_pointed-len-requires
put_pointed-len-requires c = primary_short c.intent_for_read-pointed.ensures (intent-short _ _ _) c.primary_of-primary.ensures

pub returns : goal.returns
returns c = shown-as (pointed-answer c.intent_for_read-pointed.ensures) refl (written-front (lock-fits c.intent_for_read-pointed.ensures c.primary_of-primary.ensures (intent-short _ _ _) c.requires.1) c.put_pointed-len.ensures ∙ pointed-payload c.intent_for_read-pointed.ensures c.primary_of-primary.ensures) c.of.ensures
