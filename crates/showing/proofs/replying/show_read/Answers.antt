-- `showing::replying::show_read` meets its contract: answer, count and payload of what a read answers are the reply's.
-- Assumes nothing.
use Rattle.showing.proofs.TellLaws.{shown-as, written-front}
use Rattle.showing.proofs.ReplyLaws.{read_short, seen-answer, seen-payload, row_fits}
use mathlib.Core.Path.{◌∙◌}
use Rattle.showing.proofs.replying.show_read.Goals as goal

pub returns : goal.returns
returns c = shown-as (seen-answer c.read-reading.ensures.seen_as) c.read-reading.ensures.count_is (written-front (row_fits c.read-reading.ensures.seen_as c.row_of-row.ensures (read_short _ _ _ _) c.requires.1) c.put_seen-len.ensures ∙ seen-payload c.read-reading.ensures.seen_as c.row_of-row.ensures) c.of.ensures
