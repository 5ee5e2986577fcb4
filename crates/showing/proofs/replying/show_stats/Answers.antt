-- `showing::replying::show_stats` meets its contract: the payload of the statistics is put.
-- Assumes nothing.
use Rattle.traces.specs.Payloads.{stats_payload}
use Rattle.showing.proofs.TellLaws.{shown-as, written-front, stats-fits}
use mathlib.Core.Path.{refl, ap, ◌∙◌}
use Rattle.showing.proofs.replying.show_stats.Goals as goal

pub returns : goal.returns
returns c = shown-as refl refl (written-front (stats-fits _ c.requires.1) c.put_stats-len.ensures ∙ ap stats_payload c.stats-counted.ensures) c.of.ensures
