-- `showing::replying::show_marks` meets its contract: the payload of the marks is put.
-- Assumes nothing.
use Rattle.traces.specs.Payloads.{marks_payload}
use Rattle.showing.proofs.TellLaws.{shown-as, written-front, marks-fits}
use mathlib.Core.Path.{refl, ap, ◌∙◌}
use Rattle.showing.proofs.replying.show_marks.Goals as goal

pub returns : goal.returns
returns c = shown-as refl refl (written-front (marks-fits _ c.requires.1) c.put_marks-len.ensures ∙ ap marks_payload c.allocator_high_water_marks-highest.ensures) c.of.ensures
