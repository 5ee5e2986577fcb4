-- `walks::judge::judge_page` meets its contract.
-- Assumes nothing.
use Rattle.std.proofs.Common.{ap, refl}
use Rattle.rules.proofs.OutcomeLaws.{handed-is}
use Rattle.walks.specs.Walked.{walked_in}
use Rattle.walks.proofs.WalkLaws.{judge-below, judge-past, judge-walk, judge-refused}
use Rattle.walks.proofs.judge.judge_page.Goals as goal

pub returns-in_err-page_arguments : goal.returns-in_err-page_arguments
returns-in_err-page_arguments c = judge-refused c.requires _ _ c.in_err-page_arguments.ensures _ refl (ap walked_in (handed-is _ _ c.from_residual.ensures.1))

pub returns-then-asked-floor : goal.returns-then-asked-floor
returns-then-asked-floor c = judge-below c.requires _ _ c.in_ok-page_arguments.ensures refl c.floor_of-floor.ensures c.if-asked-floor.true refl

pub returns-then-past_end : goal.returns-then-past_end
returns-then-past_end c = judge-past c.requires _ _ c.in_ok-page_arguments.ensures refl c.floor_of-floor.ensures c.if-asked-floor.false c.past_end.ensures c.if-past_end.true c.empty.ensures

pub returns : goal.returns
returns c = judge-walk c.requires _ _ c.in_ok-page_arguments.ensures refl c.floor_of-floor.ensures c.if-asked-floor.false c.past_end.ensures c.if-past_end.false c.walk_lines.ensures
