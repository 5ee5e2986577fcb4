use Rattle.figures.proofs.StatLaws.{lines_start, lines-ready, lines_more, few_rows, few-records, stats-end}
use Rattle.figures.proofs.statistics.stats.Goals as goal

pub loop-i-init : goal.loop-i-init
loop-i-init c = lines_start c.requires.built c.no_run.ensures c.no_run-2.ensures

pub one_line-seen-requires : goal.one_line-seen-requires
one_line-seen-requires c = lines-ready c.requires.built c.loop-i.invariant c.loop-i-test.true

pub loop-i-preserved : goal.loop-i-preserved
loop-i-preserved c = lines_more c.requires.built c.loop-i.invariant c.loop-i-test.true c.one_line-seen.ensures

pub close-of_rows-requires : goal.close-of_rows-requires
close-of_rows-requires c = few_rows c.requires.built c.loop-i.invariant

pub close-of_records-requires : goal.close-of_records-requires
close-of_records-requires c = few-records c.requires.built c.loop-i.invariant

pub returns : goal.returns
returns c = stats-end c.requires.built c.loop-i.invariant c.loop-i-test.false c.close-of_rows.ensures c.close-of_records.ensures
