-- `converts::puts::puts_have` meets its contract.
-- Assumes nothing.
use Rattle.std.proofs.Common.{◌∙◌, rules, tests}
use Rattle.std.proofs.lemmas.Iterator.{YieldsList-from_slice}
use Rattle.std.proofs.lemmas.Iterator.Search.{all_from_yields_List}
use Rattle.rules.specs.Restore.{has_default}
use Rattle.orders.specs.Finds.{rows_at}
use Rattle.pairs.proofs.EachLaws.{all-each}
use Rattle.converts.specs.Judged.{write_at}
use Rattle.converts.proofs.puts.puts_have.Goals as goal

pub returns : goal.returns
returns c =
    all_from_yields_List (λ p. has_default (rows_at c.args.s.now c.args.defaults.now) (write_at c.args.s.now p)) _ _ _ c.all.ensures.ran (YieldsList-from_slice c.args.writes.now cc) (λ x b q k. search (rules, tests))
    ∙ all-each (has_default (rows_at c.args.s.now c.args.defaults.now)) (write_at c.args.s.now) c.args.writes.now
