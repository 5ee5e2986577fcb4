-- `faults::locks::locks_above` meets its contract.
-- Assumes nothing.
use Rattle.std.proofs.Common.{◌∙◌, rules, tests}
use Rattle.std.proofs.lemmas.Iterator.{YieldsList-from_slice}
use Rattle.std.proofs.lemmas.Iterator.Search.{all_from_yields_List}
use Rattle.rules.specs.Restore.{lock_above}
use Rattle.faults.specs.Judged.{lock_at}
use Rattle.pairs.proofs.EachLaws.{all-each}
use Rattle.faults.proofs.locks.locks_above.Goals as goal

pub returns : goal.returns
returns c =
    all_from_yields_List (λ p. lock_above c.args.floor (lock_at c.args.s.now p)) _ _ _ c.all.ensures.ran (YieldsList-from_slice c.args.locks.now cc) (λ x b q k. search (rules, tests))
    ∙ all-each (lock_above c.args.floor) (lock_at c.args.s.now) c.args.locks.now
