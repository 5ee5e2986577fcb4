-- The promise of `commit_batch`: that of every changing call, and the count.
-- Assumes nothing.
use Rattle.std.specs.Prelude.{ℕ, ◌≡◌, List, length}
use Rattle.forms.specs.Bytes.{Bytes}
use Rattle.forms.specs.Batch.{Mutation}
use Rattle.rules.specs.Answers.{Answer, ◌▸◌, need}
use Rattle.rules.specs.Box as box
use Rattle.rules.specs.Calls.{Done}
use Rattle.rules.specs.declared.terms.CommitTerms.{CommitTerms}
use Rattle.rules.specs.OneStep.{Counted, count_if, arguments_step, none_other, all_applied, step_applied, then_applied}
use Rattle.store.specs.declared.table.Store.{Store}
use Rattle.calls.specs.Settled.{Settled}

-- what a one-step batch gives: the store after it, its answer, and "The count is the number of entries"
pub record Stepped : Type 0 where
  pub store : Store
  pub answer : Answer
  pub count : ℕ

-- `d` is the definition's answer, the box after it, and its count
pub record Counts (st : Store) (area : Bytes) (d : Counted) (r : Stepped) (area' : Bytes) : Type 0 where
  pub settled : Settled st area d.done (record { store = r.store; answer = r.answer }) area'
  pub count_is : r.count ≡ d.count

-- what a batch in form does whose head has passed: "each entry in turn 1, 2; ..", and its count
unfoldable pub later_done : CommitTerms → List Mutation → box.Box → Done
later_done h ms b = then_applied (arguments_step ms ▸ need (none_other h b ms) 9) b (step_applied (all_applied h b ms) h ms b)

abbrev pub later_counted : CommitTerms → List Mutation → box.Box → Counted
later_counted h ms b = record { done = later_done h ms b; count = count_if (later_done h ms b).answer (length ms) }
