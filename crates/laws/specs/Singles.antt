-- Document 01: "Single forms, here and below, take the steps without 6 and 5; the kind is Put or Delete, and a Delete's row argument is
-- ignored." Document 02, CR 10: "the single form disappears as a step of its own and is a batch of one." Here stand the single forms as steps of
-- their own, once more and nowhere else, so that it can be said that answers and states "are those of before".
-- Assumes nothing.
use Rattle.std.specs.Prelude.{ℕ, ◌≤◌, [], ◌∷◌, length}
use Rattle.std.proofs.Math.Option.{Option, none, some}
use Rattle.forms.specs.Bytes.{Bytes}
use Rattle.forms.specs.Key.{Key}
use Rattle.forms.specs.Row.{Row}
use Rattle.forms.specs.Batch.{Mutation}
use Rattle.rules.specs.Box.{Box}
use Rattle.rules.specs.Calls.{Done, settle}
use Rattle.rules.specs.Prewrite.{PrewriteTerms, prewrite_steps, apply_prewrite}
use Rattle.rules.specs.declared.terms.CommitTerms.{CommitTerms}
use Rattle.rules.specs.Commit.{commit_steps, apply_commit}
use Rattle.rules.specs.Rollback.{rollback_steps, apply_rollback}

-- "the steps without 6 and 5"
unfoldable pub prewrite_alone : ℕ → PrewriteTerms → Mutation → Box → Done
prewrite_alone floor h m b = settle (prewrite_steps floor h (m ∷ []) b) (apply_prewrite h m b) b

unfoldable pub commit_alone : ℕ → CommitTerms → Key → Box → Done
commit_alone floor h k b = settle (commit_steps floor h (k ∷ []) b) (apply_commit h k b) b

unfoldable pub rollback_alone : ℕ → ℕ → ℕ → Key → Box → Done
rollback_alone floor txn start k b = settle (rollback_steps floor txn start (k ∷ []) b) (apply_rollback start k b) b

-- "a key and row that fit the batch's length bytes"
abbrev pub FitsByte : Bytes → Type 0
FitsByte s = length s ≤ 255

-- a Delete has no row
abbrev pub RowFits : Option Row → Type 0
RowFits none = Unit {0}
RowFits (some r) = FitsByte r
