-- What a changing call does with each entry of its batch: the definition's change of one entry, what that asks, and how many bytes of the
-- area it takes at most. A commit and a rollback look at an entry's key alone.
-- Assumes nothing.
use Rattle.std.specs.Prelude.{ℕ, ◌<◌}
use Rattle.std.proofs.Math.Option.{Option}
use Rattle.forms.specs.Bytes.{Bytes}
use Rattle.forms.specs.Key.{Key}
use Rattle.forms.specs.Row.{Row}
use Rattle.forms.specs.Batch.{Mutation}
use Rattle.rules.specs.Box.{Box}
use Rattle.rules.specs.Prewrite.{apply_prewrite}
use Rattle.rules.specs.Commit.{apply_commit}
use Rattle.rules.specs.Rollback.{apply_rollback}
use Rattle.rules.specs.OneStep.{apply_step}
use Rattle.store.specs.declared.table.Store.{Store}
use Rattle.changes.specs.Changes.{prewrite_terms_for}
use Rattle.actions.specs.declared.action.Action.{Action}
use Rattle.actions.specs.declared.action.Action.TheVariants.{Prewrite, Commit, Rollback, Step}
use Rattle.actions.specs.declared.action.Point.{Point}
use Rattle.actions.specs.EntryAsks.{PrewriteAsks, CommitAsks, RollbackAsks, StepAsks}

abbrev pub point_of : Action → Point
point_of (Prewrite txn start ttl) = record { start = start; stamp = 0 }
point_of (Commit h) = record { start = h.start; stamp = h.commit }
point_of (Rollback txn start) = record { start = start; stamp = start }
point_of (Step h) = record { start = h.start; stamp = h.commit }

abbrev pub most_of : Action → ℕ
most_of (Prewrite txn start ttl) = 376
most_of (Commit h) = 320
most_of (Rollback txn start) = 65
most_of (Step h) = 320

-- the definition's change of one entry
abbrev pub apply_of : Action → Key → Mutation → Box → Box
apply_of (Prewrite txn start ttl) primary m = apply_prewrite (prewrite_terms_for txn start primary ttl) m
apply_of (Commit h) primary m = apply_commit h m.key
apply_of (Rollback txn start) primary m = apply_rollback start m.key
apply_of (Step h) primary m = apply_step h m

-- what it asks
abbrev pub EntryAsks : Action → Key → Store → Bytes → Key → Option Row → Type 0
EntryAsks (Prewrite txn start ttl) primary st area key row = PrewriteAsks st area (prewrite_terms_for txn start primary ttl) key row
EntryAsks (Commit h) primary st area key row = CommitAsks st area h key
EntryAsks (Rollback txn start) primary st area key row = RollbackAsks st area txn start key
EntryAsks (Step h) primary st area key row = StepAsks st area h key row

-- document 02, CR 7: 14 "for a start at or below F in any changing call"; only a prewrite brings locks
abbrev pub StartsAbove : ℕ → Action → Type 0
StartsAbove floor (Prewrite txn start ttl) = floor < start
StartsAbove floor (Commit h) = Unit {0}
StartsAbove floor (Rollback txn start) = Unit {0}
StartsAbove floor (Step h) = Unit {0}
