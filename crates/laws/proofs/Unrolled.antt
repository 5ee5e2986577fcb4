-- What a key of a rollback adds, by what stands at it. Assumes nothing.
use Prim.Native.Nat.{ℕ}
use mathlib.Core.Path.{◌≡◌}
use mathlib.Core.Option.{none, some}
use Rattle.forms.specs.Key.{Key}
use Rattle.rules.specs.declared.records.Record.{Record}
use Rattle.rules.specs.Box.{Box, records_of}
use Rattle.rules.specs.Calls.{stamped_at}
use Rattle.laws.specs.Adds.{no_load, record_load, if_new, rollback_adds}

module _ (start : ℕ) (b : Box) (k : Key) where
  pub rollback-adds-new : stamped_at start (records_of k b.lines) ≡ none → rollback_adds start b k ≡ record_load k
  unfolding rollback_adds if_new
  rollback-adds-new e = rw e

  pub rollback-adds-old : (w : Record) → stamped_at start (records_of k b.lines) ≡ some w → rollback_adds start b k ≡ no_load
  unfolding rollback_adds if_new
  rollback-adds-old w e = rw e
