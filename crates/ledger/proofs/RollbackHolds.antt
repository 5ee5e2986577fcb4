-- The claim on pairs is kept by an accepted key of a rollback. Assumes nothing.
use Prim.Native.Nat.{ℕ}
use mathlib.Core.Path.{◌≡◌, refl}
use mathlib.Core.List.{List, ◌∷◌}
use mathlib.Core.Option.{Option, none}
use Rattle.forms.specs.Key.{Key}
use Rattle.forms.specs.Row.{Row}
use Rattle.rules.specs.Answers.{Accepted}
use Rattle.rules.specs.declared.records.Kind.TheVariants.{Rollback}
use Rattle.rules.specs.Box.{Box, Lock, Finished, records_of, lock_of}
use Rattle.rules.specs.Calls.{record_for}
use Rattle.rules.specs.Commit.{with_start}
use Rattle.rules.specs.Rollback.{rollback_key, apply_rollback}
use Rattle.laws.proofs.RecordLaws.{stamped-in}
use Rattle.laws.proofs.RollbackLaws.{rolled_back, RollbackLock, lock_free, lock_own, RollbackWay, rollback_replay, rollback_first, rollback-way}
use Rattle.ledger.specs.Ledger.{Named, of_key, present, Holds}
use Rattle.ledger.proofs.PairRowLaws.{rows-gone, rows_stay}
use Rattle.ledger.proofs.PairLaws.{extend}
use Rattle.ledger.proofs.CloseHolds.{record-at, unchanged, OfStart, closed-other, closed_same}

-- the lock that a rollback lets pass is its own
of-start : {txn s : ℕ} {stored : Option Row} {o : Option Lock} → RollbackLock txn s stored o → OfStart s o
of-start (lock_free e) = tt
of-start (lock_own l t s r) = s

module _ (txn s : ℕ) (b : Box) (k : Key) (log : List Named) where
  marked : Holds b log → with_start s (records_of k b.lines) ≡ none → OfStart s (lock_of k b.lines) → Holds (rolled_back s k b) (of_key s k ∷ log)
  marked hs n p =
      extend b (rolled_back s k b) (of_key s k) log hs
      (λ i r e. (closed-other b k s s Rollback (lock_of k b.lines) i r refl p e, rows_stay k i s r e b.defaults))
      (present (Finished (record_for s s Rollback)) (closed_same b k s s Rollback log (lock_of k b.lines) hs refl p (λ e. n)) (rows-gone k s b.defaults))

  pub rollback-holds : rollback_key txn s b k ≡ Accepted → Holds b log → Holds (apply_rollback s k b) (of_key s k ∷ log)
  rollback-holds p hs = go (rollback-way txn s b k p)
    where
      go : RollbackWay txn s b k → Holds (apply_rollback s k b) (of_key s k ∷ log)
      go (rollback_replay w e n c a r q) = rw q (unchanged b k s log (Finished w) hs (record-at b k s log w (stamped-in s _ w e).0 c))
      go (rollback_first e n o q) = rw q (marked hs n (of-start o))
