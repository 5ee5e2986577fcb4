-- The claim on pairs is kept by an accepted key of a commit. Assumes nothing.
use mathlib.Core.Path.{◌≡◌, refl}
use mathlib.Core.List.{List, ◌∷◌}
use mathlib.Core.Option.{some}
use Rattle.forms.specs.Key.{Key}
use Rattle.rules.specs.Answers.{Accepted}
use Rattle.rules.specs.Box.{Box, Lock, Standing, Finished, lock_of}
use Rattle.rules.specs.Calls.{record_for}
use Rattle.rules.specs.declared.terms.CommitTerms.{CommitTerms}
use Rattle.rules.specs.Commit.{commit_key, apply_commit}
use Rattle.laws.proofs.RecordLaws.{started-in}
use Rattle.laws.proofs.CommitLaws.{committed, CommitWay, commit_replay, commit_first, commit-way}
use Rattle.ledger.specs.Ledger.{Named, of_key, or_older, present, Holds}
use Rattle.ledger.proofs.PairLaws.{extend}
use Rattle.ledger.proofs.CloseHolds.{lock-at, record-at, one_line, unchanged, closed-other, closed_same}

module _ (h : CommitTerms) (b : Box) (k : Key) (log : List Named) where
  replaced : (l : Lock) → Holds b log → lock_of k b.lines ≡ some l → l.start ≡ h.start → Holds (committed h k l b) (of_key h.start k ∷ log)
  unfolding or_older
  replaced l hs there p =
      extend b (committed h k l b) (of_key h.start k) log hs
      (λ i q e. (rw p (closed-other b k h.start h.commit l.kind (some l) i q there p e), refl))
      (present (Finished (record_for h.start h.commit l.kind))
      (rw p (closed_same b k h.start h.commit l.kind log (some l) hs there p (λ e. cc)))
      (one_line b k h.start log (Standing l) hs (lock-at b k h.start log l there p)).1)

  pub commit-holds : commit_key h b k ≡ Accepted → Holds b log → Holds (apply_commit h k b) (of_key h.start k ∷ log)
  commit-holds p hs = go (commit-way h b k p)
    where
      go : CommitWay h b k → Holds (apply_commit h k b) (of_key h.start k ∷ log)
      go (commit_replay w e n c a r q) =
          rw q (unchanged b k h.start log (Finished w) hs (record-at b k h.start log w (started-in h.start _ w e).0 (started-in h.start _ w e).1))
      go (commit_first l e f t s a r q) = rw q (replaced l hs f s)
