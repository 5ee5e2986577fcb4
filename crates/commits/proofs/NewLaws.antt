-- What a commit changes: nothing where each key has its record already, and else there are fewer locks.
-- Assumes nothing.
use Prim.Native.Nat.{◌<◌}
use native.Mathlib.Omega.{arith}
use mathlib.Core.Path.{◌≡◌, refl, sym, ap, ◌∙◌, subst}
use mathlib.Core.Bool.{Bool, true, false, ◌||◌, not, false≢true}
use mathlib.Core.List.{List, [], ◌∷◌}
use mathlib.Core.Option.{Option, none, some}
use Rattle.forms.specs.Key.{Key}
use Rattle.forms.specs.Readers.{is_some}
use Rattle.rules.specs.Answers.{Accepted}
use Rattle.rules.specs.declared.records.Record.{Record}
use Rattle.rules.specs.Box.{Box, records_of}
use Rattle.rules.specs.Room.{load_of}
use Rattle.rules.specs.declared.terms.CommitTerms.{CommitTerms}
use Rattle.rules.specs.Commit.{with_start, commit_key, commit_keys, apply_commit, apply_commits}
use Rattle.laws.specs.Adds.{lock_load, record_load, of_lock, if_new, if_locked, commit_adds, commit_frees}
use Rattle.laws.proofs.StepLaws.{then-left, then-right, or-false-left, or-false-right}
use Rattle.laws.proofs.LoadLaws.{load_fields}
use Rattle.laws.proofs.CommitLaws.{CommitWay, commit_replay, commit_first, commit-way, commit-old, commit-load, commits-less}
use Rattle.commits.specs.Checks.{is_new, some_new}

-- "equal commit, accepted and unchanged"
old-same : (h : CommitTerms) (b : Box) (k : Key) → is_new h b k ≡ false → apply_commit h k b ≡ b
old-same h b k n = go (with_start h.start (records_of k b.lines)) refl n
  where
    go : (o : Option Record) → with_start h.start (records_of k b.lines) ≡ o → not (is_some o) ≡ false → apply_commit h k b ≡ b
    go none e n = cc
    go (some w) e n = commit-old h k b w e

-- the lock of a new key goes
new-fewer : (h : CommitTerms) (b : Box) (k : Key) → commit_key h b k ≡ Accepted → is_new h b k ≡ true → (load_of (apply_commit h k b)).locks < (load_of b).locks
unfolding commit_adds commit_frees if_new if_locked of_lock
new-fewer h b k p n = go (commit-way h b k p)
  where
    go : CommitWay h b k → (load_of (apply_commit h k b)).locks < (load_of b).locks
    go (commit_replay w e a c d r q) = absurd (false≢true (sym (ap (λ (o : Option Record). not (is_some o)) e) ∙ n))
    go (commit_first l e f t s a r q) =
        let adds : commit_adds h b k ≡ record_load k = rw (e, f) in
        let frees : commit_frees h b k ≡ lock_load k l.primary = rw (e, f) in
        omega (arith, (load_fields (commit-load h k b)).locks, (load_fields adds).locks, (load_fields frees).locks)

-- ---- the batch

pub all_old : (h : CommitTerms) (b : Box) (ks : List Key) → some_new h b ks ≡ false → apply_commits h ks b ≡ b
unfolding some_new apply_commits
all_old h b [] n = refl
all_old h b (k ∷ ks) n = ap (apply_commits h ks) (old-same h b k (or-false-left _ _ n)) ∙ all_old h b ks (or-false-right (is_new h b k) _ n)

pub some-fewer : (h : CommitTerms) (b : Box) (ks : List Key) → commit_keys h b ks ≡ Accepted → some_new h b ks ≡ true → (load_of (apply_commits h ks b)).locks < (load_of b).locks
unfolding some_new commit_keys apply_commits
some-fewer h b [] p n = absurd (false≢true n)
some-fewer h b (k ∷ ks) p n = go (is_new h b k) refl n (some-fewer h b ks (then-right (commit_key h b k) _ p))
  where
    go : (t : Bool) → is_new h b k ≡ t → t || some_new h b ks ≡ true → (some_new h b ks ≡ true → (load_of (apply_commits h ks b)).locks < (load_of b).locks)
        → (load_of (apply_commits h ks (apply_commit h k b))).locks < (load_of b).locks
    go true e q ih = omega (arith, new-fewer h b k (then-left _ _ p) e, (commits-less h ks (apply_commit h k b)).locks)
    go false e q ih = subst (λ (c : Box). (load_of (apply_commits h ks c)).locks < (load_of b).locks) (sym (old-same h b k e)) (ih q)
