-- One key of a commit, and the batch: what its steps say where they pass, what it leaves of other keys, what stands at its own key after it,
-- that it keeps the order, and that it never needs room. Assumes nothing.
use Prim.Native.Nat.{ℕ}
use native.Mathlib.Omega.{arith}
use mathlib.Core.Path.{◌≡◌, refl, ap, sym, ◌∙◌}
use mathlib.Core.Bool.{true, false, ◌&&◌, not}
use mathlib.Core.List.{List, [], ◌∷◌, ◌++◌}
use mathlib.Core.Option.{Option, none, some}
use lib.Dec.{eqb}
use borrow.Author.Tests.{eqb-true}
use Rattle.forms.specs.Key.{Key, key_form}
use Rattle.forms.specs.Batch.{ascend}
use Rattle.rules.specs.Answers.{Accepted, No, need, need_own}
use Rattle.rules.specs.declared.records.Kind.TheVariants.{Rollback}
use Rattle.rules.specs.declared.records.Record.{Record}
use Rattle.rules.specs.Box.{Box, Lock, Finished, KeyLine, holder_of, records_of, lock_of, row_of, eq_kind, insert_by, insert_line, drop_lock, in_order}
use Rattle.rules.specs.Room.{load_of, room_for}
use Rattle.rules.specs.Sound.{all_sound}
use Rattle.rules.specs.Calls.{owns, all_below, lock_at, kind_ready, stamped_at, record_for}
use Rattle.rules.specs.declared.terms.CommitTerms.{CommitTerms}
use Rattle.rules.specs.Commit.{with_start, put_has_row, commit_lock, commit_step, commit_key, commit_keys, commit_to, apply_commit, apply_commits}
use Rattle.laws.specs.Adds.{plus, record_load, of_lock, lines_load, if_new, if_locked, commit_adds, commit_frees}
use Rattle.laws.proofs.StepLaws.{then-left, then-right, need-true, own-true, and_left, and_right, not-true}
use Rattle.laws.proofs.BoxOrder.{ordered-record, ordered-drop_lock, order-lines, order-defaults, in_order_lem}
use Rattle.laws.proofs.KeyLaws.{stamp_before, records-new, insert-last, records-drop_lock, lock-record, lock-gone}
use Rattle.laws.proofs.RecordLaws.{below-stamped}
use Rattle.laws.proofs.FrameLaws.{Same, same_refl, same-replace, Apart}
use Rattle.laws.proofs.LoadLaws.{load-eq, load_fields, plus_none, none-plus, load-parts, lines-insert, lines-drop_lock, AtMost, at-most-refl, at-most-trans, at-most-freed, fits-less}
use Rattle.laws.proofs.BatchLaws as batch

-- the box where a key's lock is committed
abbrev pub committed : CommitTerms → Key → Lock → Box → Box
committed h k l b = record { lines = insert_line (record { key = k; line = Finished (record_for l.start h.commit l.kind) }) (drop_lock k b.lines); defaults = b.defaults }

-- ---- what the steps of a key say where they pass

pub record CommitPassed (h : CommitTerms) (b : Box) (k : Key) : Type 0 where
  pub key : key_form k ≡ true
  pub sound : all_sound (records_of k b.lines) ≡ true
  pub step : commit_step h (records_of k b.lines) (row_of k h.start b.defaults) (lock_of k b.lines) (with_start h.start (records_of k b.lines)) ≡ Accepted

pub commit-passed : (h : CommitTerms) (b : Box) (k : Key) → commit_key h b k ≡ Accepted → CommitPassed h b k
unfolding commit_key
commit-passed h b k p =
    let p₁ = then-right (need (key_form k) 1) _ p in
    record {
      key = need-true _ _ (then-left _ _ p);
      sound = need-true _ _ (then-left _ _ p₁);
      step = then-right (need (all_sound (records_of k b.lines)) 9) _ p₁;
    }

-- either the key has its record already, and nothing changes; or its own lock stands, and is committed
pub data CommitWay (h : CommitTerms) (b : Box) (k : Key) : Type 0 where
  commit_replay : (w : Record) → with_start h.start (records_of k b.lines) ≡ some w → eq_kind w.kind Rollback ≡ false → w.commit ≡ h.commit
      → lock_at h.start (lock_of k b.lines) ≡ false → put_has_row w.kind (row_of k h.start b.defaults) ≡ true → apply_commit h k b ≡ b → CommitWay h b k
  commit_first : (l : Lock) → with_start h.start (records_of k b.lines) ≡ none → lock_of k b.lines ≡ some l → l.txn ≡ h.txn → l.start ≡ h.start
      → all_below h.commit (records_of k b.lines) ≡ true → kind_ready l.kind (row_of k h.start b.defaults) ≡ true → apply_commit h k b ≡ committed h k l b → CommitWay h b k

module _ (h : CommitTerms) (b : Box) (k : Key) where
  replayed : (w : Record) → with_start h.start (records_of k b.lines) ≡ some w
      → commit_step h (records_of k b.lines) (row_of k h.start b.defaults) (lock_of k b.lines) (some w) ≡ Accepted → CommitWay h b k
  unfolding commit_step apply_commit commit_to
  replayed w e p =
      let p₁ = then-right (need (not (eq_kind w.kind Rollback)) 8) _ p in
      let q : not (lock_at h.start (lock_of k b.lines)) && put_has_row w.kind (row_of k h.start b.defaults) ≡ true = need-true _ _ (then-right (need (eqb w.commit h.commit) 8) _ p₁) in
      commit_replay w e (not-true _ (need-true _ _ (then-left _ _ p))) (eqb-true _ _ (need-true _ _ (then-left _ _ p₁)))
      (not-true _ (and_left _ _ q)) (and_right (not (lock_at h.start (lock_of k b.lines))) _ q) (rw e)

  firsts : (l : Lock) → with_start h.start (records_of k b.lines) ≡ none → lock_of k b.lines ≡ some l
      → commit_lock h (records_of k b.lines) (row_of k h.start b.defaults) (some l) ≡ Accepted → CommitWay h b k
  unfolding commit_lock apply_commit commit_to
  firsts l e f p =
      let o : owns h.txn h.start l ≡ true = own-true _ _ (then-left _ _ p) in
      let p₁ = then-right (need_own (owns h.txn h.start l) (holder_of l)) _ p in
      commit_first l e f (eqb-true _ _ (and_left _ _ o)) (eqb-true _ _ (and_right (eqb l.txn h.txn) _ o)) (need-true _ _ (then-left _ _ p₁))
      (need-true _ _ (then-right (need (all_below h.commit (records_of k b.lines)) 8) _ p₁)) (rw (e, f))

  pub commit-way : commit_key h b k ≡ Accepted → CommitWay h b k
  unfolding commit_step commit_lock
  commit-way p = go (with_start h.start (records_of k b.lines)) refl (lock_of k b.lines) refl (commit-passed h b k p).step
    where
      go : (f : Option Record) → with_start h.start (records_of k b.lines) ≡ f → (o : Option Lock) → lock_of k b.lines ≡ o
          → commit_step h (records_of k b.lines) (row_of k h.start b.defaults) (lock_of k b.lines) f ≡ Accepted → CommitWay h b k
      go (some w) e o g q = replayed w e q
      go none e none g q = let z : No 8 ≡ Accepted = ap (commit_lock h (records_of k b.lines) (row_of k h.start b.defaults)) (sym g) ∙ q in absurd (never z)
        where
          never : No 8 ≡ Accepted → ⊥
          never z = let y : ◌≡◌ {A = ℕ} 0 1 = cc in omega arith
      go none e (some l) g q = firsts l e g (ap (commit_lock h (records_of k b.lines) (row_of k h.start b.defaults)) (sym g) ∙ q)

-- ---- what a key's commit makes of the box

pub commit-old : (h : CommitTerms) (k : Key) (b : Box) (w : Record) → with_start h.start (records_of k b.lines) ≡ some w → apply_commit h k b ≡ b
unfolding apply_commit commit_to
commit-old h k b w e = rw e

-- ---- other keys, and the rows of every key

pub commit-only : (h : CommitTerms) (t : ℕ) → batch.Only (λ (k : Key). k) t (apply_commit h)
unfolding apply_commit commit_to
commit-only h t k b i a = go (with_start h.start (records_of k b.lines)) (lock_of k b.lines)
  where
    go : (f : Option Record) (o : Option Lock) → Same b (commit_to h.commit b k f o) i t
    go (some w) o = same_refl b i t
    go none none = same_refl b i t
    go none (some l) = same-replace b i t k (record { key = k; line = Finished (record_for l.start h.commit l.kind) }) a a

pub commit-depends : (h : CommitTerms) → batch.Depends (λ (k : Key). k) h.start (commit_key h)
unfolding commit_key
commit-depends h b c k v = rw (v.records, v.lock, v.row)

-- ---- its own key: the record has come, and the lock has gone

module _ (h : CommitTerms) (k : Key) (l : Lock) (b : Box) (o : in_order b ≡ true) where
  pub committed-records : all_below h.commit (records_of k b.lines) ≡ true → records_of k (committed h k l b).lines ≡ records_of k b.lines ++ (record_for l.start h.commit l.kind ∷ [])
  committed-records a =
      records-new k (record_for l.start h.commit l.kind) (drop_lock k b.lines) (ordered-drop_lock k b.lines (order-lines b o))
      ∙ ap (insert_by stamp_before (record_for l.start h.commit l.kind)) (records-drop_lock k k b.lines)
      ∙ insert-last (record_for l.start h.commit l.kind) (records_of k b.lines) a

  pub committed-lock : lock_of k (committed h k l b).lines ≡ none
  committed-lock = lock-record k k (record_for l.start h.commit l.kind) (drop_lock k b.lines) ∙ lock-gone k b.lines (order-lines b o)

  pub committed-order : all_below h.commit (records_of k b.lines) ≡ true → in_order (committed h k l b) ≡ true
  committed-order a =
      in_order_lem _ _ (ordered-record k (record_for l.start h.commit l.kind) (drop_lock k b.lines) (ap (stamped_at h.commit) (records-drop_lock k k b.lines) ∙ below-stamped h.commit (records_of k b.lines) a)
      (ordered-drop_lock k b.lines (order-lines b o))) (order-defaults b o)

pub commit-order : (h : CommitTerms) (k : Key) (b : Box) → commit_key h b k ≡ Accepted → in_order b ≡ true → in_order (apply_commit h k b) ≡ true
commit-order h k b p o = go (commit-way h b k p)
  where
    go : CommitWay h b k → in_order (apply_commit h k b) ≡ true
    go (commit_replay w e n c a r q) = rw q o
    go (commit_first l e f t s a r q) = rw q (committed-order h k l b o a)

-- ---- room: a line replaces a line, and live bytes fall by the primary

pub commit-load : (h : CommitTerms) (k : Key) (b : Box) → plus (load_of b) (commit_adds h b k) ≡ plus (commit_frees h b k) (load_of (apply_commit h k b))
unfolding apply_commit commit_to commit_adds commit_frees if_new if_locked of_lock
commit-load h k b = go (with_start h.start (records_of k b.lines)) (lock_of k b.lines) refl
  where
    go : (f : Option Record) (o : Option Lock) → lock_of k b.lines ≡ o → plus (load_of b) (if_new f (if_locked o (record_load k))) ≡ plus (if_new f (of_lock k o)) (load_of (commit_to h.commit b k f o))
    go (some w) o e = plus_none (load_of b) ∙ sym (none-plus (load_of b))
    go none none e = plus_none (load_of b) ∙ sym (none-plus (load_of b))
    go none (some l) e =
        let x : KeyLine = record { key = k; line = Finished (record_for l.start h.commit l.kind) } in
        let d = load_fields (ap (λ (o : Option Lock). plus (of_lock k o) (lines_load (drop_lock k b.lines))) (sym e) ∙ lines-drop_lock k b.lines) in
        let i = load_fields (lines-insert x (drop_lock k b.lines)) in
        let p = load_fields (load-parts b.lines b.defaults) in
        let q = load_fields (load-parts (insert_line x (drop_lock k b.lines)) b.defaults) in
        load-eq (plus (load_of b) (record_load k)) (plus (of_lock k (some l)) (load_of (committed h k l b))) (omega arith)

pub commit-less : (h : CommitTerms) (k : Key) (b : Box) → AtMost (load_of (apply_commit h k b)) (load_of b)
unfolding commit_adds commit_frees if_new if_locked of_lock
commit-less h k b = at-most-freed (load_of b) (commit_adds h b k) (commit_frees h b k) (load_of (apply_commit h k b)) (commit-load h k b) (go (with_start h.start (records_of k b.lines)) (lock_of k b.lines))
  where
    go : (f : Option Record) (o : Option Lock) → AtMost (if_new f (if_locked o (record_load k))) (if_new f (of_lock k o))
    go (some w) o = omega arith
    go none none = omega arith
    go none (some l) = omega arith

pub commits-less : (h : CommitTerms) (ks : List Key) (b : Box) → AtMost (load_of (apply_commits h ks b)) (load_of b)
unfolding apply_commits
commits-less h [] b = at-most-refl (load_of b)
commits-less h (k ∷ ks) b = at-most-trans (commits-less h ks (apply_commit h k b)) (commit-less h k b)

pub commits-room : (h : CommitTerms) (ks : List Key) (b : Box) → room_for b ≡ true → room_for (apply_commits h ks b) ≡ true
unfolding room_for
commits-room h ks b r = fits-less (load_of (apply_commits h ks b)) (load_of b) (commits-less h ks b) r

-- ---- the batch

pub commit_keys-all : (h : CommitTerms) (b : Box) (ks : List Key) → commit_keys h b ks ≡ batch.check_all (commit_key h) b ks
unfolding commit_keys batch.check_all
commit_keys-all h b [] = refl
commit_keys-all h b (k ∷ ks) = rw (commit_keys-all h b ks)

pub apply_commits-all : (h : CommitTerms) (ks : List Key) (b : Box) → apply_commits h ks b ≡ batch.apply_all (apply_commit h) ks b
unfolding apply_commits batch.apply_all
apply_commits-all h [] b = refl
apply_commits-all h (k ∷ ks) b = apply_commits-all h ks (apply_commit h k b)

module _ (h : CommitTerms) where
  pub commit-still : (k : Key) (ks : List Key) (b : Box) → ascend (λ k. k) (k ∷ ks) ≡ true → commit_keys h b (k ∷ ks) ≡ Accepted → commit_keys h (apply_commit h k b) ks ≡ Accepted
  commit-still k ks b a p =
      commit_keys-all h (apply_commit h k b) ks
      ∙ batch.still-pass (λ (k : Key). k) h.start (commit_key h) (commit-depends h) (apply_commit h) (commit-only h h.start) k ks b a (sym (commit_keys-all h b (k ∷ ks)) ∙ p)

  pub commits-log : (P : Box → List Key → Type 0) → ((k : Key) (b : Box) (done : List Key) → commit_key h b k ≡ Accepted → P b done → P (apply_commit h k b) (k ∷ done))
      → (ks : List Key) (b : Box) (done : List Key) → ascend (λ k. k) ks ≡ true → commit_keys h b ks ≡ Accepted → P b done → P (apply_commits h ks b) (batch.onto ks done)
  commits-log P step ks b done a p v =
      rw (apply_commits-all h ks b) (batch.batch-log (λ (k : Key). k) h.start (commit_key h) (commit-depends h) (apply_commit h) (commit-only h h.start) P step ks b done a (sym (commit_keys-all h b ks) ∙ p) v)

  pub commits-keep : (P : Box → Type 0) → ((k : Key) (b : Box) → commit_key h b k ≡ Accepted → P b → P (apply_commit h k b))
      → (ks : List Key) (b : Box) → ascend (λ k. k) ks ≡ true → commit_keys h b ks ≡ Accepted → P b → P (apply_commits h ks b)
  commits-keep P step ks b a p v = commits-log (λ c done. P c) (λ k c done. step k c) ks b [] a p v

  pub commits-order : (ks : List Key) (b : Box) → ascend (λ k. k) ks ≡ true → commit_keys h b ks ≡ Accepted → in_order b ≡ true → in_order (apply_commits h ks b) ≡ true
  commits-order = commits-keep (λ b. in_order b ≡ true) (commit-order h)

  pub commits-other : (t : ℕ) (i : Key) (ks : List Key) (b : Box) → Apart (λ k. k) i ks → Same b (apply_commits h ks b) i t
  commits-other t i ks b f = rw (apply_commits-all h ks b) (batch.batch-other (λ (k : Key). k) t (apply_commit h) (commit-only h t) i ks b f)
