-- Every accepted entry keeps the box sound, and where it was in order with each lock above the stamps of its key, it stays so.
-- Assumes nothing.
use Prim.Native.Nat.{ℕ, ◌<◌}
use native.Mathlib.Omega.{arith}
use mathlib.Core.Path.{◌≡◌, refl, sym, ap, ◌∙◌}
use mathlib.Core.Bool.{true, false, not, true≢false}
use mathlib.Core.List.{List}
use mathlib.Core.Option.{Option, none, some}
use lib.Dec.{eqb, ltb}
use borrow.Author.Tests.{eq-eqb, ltb-true}
use Rattle.forms.specs.Key.{Key, key_form}
use Rattle.forms.specs.Row.{Row}
use Rattle.forms.specs.Bytes.{eq_bytes}
use Rattle.forms.specs.Batch.{Mutation}
use Rattle.forms.proofs.Orders.{eq_bytes-true}
use Rattle.rules.specs.Answers.{Accepted}
use Rattle.rules.specs.declared.records.Kind.{Kind}
use Rattle.rules.specs.declared.records.Kind.TheVariants.{Put, Delete, Rollback}
use Rattle.rules.specs.declared.records.Record.{Record}
use Rattle.rules.specs.Box.{Box, Lock, Standing, Finished, Default, fresh, before, row_before, ordered, in_order, records_of, lock_of, eq_kind, insert_line, drop_lock, drop_row}
use Rattle.rules.specs.Sound.{sound_record, sound_lock, kind_fits}
use Rattle.rules.specs.Calls.{kind_of, zero_step, all_below, row_argument, kind_ready, record_for}
use Rattle.rules.specs.Restore.{all_good}
use Rattle.rules.specs.Prewrite.{PrewriteTerms, prewrite_terms_step, lock_for, store_if, lock_line, unless_locked, apply_prewrite, prewrite_entry}
use Rattle.rules.specs.declared.terms.CommitTerms.{CommitTerms}
use Rattle.rules.specs.Commit.{commit_terms_step, commit_key, apply_commit}
use Rattle.rules.specs.Rollback.{rollback_terms_step, rollback_key, apply_rollback}
use Rattle.rules.specs.OneStep.{replace_if, apply_step}
use Rattle.laws.proofs.StepLaws.{passed, by-test, then-left, then-right, need-true, and_both}
use Rattle.laws.proofs.Sorted.{all_insert, fewer-good}
use Rattle.laws.proofs.BoxOrder.{drop_lock-fewer, drop_row-fewer, order-lines}
use Rattle.laws.proofs.CommitLaws.{CommitWay, commit_replay, commit_first, commit-passed, commit-way}
use Rattle.laws.proofs.RollbackLaws.{RollbackWay, rollback_replay, rollback_first, rollback-passed, rollback-way}
use Rattle.laws.proofs.KeyLaws.{records-other, lock-other, lock-record, records-drop_lock, lock-drop_lock, lock-gone}
use Rattle.laws.proofs.PrewriteLaws.{prewrite-passed, prewrite-records, prewrite-only, prewrite-lock, prewrite-order}
use Rattle.ledger.specs.Tidy.{good_line, good_row, Sound, Rising}

-- ---- what the calls write is sound

sound-for : (s c : ℕ) (kind : Kind) → not (eqb s 0) ≡ true → kind_fits kind s c ≡ true → sound_record (record_for s c kind) ≡ true
sound-for s c kind z f = and_both _ _ (and_both _ _ (eq-eqb c c refl) z) f

row_fits : (r : Option Row) (s c : ℕ) → ltb s c ≡ true → kind_fits (kind_of r) s c ≡ true
row_fits none s c h = h
row_fits (some r) s c h = h

ready-fits : (kind : Kind) (stored : Option Row) (s c : ℕ) → kind_ready kind stored ≡ true → ltb s c ≡ true → kind_fits kind s c ≡ true
ready-fits Put stored s c r h = h
ready-fits Delete stored s c r h = h
ready-fits Rollback stored s c r h = cc

row-kind : (r : Option Row) → not (eq_kind (kind_of r) Rollback) ≡ true
row-kind none = refl
row-kind (some r) = refl

sound-lock : (floor : ℕ) (h : PrewriteTerms) (r : Option Row) → prewrite_terms_step floor h ≡ Accepted → sound_lock (lock_for h (kind_of r)) ≡ true
unfolding prewrite_terms_step sound_lock
sound-lock floor h r z =
    and_both _ _ (and_both _ _ (and_both _ _ (and_both _ _ (need-true _ _ (then-left _ _ z)) (need-true _ _ (then-left _ _ (then-right _ _ z))))
    (need-true _ _ (then-left _ _ (then-right _ _ (then-right _ _ (then-right _ _ z)))))) (row-kind r)) (need-true _ _ (then-left _ _ (then-right _ _ (then-right _ _ z))))

start-there : (floor : ℕ) (h : PrewriteTerms) → prewrite_terms_step floor h ≡ Accepted → not (eqb h.start 0) ≡ true
unfolding prewrite_terms_step
start-there floor h z = search passed

pub start-some : (floor : ℕ) (h : CommitTerms) → commit_terms_step floor h ≡ Accepted → not (eqb h.start 0) ≡ true
unfolding commit_terms_step zero_step
start-some floor h z = search passed

pub commit-above : (floor : ℕ) (h : CommitTerms) → commit_terms_step floor h ≡ Accepted → ltb h.start h.commit ≡ true
unfolding commit_terms_step
commit-above floor h z = search passed

-- a start that is let pass is above the floor, and so is the stamp that the call writes
pub prewrite-floor : (floor : ℕ) (h : PrewriteTerms) → prewrite_terms_step floor h ≡ Accepted → floor < h.start
unfolding prewrite_terms_step
prewrite-floor floor h z = ltb-true floor h.start (need-true _ _ (then-right _ _ (then-right _ _ (then-right _ _ (then-right _ _ z)))))

pub commit-floor : (floor : ℕ) (h : CommitTerms) → commit_terms_step floor h ≡ Accepted → floor < h.start
unfolding commit_terms_step
commit-floor floor h z = ltb-true floor h.start (need-true _ _ (then-right _ _ (then-right _ _ z)))

pub rollback-floor : (floor txn s : ℕ) → rollback_terms_step floor txn s ≡ Accepted → floor < s
unfolding rollback_terms_step
rollback-floor floor txn s z = ltb-true floor s (need-true _ _ (then-right _ _ z))

stamp-floor : (floor : ℕ) (h : CommitTerms) → commit_terms_step floor h ≡ Accepted → floor < h.commit
stamp-floor floor h z = omega (arith, commit-floor floor h z, ltb-true h.start h.commit (commit-above floor h z))

-- ---- a lock comes

store-good : (floor : ℕ) (h : PrewriteTerms) (k : Key) (r : Option Row) (ds : List Default) → prewrite_terms_step floor h ≡ Accepted → key_form k ≡ true → row_argument r ≡ true → all_good good_row ds ≡ true
    → all_good good_row (store_if k h.start r ds) ≡ true
unfolding store_if
store-good floor h k none ds z f a g = g
store-good floor h k (some r) ds z f a g = all_insert row_before (record { key = k; start = h.start; row = r }) good_row ds (and_both _ _ (and_both _ _ f (start-there floor h z)) a) g

module _ (h : PrewriteTerms) (m : Mutation) (b : Box) (p : prewrite_entry h b m ≡ Accepted) where
  pub prewrite-sound : (floor : ℕ) → prewrite_terms_step floor h ≡ Accepted → Sound b → Sound (apply_prewrite h m b)
  unfolding apply_prewrite unless_locked lock_line
  prewrite-sound floor z v = go (lock_of m.key b.lines)
    where
      go : (o : Option Lock) → Sound (unless_locked o (lock_line h m b) b)
      go none = record {
        lines = all_insert before (record { key = m.key; line = Standing (lock_for h (kind_of m.row)) }) good_line b.lines
            (and_both _ _ (prewrite-passed h b m p).key (sound-lock floor h m.row z)) v.lines;
        rows = store-good floor h m.key m.row b.defaults z (prewrite-passed h b m p).key (prewrite-passed h b m p).row v.rows;
      }
      go (some l) = v

  pub prewrite-rising : Rising b → Rising (apply_prewrite h m b)
  prewrite-rising v = record { order = prewrite-order h m b p v.order; above = above }
    where
      above : (k : Key) (l : Lock) → lock_of k (apply_prewrite h m b).lines ≡ some l → all_below l.start (records_of k (apply_prewrite h m b).lines) ≡ true
      above k l e =
          let own : eq_bytes k m.key ≡ true → l ≡ lock_for h (kind_of m.row) = λ q. cc (e, ap (λ (i : Key). lock_of i (apply_prewrite h m b).lines) (eq_bytes-true k m.key q), prewrite-lock h b m p) in
          rw (prewrite-records h m b k) (by-test (λ t. all_below l.start (records_of k b.lines) ≡ true) (eq_bytes k m.key)
          (λ q. rw (own q, eq_bytes-true k m.key q) (prewrite-passed h b m p).below) (λ q. v.above k l (sym (prewrite-only h h.start m b k q).lock ∙ e)))

-- ---- a record comes in the place of the key's lock, or nothing changes

abbrev closed : Box → Key → Record → List Default → Box
closed b k w ds = record { lines = insert_line (record { key = k; line = Finished w }) (drop_lock k b.lines); defaults = ds }

-- the record is stamped above the floor
pub data RecordSlot (floor : ℕ) (b : Box) (k : Key) (c : Box) : Type 0 where
  as_before : c ≡ b → RecordSlot floor b k c
  with_record : (w : Record) (ds : List Default) → c ≡ closed b k w ds → key_form k ≡ true → sound_record w ≡ true → (all_good good_row b.defaults ≡ true → all_good good_row ds ≡ true) → floor < w.stamp → RecordSlot floor b k c

module _ (floor : ℕ) (b c : Box) (k : Key) where
  pub ended-sound : RecordSlot floor b k c → Sound b → Sound c
  ended-sound (as_before e) v = rw e v
  ended-sound (with_record w ds e f s g u) v =
      rw e record {
        lines = all_insert before (record { key = k; line = Finished w }) good_line (drop_lock k b.lines) (and_both _ _ f s) (fewer-good good_line (drop_lock-fewer k b.lines) v.lines);
        rows = g v.rows;
      }

  pub ended-rising : RecordSlot floor b k c → in_order c ≡ true → Rising b → Rising c
  ended-rising (as_before e) o v = rw e v
  ended-rising (with_record w ds e f s g u) o v = record { order = o; above = rw e above }
    where
      above : (i : Key) (l : Lock) → lock_of i (closed b k w ds).lines ≡ some l → all_below l.start (records_of i (closed b k w ds).lines) ≡ true
      above i l e =
          let gone : i ≡ k → lock_of i (closed b k w ds).lines ≡ none = λ q. rw q (lock-record k k w (drop_lock k b.lines) ∙ lock-gone k b.lines (order-lines b v.order)) in
          let locks : eq_bytes i k ≡ false → lock_of i (closed b k w ds).lines ≡ lock_of i b.lines = λ q. lock-other i (record { key = k; line = Finished w }) (drop_lock k b.lines) q ∙ lock-drop_lock i k b.lines q in
          by-test (λ t. all_below l.start (records_of i (closed b k w ds).lines) ≡ true) (eq_bytes i k) (λ q. absurd (true≢false (cc (e, gone (eq_bytes-true i k q)))))
          (λ q. rw (records-other i (record { key = k; line = Finished w }) (drop_lock k b.lines) q ∙ records-drop_lock i k b.lines) (v.above i l (sym (locks q) ∙ e)))

pub commit-ended : (floor : ℕ) (h : CommitTerms) (k : Key) (b : Box) → commit_terms_step floor h ≡ Accepted → commit_key h b k ≡ Accepted → RecordSlot floor b k (apply_commit h k b)
commit-ended floor h k b z p = go (commit-way h b k p)
  where
    go : CommitWay h b k → RecordSlot floor b k (apply_commit h k b)
    go (commit_replay w e n c a r q) = as_before q
    go (commit_first l e f t s a r q) =
        with_record (record_for l.start h.commit l.kind) b.defaults q (commit-passed h b k p).key
        (rw s (sound-for h.start h.commit l.kind (start-some floor h z) (ready-fits l.kind _ _ _ r (commit-above floor h z)))) (λ g. g) (stamp-floor floor h z)

pub rollback-ended : (floor txn s : ℕ) (k : Key) (b : Box) → rollback_terms_step floor txn s ≡ Accepted → rollback_key txn s b k ≡ Accepted → RecordSlot floor b k (apply_rollback s k b)
unfolding rollback_terms_step zero_step
rollback-ended floor txn s k b z p = go (rollback-way txn s b k p)
  where
    go : RollbackWay txn s b k → RecordSlot floor b k (apply_rollback s k b)
    go (rollback_replay w e n c a r q) = as_before q
    go (rollback_first e n o q) =
        with_record (record_for s s Rollback) (drop_row k s b.defaults) q (rollback-passed txn s b k p).key
        (sound-for s s Rollback (need-true _ _ (then-right _ _ (then-left _ _ z))) (eq-eqb s s refl)) (fewer-good good_row (drop_row-fewer k s b.defaults)) (rollback-floor floor txn s z)

replace-good : (k : Key) (s : ℕ) (r : Option Row) (ds : List Default) → key_form k ≡ true → not (eqb s 0) ≡ true → row_argument r ≡ true → all_good good_row ds ≡ true → all_good good_row (replace_if k s r ds) ≡ true
unfolding replace_if
replace-good k s none ds f z a g = g
replace-good k s (some r) ds f z a g =
    all_insert row_before (record { key = k; start = s; row = r }) good_row (drop_row k s ds) (and_both _ _ (and_both _ _ f z) a) (fewer-good good_row (drop_row-fewer k s ds) g)

pub step-ended : (floor : ℕ) (h : CommitTerms) (m : Mutation) (b : Box) → commit_terms_step floor h ≡ Accepted → key_form m.key ≡ true → row_argument m.row ≡ true → RecordSlot floor b m.key (apply_step h m b)
unfolding apply_step
step-ended floor h m b z f a =
    with_record (record_for h.start h.commit (kind_of m.row)) (replace_if m.key h.start m.row b.defaults) refl f
    (sound-for h.start h.commit (kind_of m.row) (start-some floor h z) (row_fits m.row _ _ (commit-above floor h z)))
    (replace-good m.key h.start m.row b.defaults f (start-some floor h z) a) (stamp-floor floor h z)

-- ---- the first box

pub fresh-sound : Sound fresh
unfolding fresh all_good
fresh-sound = record { lines = refl; rows = refl }

pub fresh-rising : Rising fresh
unfolding fresh in_order ordered lock_of
fresh-rising = record { order = refl; above = λ k l e. absurd (true≢false (cc)) }
