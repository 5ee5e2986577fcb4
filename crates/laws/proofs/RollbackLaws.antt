-- One key of a rollback, and the batch: what its steps say where they pass, what it leaves of other keys, what stands at its own key after
-- it, that it keeps the order, and the room that it needs. Assumes nothing.
use Prim.Native.Nat.{ℕ}
use native.Mathlib.Omega.{arith}
use mathlib.Core.Path.{◌≡◌, refl, ap, sym, ◌∙◌}
use mathlib.Core.Bool.{true, false, ◌&&◌, ◌||◌}
use mathlib.Core.List.{List, [], ◌∷◌}
use mathlib.Core.Option.{Option, none, some}
use lib.Dec.{eqb}
use borrow.Author.Tests.{eqb-true}
use Rattle.forms.specs.Key.{Key, key_form}
use Rattle.forms.specs.Row.{Row}
use Rattle.forms.specs.Readers.{is_some}
use Rattle.forms.specs.Batch.{ascend}
use Rattle.rules.specs.Answers.{Accepted, ◌▸◌, need, need_own}
use Rattle.rules.specs.declared.records.Kind.TheVariants.{Rollback}
use Rattle.rules.specs.declared.records.Record.{Record}
use Rattle.rules.specs.declared.room.Load.{Load}
use Rattle.rules.specs.Box.{Box, Lock, Finished, KeyLine, holder_of, records_of, lock_of, row_of, eq_kind, insert_by, insert_line, drop_lock, drop_row, in_order}
use Rattle.rules.specs.Room.{load_of}
use Rattle.rules.specs.Calls.{owns, lock_at, kind_ready, stamped_at, record_for}
use Rattle.rules.specs.Commit.{with_start}
use Rattle.rules.specs.Rollback.{rollback_records, rollback_lock, rollback_step, rollback_key, rollback_keys, rollback_to, apply_rollback, apply_rollbacks}
use Rattle.laws.specs.Adds.{plus, sum_loads, record_load, of_lock, of_row, if_new, rollback_adds, rollback_frees}
use Rattle.laws.proofs.StepLaws.{then-left, then-right, need-true, own-true, and_left, and_right, not-true, or-false-left, or-false-right, is_none, none-there}
use Rattle.laws.proofs.BoxOrder.{ordered-record, ordered-drop_lock, ordered-drop_row, order-lines, order-defaults, in_order_lem}
use Rattle.laws.proofs.KeyLaws.{stamp_before, records-new, records-drop_lock, lock-record, lock-gone, row-gone}
use Rattle.laws.proofs.RecordLaws.{eq_kind-true, rollback-started, stamped-new}
use Rattle.laws.proofs.FrameLaws.{Same, same_refl, same-replace, same-drop_row, same_parts}
use Rattle.laws.proofs.LoadLaws.{load-eq, load_fields, plus_none, none-plus, load-parts, lines-insert, lines-drop_lock, defaults-drop_row, batch-load}
use Rattle.laws.proofs.BatchLaws as batch

-- the box where a key's start is rolled back
abbrev pub rolled_back : ℕ → Key → Box → Box
rolled_back start k b = record { lines = insert_line (record { key = k; line = Finished (record_for start start Rollback) }) (drop_lock k b.lines); defaults = drop_row k start b.defaults }

-- ---- what the steps of a key say where they pass

pub record RollbackPassed (txn start : ℕ) (b : Box) (k : Key) : Type 0 where
  pub key : key_form k ≡ true
  pub records : rollback_records start (records_of k b.lines) ≡ Accepted
  pub step : rollback_step txn start (row_of k start b.defaults) (lock_of k b.lines) (stamped_at start (records_of k b.lines)) ≡ Accepted

pub rollback-passed : (txn start : ℕ) (b : Box) (k : Key) → rollback_key txn start b k ≡ Accepted → RollbackPassed txn start b k
unfolding rollback_key
rollback-passed txn start b k p =
    let p₁ = then-right (need (key_form k) 1) _ p in
    record {
      key = need-true _ _ (then-left _ _ p);
      records = then-left _ _ p₁;
      step = then-right (rollback_records start (records_of k b.lines)) _ p₁;
    }

-- what is known of the key's lock and row where they may go
pub data RollbackLock (txn start : ℕ) (stored : Option Row) : Option Lock → Type 0 where
  lock_free : stored ≡ none → RollbackLock txn start stored none
  lock_own : (l : Lock) → l.txn ≡ txn → l.start ≡ start → kind_ready l.kind stored ≡ true → RollbackLock txn start stored (some l)

pub rollback-lock : (txn start : ℕ) (stored : Option Row) (o : Option Lock) → rollback_lock txn start stored o ≡ Accepted → RollbackLock txn start stored o
unfolding rollback_lock
rollback-lock txn start stored none p = lock_free (none-there stored (need-true _ _ p))
rollback-lock txn start stored (some l) p =
    let o : owns txn start l ≡ true = own-true _ _ (then-left _ _ p) in
    lock_own l (eqb-true _ _ (and_left _ _ o)) (eqb-true _ _ (and_right (eqb l.txn txn) _ o)) (need-true _ _ (then-right (need_own (owns txn start l) (holder_of l)) _ p))

-- either the key has its Rollback already, and nothing changes; or its lock and row go, and the Rollback comes
pub data RollbackWay (txn start : ℕ) (b : Box) (k : Key) : Type 0 where
  rollback_replay : (w : Record) → stamped_at start (records_of k b.lines) ≡ some w → w.kind ≡ Rollback → w.start ≡ start
      → lock_at start (lock_of k b.lines) ≡ false → row_of k start b.defaults ≡ none → apply_rollback start k b ≡ b → RollbackWay txn start b k
  rollback_first : stamped_at start (records_of k b.lines) ≡ none → with_start start (records_of k b.lines) ≡ none
      → RollbackLock txn start (row_of k start b.defaults) (lock_of k b.lines) → apply_rollback start k b ≡ rolled_back start k b → RollbackWay txn start b k

module _ (txn start : ℕ) (b : Box) (k : Key) where
  replayed : (w : Record) → stamped_at start (records_of k b.lines) ≡ some w
      → rollback_step txn start (row_of k start b.defaults) (lock_of k b.lines) (some w) ≡ Accepted → RollbackWay txn start b k
  unfolding rollback_step apply_rollback rollback_to
  replayed w e p =
      let t : eq_kind w.kind Rollback && eqb w.start start ≡ true = need-true _ _ (then-left _ _ p) in
      let n : lock_at start (lock_of k b.lines) || is_some (row_of k start b.defaults) ≡ false = not-true _ (need-true _ _ (then-right (need (eq_kind w.kind Rollback && eqb w.start start) 9) _ p)) in
      rollback_replay w e (eq_kind-true _ _ (and_left _ _ t)) (eqb-true _ _ (and_right (eq_kind w.kind Rollback) _ t))
      (or-false-left _ _ n) (is_none _ (or-false-right (lock_at start (lock_of k b.lines)) _ n)) (rw e)

  pub rollback-way : rollback_key txn start b k ≡ Accepted → RollbackWay txn start b k
  unfolding rollback_step apply_rollback rollback_to
  rollback-way p = go (stamped_at start (records_of k b.lines)) refl (rollback-passed txn start b k p).step
    where
      go : (f : Option Record) → stamped_at start (records_of k b.lines) ≡ f → rollback_step txn start (row_of k start b.defaults) (lock_of k b.lines) f ≡ Accepted → RollbackWay txn start b k
      go (some w) e q = replayed w e q
      go none e q = rollback_first e (rollback-started start (records_of k b.lines) (rollback-passed txn start b k p).records e) (rollback-lock txn start (row_of k start b.defaults) (lock_of k b.lines) q) (rw e)

-- ---- what a key's rollback makes of the box

pub rollback-old : (start : ℕ) (k : Key) (b : Box) (w : Record) → stamped_at start (records_of k b.lines) ≡ some w → apply_rollback start k b ≡ b
unfolding apply_rollback rollback_to
rollback-old start k b w e = rw e

-- "Lock and its row go, a Rollback record comes"
pub rollback-new : (start : ℕ) (k : Key) (b : Box) → stamped_at start (records_of k b.lines) ≡ none → apply_rollback start k b ≡ rolled_back start k b
unfolding apply_rollback rollback_to
rollback-new start k b e = rw e

-- ---- other keys, and other starts

pub rollback-only : (start t : ℕ) → batch.Only (λ (k : Key). k) t (apply_rollback start)
unfolding apply_rollback rollback_to
rollback-only start t k b i a = go (stamped_at start (records_of k b.lines))
  where
    x : KeyLine
    x = record { key = k; line = Finished (record_for start start Rollback) }

    go : (f : Option Record) → Same b (rollback_to start b k f) i t
    go (some w) = same_refl b i t
    go none =
        same_parts b (record { lines = insert_line x (drop_lock k b.lines); defaults = b.defaults }) (record { lines = b.lines; defaults = drop_row k start b.defaults }) i t
        (same-replace b i t k x a a) (same-drop_row b i t k start a)

pub rollback-depends : (txn start : ℕ) → batch.Depends (λ (k : Key). k) start (rollback_key txn start)
unfolding rollback_key
rollback-depends txn start b c k v = rw (v.records, v.lock, v.row)

-- ---- its own key: the Rollback has come, lock and row have gone

module _ (start : ℕ) (k : Key) (b : Box) (o : in_order b ≡ true) where
  pub rolled_back-records : records_of k (rolled_back start k b).lines ≡ insert_by stamp_before (record_for start start Rollback) (records_of k b.lines)
  rolled_back-records =
      records-new k (record_for start start Rollback) (drop_lock k b.lines) (ordered-drop_lock k b.lines (order-lines b o))
      ∙ ap (insert_by stamp_before (record_for start start Rollback)) (records-drop_lock k k b.lines)

  pub rolled_back-stamped : stamped_at start (records_of k b.lines) ≡ none → stamped_at start (records_of k (rolled_back start k b).lines) ≡ some (record_for start start Rollback)
  rolled_back-stamped n = ap (stamped_at start) rolled_back-records ∙ stamped-new (record_for start start Rollback) (records_of k b.lines) n

  pub rolled_back-lock : lock_of k (rolled_back start k b).lines ≡ none
  rolled_back-lock = lock-record k k (record_for start start Rollback) (drop_lock k b.lines) ∙ lock-gone k b.lines (order-lines b o)

  pub rolled_back-row : row_of k start (rolled_back start k b).defaults ≡ none
  rolled_back-row = row-gone k start b.defaults

  pub rolled_back-order : stamped_at start (records_of k b.lines) ≡ none → in_order (rolled_back start k b) ≡ true
  rolled_back-order n =
      in_order_lem _ _ (ordered-record k (record_for start start Rollback) (drop_lock k b.lines) (ap (stamped_at start) (records-drop_lock k k b.lines) ∙ n) (ordered-drop_lock k b.lines (order-lines b o)))
      (ordered-drop_row k start b.defaults (order-defaults b o))

-- with or without the steps
pub rollback-order : (start : ℕ) (k : Key) (b : Box) → in_order b ≡ true → in_order (apply_rollback start k b) ≡ true
unfolding apply_rollback rollback_to
rollback-order start k b o = go (stamped_at start (records_of k b.lines)) refl
  where
    go : (f : Option Record) → stamped_at start (records_of k b.lines) ≡ f → in_order (rollback_to start b k f) ≡ true
    go (some w) e = o
    go none e = rolled_back-order start k b o e

-- ---- room

pub rollback-load : (start : ℕ) (k : Key) (b : Box) → in_order b ≡ true → plus (load_of b) (rollback_adds start b k) ≡ plus (rollback_frees start b k) (load_of (apply_rollback start k b))
unfolding apply_rollback rollback_to rollback_adds rollback_frees if_new
rollback-load start k b o = go (stamped_at start (records_of k b.lines))
  where
    x : KeyLine
    x = record { key = k; line = Finished (record_for start start Rollback) }

    freed : Load
    freed = plus (of_lock k (lock_of k b.lines)) (of_row k (row_of k start b.defaults))

    go : (f : Option Record) → plus (load_of b) (if_new f (record_load k)) ≡ plus (if_new f freed) (load_of (rollback_to start b k f))
    go (some w) = plus_none (load_of b) ∙ sym (none-plus (load_of b))
    go none =
        let d = load_fields (lines-drop_lock k b.lines) in
        let r = load_fields (defaults-drop_row k start b.defaults (order-defaults b o)) in
        let i = load_fields (lines-insert x (drop_lock k b.lines)) in
        let p = load_fields (load-parts b.lines b.defaults) in
        let q = load_fields (load-parts (insert_line x (drop_lock k b.lines)) (drop_row k start b.defaults)) in
        load-eq (plus (load_of b) (record_load k)) (plus freed (load_of (rolled_back start k b))) (omega arith)

rollback_adds-same : (start : ℕ) (b c : Box) (k : Key) → Same b c k start → rollback_adds start c k ≡ rollback_adds start b k
unfolding rollback_adds
rollback_adds-same start b c k v = rw v.records

rollback_frees-same : (start : ℕ) (b c : Box) (k : Key) → Same b c k start → rollback_frees start c k ≡ rollback_frees start b k
unfolding rollback_frees
rollback_frees-same start b c k v = rw (v.records, v.lock, v.row)

-- ---- the batch

pub rollback_keys-all : (txn start : ℕ) (b : Box) (ks : List Key) → rollback_keys txn start b ks ≡ batch.check_all (rollback_key txn start) b ks
unfolding rollback_keys batch.check_all
rollback_keys-all txn start b [] = refl
rollback_keys-all txn start b (k ∷ ks) = rw (rollback_keys-all txn start b ks)

pub apply_rollbacks-all : (start : ℕ) (ks : List Key) (b : Box) → apply_rollbacks start ks b ≡ batch.apply_all (apply_rollback start) ks b
unfolding apply_rollbacks batch.apply_all
apply_rollbacks-all start [] b = refl
apply_rollbacks-all start (k ∷ ks) b = apply_rollbacks-all start ks (apply_rollback start k b)

module _ (txn start : ℕ) where
  pub rollback-still : (k : Key) (ks : List Key) (b : Box) → ascend (λ k. k) (k ∷ ks) ≡ true → rollback_keys txn start b (k ∷ ks) ≡ Accepted → rollback_keys txn start (apply_rollback start k b) ks ≡ Accepted
  rollback-still k ks b a p =
      rollback_keys-all txn start (apply_rollback start k b) ks
      ∙ batch.still-pass (λ (k : Key). k) start (rollback_key txn start) (rollback-depends txn start) (apply_rollback start) (rollback-only start start) k ks b a (sym (rollback_keys-all txn start b (k ∷ ks)) ∙ p)

  pub rollbacks-log : (P : Box → List Key → Type 0) → ((k : Key) (b : Box) (done : List Key) → rollback_key txn start b k ≡ Accepted → P b done → P (apply_rollback start k b) (k ∷ done))
      → (ks : List Key) (b : Box) (done : List Key) → ascend (λ k. k) ks ≡ true → rollback_keys txn start b ks ≡ Accepted → P b done → P (apply_rollbacks start ks b) (batch.onto ks done)
  rollbacks-log P step ks b done a p v =
      rw (apply_rollbacks-all start ks b) (batch.batch-log (λ (k : Key). k) start (rollback_key txn start) (rollback-depends txn start) (apply_rollback start) (rollback-only start start) P step ks b done a (sym (rollback_keys-all txn start b ks) ∙ p) v)

  pub rollbacks-keep : (P : Box → Type 0) → ((k : Key) (b : Box) → rollback_key txn start b k ≡ Accepted → P b → P (apply_rollback start k b))
      → (ks : List Key) (b : Box) → ascend (λ k. k) ks ≡ true → rollback_keys txn start b ks ≡ Accepted → P b → P (apply_rollbacks start ks b)
  rollbacks-keep P step ks b a p v = rollbacks-log (λ c done. P c) (λ k c done. step k c) ks b [] a p v

-- the box that the whole batch leaves, from the box before the call
pub rollbacks-load : (start : ℕ) (ks : List Key) (b : Box) → ascend (λ k. k) ks ≡ true → in_order b ≡ true
    → plus (load_of b) (sum_loads (rollback_adds start b) ks) ≡ plus (sum_loads (rollback_frees start b) ks) (load_of (apply_rollbacks start ks b))
unfolding ◌▸◌
rollbacks-load start ks b a o =
    rw (apply_rollbacks-all start ks b)
    (batch-load (λ (k : Key). k) start (λ c k. Accepted) (λ c d k v. refl) (apply_rollback start) (rollback-only start start) (rollback_adds start) (rollback_frees start)
    (rollback_adds-same start) (rollback_frees-same start) (λ c. in_order c ≡ true) (λ k c p. rollback-order start k c) (λ k c p. rollback-load start k c) ks b a (batch.check_all-free ks b) o)
