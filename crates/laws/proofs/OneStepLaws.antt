-- One entry of a one-step batch, and the batch: what its steps say where they pass, what it leaves of other keys, what stands at its own key
-- after it, that it keeps the order, and the room that it needs. Assumes nothing.
use Prim.Native.Nat.{ℕ}
use native.Mathlib.Omega.{arith}
use mathlib.Core.Path.{◌≡◌, refl, ap, sym, ◌∙◌}
use mathlib.Core.Bool.{true, false, ◌&&◌}
use mathlib.Core.List.{List, [], ◌∷◌, ◌++◌}
use mathlib.Core.Option.{Option, none, some}
use lib.Dec.{eqb}
use borrow.Author.Tests.{eqb-true}
use Rattle.forms.specs.Bytes.{eq_bytes}
use Rattle.forms.specs.Key.{Key}
use Rattle.forms.specs.Row.{Row}
use Rattle.forms.specs.Batch.{Mutation, key_inside, ascend}
use Rattle.rules.specs.Answers.{Answer, Accepted, ◌▸◌, need, need_own}
use Rattle.rules.specs.declared.records.Kind.{Kind}
use Rattle.rules.specs.Box.{Box, Lock, Finished, KeyLine, Default, holder_of, records_of, lock_of, row_of, insert_by, insert_line, insert_default, drop_lock, drop_row, in_order, ordered, row_before}
use Rattle.rules.specs.Room.{load_of, fits, room_for}
use Rattle.rules.specs.Sound.{all_sound}
use Rattle.rules.specs.Calls.{kind_of, owns, all_below, stamped_at, record_for}
use Rattle.rules.specs.declared.terms.CommitTerms.{CommitTerms}
use Rattle.rules.specs.OneStep.{step_lock, step_entry, step_entries, newest_step, replace_if, apply_step, apply_steps}
use Rattle.laws.specs.Adds.{plus, minus, sum_loads, record_load, row_load, of_row, replaced_by, defaults_load, step_adds, step_frees}
use Rattle.laws.proofs.StepLaws.{then-left, then-right, then-both, need-true, own-true, and_left, and_right, and-false}
use Rattle.laws.proofs.BoxOrder.{ordered-record, ordered-drop_lock, ordered-default, ordered-drop_row, order-lines, order-defaults, in_order_lem}
use Rattle.laws.proofs.KeyLaws.{stamp_before, records-new, insert-last, records-drop_lock, lock-record, lock-gone, row_new, row-gone, row_other, row-drop_row}
use Rattle.laws.proofs.RecordLaws.{eq_kind-true, below-stamped}
use Rattle.laws.proofs.FrameLaws.{Same, same-replace, Apart}
use Rattle.laws.proofs.LoadLaws.{load-eq, load_fields, plus_none, none-plus, load-parts, load-left, lines-insert, lines-drop_lock, defaults-insert, defaults-drop_row, batch-load}
use Rattle.laws.proofs.BatchLaws as batch

-- ---- what the steps of an entry say where they pass

-- "per entry, another's lock 7, own lock of other kind 9, unsound record 9, record at or above start 8; then per entry newest at or above
-- commit 8", of one entry
unfoldable pub step_check : CommitTerms → Box → Mutation → Answer
step_check h b m = step_entry h b m ▸ need (all_below h.commit (records_of m.key b.lines)) 8

pub record StepPassed (h : CommitTerms) (b : Box) (m : Mutation) : Type 0 where
  pub lock : step_lock h (kind_of m.row) (lock_of m.key b.lines) ≡ Accepted
  pub sound : all_sound (records_of m.key b.lines) ≡ true
  pub below : all_below h.start (records_of m.key b.lines) ≡ true
  pub newest : all_below h.commit (records_of m.key b.lines) ≡ true

pub step-passed : (h : CommitTerms) (b : Box) (m : Mutation) → step_check h b m ≡ Accepted → StepPassed h b m
unfolding step_check step_entry
step-passed h b m p =
    let e = then-left _ (need (all_below h.commit (records_of m.key b.lines)) 8) p in
    let e₁ = then-right (step_lock h (kind_of m.row) (lock_of m.key b.lines)) _ e in
    record {
      lock = then-left _ _ e;
      sound = need-true _ _ (then-left _ _ e₁);
      below = need-true _ _ (then-right (need (all_sound (records_of m.key b.lines)) 9) _ e₁);
      newest = need-true _ _ (then-right (step_lock h (kind_of m.row) (lock_of m.key b.lines) ▸ need (all_sound (records_of m.key b.lines)) 9 ▸ need (all_below h.start (records_of m.key b.lines)) 8) _ p);
    }

-- a lock that stands is the call's own, and of the entry's kind
pub step-own : (h : CommitTerms) (kind : Kind) (l : Lock) → step_lock h kind (some l) ≡ Accepted → (l.txn ≡ h.txn) × (l.start ≡ h.start) × (l.kind ≡ kind)
unfolding step_lock
step-own h kind l p =
    let o : owns h.txn h.start l ≡ true = own-true _ _ (then-left _ _ p) in
    (eqb-true _ _ (and_left _ _ o), eqb-true _ _ (and_right (eqb l.txn h.txn) _ o), eq_kind-true _ _ (need-true _ _ (then-right (need_own (owns h.txn h.start l) (holder_of l)) _ p)))

-- ---- what an entry makes of the box

pub replace-none : (k : Key) (s : ℕ) (row : Option Row) (ds : List Default) → row ≡ none → replace_if k s row ds ≡ ds
unfolding replace_if
replace-none k s row ds e = rw e

-- "a Put's row is stored and replaces one already stored at this start"
pub replace-some : (k : Key) (s : ℕ) (row : Option Row) (r : Row) (ds : List Default) → row ≡ some r → replace_if k s row ds ≡ insert_default (record { key = k; start = s; row = r }) (drop_row k s ds)
unfolding replace_if
replace-some k s row r ds e = rw e

-- ---- other keys, and other starts

-- a row of another key or start stays
pub replace-other : (i k : Key) (t s : ℕ) (row : Option Row) (ds : List Default) → eq_bytes i k && eqb t s ≡ false → row_of i t (replace_if k s row ds) ≡ row_of i t ds
unfolding replace_if
replace-other i k t s none ds h = refl
replace-other i k t s (some r) ds h = row_other i t (record { key = k; start = s; row = r }) (drop_row k s ds) h ∙ row-drop_row i t k s ds h

pub step-only : (h : CommitTerms) (t : ℕ) → batch.Only key_inside t (apply_step h)
unfolding apply_step
step-only h t m b i a =
    let v = same-replace b i t m.key (record { key = m.key; line = Finished (record_for h.start h.commit (kind_of m.row)) }) a a in
    record { records = v.records; lock = v.lock; row = replace-other i m.key t h.start m.row b.defaults (and-false (eq_bytes i m.key) (eqb t h.start) a) }

pub step-depends : (h : CommitTerms) → batch.Depends key_inside h.start (step_check h)
unfolding step_check step_entry
step-depends h b c m v = rw (v.records, v.lock)

-- ---- its own key: the record has come, the lock has gone, and a Put's row is stored

module _ (h : CommitTerms) (m : Mutation) (b : Box) where
  pub step-lock : in_order b ≡ true → lock_of m.key (apply_step h m b).lines ≡ none
  unfolding apply_step
  step-lock o = lock-record m.key m.key (record_for h.start h.commit (kind_of m.row)) (drop_lock m.key b.lines) ∙ lock-gone m.key b.lines (order-lines b o)

  pub step-records : in_order b ≡ true → all_below h.commit (records_of m.key b.lines) ≡ true
      → records_of m.key (apply_step h m b).lines ≡ records_of m.key b.lines ++ (record_for h.start h.commit (kind_of m.row) ∷ [])
  unfolding apply_step
  step-records o a =
      records-new m.key (record_for h.start h.commit (kind_of m.row)) (drop_lock m.key b.lines) (ordered-drop_lock m.key b.lines (order-lines b o))
      ∙ ap (insert_by stamp_before (record_for h.start h.commit (kind_of m.row))) (records-drop_lock m.key m.key b.lines)
      ∙ insert-last (record_for h.start h.commit (kind_of m.row)) (records_of m.key b.lines) a

  pub step_row : (r : Row) → m.row ≡ some r → row_of m.key h.start (apply_step h m b).defaults ≡ some r
  unfolding apply_step replace_if
  step_row r e = go m.row e
    where
      go : (row : Option Row) → row ≡ some r → row_of m.key h.start (replace_if m.key h.start row b.defaults) ≡ some r
      go none e = cc
      go (some q) e = row_new (record { key = m.key; start = h.start; row = q }) (drop_row m.key h.start b.defaults) (row-gone m.key h.start b.defaults) ∙ e

  pub step-no-row : m.row ≡ none → (apply_step h m b).defaults ≡ b.defaults
  unfolding apply_step replace_if
  step-no-row e = ap (λ (row : Option Row). replace_if m.key h.start row b.defaults) e

  -- ---- the order

  replace-order : (row : Option Row) → ordered row_before b.defaults ≡ true → ordered row_before (replace_if m.key h.start row b.defaults) ≡ true
  unfolding replace_if
  replace-order none o = o
  replace-order (some r) o =
      ordered-default (record { key = m.key; start = h.start; row = r }) (drop_row m.key h.start b.defaults) (row-gone m.key h.start b.defaults) (ordered-drop_row m.key h.start b.defaults o)

  pub step-order : step_check h b m ≡ Accepted → in_order b ≡ true → in_order (apply_step h m b) ≡ true
  unfolding apply_step
  step-order p o =
      in_order_lem _ _
      (ordered-record m.key (record_for h.start h.commit (kind_of m.row)) (drop_lock m.key b.lines)
      (ap (stamped_at h.commit) (records-drop_lock m.key m.key b.lines) ∙ below-stamped h.commit (records_of m.key b.lines) (step-passed h b m p).newest)
      (ordered-drop_lock m.key b.lines (order-lines b o)))
      (replace-order m.row (order-defaults b o))

  -- ---- room

  replace-load : (row : Option Row) → ordered row_before b.defaults ≡ true
      → plus (defaults_load b.defaults) (of_row m.key row) ≡ plus (replaced_by row (of_row m.key (row_of m.key h.start b.defaults))) (defaults_load (replace_if m.key h.start row b.defaults))
  unfolding replace_if replaced_by of_row
  replace-load none o = plus_none (defaults_load b.defaults) ∙ sym (none-plus (defaults_load b.defaults))
  replace-load (some r) o =
      let d = load_fields (defaults-drop_row m.key h.start b.defaults o) in
      let i = load_fields (defaults-insert (record { key = m.key; start = h.start; row = r }) (drop_row m.key h.start b.defaults)) in
      load-eq (plus (defaults_load b.defaults) (row_load m.key r))
      (plus (of_row m.key (row_of m.key h.start b.defaults)) (defaults_load (insert_default (record { key = m.key; start = h.start; row = r }) (drop_row m.key h.start b.defaults)))) (omega arith)

  pub step-load : in_order b ≡ true → plus (load_of b) (step_adds m) ≡ plus (step_frees h b m) (load_of (apply_step h m b))
  unfolding apply_step step_adds step_frees
  step-load o =
      let x : KeyLine = record { key = m.key; line = Finished (record_for h.start h.commit (kind_of m.row)) } in
      let d = load_fields (lines-drop_lock m.key b.lines) in
      let i = load_fields (lines-insert x (drop_lock m.key b.lines)) in
      let r = load_fields (replace-load m.row (order-defaults b o)) in
      let p = load_fields (load-parts b.lines b.defaults) in
      let q = load_fields (load-parts (insert_line x (drop_lock m.key b.lines)) (replace_if m.key h.start m.row b.defaults)) in
      load-eq (plus (load_of b) (plus (record_load m.key) (of_row m.key m.row))) _ (omega arith)

step_frees-same : (h : CommitTerms) (b c : Box) (m : Mutation) → Same b c m.key h.start → step_frees h c m ≡ step_frees h b m
unfolding step_frees
step_frees-same h b c m v = rw (v.lock, v.row)

-- ---- the batch

pub steps-check : (h : CommitTerms) (b : Box) (ms : List Mutation) → step_entries h b ms ≡ Accepted → newest_step h b ms ≡ Accepted → batch.check_all (step_check h) b ms ≡ Accepted
unfolding step_entries newest_step batch.check_all step_check
steps-check h b [] p q = refl
steps-check h b (m ∷ ms) p q = then-both _ _ (then-both _ _ (then-left _ _ p) (then-left _ _ q)) (steps-check h b ms (then-right (step_entry h b m) _ p) (then-right (need (all_below h.commit (records_of m.key b.lines)) 8) _ q))

pub apply_steps-all : (h : CommitTerms) (ms : List Mutation) (b : Box) → apply_steps h ms b ≡ batch.apply_all (apply_step h) ms b
unfolding apply_steps batch.apply_all
apply_steps-all h [] b = refl
apply_steps-all h (m ∷ ms) b = apply_steps-all h ms (apply_step h m b)

module _ (h : CommitTerms) where
  pub step-still : (m : Mutation) (ms : List Mutation) (b : Box) → ascend key_inside (m ∷ ms) ≡ true → batch.check_all (step_check h) b (m ∷ ms) ≡ Accepted → batch.check_all (step_check h) (apply_step h m b) ms ≡ Accepted
  step-still m ms b a p = batch.still-pass key_inside h.start (step_check h) (step-depends h) (apply_step h) (step-only h h.start) m ms b a p

  pub steps-log : (P : Box → List Mutation → Type 0) → ((m : Mutation) (b : Box) (done : List Mutation) → step_check h b m ≡ Accepted → P b done → P (apply_step h m b) (m ∷ done))
      → (ms : List Mutation) (b : Box) (done : List Mutation) → ascend key_inside ms ≡ true → batch.check_all (step_check h) b ms ≡ Accepted → P b done → P (apply_steps h ms b) (batch.onto ms done)
  steps-log P step ms b done a p v =
      rw (apply_steps-all h ms b) (batch.batch-log key_inside h.start (step_check h) (step-depends h) (apply_step h) (step-only h h.start) P step ms b done a p v)

  pub steps-keep : (P : Box → Type 0) → ((m : Mutation) (b : Box) → step_check h b m ≡ Accepted → P b → P (apply_step h m b))
      → (ms : List Mutation) (b : Box) → ascend key_inside ms ≡ true → batch.check_all (step_check h) b ms ≡ Accepted → P b → P (apply_steps h ms b)
  steps-keep P step ms b a p v = steps-log (λ c done. P c) (λ m c done. step m c) ms b [] a p v

  pub steps-order : (ms : List Mutation) (b : Box) → ascend key_inside ms ≡ true → batch.check_all (step_check h) b ms ≡ Accepted → in_order b ≡ true → in_order (apply_steps h ms b) ≡ true
  steps-order = steps-keep (λ b. in_order b ≡ true) (step-order h)

  pub steps-other : (t : ℕ) (i : Key) (ms : List Mutation) (b : Box) → Apart key_inside i ms → Same b (apply_steps h ms b) i t
  steps-other t i ms b f = rw (apply_steps-all h ms b) (batch.batch-other key_inside t (apply_step h) (step-only h t) i ms b f)

  -- the box that the whole batch leaves, from the box before the call
  pub steps-load : (ms : List Mutation) (b : Box) → ascend key_inside ms ≡ true → batch.check_all (step_check h) b ms ≡ Accepted → in_order b ≡ true
      → plus (load_of b) (sum_loads step_adds ms) ≡ plus (sum_loads (step_frees h b) ms) (load_of (apply_steps h ms b))
  steps-load ms b a p o =
      rw (apply_steps-all h ms b)
      (batch-load key_inside h.start (step_check h) (step-depends h) (apply_step h) (step-only h h.start) (λ c. step_adds) (step_frees h) (λ c d m v. refl) (step_frees-same h)
      (λ c. in_order c ≡ true) (step-order h) (λ m c q. step-load h m c) ms b a p o)

  -- "11", told from the box before the call
  pub steps-room : (ms : List Mutation) (b : Box) → ascend key_inside ms ≡ true → batch.check_all (step_check h) b ms ≡ Accepted → in_order b ≡ true
      → room_for (apply_steps h ms b) ≡ fits (minus (plus (load_of b) (sum_loads step_adds ms)) (sum_loads (step_frees h b) ms))
  unfolding room_for
  steps-room ms b a p o = ap fits (load-left _ _ _ _ (steps-load ms b a p o))
