-- One key of a rollback: what each way out of its check says. The definition passes where no store can fail: records are sound, a start has
-- one line of the key, and a lock has the row that its kind asks.
-- Assumes nothing.
use Rattle.std.specs.Prelude.{None, Some, Ok, Err}
use Prim.Native.Nat.{ℕ, ◌≤◌}
use native.Mathlib.Omega.{arith}
use mathlib.Core.Path.{◌≡◌, refl, sym, ap, ◌∙◌, subst}
use mathlib.Core.Bool.{Bool, true, false, not, ◌&&◌, ◌||◌}
use mathlib.Core.List.{List, [], ◌∷◌}
use mathlib.Core.Option.{Option, none, some}
use lib.Dec.{eqb}
use lib.ListN.{length}
use borrow.Author.Tests.{eqb-true}
use Rattle.forms.specs.Bytes.{Bytes, eq_bytes}
use Rattle.forms.specs.Key.{Key, key_form}
use Rattle.forms.specs.Row.{Row}
use Rattle.forms.specs.Readers.{is_some}
use Rattle.forms.proofs.Orders.{eq_bytes-true}
use Rattle.rules.specs.Answers.{Answer, Accepted, ◌▸◌, need, need_own}
use Rattle.rules.specs.declared.answers.Refusal.{Refusal}
use Rattle.rules.specs.Outcomes.{refusal}
use Rattle.rules.specs.declared.records.Kind.TheVariants.{Rollback}
use Rattle.rules.specs.declared.records.Record.{Record}
use Rattle.rules.specs.Box as box
use Rattle.rules.specs.Restore.{all_good, none_like, no_second, like_line}
use Rattle.rules.specs.Calls.{owns, lock_at, kind_ready, found_if, stamped_at}
use Rattle.rules.specs.Commit.{with_start}
use Rattle.rules.specs.Rollback.{rollback_records, rollback_lock, rollback_step, rollback_key}
use Rattle.laws.specs.Adds.{plus, record_load, of_lock, of_row, if_new, rollback_adds, rollback_frees}
use Rattle.laws.proofs.StepLaws.{and_left, and_right, and_both, and-false-right}
use Rattle.laws.proofs.LoadLaws.{plus_none}
use Rattle.laws.proofs.RecordLaws.{stamped-in, rollback-kind}
use Rattle.laws.proofs.RollbackLaws.{rollback-passed, RollbackLock, lock_free, lock_own, rollback-lock}
use Rattle.ledger.proofs.Unmet.{own-ready, rollback-again, rollback-free}
use Rattle.store.specs.declared.table.Store.{Store}
use Rattle.lookups.specs.declared.lookup.KeyState.{KeyState}
use Rattle.store.specs.View.{box_of}
use Rattle.store.specs.Made.{good_line, Built}
use Rattle.store.specs.Views.{lock_in, record_in}
use Rattle.lookups.specs.KeyStates.{Found, Locked, said, locked_by, KeyStateAt}
use Rattle.store.proofs.TidyLaws.{built-tidy}
use Rattle.changes.specs.Changes.{Owned}
use Rattle.changes.proofs.KeptLaws.{record-size}
use Rattle.calls.specs.Weights.{Light, checked, EntryChecked}
use Rattle.calls.specs.declared.weights.Weight.{Weight}
use Rattle.calls.proofs.AnswerLaws.{then_same}
use Rattle.calls.proofs.SeenLaws.{checked_refused}
use Rattle.calls.proofs.StoreLaws.{pair-none, freed-few, freed_is}
use Rattle.calls.specs.Steps.{own_step}
use Rattle.rollbacks.specs.Checks.{steps_of, rolled_by, stamped_step, key_steps, weight_of}

-- "records by ascending stamp, each sound (9), with this start and not Rollback 8": sound they are, and one at most has this start
rolls-is : (s : ℕ) (k : Key) (es : List box.KeyLine) → all_good good_line es ≡ true → no_second like_line es ≡ true → need (rolled_by (with_start s (box.records_of k es))) 8 ≡ rollback_records s (box.records_of k es)
unfolding all_good no_second box.records_of box.add_record with_start found_if rollback_records need ◌▸◌
rolls-is s k [] g o = refl
rolls-is s k (e ∷ es) g o =
    go e.key e.line (eq_bytes k e.key) refl (and_left _ _ g) (and_left _ _ o) (rolls-is s k es (and_right (good_line e) _ g) (and_right (none_like like_line e es) _ o))
  where
    twice : (u : Bool) → need u 8 ≡ need (not (not u)) 8 ▸ Accepted
    twice true = refl
    twice false = refl

    go : (j : Key) (x : box.Line) (t : Bool) → eq_bytes k j ≡ t → good_line (record { key = j; line = x }) ≡ true → none_like like_line (record { key = j; line = x }) es ≡ true
        → need (rolled_by (with_start s (box.records_of k es))) 8 ≡ rollback_records s (box.records_of k es)
        → need (rolled_by (with_start s (box.add_record t x (box.records_of k es)))) 8 ≡ rollback_records s (box.add_record t x (box.records_of k es))
    go j x false e g n ih = ih
    go j (box.Standing l) true e g n ih = ih
    go j (box.Finished w) true e g n ih = rw (and_right (key_form j) _ g) (by-start (eqb s w.start) refl)
      where
        by-start : (t : Bool) → eqb s w.start ≡ t
            → need (rolled_by (found_if t w (with_start s (box.records_of k es)))) 8 ≡ need (not (t && not (box.eq_kind w.kind Rollback))) 8 ▸ rollback_records s (box.records_of k es)
        by-start false q = ih
        by-start true q =
            let fresh : with_start s (box.records_of k es) ≡ none = rw (eqb-true s w.start q) (pair-none k (box.Finished w) es (rw (eq_bytes-true k j e) n)) in
            twice (box.eq_kind w.kind Rollback) ∙ ap (λ (x : Answer). need (not (not (box.eq_kind w.kind Rollback))) 8 ▸ x) (sym (ap (λ (o : Option Record). need (rolled_by o) 8) fresh) ∙ ih)

own-start : {txn start : ℕ} {stored : Option Row} {l : box.Lock} → RollbackLock txn start stored (some l) → l.start ≡ start
own-start (lock_own l t own ready) = own

module _ {st : Store} {area : Bytes} (b : Built st area) (txn start : ℕ) (key : Key) {seen : KeyState} (f : KeyStateAt st area key start start seen) where
  abbrev es : List box.KeyLine
  es = (box_of st area).lines

  abbrev ds : List box.Default
  ds = (box_of st area).defaults

  abbrev ws : List Record
  ws = box.records_of key es

  -- ---- the steps that no store can fail

  module _ (p : rollback_records start ws ≡ Accepted) where
    -- "Put lock without decoding default 9; Delete lock or no lock with a default 9; kind Rollback 9"
    by-lock : stamped_at start ws ≡ none → own_step txn start (locked_by area seen.lock) ≡ rollback_lock txn start (box.row_of key start ds) (box.lock_of key es)
    unfolding rollback_lock need need_own ◌▸◌
    by-lock n = go seen.lock f.lock_is
      where
        go : (o : Locked) → locked_by area o ≡ box.lock_of key es → own_step txn start (locked_by area o) ≡ rollback_lock txn start (box.row_of key start ds) (box.lock_of key es)
        go None q = rw (← q, rollback-free (box_of st area) (built-tidy b) key start p n (sym q))
        go (Some i) q = rw (← q) (own (owns txn start (lock_in area i)) refl)
          where
            own : (u : Bool) → owns txn start (lock_in area i) ≡ u
                → need_own u (box.holder_of (lock_in area i)) ≡ need_own u (box.holder_of (lock_in area i)) ▸ need (kind_ready i.kind (box.row_of key start ds)) 9
            own false e = refl
            own true e = sym (ap (λ (t : Bool). need t 9) (own-ready (box_of st area) (built-tidy b) txn start key (lock_in area i) (sym q) e))

    -- "its Rollback with lock or default at this start, 9"
    by-stamp : stamped_step txn start (locked_by area seen.lock) (said seen.history.stamped) ≡ rollback_step txn start (box.row_of key start ds) (box.lock_of key es) (stamped_at start ws)
    unfolding rollback_step need ◌▸◌
    by-stamp = go seen.history.stamped f.history.stamped
      where
        go : (o : Found) → said o ≡ stamped_at start ws
            → stamped_step txn start (locked_by area seen.lock) (said o) ≡ rollback_step txn start (box.row_of key start ds) (box.lock_of key es) (stamped_at start ws)
        go None q = rw (← q) (by-lock (sym q))
        go (Some w) q = rw (← q) (same (eqb w.start start) refl)
          where
            same : (u : Bool) → eqb w.start start ≡ u
                → need u 9 ≡ need (box.eq_kind w.kind Rollback && u) 9 ▸ need (not (lock_at start (box.lock_of key es) || is_some (box.row_of key start ds))) 9
            same false e = rw (and-false-right (box.eq_kind w.kind Rollback) false refl)
            same true e =
                let m = (stamped-in start ws (record_in w) (sym q)).0 in
                let k : box.eq_kind w.kind Rollback ≡ true = rw (rollback-kind start ws (record_in w) p m (eqb-true w.start start e)) in
                rw (k, rollback-again (box_of st area) (built-tidy b) key start (record_in w) (sym q) (and_both _ _ k e))

  -- ---- the ways out

  module _ {a : Answer} (e : (area : Bytes) → a ≡ key_steps txn start key (said seen.history.started) (said seen.history.stamped) (locked_by area seen.lock)) where
    answer_is : a ≡ rollback_key txn start (box_of st area) key
    unfolding rollback_key
    answer_is =
        e area
        ∙ ap (λ (x : Answer). need (key_form key) 1 ▸ x)
        (ap (λ (x : Answer). x ▸ stamped_step txn start (locked_by area seen.lock) (said seen.history.stamped)) (ap (λ (o : Option Record). need (rolled_by o) 8) f.history.started ∙ rolls-is start key es b.kept.good b.kept.once)
        ∙ then_same (rollback_records start ws) _ _ by-stamp)

    pub key-refused : (why : Refusal) → a ≡ refusal why → EntryChecked (steps_of txn start) (box_of st area) key (checked (Err why))
    key-refused why q = checked_refused (steps_of txn start) (box_of st area) key why (sym q ∙ answer_is)

    -- a lock that goes is of this start
    lock-goes : a ≡ Accepted → stamped_at start ws ≡ none → RollbackLock txn start (box.row_of key start ds) (box.lock_of key es)
    unfolding rollback_step
    lock-goes p n = rollback-lock txn start (box.row_of key start ds) (box.lock_of key es) (ap (rollback_step txn start (box.row_of key start ds) (box.lock_of key es)) (sym n) ∙ (rollback-passed txn start (box_of st area) key (sym answer_is ∙ p)).step)

    owned : (o : Locked) → locked_by area o ≡ box.lock_of key es → RollbackLock txn start (box.row_of key start ds) (box.lock_of key es) → Owned start o
    owned None q w = tt
    owned (Some i) q w = own-start (subst (RollbackLock txn start (box.row_of key start ds)) (sym q) w)

    row-gone : {stored : Option Row} {o : Option box.Lock} → RollbackLock txn start stored o → o ≡ none → stored ≡ none
    row-gone (lock_free r) q = r
    row-gone (lock_own l t own ready) q = let z : ◌≡◌ {A = ℕ} 0 1 = cc in absurd (omega arith)

    pub key-checked : a ≡ Accepted → length key ≤ 255 → {w : Weight} → w ≡ weight_of seen.history.stamped seen.lock (length key) → EntryChecked (steps_of txn start) (box_of st area) key (checked (Ok w))
    unfolding rollback_adds rollback_frees if_new of_row
    key-checked p short {w} q = record {
      answer_is = sym p ∙ answer_is;
      added_is = λ _. ap (λ (w : Weight). w.added) q ∙ added seen.history.stamped f.history.stamped;
      freed_is = λ _. ap (λ (w : Weight). w.freed) q ∙ freed p seen.history.stamped f.history.stamped;
      light = subst (Light 1 255 1020) (sym q) (count_fits seen.history.stamped);
    }
      where
        added : (o : Found) → said o ≡ stamped_at start ws → (weight_of o seen.lock (length key)).added ≡ if_new (stamped_at start ws) (record_load key)
        added (Some v) h = rw (← h)
        added None h = rw (← h) (record-size Rollback key [] ∙ plus_none (record_load key))

        freed : a ≡ Accepted → (o : Found) → said o ≡ stamped_at start ws → (weight_of o seen.lock (length key)).freed ≡ if_new (stamped_at start ws) (plus (of_lock key (box.lock_of key es)) (of_row key (box.row_of key start ds)))
        freed p (Some v) h = rw (← h)
        freed p None h = let l = lock-goes p (sym h) in rw (← h) (freed_is b key f short (owned seen.lock f.lock_is l) (row-gone l))

        count_fits : (o : Found) → Light 1 255 1020 (weight_of o seen.lock (length key))
        count_fits (Some v) = record { added = omega arith; freed = omega arith }
        count_fits None = record { added = omega arith; freed = freed-few b key f short }
