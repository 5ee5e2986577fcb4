-- What one entry of a one-step batch meets: each way out of its tests, and that the definition says the same of the box. The definition
-- passes where no store can fail: records are sound; the row of a record or of a lock is the one stored for its key and start; without a
-- lock, and with every record stamped below the start, none is stored.
-- Assumes nothing.
use Rattle.std.specs.Prelude.{None, Some, Ok, Err}
use Prim.Native.Nat.{ℕ, ◌+◌, ◌≤◌}
use native.Mathlib.Omega.{arith}
use mathlib.Core.Path.{◌≡◌, refl, sym, ap, ap₂, ◌∙◌, subst}
use mathlib.Core.Bool.{Bool, true, false, ◌&&◌}
use mathlib.Core.List.{List, []}
use mathlib.Core.Option.{Option, none, some}
use lib.Dec.{eqb}
use lib.ListN.{length, take}
use borrow.Author.Tests.{eqb-true, eq-eqb, ne_eqb}
use Rattle.seqs.specs.Tables.{shown}
use Rattle.forms.specs.Bytes.{Bytes, bytes_at}
use Rattle.forms.specs.Key.{Key}
use Rattle.forms.specs.Row.{Row}
use Rattle.forms.specs.Batch.{Mutation}
use Rattle.rules.specs.Answers.{Answer, Accepted, No, Held, ◌▸◌, need}
use Rattle.rules.specs.declared.answers.Refusal.{Refusal}
use Rattle.rules.specs.declared.answers.Refusal.TheVariants.{History}
use Rattle.rules.specs.Outcomes.{refusal}
use Rattle.rules.proofs.OutcomeLaws.{refusal-not}
use Rattle.rules.specs.declared.records.Kind.{Kind}
use Rattle.rules.specs.declared.records.Kind.TheVariants.{Put, Delete, Rollback}
use Rattle.rules.specs.declared.room.Load.{Load}
use Rattle.rules.specs.Box as box
use Rattle.rules.specs.Sound.{all_sound}
use Rattle.rules.specs.Calls.{kind_of, all_below, row_stands}
use Rattle.rules.specs.declared.terms.CommitTerms.{CommitTerms}
use Rattle.rules.specs.OneStep.{applied_if, applied_by, applied_in, step_lock, step_entry}
use Rattle.laws.specs.Adds.{no_load, plus, lock_load, of_lock, of_row, replaced_by, step_adds, step_frees}
use Rattle.laws.proofs.StepLaws.{then-left, then-right, need-true, and-false}
use Rattle.laws.proofs.ChainLaws.{last_out, last_on, call-on}
use Rattle.laws.proofs.LoadLaws.{load_fields}
use Rattle.laws.proofs.RecordLaws.{below-started}
use Rattle.laws.proofs.OneStepLaws.{step-own}
use Rattle.store.specs.declared.table.Store.{Store}
use Rattle.lookups.specs.declared.lookup.KeyState.{KeyState}
use Rattle.store.specs.declared.views.LockView.{LockView}
use Rattle.store.specs.declared.views.RecordView.{RecordView}
use Rattle.store.specs.View.{line_of, row_in, row_if, box_of}
use Rattle.store.specs.Made.{Built, Made}
use Rattle.store.specs.Views.{lock_in}
use Rattle.lookups.specs.KeyStates.{Found, Locked, locked_by, said, FoundThere, LockThere, IntentThere, KeyStateAt}
use Rattle.forms.proofs.WriterLaws.{bytes-long}
use Rattle.store.proofs.KeySoundLaws.{sound-records}
use Rattle.store.proofs.StoredLaws.{row-none}
use Rattle.changes.specs.Loads.{row_size, lock_size, record_size, freed_by, FreedAsks}
use Rattle.changes.specs.Changes.{entry_for, row_bytes}
use Rattle.changes.proofs.LineLoadLaws.{row-most}
use Rattle.changes.proofs.KeptLaws.{none-pair, record-size, freed-within}
use Rattle.calls.specs.Weights.{AddedBy, Checked, checked}
use Rattle.calls.proofs.SettledLaws.{first-out}
use Rattle.calls.specs.Steps.{argument_step, own_step}
use Rattle.onesteps.specs.Checks.{row_held, FoundIn, tally_of, kind_step, when_passed, Asked, Weighed, CheckedAt}
use Rattle.onesteps.specs.declared.checks.Tally.{Tally}

-- ---- "An entry is applied if the record at commit has this start, this kind and, for a Put, this row"

module _ (start : ℕ) (row : Option Row) (area : Bytes) (at : Found) where
  abbrev tally : Found → Tally
  tally f = tally_of (applied_by start row (row_held area f) (said f))

  pub none-stands : at ≡ None → record { all = false; none = true } ≡ tally_of (applied_by start row (row_held area at) (said at))
  unfolding applied_by
  none-stands e = sym (ap tally e)

  module _ {w : RecordView} (e : at ≡ Some w) where
    by-record : {t u : Bool} → eqb w.start start ≡ t → box.eq_kind w.kind (kind_of row) && row_stands row (some (bytes_at area w.rowat w.rowlen)) ≡ u → tally_of (applied_if t u) ≡ tally at
    unfolding applied_by
    by-record p q = sym (ap tally e ∙ ap₂ (λ (x y : Bool). tally_of (applied_if x y)) p q)

    pub record-in : {n : ℕ} → FoundIn n at → w.rowat + w.rowlen ≤ n
    record-in {n} f = subst (FoundIn n) e f

    pub other-start : (w.start ≡ start → ⊥) → record { all = false; none = true } ≡ tally_of (applied_by start row (row_held area at) (said at))
    unfolding applied_if
    other-start n = by-record (ne_eqb _ _ n) refl

    module _ (s : w.start ≡ start) where
      pub other-kind : box.eq_kind w.kind (kind_of row) ≡ false → record { all = false; none = false } ≡ tally_of (applied_by start row (row_held area at) (said at))
      unfolding applied_if
      other-kind n = by-record (eq-eqb _ _ s) (and-false _ _ n)

      pub same_kind : box.eq_kind w.kind (kind_of row) ≡ true → {x : Bool} → x ≡ row_stands row (some (bytes_at area w.rowat w.rowlen)) → record { all = x; none = false } ≡ tally_of (applied_by start row (row_held area at) (said at))
      unfolding applied_if
      same_kind n {x} p = go x ∙ by-record (eq-eqb _ _ s) (ap₂ ◌&&◌ n (sym p))
        where
          go : (y : Bool) → record { all = y; none = false } ≡ tally_of (applied_if true y)
          go true = refl
          go false = refl

-- the row of the record at commit is the row stored at its start
module _ (start : ℕ) (row : Option Row) (top : ℕ) (area : Bytes) (key : Key) (ds : List box.Default) where
  stored_row : (at : Found) → FoundThere top area ds key at → applied_by start row (row_held area at) (said at) ≡ applied_by start row (box.row_of key start ds) (said at)
  unfolding applied_by applied_if
  stored_row None t = refl
  stored_row (Some w) t = go (eqb w.start start) refl
    where
      held : Row
      held = bytes_at area w.rowat w.rowlen

      kinds : (k : Kind) → w.kind ≡ k → w.start ≡ start → (o : Option Row)
          → box.eq_kind k (kind_of o) && row_stands o (some held) ≡ box.eq_kind k (kind_of o) && row_stands o (box.row_of key start ds)
      kinds k e s none = refl
      kinds Put e s (some r) = ap (row_stands (some r)) (sym (ap (λ (n : ℕ). box.row_of key n ds) (sym s) ∙ t.is ∙ ap (λ (k : Kind). row_if k held) e))
      kinds Delete e s (some r) = refl
      kinds Rollback e s (some r) = refl

      go : (y : Bool) → eqb w.start start ≡ y
          → applied_if y (box.eq_kind w.kind (kind_of row) && row_stands row (some held)) ≡ applied_if y (box.eq_kind w.kind (kind_of row) && row_stands row (box.row_of key start ds))
      go true e = ap (applied_if true) (kinds w.kind refl (eqb-true w.start start e) row)
      go false e = refl

-- ---- "another's lock 7, own lock of other kind 9"

module _ (kind : Kind) {lock : Locked} (area : Bytes) where
  pub kind-free : lock ≡ None → Accepted ≡ kind_step kind (locked_by area lock)
  kind-free e = sym (ap (λ (x : Locked). kind_step kind (locked_by area x)) e)

  module _ {l : LockView} (e : lock ≡ Some l) where
    pub kind-differs : box.eq_kind l.kind kind ≡ false → No 9 ≡ kind_step kind (locked_by area lock)
    kind-differs n = last_out _ 9 n ∙ sym (ap (λ (x : Locked). kind_step kind (locked_by area x)) e)

    pub kind-same : box.eq_kind l.kind kind ≡ true → Accepted ≡ kind_step kind (locked_by area lock)
    kind-same n = last_on _ 9 n ∙ sym (ap (λ (x : Locked). kind_step kind (locked_by area x)) e)

-- one after the other
pub lock_is : (h : CommitTerms) (kind : Kind) (o : Option box.Lock) → own_step h.txn h.start o ▸ kind_step kind o ≡ step_lock h kind o
unfolding step_lock ◌▸◌
lock_is h kind none = refl
lock_is h kind (some l) = refl

-- ---- the steps of an entry that is not applied, and its weight

not-passed : (a : Answer) (l : Load) → (a ≡ Accepted → ⊥) → no_load ≡ when_passed a l
not-passed Accepted l n = absurd (n refl)
not-passed (No k) l n = refl
not-passed (Held o) l n = refl

weighs-none : (why : Refusal) {y : Answer} {key : ℕ} {kind : Kind} {row : ℕ} {lock : Locked} → refusal why ≡ y → Weighed y key kind row lock (checked (Err why))
weighs-none why e = record {
  answer_is = e;
  added_is = not-passed _ _ (λ p. refusal-not why (e ∙ p));
  freed_is = not-passed _ _ (λ p. refusal-not why (e ∙ p));
}

module _ (h : CommitTerms) (row : Option Row) (lock : Locked) (below : Bool) (key : ℕ) where
  abbrev steps : Bytes → Answer
  steps area = step_lock h (kind_of row) (locked_by area lock) ▸ need below 8

  pub entry-locked : (why : Refusal) → ((area : Bytes) → refusal why ≡ step_lock h (kind_of row) (locked_by area lock)) → (area : Bytes)
      → Weighed (step_lock h (kind_of row) (locked_by area lock) ▸ need below 8) key (kind_of row) (length (row_bytes row)) lock (checked (Err why))
  entry-locked why s area = weighs-none why (first-out why (need below 8) (s area))

  module _ (s : (area : Bytes) → Accepted ≡ step_lock h (kind_of row) (locked_by area lock)) where
    pub entry-late : below ≡ false → (area : Bytes) → Weighed (step_lock h (kind_of row) (locked_by area lock) ▸ need below 8) key (kind_of row) (length (row_bytes row)) lock (checked (Err History))
    entry-late n area = weighs-none History (call-on _ _ _ _ (s area) refl (last_out below 8 n))

    pub entry-passes : below ≡ true → {x y : Load} → x ≡ record_size (kind_of row) key (length (row_bytes row)) → y ≡ freed_by lock key
        → (area : Bytes) → Weighed (step_lock h (kind_of row) (locked_by area lock) ▸ need below 8) key (kind_of row) (length (row_bytes row)) lock (checked (Ok (record { added = x; freed = y })))
    entry-passes n ex ey area =
        let e : Accepted ≡ steps area = call-on _ _ _ _ (s area) refl (last_on below 8 n) in
        record {
          answer_is = e;
          added_is = ex ∙ ap (λ (z : Answer). when_passed z (record_size (kind_of row) key (length (row_bytes row)))) e;
          freed_is = ey ∙ ap (λ (z : Answer). when_passed z (freed_by lock key)) e;
        }

-- ---- the entry, in the store

row_one : (k : Kind) (key row : ℕ) → (row_size k key row).defaults ≤ 1
row_one Put key row = omega arith
row_one Delete key row = omega arith
row_one Rollback key row = omega arith

record-few : (k : Kind) (key row : ℕ) → key ≤ 255 → row ≤ 255 → AddedBy 1 765 (record_size k key row)
record-few k key row a b = omega (arith, row_one k key row, row-most k key row)

passed-few : (a : Answer) {cap : ℕ} {l : Load} → (a ≡ Accepted → AddedBy 1 cap l) → AddedBy 1 cap (when_passed a l)
passed-few Accepted f = f refl
passed-few (No n) f = omega arith
passed-few (Held o) f = omega arith

passed-same : (a : Answer) (x y : Load) → (a ≡ Accepted → x ≡ y) → when_passed a x ≡ when_passed a y
passed-same Accepted x y f = f refl
passed-same (No n) x y f = refl
passed-same (Held o) x y f = refl

lock-sum : (k : Kind) (key p q : Bytes) → lock_size k (length key) (length p) (length q) ≡ plus (lock_load key p) (of_row key (row_if k q))
unfolding of_row
lock-sum Put key p q = refl
lock-sum Delete key p q = refl
lock-sum Rollback key p q = refl

-- without a lock, and with every record stamped below the start, no row is stored
no_row : {st : Store} {area : Bytes} → Built st area → (key : Key) (s : ℕ) → box.lock_of key (box_of st area).lines ≡ none → all_below s (box.records_of key (box_of st area).lines) ≡ true → box.row_of key s (box_of st area).defaults ≡ none
unfolding shown
no_row {st} {area} b key s free below =
    row-none (line_of area) (row_in area) (record { key = key; line = box.Standing l }) (take st.load.lines st.lines)
    (none-pair key (box.Standing l) (box_of st area).lines free (below-started s (box.records_of key (box_of st area).lines) (sound-records key (box_of st area).lines b.kept.good) below))
  where
    l : box.Lock
    l = record { txn = 0; primary = []; start = s; ttl = 0; kind = Put }

module _ {st : Store} {area : Bytes} (made : Made st area) (h : CommitTerms) (key : Key) (row : Option Row) {seen : KeyState} (f : KeyStateAt st area key h.start h.commit seen) where
  abbrev b : box.Box
  b = box_of st area

  abbrev m : Mutation
  m = entry_for key row

  pub at-reach : FoundIn (length area) seen.history.stamped
  at-reach = go seen.history.stamped f.history.stamped_row
    where
      go : (o : Found) → FoundThere st.top area b.defaults key o → FoundIn (length area) o
      go None t = tt
      go (Some w) t = omega (arith, t.within, made.built.top_in, made.built.area_long)

  pub entry-asked : length key ≤ 255 → length (row_bytes row) ≤ 255 → Asked key (row_bytes row) seen.lock
  entry-asked k r = record { key_short = k; row_short = r; freed = go seen.lock f.lock_there }
    where
      go : (o : Locked) → LockThere st.top area b.defaults key o → FreedAsks o (length key)
      go None t = tt
      go (Some i) t = omega (arith, k, t.primary_in, t.row.within, made.built.top_in)

  step_is : step_lock h (kind_of row) (locked_by area seen.lock) ▸ need seen.history.below 8 ≡ step_entry h b m
  unfolding step_entry need ◌▸◌
  step_is =
      ap₂ (λ (l : Option box.Lock) (t : Bool). step_lock h (kind_of row) l ▸ need t 8) f.lock_is f.history.below
      ∙ ap (λ (t : Bool). step_lock h (kind_of row) (box.lock_of key b.lines) ▸ need t 9 ▸ need (all_below h.start (box.records_of key b.lines)) 8) (sym (sound-records key b.lines made.built.kept.good))

  -- ---- what goes where the steps pass

  module _ (p : step_entry h b m ≡ Accepted) where
    lock-passed : step_lock h (kind_of row) (box.lock_of key b.lines) ≡ Accepted
    unfolding step_entry
    lock-passed = then-left _ _ p

    below-passed : all_below h.start (box.records_of key b.lines) ≡ true
    unfolding step_entry
    below-passed = need-true _ _ (then-right (need (all_sound (box.records_of key b.lines)) 9) _ (then-right (step_lock h (kind_of row) (box.lock_of key b.lines)) _ p))

    abbrev all-freed : Load
    all-freed = plus (of_lock key (box.lock_of key b.lines)) (of_row key (box.row_of key h.start b.defaults))

    module _ {i : LockView} (q : seen.lock ≡ Some i) where
      abbrev held : Row
      held = bytes_at area i.rowat i.rowlen

      there : IntentThere st.top area b.defaults key i
      there = subst (LockThere st.top area b.defaults key) q f.lock_there

      locked : box.lock_of key b.lines ≡ some (lock_in area i)
      locked = sym f.lock_is ∙ ap (locked_by area) q

      own : (i.txn ≡ h.txn) × (i.start ≡ h.start) × (i.kind ≡ kind_of row)
      own = step-own h (kind_of row) (lock_in area i) (ap (step_lock h (kind_of row)) (sym locked) ∙ lock-passed)

      row_is : box.row_of key h.start b.defaults ≡ row_if i.kind held
      row_is = ap (λ (n : ℕ). box.row_of key n b.defaults) (sym own.1) ∙ there.row.is

    module _ (q : seen.lock ≡ None) where
      free : box.lock_of key b.lines ≡ none
      free = sym f.lock_is ∙ ap (locked_by area) q

      row-free : box.row_of key h.start b.defaults ≡ none
      row-free = no_row made.built key h.start free below-passed

    freed_is : (o : Locked) → seen.lock ≡ o → freed_by o (length key) ≡ all-freed
    unfolding of_lock of_row
    freed_is None q = rw (free q, row-free q)
    freed_is (Some i) q =
        let x : length (bytes_at area i.at i.len) ≡ i.len = bytes-long area i.at i.len (omega (arith, (there q).primary_in, made.built.top_in, made.built.area_long)) in
        let y : length (held q) ≡ i.rowlen = bytes-long area i.rowat i.rowlen (omega (arith, (there q).row.within, made.built.top_in, made.built.area_long)) in
        ap₂ (lock_size i.kind (length key)) (sym x) (sym y) ∙ lock-sum i.kind key (bytes_at area i.at i.len) (held q)
        ∙ sym (ap₂ (λ (l : Option box.Lock) (r : Option Row). plus (of_lock key l) (of_row key r)) (locked q) (row_is q))

    -- a Delete's start has no row
    delete-row : (o : Locked) → seen.lock ≡ o → row ≡ none → box.row_of key h.start b.defaults ≡ none
    delete-row None q z = row-free q
    delete-row (Some i) q z = row_is q ∙ ap (λ (k : Kind). row_if k (held q)) ((own q).2 ∙ ap kind_of z)

    frees-is : freed_by seen.lock (length key) ≡ step_frees h b m
    unfolding step_frees replaced_by of_row
    frees-is = freed_is seen.lock refl ∙ ap (plus (of_lock key (box.lock_of key b.lines))) (go row refl)
      where
        go : (o : Option Row) → row ≡ o → of_row key (box.row_of key h.start b.defaults) ≡ replaced_by o (of_row key (box.row_of key h.start b.defaults))
        go (some r) z = refl
        go none z = ap (of_row key) (delete-row seen.lock refl z)

    freed-few : AddedBy 1 49152 (freed_by seen.lock (length key))
    freed-few =
        let e = load_fields (freed_is seen.lock refl) in
        let w = freed-within made.built.kept key h.start in
        let o = one seen.lock in
        record { lines = o.0; locks = o.1; defaults = o.2; bytes = omega (arith, e.bytes, w.bytes, made.fit.bytes) }
      where
        one : (o : Locked) → ((freed_by o (length key)).lines ≤ 1) × ((freed_by o (length key)).locks ≤ 1) × ((freed_by o (length key)).defaults ≤ 1)
        one None = (omega arith, omega arith, omega arith)
        one (Some i) = (omega arith, omega arith, row_one i.kind (length key) i.rowlen)

  adds-is : record_size (kind_of row) (length key) (length (row_bytes row)) ≡ step_adds m
  unfolding step_adds
  adds-is = record-size (kind_of row) key (row_bytes row) ∙ go row
    where
      go : (o : Option Row) → plus (record { lines = 1; locks = 0; defaults = 0; bytes = length key }) (of_row key (row_if (kind_of o) (row_bytes o))) ≡ plus (record { lines = 1; locks = 0; defaults = 0; bytes = length key }) (of_row key o)
      go (some r) = refl
      go none = refl

  pub met_at : length key ≤ 255 → length (row_bytes row) ≤ 255 → {a : Answer} {t : Tally} {s : Checked} → a ≡ argument_step (entry_for key row)
      → t ≡ tally_of (applied_by h.start row (row_held area seen.history.stamped) (said seen.history.stamped))
      → ((area : Bytes) → Weighed (step_lock h (kind_of row) (locked_by area seen.lock) ▸ need seen.history.below 8) (length key) (kind_of row) (length (row_bytes row)) seen.lock s)
      → CheckedAt h (box_of st area) (entry_for key row) (record { argument = a; tally = t; seen = s })
  unfolding applied_in
  met_at ks rs {a} {t} {s} x y z =
      let w = z area in
      let e : s.weight.added ≡ when_passed (step_entry h b m) (record_size (kind_of row) (length key) (length (row_bytes row))) = w.added_is ∙ ap (λ (v : Answer). when_passed v (record_size (kind_of row) (length key) (length (row_bytes row)))) step_is in
      let g : s.weight.freed ≡ when_passed (step_entry h b m) (freed_by seen.lock (length key)) = w.freed_is ∙ ap (λ (v : Answer). when_passed v (freed_by seen.lock (length key))) step_is in
      record {
        argument_is = x;
        tally_is =
            y ∙ ap tally_of (stored_row h.start row st.top area key b.defaults seen.history.stamped f.history.stamped_row
            ∙ ap (applied_by h.start row (box.row_of key h.start b.defaults)) f.history.stamped);
        answer_is = w.answer_is ∙ step_is;
        added_is = e ∙ ap (when_passed (step_entry h b m)) adds-is;
        freed_is = g ∙ passed-same (step_entry h b m) _ _ frees-is;
        light = record {
          added = subst (AddedBy 1 765) (sym e) (passed-few (step_entry h b m) (λ p. record-few (kind_of row) (length key) (length (row_bytes row)) ks rs));
          freed = subst (AddedBy 1 49152) (sym g) (passed-few (step_entry h b m) freed-few);
        };
      }
