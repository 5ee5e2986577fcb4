-- One entry: what its checks say to the change, and that the change is the definition's.
-- Assumes nothing.
use Rattle.std.specs.Prelude.{None, Some}
use Prim.Native.Nat.{ℕ, ◌+◌, ◌≤◌}
use native.Mathlib.Omega.{arith}
use mathlib.Core.Path.{◌≡◌, refl, sym, ap, ◌∙◌, subst}
use mathlib.Core.Bool.{Bool, true, false, ◌&&◌, not}
use mathlib.Core.List.{List}
use mathlib.Core.Option.{Option, none, some}
use lib.Dec.{eqb}
use lib.ListN.{length}
use borrow.Author.Tests.{ltb-true, eq-eqb, ne_eqb}
use Rattle.forms.specs.Bytes.{Bytes, bytes_at}
use Rattle.forms.specs.Key.{Key, key_form}
use Rattle.forms.specs.Row.{Row}
use Rattle.forms.specs.Batch.{Mutation}
use Rattle.forms.proofs.KeyFormLaws.{key-bounds}
use Rattle.rules.specs.Answers.{Accepted, ◌▸◌, need}
use Rattle.rules.specs.declared.records.Kind.{Kind}
use Rattle.rules.specs.declared.records.Kind.TheVariants.{Delete, Rollback}
use Rattle.rules.specs.declared.records.Record.{Record}
use Rattle.rules.specs.Box as box
use Rattle.rules.specs.Calls.{kind_of, all_below, stamped_at, record_for}
use Rattle.rules.specs.Sound.{sound_lock, sound_record, kind_fits}
use Rattle.rules.specs.Prewrite.{PrewriteTerms, prewrite_terms_step, lock_for, lock_line, apply_prewrite}
use Rattle.rules.specs.declared.terms.CommitTerms.{CommitTerms}
use Rattle.rules.specs.Commit.{commit_terms_step, with_start, commit_to, apply_commit}
use Rattle.rules.specs.Rollback.{apply_rollback}
use Rattle.rules.specs.OneStep.{step_lock, replace_if, apply_step}
use Rattle.laws.proofs.StepLaws.{passed}
use Rattle.laws.proofs.BoxOrder.{order-lines, ordered-drop_lock}
use Rattle.laws.proofs.KeyLaws.{stamp_before, lock_new, records-drop_lock, records-new, drop_row-none}
use Rattle.laws.specs.Places.{finished_at}
use Rattle.laws.proofs.RecordLaws.{below-started, below-stamped, stamped-new}
use Rattle.laws.proofs.PrewriteLaws.{PrewritePassed, prewrite-passed, prewrite-new, prewrite-old}
use Rattle.laws.proofs.CommitLaws.{committed, CommitWay, commit_replay, commit_first, commit-way, commit-old, committed-lock}
use Rattle.laws.proofs.RollbackLaws.{RollbackWay, rollback_replay, rollback_first, RollbackLock, lock_free, lock_own, rollback-passed, rollback-way, rollback-old, rollback-new, rolled_back-stamped}
use Rattle.laws.proofs.OneStepLaws.{step_check, StepPassed, step-passed, step-own}
use Rattle.ledger.specs.Tidy.{LocksAbove}
use Rattle.ledger.proofs.SoundEntries.{start-some, commit-above}
use Rattle.ledger.proofs.Tidiness.{above-prewritten, above-committed, above-rolled-back, above-stepped}
use Rattle.lookups.specs.declared.lookup.KeyState.{KeyState}
use Rattle.store.specs.declared.views.LockView.{LockView}
use Rattle.store.specs.declared.views.RecordView.{RecordView}
use Rattle.store.specs.declared.table.Store.{Store}
use Rattle.store.specs.View.{row_if, add_if, box_of}
use Rattle.store.specs.Made.{Built}
use Rattle.store.specs.Views.{lock_in}
use Rattle.lookups.specs.KeyStates.{Locked, locked_by, said, LockThere, IntentThere, KeyStateAt}
use Rattle.changes.specs.declared.change.Change.{Change}
use Rattle.changes.specs.Changes.{prewrite_terms_for, entry_for, row_bytes, record_over, Owned, LockAsks, RecordAsks, EndAsks, Leaves, changed, ChangeAsks}
use Rattle.changes.proofs.KeptLaws.{row_short}
use Rattle.changes.proofs.PutRecordLaws.{no_row}
use Rattle.actions.specs.EntryAsks.{Applied, PrewriteAsks, CommitAsks, RollbackAsks, StepAsks}
use Rattle.actions.specs.declared.action.Action.{Action}
use Rattle.actions.specs.declared.action.Action.TheVariants as deed
use Rattle.actions.specs.Actions.{point_of, most_of, apply_of, EntryAsks, StartsAbove}

never : {A : Type 0} {x : A} → ◌≡◌ {A = Option A} none (some x) → ⊥
never e = let z : ◌≡◌ {A = ℕ} 0 1 = cc in omega arith

-- the lock that was found is of the start that the box's is of
owned : (area : Bytes) (s : ℕ) (o : Locked) (x : Option box.Lock) → locked_by area o ≡ x → ((l : box.Lock) → x ≡ some l → l.start ≡ s) → Owned s o
owned area s None x e f = tt
owned area s (Some i) x e f = f (lock_in area i) (sym e)

lock-none : (area : Bytes) {o : Locked} {x : Option box.Lock} → locked_by area o ≡ x → o ≡ None → x ≡ none
lock-none area e q = sym e ∙ ap (locked_by area) q

leaves-lower : {b c : box.Box} {t u : ℕ} {s : Store} {area : Bytes} → b ≡ c → t ≤ u → Leaves b t s area → Leaves c u s area
leaves-lower e h l = record { built = l.built; shown = l.shown ∙ e; top_most = omega (arith, l.top_most) }

stays : {st : Store} {area : Bytes} {b : box.Box} (n : ℕ) → Built st area → b ≡ box_of st area → Applied st area b (st.top + n) st area
stays n b e = record { leaves = record { built = b; shown = sym e; top_most = omega arith }; still = λ _. (refl, refl) }

-- ---- prewrite

-- the head's steps make a sound lock
head-sound : (floor : ℕ) (h : PrewriteTerms) (row : Option Row) → prewrite_terms_step floor h ≡ Accepted → sound_lock (lock_for h (kind_of row)) ≡ true
unfolding prewrite_terms_step sound_lock
head-sound floor h row p =
    let a : not (eqb h.txn 0) ≡ true = search passed in
    let b : not (eqb h.start 0) ≡ true = search passed in
    let c : key_form h.primary ≡ true = search passed in
    let d : not (eqb h.ttl 0) ≡ true = search passed in
    rw (a, b, d, c) (go row)
  where
    go : (o : Option Row) → not (box.eq_kind (kind_of o) Rollback) && true ≡ true
    go (some r) = refl
    go none = refl

pub head-primary : (floor : ℕ) (h : PrewriteTerms) → prewrite_terms_step floor h ≡ Accepted → length h.primary ≤ 48
unfolding prewrite_terms_step
head-primary floor h p = let c : key_form h.primary ≡ true = search passed in (key-bounds h.primary c).short

module _ {st : Store} {area : Bytes} {h : PrewriteTerms} {key : Key} {row : Option Row} (asks : PrewriteAsks st area h key row) {stamp : ℕ} {seen : KeyState} (f : KeyStateAt st area key h.start stamp seen) where
  p : PrewritePassed h (box_of st area) (entry_for key row)
  p = prewrite-passed h (box_of st area) (entry_for key row) asks.passed

  module _ (e : seen.lock ≡ None) where
    free : box.lock_of key (box_of st area).lines ≡ none
    free = lock-none area f.lock_is e

    size : length key + 8 + 8 + length (row_bytes row) + 8 + length h.primary ≤ 375
    size = let k = key-bounds key p.key in omega (arith, row_short (kind_of row) (row_bytes row) asks.row_fits, head-primary asks.floor h asks.head)

    pub prewrite-asks : LockAsks st area seen h key row
    prewrite-asks = record {
      built = asks.built;
      stamp = stamp;
      looked = f;
      nobody = e;
      fresh = below-started h.start (box.records_of key (box_of st area).lines) p.sound p.below;
      form = p.key;
      row_fits = asks.row_fits;
      sound = head-sound asks.floor h row asks.head;
      slot_free = asks.slot_free free;
      area_room = omega (arith, size, asks.area_room);
    }

    pub prewrite-done : {r : Store} {area' : Bytes} → Leaves (lock_line h (entry_for key row) (box_of st area)) (st.top + 1 + length key + 8 + 8 + length (row_bytes row) + 8 + length h.primary) r area'
        → Applied st area (apply_prewrite h (entry_for key row) (box_of st area)) (st.top + 376) r area'
    unfolding lock_line
    prewrite-done l = record {
      leaves = leaves-lower (sym new) (omega (arith, size)) l;
      still = λ q. absurd (never (sym free ∙ sym (ap (λ (x : box.Box). box.lock_of key x.lines) (sym new ∙ q)) ∙ lock_new key (lock_for h (kind_of row)) (box_of st area).lines free));
    }
      where
        new : apply_prewrite h (entry_for key row) (box_of st area) ≡ lock_line h (entry_for key row) (box_of st area)
        new = prewrite-new h (entry_for key row) (box_of st area) free

  pub prewrite-stays : {i : LockView} → seen.lock ≡ Some i → Applied st area (apply_prewrite h (entry_for key row) (box_of st area)) (st.top + 376) st area
  prewrite-stays e = stays 376 asks.built (prewrite-old h (entry_for key row) (box_of st area) _ (sym f.lock_is ∙ ap (locked_by area) e))

-- ---- commit

-- what the checks say where the key has no record of the start
record CommitFirst (h : CommitTerms) (b : box.Box) (k : Key) : Type 0 where
  pub l : box.Lock
  pub held : box.lock_of k b.lines ≡ some l
  pub own : l.start ≡ h.start
  pub below : all_below h.commit (box.records_of k b.lines) ≡ true
  pub new : apply_commit h k b ≡ committed h k l b

commit-start : (h : CommitTerms) (b : box.Box) (k : Key) → with_start h.start (box.records_of k b.lines) ≡ none → CommitWay h b k → CommitFirst h b k
commit-start h b k n (commit_replay w g a c d e i) = absurd (never (sym n ∙ g))
commit-start h b k n (commit_first l g held t own below ready new) = record { l = l; held = held; own = own; below = below; new = new }

same-lock : {x y : box.Lock} → ◌≡◌ {A = Option box.Lock} (some x) (some y) → x ≡ y
same-lock e = cc

module _ {st : Store} {area : Bytes} {h : CommitTerms} {key : Key} (asks : CommitAsks st area h key) {seen : KeyState} (f : KeyStateAt st area key h.start h.commit seen) where
  module _ (e : seen.history.started ≡ None) where
    fresh : with_start h.start (box.records_of key (box_of st area).lines) ≡ none
    fresh = sym f.history.started ∙ ap said e

    c : CommitFirst h (box_of st area) key
    c = commit-start h (box_of st area) key fresh (commit-way h (box_of st area) key asks.passed)

    pub commit-asks : EndAsks st area seen key h.start h.commit
    commit-asks = record {
      built = asks.built;
      looked = f;
      own = owned area h.start seen.lock (box.lock_of key (box_of st area).lines) f.lock_is (λ l q. ap (λ (x : box.Lock). x.start) (same-lock (sym q ∙ c.held)) ∙ c.own);
      fresh = fresh;
      free = below-stamped h.commit (box.records_of key (box_of st area).lines) c.below;
      later = ltb-true _ _ (commit-above asks.floor h asks.head);
      area_room = asks.area_room;
    }

    pub commit-done : {r : Store} {area' : Bytes} → Leaves (commit_to h.commit (box_of st area) key none (box.lock_of key (box_of st area).lines)) (st.top + 320) r area'
        → Applied st area (apply_commit h key (box_of st area)) (st.top + 320) r area'
    unfolding apply_commit
    commit-done l = record {
      leaves = leaves-lower (rw fresh) (omega arith) l;
      still = λ q. absurd (never (sym (committed-lock h key c.l (box_of st area) asks.built.kept.sorted) ∙ ap (λ (x : box.Box). box.lock_of key x.lines) (sym c.new ∙ q) ∙ c.held));
    }

  pub commit-stays : {w : RecordView} → seen.history.started ≡ Some w → Applied st area (apply_commit h key (box_of st area)) (st.top + 320) st area
  commit-stays e = stays 320 asks.built (commit-old h key (box_of st area) _ (sym f.history.started ∙ ap said e))

-- ---- rollback

record RollbackFirst (start : ℕ) (b : box.Box) (k : Key) : Type 0 where
  pub fresh : with_start start (box.records_of k b.lines) ≡ none
  pub own : (l : box.Lock) → box.lock_of k b.lines ≡ some l → l.start ≡ start

rollback-own : {txn start : ℕ} {stored : Option Row} {o : Option box.Lock} → RollbackLock txn start stored o → (l : box.Lock) → o ≡ some l → l.start ≡ start
rollback-own (lock_free e) l q = absurd (never q)
rollback-own (lock_own x t own ready) l q = ap (λ (y : box.Lock). y.start) (sym (same-lock q)) ∙ own

rollback-start : (txn start : ℕ) (b : box.Box) (k : Key) → stamped_at start (box.records_of k b.lines) ≡ none → RollbackWay txn start b k → RollbackFirst start b k
rollback-start txn start b k n (rollback_replay w g a c d e i) = absurd (never (sym n ∙ g))
rollback-start txn start b k n (rollback_first g fresh lock new) = record { fresh = fresh; own = rollback-own lock }

module _ {st : Store} {area : Bytes} {txn start : ℕ} {key : Key} (asks : RollbackAsks st area txn start key) {seen : KeyState} (f : KeyStateAt st area key start start seen) where
  module _ (e : seen.history.stamped ≡ None) (row : Row) (z : length row ≡ 0) where
    none-at : stamped_at start (box.records_of key (box_of st area).lines) ≡ none
    none-at = sym f.history.stamped ∙ ap said e

    first : RollbackFirst start (box_of st area) key
    first = rollback-start txn start (box_of st area) key none-at (rollback-way txn start (box_of st area) key asks.passed)

    form : key_form key ≡ true
    form = (rollback-passed txn start (box_of st area) key asks.passed).key

    pub rollback-asks : RecordAsks st area seen key start start Rollback row
    rollback-asks = record {
      built = asks.built;
      looked = f;
      own = owned area start seen.lock (box.lock_of key (box_of st area).lines) f.lock_is first.own;
      fresh = first.fresh;
      free = none-at;
      form = form;
      row_fits = z;
      sound = rw (eq-eqb start start refl, ne_eqb start 0 asks.head);
      slot_free = λ q. asks.slot_free none-at (lock-none area f.lock_is q);
      area_room = let k = key-bounds key form in omega (arith, asks.area_room);
    }

    pub rollback-done : {r : Store} {area' : Bytes} → Leaves (record_over key (record_for start start Rollback) row (box_of st area)) (st.top + 1 + length key + 8 + 8 + length row) r area'
        → Applied st area (apply_rollback start key (box_of st area)) (st.top + 65) r area'
    unfolding add_if
    rollback-done l =
        let k = key-bounds key form in
        let new = rollback-new start key (box_of st area) none-at in
        record {
          leaves = leaves-lower (sym new) (omega arith) l;
          still = λ q. absurd (never (sym none-at ∙ ap (λ (x : box.Box). stamped_at start (box.records_of key x.lines)) (sym q ∙ new) ∙ rolled_back-stamped start key (box_of st area) asks.built.kept.sorted none-at));
        }

  pub rollback-stays : {w : RecordView} → seen.history.stamped ≡ Some w → Applied st area (apply_rollback start key (box_of st area)) (st.top + 65) st area
  rollback-stays e = stays 65 asks.built (rollback-old start key (box_of st area) _ (sym f.history.stamped ∙ ap said e))

-- ---- one-step

step-sound : (floor : ℕ) (h : CommitTerms) (row : Option Row) → commit_terms_step floor h ≡ Accepted → sound_record (record_for h.start h.commit (kind_of row)) ≡ true
step-sound floor h row p = rw (eq-eqb h.commit h.commit refl, start-some floor h p) (go row)
  where
    go : (o : Option Row) → kind_fits (kind_of o) h.start h.commit ≡ true
    go (some r) = commit-above floor h p
    go none = commit-above floor h p

-- the definition's change, where a Delete's start has no row
step_is : (h : CommitTerms) (key : Key) (row : Option Row) (b : box.Box) → (row ≡ none → box.row_of key h.start b.defaults ≡ none)
    → record_over key (record_for h.start h.commit (kind_of row)) (row_bytes row) b ≡ apply_step h (entry_for key row) b
unfolding add_if apply_step replace_if
step_is h key (some r) b n = refl
step_is h key none b n = ap (λ (ds : List box.Default). record { lines = box.insert_line (finished_at key (record_for h.start h.commit Delete)) (box.drop_lock key b.lines); defaults = ds }) (drop_row-none key h.start b.defaults (n refl))

module _ {st : Store} {area : Bytes} {h : CommitTerms} {key : Key} {row : Option Row} (asks : StepAsks st area h key row) {seen : KeyState} (f : KeyStateAt st area key h.start h.commit seen) where
  steps : StepPassed h (box_of st area) (entry_for key row)
  unfolding step_check ◌▸◌ need
  steps = step-passed h (box_of st area) (entry_for key row) (rw (asks.passed, asks.newest))

  step-lock : (l : box.Lock) → box.lock_of key (box_of st area).lines ≡ some l → (l.txn ≡ h.txn) × (l.start ≡ h.start) × (l.kind ≡ kind_of row)
  step-lock l q = step-own h (kind_of row) l (ap (step_lock h (kind_of row)) (sym q) ∙ steps.lock)

  count_fits : length key + 8 + 8 + length (row_bytes row) ≤ 319
  count_fits = let k = key-bounds key asks.form in omega (arith, row_short (kind_of row) (row_bytes row) asks.row_fits)

  asked : RecordAsks st area seen key h.start h.commit (kind_of row) (row_bytes row)
  asked = record {
    built = asks.built;
    looked = f;
    own = owned area h.start seen.lock (box.lock_of key (box_of st area).lines) f.lock_is (λ l q. (step-lock l q).1);
    fresh = below-started h.start (box.records_of key (box_of st area).lines) steps.sound steps.below;
    free = below-stamped h.commit (box.records_of key (box_of st area).lines) steps.newest;
    form = asks.form;
    row_fits = asks.row_fits;
    sound = step-sound asks.floor h row asks.head;
    slot_free = λ q. asks.slot_free (lock-none area f.lock_is q);
    area_room = omega (arith, count_fits, asks.area_room);
  }

  -- a Delete's start has no row
  row-none : row ≡ none → box.row_of key h.start (box_of st area).defaults ≡ none
  row-none z = go seen.lock refl
    where
      go : (o : Locked) → seen.lock ≡ o → box.row_of key h.start (box_of st area).defaults ≡ none
      go None q = no_row asked q
      go (Some i) q =
          let t : IntentThere st.top area (box_of st area).defaults key i = subst (LockThere st.top area (box_of st area).defaults key) q f.lock_there in
          let w = step-lock (lock_in area i) (sym f.lock_is ∙ ap (locked_by area) q) in
          let d : i.kind ≡ Delete = w.2 ∙ ap kind_of z in
          ap (λ (m : ℕ). box.row_of key m (box_of st area).defaults) (sym w.1) ∙ t.row.is ∙ ap (λ (a : Kind). row_if a (bytes_at area i.rowat i.rowlen)) d

  module _ {kind : Kind} (kd : kind ≡ kind_of row) where
    pub step-asks : RecordAsks st area seen key h.start h.commit kind (row_bytes row)
    step-asks = subst (λ (a : Kind). RecordAsks st area seen key h.start h.commit a (row_bytes row)) (sym kd) asked

    pub step-done : {r : Store} {area' : Bytes} → Leaves (record_over key (record_for h.start h.commit kind) (row_bytes row) (box_of st area)) (st.top + 1 + length key + 8 + 8 + length (row_bytes row)) r area'
        → Applied st area (apply_step h (entry_for key row) (box_of st area)) (st.top + 320) r area'
    unfolding apply_step
    step-done {r} {area'} l = record {
      leaves = leaves-lower (ap (λ (a : Kind). record_over key (record_for h.start h.commit a) (row_bytes row) (box_of st area)) kd ∙ step_is h key row (box_of st area) row-none) (omega (arith, count_fits)) l;
      still = λ q. absurd (never (sym asked.free ∙ ap (λ (x : box.Box). stamped_at h.commit (box.records_of key x.lines)) (sym q) ∙ ap (stamped_at h.commit) comes ∙ stamped-new w ws asked.free));
    }
      where
        w : Record
        w = record_for h.start h.commit (kind_of row)

        ws : List Record
        ws = box.records_of key (box_of st area).lines

        comes : box.records_of key (box.insert_line (finished_at key w) (box.drop_lock key (box_of st area).lines)) ≡ box.insert_by stamp_before w ws
        comes =
            records-new key w (box.drop_lock key (box_of st area).lines) (ordered-drop_lock key (box_of st area).lines (order-lines (box_of st area) asks.built.kept.sorted))
            ∙ ap (box.insert_by stamp_before w) (records-drop_lock key key (box_of st area).lines)

-- ---- an entry, as its call applies it

abbrev pub Asked : Action → Key → Store → Bytes → KeyState → Key → Option Row → Type 0
Asked d primary st area seen key row = (EntryAsks d primary st area key row) × (KeyStateAt st area key (point_of d).start (point_of d).stamp seen)

abbrev pub Done : Action → Key → Store → Bytes → Key → Option Row → Change → Bytes → Type 0
Done d primary st area key row c area' = (ChangeAsks st c) × (Applied st area (apply_of d primary (entry_for key row) (box_of st area)) (st.top + most_of d) (changed st c) area')

module _ {d e : Action} (q : d ≡ e) (primary : Key) (st : Store) (area : Bytes) (key : Key) (row : Option Row) where
  pub asked-as : {seen : KeyState} → Asked d primary st area seen key row → Asked e primary st area seen key row
  asked-as {seen} a = subst (λ (x : Action). Asked x primary st area seen key row) q a

  pub done-as : (c : Change) {area' : Bytes} → Done e primary st area key row c area' → Done d primary st area key row c area'
  done-as c {area'} a = subst (λ (x : Action). Done x primary st area key row c area') (sym q) a

-- ---- the floor

-- every lock still starts above it
pub applied-above : (floor : ℕ) (d : Action) (primary : Key) (m : Mutation) (b : box.Box) → StartsAbove floor d → LocksAbove floor b → LocksAbove floor (apply_of d primary m b)
applied-above floor (deed.Prewrite txn start ttl) primary m b a = above-prewritten floor (prewrite_terms_for txn start primary ttl) m b a
applied-above floor (deed.Commit h) primary m b a = above-committed floor h m.key b
applied-above floor (deed.Rollback txn start) primary m b a = above-rolled-back floor start m.key b
applied-above floor (deed.Step h) primary m b a = above-stepped floor h m b
