-- The batch of a rollback: what its keys add and free, what each asks of the store as it is then, and the definition by one key's steps.
-- Assumes nothing.
use Prim.Native.Nat.{ℕ, ◌+◌, ◌≤◌, ◌<◌}
use native.Mathlib.Omega.{arith}
use mathlib.Core.Path.{◌≡◌, refl, sym, ap, ap₂, ◌∙◌, subst}
use mathlib.Core.Bool.{true, not}
use mathlib.Core.List.{List, ◌∷◌, map}
use mathlib.Core.Option.{Option, none, some}
use lib.Dec.{ltb, eqb}
use borrow.Author.Tests.{eqb-false, not-true}
use Rattle.forms.specs.Bytes.{Bytes}
use Rattle.forms.specs.Key.{Key}
use Rattle.forms.specs.Row.{Row}
use Rattle.forms.specs.Places.{key_at, InForm}
use Rattle.forms.specs.declared.batch.Entry.{Entry}
use Rattle.rules.specs.Answers.{Answer, Accepted, ◌▸◌, need}
use Rattle.rules.specs.declared.records.Record.{Record}
use Rattle.rules.specs.Box.{Box, Lock, records_of, lock_of, row_of}
use Rattle.rules.specs.Room.{load_of, room_for, Fits}
use Rattle.rules.specs.Calls.{settle, non_empty, zero_step, stamped_at}
use Rattle.rules.specs.Rollback.{rollback_terms_step, rollback_key, rollback_keys, rollback_room, rollback_steps, rollback_to, apply_rollback, apply_rollbacks, rollback_all}
use Rattle.laws.specs.Adds.{plus, record_load, of_lock, of_row, if_new, rollback_adds, rollback_frees}
use Rattle.laws.proofs.StepLaws.{passed}
use Rattle.laws.proofs.BatchLaws.{check_all, apply_all}
use Rattle.laws.proofs.RollbackLaws.{rollback-depends, rollback-only, rollback_keys-all, apply_rollbacks-all, rollbacks-load}
use Rattle.store.specs.View.{box_of}
use Rattle.actions.specs.declared.action.Action.TheVariants.{Rollback}
use Rattle.calls.specs.Passes.{EntryReady, Ready, Weighed}
use Rattle.calls.proofs.AnswerLaws.{terms-split}
use Rattle.calls.proofs.ApplyAllLaws.{Changes, Applying, applying-passed, ready-all}
use Rattle.calls.proofs.RoomJudgeLaws.{applying-free}
use Rattle.calls.proofs.DoneLaws.{ByEntries}
use Rattle.rollbacks.specs.Checks.{steps_of}

-- ---- what a key adds and frees

adds-frees : (k : Key) (f : Option Record) (o : Option Lock) (r : Option Row)
    → ((if_new f (plus (of_lock k o) (of_row k r))).lines ≤ (if_new f (record_load k)).lines)
    × ((if_new f (plus (of_lock k o) (of_row k r))).lines + (if_new f (plus (of_lock k o) (of_row k r))).lines + (if_new f (record_load k)).locks ≤ (if_new f (record_load k)).lines + (if_new f (plus (of_lock k o) (of_row k r))).locks)
unfolding if_new of_lock of_row
adds-frees k (some w) o r = (omega arith, omega arith)
adds-frees k none none none = (omega arith, omega arith)
adds-frees k none none (some q) = (omega arith, omega arith)
adds-frees k none (some l) none = (omega arith, omega arith)
adds-frees k none (some l) (some q) = (omega arith, omega arith)

pub weighed : (txn start : ℕ) → Weighed (steps_of txn start) (λ (k : Key). k) (apply_rollback start)
unfolding rollback_adds rollback_frees apply_rollback if_new rollback_to
weighed txn start = record {
  load = λ ks b a o. rw (← apply_rollbacks-all start ks b) (rollbacks-load start ks b a o);
  replay = λ k b e. replay k b (stamped_at start (records_of k b.lines)) e;
  lines = λ k b. (adds-frees k (stamped_at start (records_of k b.lines)) (lock_of k b.lines) (row_of k start b.defaults)).0;
  locks = λ k b. (adds-frees k (stamped_at start (records_of k b.lines)) (lock_of k b.lines) (row_of k start b.defaults)).1;
}
  where
    replay : (k : Key) (b : Box) (f : Option Record) → (if_new f (record_load k)).lines ≡ 0 → rollback_to start b k f ≡ b
    replay k b (some w) e = refl
    replay k b none e = absurd (omega arith)

-- where no lock goes a line comes
one_more : (start : ℕ) (b : Box) (k : Key) → stamped_at start (records_of k b.lines) ≡ none → lock_of k b.lines ≡ none → (rollback_frees start b k).lines < (rollback_adds start b k).lines
unfolding rollback_adds rollback_frees if_new of_lock of_row
one_more start b k n e = rw (n, e) (go (row_of k start b.defaults))
  where
    go : (r : Option Row) → 0 + (of_row k r).lines < 1
    go none = omega arith
    go (some q) = omega arith

-- ---- one key after the other

abbrev pub changes_of : ℕ → ℕ → Changes Key
changes_of txn start = record { key = λ k. k; start = start; check = rollback_key txn start; apply = apply_rollback start; depends = rollback-depends txn start; only = rollback-only start start }

-- what each key asks in its turn, where all would pass
pub rolls-ready : (txn start : ℕ) (primary : Key) {s : Bytes} {es : List Entry} (b : Box) → (start ≡ 0 → ⊥) → InForm s es → check_all (rollback_key txn start) b (map (key_at s) es) ≡ Accepted
    → Fits (load_of (apply_all (apply_rollback start) (map (key_at s) es) b)) → Ready (Rollback txn start) primary s es b
rolls-ready txn start primary {s} {es} b z form c f =
    ready-all (changes_of txn start) (key_at s) (Rollback txn start) primary s (λ e x. refl) one es b (record { ascends = form.ascends; passed = c; is = refl })
  where
    one : (e : Entry) (rest : List Key) (x : Box) → Applying (changes_of txn start) (apply_all (apply_rollback start) (map (key_at s) es) b) x (key_at s e ∷ rest) → EntryReady (Rollback txn start) primary s e x
    one e rest x v st area built q room =
        let here : Applying (changes_of txn start) (apply_all (apply_rollback start) (map (key_at s) es) b) (box_of st area) (key_at s e ∷ rest) = subst (λ (y : Box). Applying (changes_of txn start) (apply_all (apply_rollback start) (map (key_at s) es) b) y (key_at s e ∷ rest)) (sym q) v in
        record { built = built; head = z; passed = applying-passed here; slot_free = λ g o. applying-free (weighed txn start) here built.kept f (one_more start (box_of st area) (key_at s e) g o); area_room = room }

-- ---- the call

pub some-start : (txn start : ℕ) → zero_step txn start ≡ Accepted → start ≡ 0 → ⊥
unfolding zero_step
some-start txn start p = let q : not (eqb start 0) ≡ true = search passed in eqb-false start 0 (not-true _ q)

-- the definition, by the steps of one key
pub by-keys : (floor txn start : ℕ) → ByEntries (rollback_key txn start) (apply_rollback start) (zero_step txn start) (need (ltb floor start) 14) (rollback_all floor txn start)
unfolding rollback_all rollback_steps rollback_terms_step rollback_room
by-keys floor txn start = record {
  is = λ ks b.
      ap (λ (x : Answer). settle (need (non_empty ks) 5 ▸ x) (apply_rollbacks start ks b) b) (terms-split (zero_step txn start) (need (ltb floor start) 14) refl (rollback_keys txn start b ks ▸ need (room_for (apply_rollbacks start ks b)) 11))
      ∙ ap₂ (λ (x : Answer) (c : Box). settle (need (non_empty ks) 5 ▸ zero_step txn start ▸ need (ltb floor start) 14 ▸ x ▸ need (room_for c) 11) c b) (rollback_keys-all txn start b ks) (apply_rollbacks-all start ks b);
}
