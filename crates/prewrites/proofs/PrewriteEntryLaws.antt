-- One entry of a prewrite: what it adds, and each way out of its check. The definition passes where no store can fail: records are sound,
-- the row that is stored for the key and the start is the lock's own, and without a lock there is none.
-- Assumes nothing.
use Rattle.std.specs.Prelude.{None, Some, Ok, Err}
use Prim.Native.Nat.{ℕ, ◌≤◌}
use native.Mathlib.Omega.{arith}
use mathlib.Core.Path.{◌≡◌, refl, sym, ap, ◌∙◌}
use mathlib.Core.Bool.{Bool, true, false, ◌&&◌}
use mathlib.Core.List.{List}
use mathlib.Core.Option.{Option, none, some}
use lib.Dec.{eqb}
use lib.ListN.{length}
use borrow.Author.Tests.{eqb-true}
use Rattle.forms.specs.Bytes.{Bytes, bytes_at, eq_bytes}
use Rattle.forms.specs.Key.{Key, key_form}
use Rattle.forms.specs.Row.{Row}
use Rattle.rules.specs.Answers.{Answer, Accepted, Holder, ◌▸◌, need, need_own}
use Rattle.rules.specs.declared.records.Kind.{Kind}
use Rattle.rules.specs.declared.records.Kind.TheVariants.{Put, Delete, Rollback}
use Rattle.rules.specs.declared.answers.Refusal.{Refusal}
use Rattle.rules.specs.Outcomes.{refusal}
use Rattle.rules.specs.declared.room.Load.{Load}
use Rattle.rules.specs.Box as box
use Rattle.rules.specs.Sound.{all_sound}
use Rattle.rules.specs.Calls.{kind_of, owns, all_below, row_argument, row_stands}
use Rattle.rules.specs.Prewrite.{PrewriteTerms, same_lock, lock_step, prewrite_entry, unless_locked}
use Rattle.laws.specs.Adds.{no_load, prewrite_adds}
use Rattle.laws.proofs.LoadLaws.{load_fields}
use Rattle.laws.proofs.StepLaws.{need-true, and_right}
use Rattle.ledger.proofs.Unmet.{records-sound, prewrite-free}
use Rattle.store.specs.declared.table.Store.{Store}
use Rattle.lookups.specs.declared.lookup.KeyState.{KeyState}
use Rattle.store.specs.declared.views.LockView.{LockView}
use Rattle.store.specs.View.{row_if, box_of}
use Rattle.store.specs.Made.{Built}
use Rattle.store.specs.Views.{lock_in}
use Rattle.lookups.specs.KeyStates.{Locked, locked_by, LockThere, IntentThere, KeyStateAt}
use Rattle.store.proofs.TidyLaws.{built-tidy}
use Rattle.changes.specs.Loads.{row_size, lock_size}
use Rattle.changes.proofs.LineLoadLaws.{row-most}
use Rattle.changes.proofs.KeptLaws.{lock-size}
use Rattle.changes.specs.Changes.{entry_for, row_bytes}
use Rattle.calls.specs.Weights.{no_weight, checked, EntryChecked}
use Rattle.calls.specs.declared.weights.Weight.{Weight}
use Rattle.calls.proofs.AnswerLaws.{then_same}
use Rattle.calls.proofs.SeenLaws.{checked_refused}
use Rattle.prewrites.specs.Checks.{steps_of, adds_of, PartsShort, Weighs, LockIn, row_held, entry_steps}

-- ---- what it adds

row_one : (k : Kind) (key row : ℕ) → (row_size k key row).defaults ≤ 1
row_one Put key row = omega arith
row_one Delete key row = omega arith
row_one Rollback key row = omega arith

module _ {key primary : Bytes} (row : Option Row) (p : PartsShort key primary (row_bytes row)) {kind : Kind} (k : kind ≡ kind_of row) where
  pub new-weighs : {lock : Locked} {r : Load} → lock ≡ None → r ≡ lock_size kind (length key) (length primary) (length (row_bytes row)) → Weighs key primary row lock (record { added = r; freed = no_load })
  unfolding unless_locked
  new-weighs {lock} {r} e q = record {
    added_is = λ area. q ∙ ap (λ (x : Kind). lock_size x (length key) (length primary) (length (row_bytes row))) k ∙ lock-size key primary row ∙ ap (λ (x : Locked). adds_of key primary row (locked_by area x)) (sym e);
    freed_is = refl;
    light = let y = load_fields q in record { added = omega (arith, y, p, row_one kind (length key) (length (row_bytes row)), row-most kind (length key) (length (row_bytes row))); freed = omega arith };
  }

pub old-weighs : (key primary : Bytes) (row : Option Row) {lock : Locked} {i : LockView} → lock ≡ Some i → Weighs key primary row lock no_weight
unfolding unless_locked
old-weighs key primary row e = record {
  added_is = λ area. ap (λ (x : Locked). adds_of key primary row (locked_by area x)) (sym e);
  freed_is = refl;
  light = record { added = omega arith; freed = omega arith };
}

-- ---- the steps that no store can fail

drop-both : (x p q : Bool) → x && false && p ≡ x && false && q
drop-both true p q = refl
drop-both false p q = refl

-- an own lock's (row_bytes row) is the (row_bytes row) that is stored
module _ (h : PrewriteTerms) (row : Option Row) (top : ℕ) (area : Bytes) (key : Key) (ds : List box.Default) (i : LockView) (there : IntentThere top area ds key i) where
  abbrev held : Row
  held = bytes_at area i.rowat i.rowlen

  abbrev fields : Bool
  fields = eq_bytes (bytes_at area i.at i.len) h.primary && eqb i.ttl h.ttl

  row_is : i.kind ≡ Put → i.start ≡ h.start → box.row_of key h.start ds ≡ some held
  row_is e s = ap (λ (n : ℕ). box.row_of key n ds) (sym s) ∙ there.row.is ∙ ap (λ (k : Kind). row_if k held) e

  own_row : lock_step h row (some (bytes_at area i.rowat i.rowlen)) (some (lock_in area i)) ≡ lock_step h row (box.row_of key h.start ds) (some (lock_in area i))
  unfolding lock_step need_own ◌▸◌
  own_row = own (owns h.txn h.start (lock_in area i)) refl
    where
      holder : Holder
      holder = box.holder_of (lock_in area i)

      kinds : (k : Kind) → i.kind ≡ k → i.start ≡ h.start → (o : Option Row)
          → fields && box.eq_kind k (kind_of o) && row_stands o (some held) ≡ fields && box.eq_kind k (kind_of o) && row_stands o (box.row_of key h.start ds)
      kinds k e s none = refl
      kinds Put e s (some r) = rw (row_is e s)
      kinds Delete e s (some r) = drop-both fields _ _
      kinds Rollback e s (some r) = drop-both fields _ _

      own : (t : Bool) → owns h.txn h.start (lock_in area i) ≡ t
          → need_own t holder ▸ need (same_lock h (kind_of row) (lock_in area i) && row_stands row (some held)) 9
          ≡ need_own t holder ▸ need (same_lock h (kind_of row) (lock_in area i) && row_stands row (box.row_of key h.start ds)) 9
      own false e = refl
      own true e = ap (λ (x : Bool). need x 9) (kinds i.kind refl (eqb-true i.start h.start (and_right (eqb i.txn h.txn) _ e)) row)

-- a step that passes
no_step : (t : Bool) (n : ℕ) (x : Answer) → t ≡ true → x ≡ need t n ▸ x
unfolding need ◌▸◌
no_step t n x e = sym (ap (λ (b : Bool). need b n ▸ x) e)

-- ---- the ways out of its check

module _ {st : Store} {area : Bytes} (b : Built st area) (h : PrewriteTerms) (key : Key) (row : Option Row) {stamp : ℕ} {seen : KeyState} (f : KeyStateAt st area key h.start stamp seen) where
  pub lock-reach : LockIn (length area) seen.lock
  lock-reach = go seen.lock f.lock_there
    where
      go : (o : Locked) → LockThere st.top area (box_of st area).defaults key o → LockIn (length area) o
      go None t = tt
      go (Some i) t =
          let l = b.area_long in
          let m = b.top_in in
          record { primary_in = omega (arith, t.primary_in, l, m); row-in = omega (arith, t.row.within, l, m) }

  by-lock : all_below h.start (box.records_of key (box_of st area).lines) ≡ true
      → lock_step h row (row_held area seen.lock) (locked_by area seen.lock) ≡ lock_step h row (box.row_of key h.start (box_of st area).defaults) (box.lock_of key (box_of st area).lines)
  unfolding lock_step need
  by-lock below = go seen.lock f.lock_is f.lock_there
    where
      go : (o : Locked) → locked_by area o ≡ box.lock_of key (box_of st area).lines → LockThere st.top area (box_of st area).defaults key o
          → lock_step h row (row_held area o) (locked_by area o) ≡ lock_step h row (box.row_of key h.start (box_of st area).defaults) (box.lock_of key (box_of st area).lines)
      go None q t = rw (← q, prewrite-free (box_of st area) (built-tidy b) key h.start (sym q) below)
      go (Some i) q t = rw (← q) (own_row h row st.top area key (box_of st area).defaults i t)

  module _ {a : Answer} (e : a ≡ entry_steps h (entry_for key row) seen.history.below (row_held area seen.lock) (locked_by area seen.lock)) where
    answer_is : a ≡ prewrite_entry h (box_of st area) (entry_for key row)
    unfolding prewrite_entry
    answer_is =
        e
        ∙ ap (λ (x : Answer). need (key_form key) 1 ▸ need (row_argument row) 2 ▸ x)
        (ap (λ (t : Bool). need t 8 ▸ lock_step h row (row_held area seen.lock) (locked_by area seen.lock)) f.history.below
        ∙ then_same (need (all_below h.start (box.records_of key (box_of st area).lines)) 8) _ _ (λ p. by-lock (need-true _ 8 p))
        ∙ no_step (all_sound (box.records_of key (box_of st area).lines)) 9 _ (records-sound (box_of st area) (built-tidy b) key))

    pub entry-refused : (why : Refusal) → a ≡ refusal why → EntryChecked (steps_of h) (box_of st area) (entry_for key row) (checked (Err why))
    entry-refused why q = checked_refused (steps_of h) (box_of st area) (entry_for key row) why (sym q ∙ answer_is)

    pub entry-checked : a ≡ Accepted → {w : Weight} → Weighs key h.primary row seen.lock w → EntryChecked (steps_of h) (box_of st area) (entry_for key row) (checked (Ok w))
    unfolding prewrite_adds
    entry-checked q w = record {
      answer_is = sym q ∙ answer_is;
      added_is = λ p. w.added_is area ∙ ap (adds_of key h.primary row) f.lock_is;
      freed_is = λ p. w.freed_is;
      light = w.light;
    }
