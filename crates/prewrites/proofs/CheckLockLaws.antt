-- A lock on the way of an entry: what each way out of its tests says.
-- Assumes nothing.
use Rattle.std.specs.Prelude.{None, Some}
use Prim.Native.Nat.{ℕ}
use mathlib.Core.Path.{◌≡◌, refl, sym, ap, ◌∙◌, subst}
use mathlib.Core.Bool.{Bool, true, false, ◌&&◌}
use mathlib.Core.Option.{Option, some}
use Rattle.forms.specs.Bytes.{Bytes, bytes_at}
use Rattle.forms.specs.Row.{Row}
use Rattle.rules.specs.Answers.{Answer, Accepted, No, ◌▸◌, need}
use Rattle.rules.specs.declared.answers.Refusal.{Refusal}
use Rattle.rules.specs.Outcomes.{refusal}
use Rattle.rules.specs.Calls.{kind_of, row_stands}
use Rattle.rules.specs.Prewrite.{PrewriteTerms, same_lock, lock_step}
use Rattle.laws.proofs.StepLaws.{and_both, and-false, and-false-right}
use Rattle.laws.proofs.ChainLaws.{last_out, last_on, call-on}
use Rattle.store.specs.declared.views.LockView.{LockView}
use Rattle.store.specs.Views.{lock_in}
use Rattle.lookups.specs.KeyStates.{Locked, locked_by}
use Rattle.calls.specs.Steps.{own_step}
use Rattle.calls.proofs.SettledLaws.{first-out}
use Rattle.prewrites.specs.Checks.{IntentIn, LockIn, row_held}

-- ---- the step

module _ (h : PrewriteTerms) (row : Option Row) (area : Bytes) (lock : Locked) where
  -- primary and row of the lock lie in the area
  pub lock-within : (n : ℕ) {l : LockView} → lock ≡ Some l → LockIn n lock → IntentIn n l
  lock-within n e p = subst (LockIn n) e p

  -- what is asked of an own lock
  abbrev rest : Locked → Answer
  rest None = Accepted
  rest (Some l) = need (same_lock h (kind_of row) (lock_in area l) && row_stands row (some (bytes_at area l.rowat l.rowlen))) 9

  own_first : (o : Locked) → own_step h.txn h.start (locked_by area o) ▸ rest o ≡ lock_step h row (row_held area o) (locked_by area o)
  unfolding lock_step need ◌▸◌
  own_first None = refl
  own_first (Some l) = refl

  -- "a lock of another transaction or start, 7"
  pub another's : (why : Refusal) → ((area : Bytes) → refusal why ≡ own_step h.txn h.start (locked_by area lock)) → refusal why ≡ lock_step h row (row_held area lock) (locked_by area lock)
  another's why e = first-out why (rest lock) (e area) ∙ own_first lock

  module _ (e : (area : Bytes) → Accepted ≡ own_step h.txn h.start (locked_by area lock)) where
    go_on : {x : Answer} {o : Locked} → lock ≡ o → x ≡ rest o → x ≡ lock_step h row (row_held area lock) (locked_by area lock)
    go_on {x} w z = call-on x _ _ (rest lock) (e area) refl (z ∙ sym (ap rest w)) ∙ own_first lock

    pub free : lock ≡ None → Accepted ≡ lock_step h row (row_held area lock) (locked_by area lock)
    free w = go_on w refl

    module _ (l : LockView) (w : lock ≡ Some l) {s : Bool} (k : s ≡ same_lock h (kind_of row) (lock_in area l)) where
      pub own-differs : s ≡ false → No 9 ≡ lock_step h row (row_held area lock) (locked_by area lock)
      own-differs n = go_on w (last_out _ 9 (and-false _ _ (sym k ∙ n)))

      module _ {u : Bool} (r : u ≡ row_stands row (some (bytes_at area l.rowat l.rowlen))) where
        pub row-differs : u ≡ false → No 9 ≡ lock_step h row (row_held area lock) (locked_by area lock)
        row-differs n = go_on w (last_out _ 9 (and-false-right (same_lock h (kind_of row) (lock_in area l)) _ (sym r ∙ n)))

        -- "own equal lock, accepted and unchanged"
        pub own_same : s ≡ true → u ≡ true → Accepted ≡ lock_step h row (row_held area lock) (locked_by area lock)
        own_same m n = go_on w (last_on _ 9 (and_both _ _ (sym k ∙ m) (sym r ∙ n)))
