-- One key of a commit: each way out of its check. Where no store can fail, the definition passes (ledger's Unmet).
-- Assumes nothing.
use Rattle.std.specs.Prelude.{None, Some, Ok, Err}
use Prim.Native.Nat.{ℕ}
use mathlib.Core.Path.{◌≡◌, refl, sym, ap, ◌∙◌}
use mathlib.Core.Bool.{Bool, true, false, not}
use mathlib.Core.List.{List}
use mathlib.Core.Option.{Option, none, some}
use lib.Dec.{eqb}
use Rattle.forms.specs.Bytes.{Bytes}
use Rattle.forms.specs.Key.{Key, key_form}
use Rattle.forms.specs.Row.{Row}
use Rattle.forms.specs.Readers.{is_some}
use Rattle.rules.specs.Answers.{Answer, Accepted, Holder, ◌▸◌, need, need_own}
use Rattle.rules.specs.declared.answers.Refusal.{Refusal}
use Rattle.rules.specs.declared.answers.Refusal.TheVariants.{KeyForm}
use Rattle.rules.specs.Outcomes.{refusal}
use Rattle.rules.specs.declared.records.Kind.TheVariants.{Rollback}
use Rattle.rules.specs.declared.records.Record.{Record}
use Rattle.rules.specs.Box as box
use Rattle.rules.specs.Calls.{owns, all_below}
use Rattle.rules.specs.declared.terms.CommitTerms.{CommitTerms}
use Rattle.rules.specs.Commit.{with_start, commit_lock, commit_step, commit_key}
use Rattle.laws.proofs.StepLaws.{and-false}
use Rattle.laws.proofs.ChainLaws.{out, on}
use Rattle.ledger.proofs.Unmet.{records-sound, own-ready, commit-again}
use Rattle.store.specs.declared.table.Store.{Store}
use Rattle.lookups.specs.declared.lookup.KeyState.{KeyState}
use Rattle.store.specs.declared.views.RecordView.{RecordView}
use Rattle.store.specs.View.{box_of}
use Rattle.store.specs.Made.{Built}
use Rattle.store.specs.Views.{lock_in, record_in}
use Rattle.lookups.specs.KeyStates.{Locked, said, locked_by, KeyStateAt}
use Rattle.store.proofs.TidyLaws.{built-tidy}
use Rattle.calls.specs.Settled.{is_accepted}
use Rattle.calls.specs.Passes.{verdict}
use Rattle.calls.proofs.SettledLaws.{refused-not}
use Rattle.calls.proofs.AnswerLaws.{then-end}
use Rattle.commits.specs.Checks.{record_steps, lock_steps, is_new, Judged}

-- a last step that passes
passes-last : (a : Answer) (t : Bool) (n : ℕ) → t ≡ true → a ≡ a ▸ need t n
unfolding need
passes-last a t n e = sym (ap (λ (x : Bool). a ▸ need x n) e ∙ then-end a)

-- what follows matters only where the lock is own
after-own : (t : Bool) (o : Holder) (x y : Answer) → (t ≡ true → x ≡ y) → need_own t o ▸ x ≡ need_own t o ▸ y
unfolding need_own ◌▸◌
after-own true o x y f = f refl
after-own false o x y f = refl

-- ---- the ways out

-- a refusal moves nothing
pub refused-judged : {answer : Answer} {new : Bool} (why : Refusal) → refusal why ≡ answer → Judged answer new (verdict (Err why))
refused-judged {new = new} why e = record {
  answer_is = e;
  moves_is = sym (and-false (is_accepted (refusal why)) new (refused-not why));
}

-- "1"
pub bad-key : (h : CommitTerms) (b : box.Box) (k : Key) → key_form k ≡ false → Judged (commit_key h b k) (is_new h b k) (verdict (Err KeyForm))
unfolding commit_key
bad-key h b k n = refused-judged KeyForm (out _ 1 _ n)

module _ {st : Store} {area : Bytes} (b : Built st area) (h : CommitTerms) (k : Key) (form : key_form k ≡ true) {seen : KeyState} (f : KeyStateAt st area k h.start h.commit seen) where
  abbrev ls : List box.KeyLine
  ls = (box_of st area).lines

  abbrev ws : List Record
  ws = box.records_of k ls

  abbrev stored : Option Row
  stored = box.row_of k h.start (box_of st area).defaults

  key_is : {o : Option Record} {a : Answer} → with_start h.start ws ≡ o → a ≡ commit_step h ws stored (box.lock_of k ls) o → a ≡ commit_key h (box_of st area) k
  unfolding commit_key
  key_is e q = on _ 1 _ _ form (on _ 9 _ _ (records-sound (box_of st area) (built-tidy b) k) (q ∙ ap (commit_step h ws stored (box.lock_of k ls)) (sym e)))

  -- "the lowest-stamped record with this start": "equal commit, accepted and unchanged"
  module _ {w : RecordView} (e : seen.history.started ≡ Some w) where
    started : with_start h.start ws ≡ some (record_in w)
    started = sym f.history.started ∙ ap said e

    by-record : {a : Answer} → a ≡ record_steps h (record_in w) → a ≡ commit_key h (box_of st area) k
    unfolding commit_step
    by-record q = key_is started (q ∙ ap (λ (x : Answer). need (not (box.eq_kind w.kind Rollback)) 8 ▸ x) (passes-last (need (eqb w.stamp h.commit) 8) _ 9 (commit-again (box_of st area) (built-tidy b) k h.start (record_in w) started)))

    pub record-refused : (why : Refusal) → refusal why ≡ record_steps h (record_in w) → Judged (commit_key h (box_of st area) k) (is_new h (box_of st area) k) (verdict (Err why))
    record-refused why q = refused-judged why (by-record q)

    pub record-passed : Accepted ≡ record_steps h (record_in w) → Judged (commit_key h (box_of st area) k) (is_new h (box_of st area) k) (verdict (Ok false))
    record-passed q = record { answer_is = by-record q; moves_is = sym (ap (λ (o : Option Record). not (is_some o)) started) }

  by-lock : (o : Locked) → locked_by area o ≡ box.lock_of k ls → lock_steps h seen.history.above (locked_by area o) ≡ commit_lock h ws stored (box.lock_of k ls)
  unfolding commit_lock
  by-lock None q = ap (commit_lock h ws stored) q
  by-lock (Some i) q =
      after-own (owns h.txn h.start (lock_in area i)) _ _ _
      (λ o. ap (λ (x : Bool). need x 8) f.history.above ∙ passes-last (need (all_below h.commit ws) 8) _ 9 (own-ready (box_of st area) (built-tidy b) h.txn h.start k (lock_in area i) (sym q) o))
      ∙ ap (commit_lock h ws stored) q

  -- "None: .."
  module _ (e : seen.history.started ≡ None) where
    none_yet : with_start h.start ws ≡ none
    none_yet = sym f.history.started ∙ ap said e

    by-none : {a : Answer} → a ≡ lock_steps h seen.history.above (locked_by area seen.lock) → a ≡ commit_key h (box_of st area) k
    unfolding commit_step
    by-none q = key_is none_yet (q ∙ by-lock seen.lock f.lock_is)

    pub lock-refused : (why : Refusal) → refusal why ≡ lock_steps h seen.history.above (locked_by area seen.lock) → Judged (commit_key h (box_of st area) k) (is_new h (box_of st area) k) (verdict (Err why))
    lock-refused why q = refused-judged why (by-none q)

    pub lock-passed : Accepted ≡ lock_steps h seen.history.above (locked_by area seen.lock) → Judged (commit_key h (box_of st area) k) (is_new h (box_of st area) k) (verdict (Ok true))
    lock-passed q = record { answer_is = by-none q; moves_is = sym (ap (λ (o : Option Record). not (is_some o)) none_yet) }
