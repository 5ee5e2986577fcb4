-- Every key of a box is in form, and stays so: one law for each change over any test of keys, and a line for each changing call.
-- Assumes nothing.
use Prim.Native.Nat.{ℕ}
use mathlib.Core.Path.{◌≡◌, refl}
use mathlib.Core.Bool.{Bool, true}
use mathlib.Core.List.{List, [], ◌∷◌}
use mathlib.Core.Option.{Option, none, some}
use Rattle.forms.specs.Key.{Key, key_form}
use Rattle.forms.specs.Row.{Row}
use Rattle.forms.specs.Batch.{Mutation}
use Rattle.rules.specs.Answers.{Accepted, need}
use Rattle.rules.specs.declared.records.Record.{Record}
use Rattle.rules.specs.declared.records.Kind.TheVariants.{Rollback}
use Rattle.rules.specs.Box.{Box, Lock, Standing, Finished, KeyLine, Default, records_of, lock_of, before, row_before, insert_line, insert_default, drop_lock, drop_row}
use Rattle.rules.specs.Calls.{kind_of, record_for, row_argument, stamped_at}
use Rattle.rules.specs.Prewrite.{PrewriteTerms, lock_for, store_if, lock_line, unless_locked, apply_prewrite}
use Rattle.rules.specs.declared.terms.CommitTerms.{CommitTerms}
use Rattle.rules.specs.Commit.{with_start, commit_to, apply_commit}
use Rattle.rules.specs.Rollback.{rollback_to, apply_rollback}
use Rattle.rules.specs.OneStep.{arguments_step, replace_if, apply_step}
use Rattle.rules.specs.Restore.{all_good}
use Rattle.laws.specs.Keys.{keys_all}
use Rattle.laws.proofs.StepLaws.{then-left, then-right, need-true, and_left, and_right, and_both}
use Rattle.laws.proofs.Sorted.{all_insert, fewer-good}
use Rattle.laws.proofs.BoxOrder.{drop_lock-fewer, drop_row-fewer}
use Rattle.laws.proofs.BatchLaws.{apply_all}

-- ---- one change, over any test

module _ (p : Key → Bool) where
  abbrev in_lines : KeyLine → Bool
  in_lines e = p e.key

  abbrev in_defaults : Default → Bool
  in_defaults d = p d.key

  pub keys-lines : (b : Box) → keys_all p b ≡ true → all_good in_lines b.lines ≡ true
  unfolding keys_all
  keys-lines b a = and_left _ _ a

  pub keys-defaults : (b : Box) → keys_all p b ≡ true → all_good in_defaults b.defaults ≡ true
  unfolding keys_all
  keys-defaults b a = and_right (all_good in_lines b.lines) _ a

  pub keys-both : (es : List KeyLine) (ds : List Default) → all_good in_lines es ≡ true → all_good in_defaults ds ≡ true → keys_all p (record { lines = es; defaults = ds }) ≡ true
  unfolding keys_all
  keys-both es ds a d = and_both _ _ a d

  line-comes : (e : KeyLine) (es : List KeyLine) → p e.key ≡ true → all_good in_lines es ≡ true → all_good in_lines (insert_line e es) ≡ true
  line-comes e es h a = all_insert before e in_lines es h a

  default-comes : (d : Default) (ds : List Default) → p d.key ≡ true → all_good in_defaults ds ≡ true → all_good in_defaults (insert_default d ds) ≡ true
  default-comes d ds h a = all_insert row_before d in_defaults ds h a

  lock-goes : (k : Key) (es : List KeyLine) → all_good in_lines es ≡ true → all_good in_lines (drop_lock k es) ≡ true
  lock-goes k es a = fewer-good in_lines (drop_lock-fewer k es) a

  row_goes : (k : Key) (s : ℕ) (ds : List Default) → all_good in_defaults ds ≡ true → all_good in_defaults (drop_row k s ds) ≡ true
  row_goes k s ds a = fewer-good in_defaults (drop_row-fewer k s ds) a

  stores : (k : Key) (s : ℕ) (row : Option Row) (ds : List Default) → p k ≡ true → all_good in_defaults ds ≡ true → all_good in_defaults (store_if k s row ds) ≡ true
  unfolding store_if
  stores k s none ds h a = a
  stores k s (some r) ds h a = default-comes (record { key = k; start = s; row = r }) ds h a

  replaces : (k : Key) (s : ℕ) (row : Option Row) (ds : List Default) → p k ≡ true → all_good in_defaults ds ≡ true → all_good in_defaults (replace_if k s row ds) ≡ true
  unfolding replace_if
  replaces k s none ds h a = a
  replaces k s (some r) ds h a = default-comes (record { key = k; start = s; row = r }) (drop_row k s ds) h (row_goes k s ds a)

  -- ---- one entry

  pub prewrite-keys : (h : PrewriteTerms) (m : Mutation) (b : Box) → p m.key ≡ true → keys_all p b ≡ true → keys_all p (apply_prewrite h m b) ≡ true
  unfolding apply_prewrite unless_locked lock_line
  prewrite-keys h m b q a = go (lock_of m.key b.lines)
    where
      go : (o : Option Lock) → keys_all p (unless_locked o (lock_line h m b) b) ≡ true
      go none =
          keys-both _ _ (line-comes (record { key = m.key; line = Standing (lock_for h (kind_of m.row)) }) b.lines q (keys-lines b a))
          (stores m.key h.start m.row b.defaults q (keys-defaults b a))
      go (some l) = a

  pub commit-keys : (h : CommitTerms) (k : Key) (b : Box) → p k ≡ true → keys_all p b ≡ true → keys_all p (apply_commit h k b) ≡ true
  unfolding apply_commit commit_to
  commit-keys h k b q a = go (with_start h.start (records_of k b.lines)) (lock_of k b.lines)
    where
      go : (f : Option Record) (o : Option Lock) → keys_all p (commit_to h.commit b k f o) ≡ true
      go (some w) o = a
      go none none = a
      go none (some l) = keys-both _ _ (line-comes (record { key = k; line = Finished (record_for l.start h.commit l.kind) }) (drop_lock k b.lines) q (lock-goes k b.lines (keys-lines b a))) (keys-defaults b a)

  pub rollback-keys : (start : ℕ) (k : Key) (b : Box) → p k ≡ true → keys_all p b ≡ true → keys_all p (apply_rollback start k b) ≡ true
  unfolding apply_rollback rollback_to
  rollback-keys start k b q a = go (stamped_at start (records_of k b.lines))
    where
      go : (f : Option Record) → keys_all p (rollback_to start b k f) ≡ true
      go (some w) = a
      go none =
          keys-both _ _ (line-comes (record { key = k; line = Finished (record_for start start Rollback) }) (drop_lock k b.lines) q (lock-goes k b.lines (keys-lines b a)))
          (row_goes k start b.defaults (keys-defaults b a))

  pub step-keys : (h : CommitTerms) (m : Mutation) (b : Box) → p m.key ≡ true → keys_all p b ≡ true → keys_all p (apply_step h m b) ≡ true
  unfolding apply_step
  step-keys h m b q a =
      keys-both _ _ (line-comes (record { key = m.key; line = Finished (record_for h.start h.commit (kind_of m.row)) }) (drop_lock m.key b.lines) q (lock-goes m.key b.lines (keys-lines b a)))
      (replaces m.key h.start m.row b.defaults q (keys-defaults b a))

  -- ---- the batch

  pub batch-keys : {A : Type 0} (key : A → Key) (apply : A → Box → Box) → ((x : A) (b : Box) → p (key x) ≡ true → keys_all p b ≡ true → keys_all p (apply x b) ≡ true)
      → (xs : List A) (b : Box) → all_good (λ (x : A). p (key x)) xs ≡ true → keys_all p b ≡ true → keys_all p (apply_all apply xs b) ≡ true
  unfolding apply_all all_good
  batch-keys key apply one [] b g a = a
  batch-keys key apply one (x ∷ xs) b g a = batch-keys key apply one xs (apply x b) (and_right (p (key x)) _ g) (one x b (and_left _ _ g) a)

-- ---- the steps ask for keys in form

argument-forms : (ms : List Mutation) → arguments_step ms ≡ Accepted → all_good (λ (m : Mutation). key_form m.key) ms ≡ true
unfolding arguments_step all_good
argument-forms [] p = refl
argument-forms (m ∷ ms) p =
    and_both (key_form m.key) _ (need-true _ _ (then-left _ _ p)) (argument-forms ms (then-right (need (row_argument m.row) 2) _ (then-right (need (key_form m.key) 1) _ p)))
