-- "Reads and pages at moments at or above F answer as before" (specs/Collected), of a tidy box in order. Assumes nothing.
use Prim.Native.Nat.{ℕ, ◌≤◌}
use native.Mathlib.Omega.{arith}
use mathlib.Core.Path.{◌≡◌, sym, ap, ap₂, ◌∙◌, subst}
use mathlib.Core.Logic.{◌⊎◌, inl, inr}
use mathlib.Core.Bool.{Bool, true}
use mathlib.Core.List.{List, [], ◌∷◌}
use mathlib.Core.Option.{Option, none}
use lib.Dec.{leb}
use borrow.Author.Tests.{le-leb}
use Rattle.forms.specs.Key.{Key, key_form}
use Rattle.forms.specs.Row.{Row}
use Rattle.forms.specs.Bytes.{lt_bytes}
use Rattle.forms.proofs.Orders.{lt_bytes-irrefl}
use Rattle.rules.specs.Answers.{Answer, Accepted, No, Held, ◌▸◌, need, Reply, nothing, if_passed, count_if}
use Rattle.rules.specs.declared.records.Kind.TheVariants.{Put}
use Rattle.rules.specs.declared.records.Record.{Record}
use Rattle.rules.specs.Box.{Box, Lock, Finished, records_of, lock_of, row_of, in_order}
use Rattle.rules.specs.Read.{lock_lets, newest_first, walk, read_steps, examine, read, at_or_below}
use Rattle.rules.specs.Intent.{judge_lock, intent_at}
use Rattle.rules.specs.Page.{Bounds, Limits, Page, KeyLock, KeyRow, locks_within, keys_of, keys_within, page_arguments, past_end, unless_past, page_walk, with_key, read_key, row_cost, page, intent_arguments, intent_walk, intent_page, conflicting, lock_cost, conflict_page}
use Rattle.rules.specs.Restore.{all_good}
use Rattle.rules.specs.Collect.{kept_lines, collected}
use Rattle.rules.proofs.FloorLaws.{examine-above, read_above, page-above}
use Rattle.laws.proofs.StepLaws.{and_left, and_right}
use Rattle.laws.proofs.Sorted.{In}
use Rattle.laws.proofs.BoxOrder.{order-lines}
use Rattle.laws.proofs.KeyLaws.{records-ordered}
use Rattle.laws.proofs.CollectLaws.{Thinned, kept-fewer, lock-kept, locks-kept, kept_records, records-kept}
use Rattle.laws.proofs.CollectReadLaws.{Fell, walk_kept}
use Rattle.laws.proofs.CollectPageLaws.{walk-thinned, fewer-thinned, keys-fewer, key_of, keys-ordered, key-or-none, within-thinned}
use Rattle.ledger.specs.Ledger.{lines_at, rows_at}
use Rattle.ledger.specs.Tidy.{good_line, Tidy}
use Rattle.ledger.specs.Collected.{AnswersAsBefore}
use Rattle.ledger.proofs.ChosenLaws.{in-nil}
use Rattle.ledger.proofs.PairLineLaws.{record-in}
use Rattle.ledger.proofs.PairRowLaws.{first_of, row_first}
use Rattle.ledger.proofs.Unmet.{records-sound}
use Rattle.ledger.proofs.CollectPairs.{PairLeft, whole, neither, pair_left}

-- the row of a pair that stays
pub row-whole : (f : ℕ) (b : Box) (k : Key) (s : ℕ) → rows_at k s (collected f b).defaults ≡ rows_at k s b.defaults → row_of k s (collected f b).defaults ≡ row_of k s b.defaults
row-whole f b k s d = row_first k s (collected f b).defaults ∙ ap first_of d ∙ sym (row_first k s b.defaults)

good-in : {A : Type 0} (p : A → Bool) (xs : List A) (x : A) → all_good p xs ≡ true → In x xs → p x ≡ true
unfolding all_good
good-in p (y ∷ ys) x a (inl e) = ap p e ∙ and_left _ _ a
good-in p (y ∷ ys) x a (inr m) = good-in p ys x (and_right (p y) _ a) m
good-in {A = A} p [] x a x4 = elim x4 [ ]

-- a count is no more where the steps are the same
count-monotone : (a : Answer) {n p : ℕ} → n ≤ p → count_if a n ≤ count_if a p
unfolding count_if
count-monotone Accepted h = h
count-monotone (No m) h = omega arith
count-monotone (Held o) h = omega arith

-- a key in form without a record and without a lock shows nothing
nothing-at : (k : Key) (m : ℕ) (b : Box) → key_form k ≡ true → records_of k b.lines ≡ [] → lock_of k b.lines ≡ none → read 0 k m b ≡ nothing
unfolding read examine read_steps lock_lets need ◌▸◌ if_passed walk newest_first at_or_below
nothing-at k m b form r l = rw (form, le-leb 0 m (omega arith), l, r)

shows_nothing : (m : ℕ) (b : Box) (k : Key) → read 0 k m b ≡ nothing → read_key m b k ≡ nothing
unfolding read_key
shows_nothing m b k e = ap (with_key k) e

module _ (f : ℕ) (b : Box) (v : Tidy b) (o : in_order b ≡ true) where
  -- ---- one key

  rows_stay : (k : Key) (w : Record) → In w (kept_records f (records_of k b.lines)) → w.kind ≡ Put → row_of k w.start (collected f b).defaults ≡ row_of k w.start b.defaults
  unfolding collected
  rows_stay k w m p = go (pair_left f b k w.start (v.pairs k w.start))
    where
      here : In (Finished w) (lines_at k w.start (kept_lines f b.lines))
      here = record-in k (kept_lines f b.lines) w (rw (records-kept f k b.lines) m)

      go : PairLeft f b k w.start → row_of k w.start (collected f b).defaults ≡ row_of k w.start b.defaults
      go (whole a d n) = row-whole f b k w.start d
      go (neither a d x n) = absurd (in-nil (Finished w) _ here a)

  steps-same : (k : Key) (m : ℕ) → read_steps 0 k m (collected f b) ≡ read_steps 0 k m b
  unfolding read_steps collected
  steps-same k m = ap (λ (l : Option Lock). need (key_form k) 1 ▸ need (leb 0 m) 14 ▸ lock_lets m l) (lock-kept f k b.lines)

  walk_same : (k : Key) (m : ℕ) → f ≤ m → Fell (walk k (collected f b).defaults (newest_first m (records_of k (collected f b).lines))) (walk k b.defaults (newest_first m (records_of k b.lines)))
  unfolding collected
  walk_same k m up =
      subst (λ (ws : List Record). Fell (walk k (collected f b).defaults (newest_first m ws)) (walk k b.defaults (newest_first m (records_of k b.lines)))) (sym (records-kept f k b.lines))
      (walk_kept k f m up b.defaults (collected f b).defaults (records_of k b.lines) (records-ordered k b.lines (order-lines b o)) (records-sound b v k) (rows_stay k))

  read_same : (k : Key) (m : ℕ) → f ≤ m → read 0 k m (collected f b) ≡ read 0 k m b
  unfolding read examine
  read_same k m up = ap₂ (λ (a : Answer) (r : Reply Row). if_passed a r) (steps-same k m) (walk_same k m up).reply

  count-fell : (k : Key) (m : ℕ) → f ≤ m → (examine 0 k m (collected f b)).count ≤ (examine 0 k m b).count
  unfolding examine
  count-fell k m up = rw (steps-same k m) (count-monotone (read_steps 0 k m b) (walk_same k m up).count)

  -- ---- the page

  -- a key that is left out shows nothing
  none-shown : (k : Key) (m : ℕ) → f ≤ m → key_form k ≡ true → records_of k (kept_lines f b.lines) ≡ [] → lock_of k (kept_lines f b.lines) ≡ none → read 0 k m b ≡ nothing
  none-shown k m up form r l = sym (read_same k m up) ∙ alone
    where
      alone : read 0 k m (collected f b) ≡ nothing
      alone = nothing-at k m (collected f b) form (unfold collected in r) (unfold collected in l)

  key-form : (k : Key) → In k (keys_of b.lines) → key_form k ≡ true
  key-form k m = let e = key_of b.lines k m in ap key_form e.2 ∙ and_left _ _ (good-in good_line b.lines e.0 v.sound.lines e.1)

  keys-thinned : (m : ℕ) → f ≤ m → Thinned (λ (k : Key). read_key m b k ≡ nothing) (keys_of (kept_lines f b.lines)) (keys_of b.lines)
  keys-thinned m up = fewer-thinned lt_bytes lt_bytes-irrefl _ (keys-fewer (kept-fewer f b.lines)) (keys-ordered b.lines (order-lines b o)) (λ k i. go k i (key-or-none k (kept_lines f b.lines)))
    where
      go : (k : Key) → In k (keys_of b.lines) → In k (keys_of (kept_lines f b.lines)) ⊎ ((records_of k (kept_lines f b.lines) ≡ []) × (lock_of k (kept_lines f b.lines) ≡ none))
          → In k (keys_of (kept_lines f b.lines)) ⊎ (read_key m b k ≡ nothing)
      go k i (inl n) = inl n
      go k i (inr n) = inr (shows_nothing m b k (none-shown k m up (key-form k i) n.0 n.1))

  walks_same : (a : Bounds) (m : ℕ) (l : Limits) → f ≤ m
      → page_walk (read_key m (collected f b)) row_cost l (keys_within a (keys_of (collected f b).lines)) 0 0 ≡ page_walk (read_key m b) row_cost l (keys_within a (keys_of b.lines)) 0 0
  unfolding collected
  walks_same a m l up =
      walk-thinned l row_cost (read_key m b) (read_key m (collected f b)) (λ k. unfold read_key in (ap (with_key k) (read_same k m up))) (within-thinned _ a (keys-thinned m up)) 0 0

  -- ---- all of them

  pub answers-as-before : (floor : ℕ) → floor ≤ f → AnswersAsBefore f floor b
  unfolding page intent_page conflict_page intent_at collected
  answers-as-before floor low = record {
    reads = λ k m up. read_above f k m (collected f b) up ∙ read_same k m up ∙ sym (read_above floor k m b (omega (arith, low, up)));
    counts = λ k m up. rw (examine-above f k m (collected f b) up, examine-above floor k m b (omega (arith, low, up))) (count-fell k m up);
    pages = λ a m l up.
        ap₂ (λ (t : Answer) (p : Reply (Page KeyRow)). if_passed t (unless_past (past_end a.resume a.to) p))
        (page-above f m l.rows l.bytes a up ∙ sym (page-above floor m l.rows l.bytes a (omega (arith, low, up)))) (walks_same a m l up);
    intents = λ a limit. ap (λ (xs : List KeyLock). if_passed (intent_arguments limit a) (unless_past (past_end a.resume a.to) (intent_walk limit (locks_within a xs) 0))) (locks-kept f b.lines);
    conflicts = λ a m l.
        ap (λ (xs : List KeyLock). if_passed (page_arguments l.rows l.bytes a) (unless_past (past_end a.resume a.to) (page_walk (conflicting m) lock_cost l (locks_within a xs) 0 0))) (locks-kept f b.lines);
    points = λ k m. ap (λ (l : Option Lock). if_passed (need (key_form k) 1) (judge_lock m l)) (lock-kept f k b.lines);
  }
