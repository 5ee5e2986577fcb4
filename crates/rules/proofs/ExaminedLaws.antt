-- The number of records that a read reports is what document 02, CR 6, says of it. Assumes nothing.
use Prim.Native.Nat.{ℕ, suc, ◌≤◌, ◌<◌}
use mathlib.Core.Logic.{◌⊎◌, inl, inr}
use native.Mathlib.Omega.{arith}
use mathlib.Core.Path.{◌≡◌, refl, sym, ap, ◌∙◌}
use mathlib.Core.Bool.{Bool, true, false, ◌&&◌, true≢false, false≢true}
use mathlib.Core.List.{List, [], ◌∷◌, ◌++◌}
use mathlib.Core.Option.{Option, none, some}
use lib.ListN.{length, length-reverse}
use lib.Dec.{leb, ltb}
use borrow.Author.Tests.{le-ltb, lt-leb}
use Rattle.seqs.proofs.Tests.{and_left, and_right}
use Rattle.forms.specs.Key.{Key, key_form}
use Rattle.forms.specs.Row.{Row, row_form}
use Rattle.rules.specs.Answers.{Answer, Accepted, No, Held, ◌▸◌, need, need_own, Reply, count_if, number, answer_of, if_passed}
use Rattle.rules.specs.declared.records.Kind.{Kind}
use Rattle.rules.specs.declared.records.Kind.TheVariants.{Put, Delete, Rollback}
use Rattle.rules.specs.declared.records.Record.{Record}
use Rattle.rules.specs.Box.{Box, Lock, Default, eq_kind, holder_of, records_of, lock_of, row_of}
use Rattle.rules.specs.Sound.{sound_record}
use Rattle.rules.specs.Read.{lock_lets, at_or_below, newest_first, show_row, Examined, one_record, walk, read_steps, examine, show_if}
use Rattle.rules.specs.Examined.{goes_on, all_go_on, by_moment, CountSays, CountTold}

-- ---- one record

-- a Rollback that is sound adds one to the older ones, any other record stands alone
one_on : (t : Bool) (k : Kind) (row : Reply Row) (older : Examined) → t && eq_kind k Rollback ≡ true → (one_record t k row older).count ≡ suc older.count
unfolding one_record
one_on true Put row older h = absurd (false≢true h)
one_on true Delete row older h = absurd (false≢true h)
one_on true Rollback row older h = refl
one_on false k row older h = absurd (false≢true h)

one-alone : (t : Bool) (k : Kind) (row : Reply Row) (older : Examined) → t && eq_kind k Rollback ≡ false → (one_record t k row older).count ≡ 1
unfolding one_record
one-alone true Put row older h = refl
one-alone true Delete row older h = refl
one-alone true Rollback row older h = absurd (true≢false h)
one-alone false k row older h = refl

one-most : (t : Bool) (k : Kind) (row : Reply Row) (older : Examined) (n : ℕ) → older.count ≤ n → (one_record t k row older).count ≤ suc n
unfolding one_record
one-most true Put row older n h = omega arith
one-most true Delete row older n h = omega arith
one-most true Rollback row older n h = omega arith
one-most false k row older n h = omega arith

-- the walk gives an answer, or 9
abbrev Told : Answer → Type 0
Told a = (a ≡ Accepted) ⊎ (a ≡ No 9)

one_told : (t : Bool) (k : Kind) (stored : Option Row) (older : Examined) → Told (answer_of older.reply) → Told (answer_of (one_record t k (show_row stored) older).reply)
unfolding one_record show_row show_if
one_told true Put none older h = inr refl
one_told true Put (some r) older h = go (row_form r)
  where
    go : (t : Bool) → Told (answer_of (show_if t r))
    go true = inl refl
    go false = inr refl
one_told true Delete stored older h = inl refl
one_told true Rollback stored older h = h
one_told false k stored older h = inr refl

-- ---- the walk

module _ (k : Key) (ds : List Default) where
  walk-decided : (over : List Record) (w : Record) (older : List Record) → all_go_on over ≡ true → goes_on w ≡ false → (walk k ds (over ++ (w ∷ older))).count ≡ suc (length over)
  unfolding walk all_go_on
  walk-decided [] w older h g = one-alone (sound_record w) w.kind _ _ g
  walk-decided (v ∷ over) w older h g = one_on (sound_record v) v.kind _ _ (and_left (goes_on v) _ h) ∙ ap suc (walk-decided over w older (and_right (goes_on v) _ h) g)

  walk-only : (ws : List Record) → all_go_on ws ≡ true → (walk k ds ws).count ≡ length ws
  unfolding walk all_go_on
  walk-only [] h = refl
  walk-only (v ∷ ws) h = one_on (sound_record v) v.kind _ _ (and_left (goes_on v) _ h) ∙ ap suc (walk-only ws (and_right (goes_on v) _ h))

  walk-most : (ws : List Record) → (walk k ds ws).count ≤ length ws
  unfolding walk
  walk-most [] = omega arith
  walk-most (w ∷ ws) = one-most (sound_record w) w.kind _ _ (length ws) (walk-most ws)

  walk-told : (ws : List Record) → Told (answer_of (walk k ds ws).reply)
  unfolding walk
  walk-told [] = inl refl
  walk-told (w ∷ ws) = one_told (sound_record w) w.kind (row_of k w.start ds) (walk k ds ws) (walk-told ws)

-- ---- the steps before it

count_most : (a : Answer) (n : ℕ) → count_if a n ≤ n
unfolding count_if
count_most Accepted n = omega arith
count_most (No m) n = omega arith
count_most (Held h) n = omega arith

module _ (floor : ℕ) (k : Key) (m : ℕ) (b : Box) where
  counted : (n : ℕ) → read_steps floor k m b ≡ Accepted → (walk k b.defaults (by_moment k m b)).count ≡ n → (examine floor k m b).count ≡ n
  unfolding examine count_if
  counted n p e = ap (λ (a : Answer). count_if a (walk k b.defaults (by_moment k m b)).count) p ∙ e

  -- the steps refuse a key out of form, and one that is locked
  refused-form : key_form k ≡ false → (examine floor k m b).count ≡ 0
  unfolding examine read_steps need ◌▸◌ count_if
  refused-form h = ap (λ (t : Bool). count_if (need t 1 ▸ need (leb floor m) 14 ▸ lock_lets m (lock_of k b.lines)) (walk k b.defaults (by_moment k m b)).count) h

  refused-lock : (l : Lock) → lock_of k b.lines ≡ some l → l.start ≤ m → (examine floor k m b).count ≡ 0
  unfolding examine read_steps lock_lets need need_own ◌▸◌ count_if
  refused-lock l e h =
      ap (λ (o : Option Lock). count_if (need (key_form k) 1 ▸ need (leb floor m) 14 ▸ lock_lets m o) n) e
      ∙ ap (λ (t : Bool). count_if (need (key_form k) 1 ▸ need (leb floor m) 14 ▸ need_own t (holder_of l)) n) (le-ltb m l.start h) ∙ held (key_form k) (leb floor m)
    where
      n : ℕ
      n = (walk k b.defaults (by_moment k m b)).count

      held : (t u : Bool) → count_if (need t 1 ▸ need u 14 ▸ need_own false (holder_of l)) n ≡ 0
      held true true = refl
      held true false = refl
      held false u = refl

  refused-floor : m < floor → (examine floor k m b).count ≡ 0
  unfolding examine read_steps need ◌▸◌ count_if
  refused-floor h = ap (λ (t : Bool). count_if (need (key_form k) 1 ▸ need t 14 ▸ lock_lets m (lock_of k b.lines)) n) (lt-leb floor m h) ∙ below (key_form k)
    where
      n : ℕ
      n = (walk k b.defaults (by_moment k m b)).count

      below : (t : Bool) → count_if (need t 1 ▸ need false 14 ▸ lock_lets m (lock_of k b.lines)) n ≡ 0
      below true = refl
      below false = refl

  none-examined : by_moment k m b ≡ [] → (examine floor k m b).count ≡ 0
  unfolding examine walk
  none-examined e = ap (λ (ws : List Record). count_if (read_steps floor k m b) (walk k b.defaults ws).count) e ∙ (omega (arith, count_most (read_steps floor k m b) 0))

  at_most : (examine floor k m b).count ≤ length (at_or_below m (records_of k b.lines))
  unfolding examine newest_first
  at_most =
      omega (
        arith,
        count_most (read_steps floor k m b) (walk k b.defaults (by_moment k m b)).count,
        walk-most k b.defaults (by_moment k m b),
        length-reverse (at_or_below m (records_of k b.lines)),
      )

-- "The definition's own walk gives the number."
pub count-says : (floor : ℕ) (k : Key) (m : ℕ) (b : Box) → CountSays floor k m b
count-says floor k m b = record {
  formless = refused-form floor k m b;
  floored = refused-floor floor k m b;
  locked = refused-lock floor k m b;
  none_by = none-examined floor k m b;
  decided = λ p over w older e h g. counted floor k m b (suc (length over)) p (ap (λ (ws : List Record). (walk k b.defaults ws).count) e ∙ walk-decided k b.defaults over w older h g);
  only = λ p h. counted floor k m b (length (by_moment k m b)) p (walk-only k b.defaults (by_moment k m b) h);
  most = at_most floor k m b;
}

-- ---- the same by what the read answered

-- what they refuse counts 0
others-none : (a : Answer) (x : Examined) → Told (answer_of x.reply) → (answer_of (if_passed a x.reply) ≡ Accepted → ⊥) → (answer_of (if_passed a x.reply) ≡ No 9 → ⊥) → count_if a x.count ≡ 0
unfolding if_passed count_if
others-none Accepted x (inl e) n m = absurd (n e)
others-none Accepted x (inr e) n m = absurd (m e)
others-none (No k) x h n m = refl
others-none (Held h) x t n m = refl

-- and what they refuse is neither accepted nor 9
walked : (a : Answer) (r : Reply Row) → (a ≡ No 9 → ⊥) → Told (answer_of (if_passed a r)) → a ≡ Accepted
unfolding if_passed
walked Accepted r n h = refl
walked (No k) r n (inl e) = e
walked (No k) r n (inr e) = absurd (n e)
walked (Held h) r n (inl e) = e
walked (Held h) r n (inr e) = absurd (n e)

module _ (floor : ℕ) (k : Key) (m : ℕ) (b : Box) where
  not-nine : read_steps floor k m b ≡ No 9 → ⊥
  unfolding read_steps lock_lets need_own need ◌▸◌
  not-nine e = go (key_form k) (leb floor m) (lock_of k b.lines) (ap number e)
    where
      free : (o : Option Lock) → number (lock_lets m o) ≡ 9 → ⊥
      free none q = omega arith
      free (some l) q = held (ltb m l.start) q
        where
          held : (t : Bool) → number (need_own t (holder_of l)) ≡ 9 → ⊥
          held true q = omega arith
          held false q = omega arith

      go : (t u : Bool) (o : Option Lock) → number (need t 1 ▸ need u 14 ▸ lock_lets m o) ≡ 9 → ⊥
      go true true o q = free o q
      go true false o q = omega arith
      go false u o q = omega arith

  abbrev answer : Answer
  answer = answer_of (examine floor k m b).reply

  counted_told : (n : ℕ) → Told answer → (walk k b.defaults (by_moment k m b)).count ≡ n → (examine floor k m b).count ≡ n
  unfolding examine count_if
  counted_told n p e = ap (λ (a : Answer). count_if a (walk k b.defaults (by_moment k m b)).count) (walked (read_steps floor k m b) _ not-nine p) ∙ e

  refused_none : (answer ≡ Accepted → ⊥) → (answer ≡ No 9 → ⊥) → (examine floor k m b).count ≡ 0
  unfolding examine
  refused_none = others-none (read_steps floor k m b) (walk k b.defaults (by_moment k m b)) (walk-told k b.defaults (by_moment k m b))

  -- "The definition's own walk gives the number."
  pub count-told : CountTold k m b answer (examine floor k m b).count
  count-told = record {
    others = refused_none;
    none_by = none-examined floor k m b;
    decided = λ p over w older e h g. counted_told (suc (length over)) p (ap (λ (ws : List Record). (walk k b.defaults ws).count) e ∙ walk-decided k b.defaults over w older h g);
    only = λ p h. counted_told (length (by_moment k m b)) (inl p) (walk-only k b.defaults (by_moment k m b) h);
    most = at_most floor k m b;
  }
