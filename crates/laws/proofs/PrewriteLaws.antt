-- One entry of a prewrite, and the batch: what its steps say where they pass, what it leaves of other keys, what stands at its own key after
-- it, and that it keeps the order. Assumes nothing.
use Prim.Native.Nat.{ℕ}
use mathlib.Core.Path.{◌≡◌, refl, ap, sym, ◌∙◌}
use mathlib.Core.Bool.{true, false, ◌&&◌}
use mathlib.Core.List.{List, [], ◌∷◌}
use mathlib.Core.Option.{Option, none, some}
use lib.Dec.{eqb}
use borrow.Author.Tests.{eqb-true}
use Rattle.forms.specs.Bytes.{eq_bytes}
use Rattle.forms.specs.Key.{Key, key_form}
use Rattle.forms.specs.Row.{Row}
use Rattle.forms.specs.Batch.{Mutation, key_inside, ascend}
use Rattle.forms.proofs.Orders.{eq_bytes-true}
use Rattle.rules.specs.Answers.{Accepted, need, need_own}
use Rattle.rules.specs.Box.{Box, Lock, Standing, Default, holder_of, records_of, lock_of, row_of, in_order, ordered, row_before, insert_line, insert_default}
use Rattle.rules.specs.Sound.{all_sound}
use Rattle.rules.specs.Calls.{kind_of, owns, all_below, row_argument, row_stands}
use Rattle.rules.specs.Prewrite.{PrewriteTerms, lock_step, prewrite_entry, prewrite_entries, lock_for, same_lock, store_if, lock_line, unless_locked, apply_prewrite, apply_prewrites}
use Rattle.laws.proofs.StepLaws.{then-left, then-right, need-true, own-true, and_left, and_right, none-there, and-false}
use Rattle.laws.proofs.BoxOrder.{ordered-lock, ordered-default, order-lines, order-defaults, in_order_lem}
use Rattle.laws.proofs.KeyLaws.{lock-other, records-lock, lock_new, row_other}
use Rattle.laws.proofs.FrameLaws.{Same, Apart}
use Rattle.laws.proofs.RecordLaws.{eq_kind-true}
use Rattle.laws.proofs.BatchLaws as batch

-- ---- what the steps of an entry say where they pass

pub record PrewritePassed (h : PrewriteTerms) (b : Box) (m : Mutation) : Type 0 where
  pub key : key_form m.key ≡ true
  pub row : row_argument m.row ≡ true
  pub sound : all_sound (records_of m.key b.lines) ≡ true
  pub below : all_below h.start (records_of m.key b.lines) ≡ true
  pub lock : lock_step h m.row (row_of m.key h.start b.defaults) (lock_of m.key b.lines) ≡ Accepted

pub prewrite-passed : (h : PrewriteTerms) (b : Box) (m : Mutation) → prewrite_entry h b m ≡ Accepted → PrewritePassed h b m
unfolding prewrite_entry
prewrite-passed h b m p =
    let p₁ = then-right (need (key_form m.key) 1) _ p in
    let p₂ = then-right (need (row_argument m.row) 2) _ p₁ in
    let p₃ = then-right (need (all_sound (records_of m.key b.lines)) 9) _ p₂ in
    record {
      key = need-true _ _ (then-left _ _ p);
      row = need-true _ _ (then-left _ _ p₁);
      sound = need-true _ _ (then-left _ _ p₂);
      below = need-true _ _ (then-left _ _ p₃);
      lock = then-right (need (all_below h.start (records_of m.key b.lines)) 8) _ p₃;
    }

-- "a default without lock, 9"
pub free-row : (h : PrewriteTerms) (row stored : Option Row) (o : Option Lock) → lock_step h row stored o ≡ Accepted → o ≡ none → stored ≡ none
unfolding lock_step
free-row h row stored none p e = none-there stored (need-true _ _ p)
free-row h row stored (some l) p e = cc

-- "own equal lock": it is the lock that the call would make
pub own-lock : (h : PrewriteTerms) (row stored : Option Row) (l : Lock) → lock_step h row stored (some l) ≡ Accepted → l ≡ lock_for h (kind_of row)
unfolding lock_step
own-lock h row stored l p =
    let o : owns h.txn h.start l ≡ true = own-true _ _ (then-left _ _ p) in
    let q : same_lock h (kind_of row) l && row_stands row stored ≡ true = need-true _ _ (then-right (need_own (owns h.txn h.start l) (holder_of l)) _ p) in
    let r : same_lock h (kind_of row) l ≡ true = and_left _ _ q in
    let s : eq_bytes l.primary h.primary && eqb l.ttl h.ttl ≡ true = and_left _ _ r in
    same-lock l (lock_for h (kind_of row)) (eqb-true _ _ (and_left _ _ o)) (eq_bytes-true _ _ (and_left _ _ s)) (eqb-true _ _ (and_right (eqb l.txn h.txn) _ o))
    (eqb-true _ _ (and_right (eq_bytes l.primary h.primary) _ s)) (eq_kind-true _ _ (and_right (eq_bytes l.primary h.primary && eqb l.ttl h.ttl) _ r))
  where
    same-lock : (l m : Lock) → l.txn ≡ m.txn → l.primary ≡ m.primary → l.start ≡ m.start → l.ttl ≡ m.ttl → l.kind ≡ m.kind → l ≡ m
    same-lock l m a p s t k = λ i. record { txn = a i; primary = p i; start = s i; ttl = t i; kind = k i }

-- "a Put whose stored row is missing or different, 9"
pub own_row : (h : PrewriteTerms) (row stored : Option Row) (l : Lock) → lock_step h row stored (some l) ≡ Accepted → row_stands row stored ≡ true
unfolding lock_step
own_row h row stored l p =
    let q : same_lock h (kind_of row) l && row_stands row stored ≡ true = need-true _ _ (then-right (need_own (owns h.txn h.start l) (holder_of l)) _ p) in
    and_right (same_lock h (kind_of row) l) _ q

-- ---- what an entry makes of the box

-- "Each entry not yet locked gets a lock with the call's fields and the entry's kind, and a Put's row is stored at this start"
pub prewrite-new : (h : PrewriteTerms) (m : Mutation) (b : Box) → lock_of m.key b.lines ≡ none
    → apply_prewrite h m b ≡ record { lines = insert_line (record { key = m.key; line = Standing (lock_for h (kind_of m.row)) }) b.lines; defaults = store_if m.key h.start m.row b.defaults }
unfolding apply_prewrite unless_locked lock_line
prewrite-new h m b e = rw e

pub prewrite-old : (h : PrewriteTerms) (m : Mutation) (b : Box) (l : Lock) → lock_of m.key b.lines ≡ some l → apply_prewrite h m b ≡ b
unfolding apply_prewrite unless_locked
prewrite-old h m b l e = rw e

pub store-none : (k : Key) (s : ℕ) (row : Option Row) (ds : List Default) → row ≡ none → store_if k s row ds ≡ ds
unfolding store_if
store-none k s row ds e = rw e

pub store-some : (k : Key) (s : ℕ) (row : Option Row) (r : Row) (ds : List Default) → row ≡ some r → store_if k s row ds ≡ insert_default (record { key = k; start = s; row = r }) ds
unfolding store_if
store-some k s row r ds e = rw e

-- ---- other keys

store_other : (i k : Key) (t s : ℕ) (r : Option Row) (ds : List Default) → eq_bytes i k && eqb t s ≡ false → row_of i t (store_if k s r ds) ≡ row_of i t ds
unfolding store_if
store_other i k t s none ds h = refl
store_other i k t s (some r) ds h = row_other i t (record { key = k; start = s; row = r }) ds h

-- a row of another key or start stays
pub prewrite-rows : (h : PrewriteTerms) (m : Mutation) (b : Box) (i : Key) (t : ℕ) → eq_bytes i m.key && eqb t h.start ≡ false → row_of i t (apply_prewrite h m b).defaults ≡ row_of i t b.defaults
unfolding apply_prewrite unless_locked lock_line
prewrite-rows h m b i t a = go (lock_of m.key b.lines)
  where
    go : (o : Option Lock) → row_of i t (unless_locked o (lock_line h m b) b).defaults ≡ row_of i t b.defaults
    go none = store_other i m.key t h.start m.row b.defaults a
    go (some l) = refl

-- no key's records change
pub prewrite-records : (h : PrewriteTerms) (m : Mutation) (b : Box) (i : Key) → records_of i (apply_prewrite h m b).lines ≡ records_of i b.lines
unfolding apply_prewrite unless_locked lock_line
prewrite-records h m b i = go (lock_of m.key b.lines)
  where
    go : (o : Option Lock) → records_of i (unless_locked o (lock_line h m b) b).lines ≡ records_of i b.lines
    go none = records-lock i m.key (lock_for h (kind_of m.row)) b.lines
    go (some l) = refl

prewrite-locks : (h : PrewriteTerms) (m : Mutation) (b : Box) (i : Key) → eq_bytes i m.key ≡ false → lock_of i (apply_prewrite h m b).lines ≡ lock_of i b.lines
unfolding apply_prewrite unless_locked lock_line
prewrite-locks h m b i a = go (lock_of m.key b.lines)
  where
    go : (o : Option Lock) → lock_of i (unless_locked o (lock_line h m b) b).lines ≡ lock_of i b.lines
    go none = lock-other i (record { key = m.key; line = Standing (lock_for h (kind_of m.row)) }) b.lines a
    go (some l) = refl

pub prewrite-only : (h : PrewriteTerms) (t : ℕ) → batch.Only key_inside t (apply_prewrite h)
prewrite-only h t m b i a = record { records = prewrite-records h m b i; lock = prewrite-locks h m b i a; row = prewrite-rows h m b i t (and-false (eq_bytes i m.key) (eqb t h.start) a) }

pub prewrite-depends : (h : PrewriteTerms) → batch.Depends key_inside h.start (prewrite_entry h)
unfolding prewrite_entry
prewrite-depends h b c m v = rw (v.records, v.lock, v.row)

-- ---- its own key

pub prewrite-lock : (h : PrewriteTerms) (b : Box) (m : Mutation) → prewrite_entry h b m ≡ Accepted → lock_of m.key (apply_prewrite h m b).lines ≡ some (lock_for h (kind_of m.row))
unfolding apply_prewrite unless_locked lock_line
prewrite-lock h b m p = go (lock_of m.key b.lines) refl (prewrite-passed h b m p).lock
  where
    go : (o : Option Lock) → lock_of m.key b.lines ≡ o → lock_step h m.row (row_of m.key h.start b.defaults) o ≡ Accepted
        → lock_of m.key (unless_locked o (lock_line h m b) b).lines ≡ some (lock_for h (kind_of m.row))
    go none e q = lock_new m.key (lock_for h (kind_of m.row)) b.lines e
    go (some l) e q = e ∙ ap {B = Option Lock} some (own-lock h m.row _ l q)

-- ---- the order

store-order : (k : Key) (s : ℕ) (row : Option Row) (ds : List Default) → row_of k s ds ≡ none → ordered row_before ds ≡ true → ordered row_before (store_if k s row ds) ≡ true
unfolding store_if
store-order k s none ds n o = o
store-order k s (some r) ds n o = ordered-default (record { key = k; start = s; row = r }) ds n o

pub prewrite-order : (h : PrewriteTerms) (m : Mutation) (b : Box) → prewrite_entry h b m ≡ Accepted → in_order b ≡ true → in_order (apply_prewrite h m b) ≡ true
unfolding apply_prewrite unless_locked lock_line
prewrite-order h m b p o = go (lock_of m.key b.lines) refl (prewrite-passed h b m p).lock
  where
    go : (l : Option Lock) → lock_of m.key b.lines ≡ l → lock_step h m.row (row_of m.key h.start b.defaults) l ≡ Accepted → in_order (unless_locked l (lock_line h m b) b) ≡ true
    go none e q =
        in_order_lem _ _ (ordered-lock m.key (lock_for h (kind_of m.row)) b.lines e (order-lines b o))
        (store-order m.key h.start m.row b.defaults (free-row h m.row _ none q refl) (order-defaults b o))
    go (some l) e q = o

-- ---- the batch

pub prewrite_entries-all : (h : PrewriteTerms) (b : Box) (ms : List Mutation) → prewrite_entries h b ms ≡ batch.check_all (prewrite_entry h) b ms
unfolding prewrite_entries batch.check_all
prewrite_entries-all h b [] = refl
prewrite_entries-all h b (m ∷ ms) = rw (prewrite_entries-all h b ms)

pub apply_prewrites-all : (h : PrewriteTerms) (ms : List Mutation) (b : Box) → apply_prewrites h ms b ≡ batch.apply_all (apply_prewrite h) ms b
unfolding apply_prewrites batch.apply_all
apply_prewrites-all h [] b = refl
apply_prewrites-all h (m ∷ ms) b = apply_prewrites-all h ms (apply_prewrite h m b)

module _ (h : PrewriteTerms) where
  -- what was allowed on the box before the call is allowed in its turn
  pub prewrite-still : (m : Mutation) (ms : List Mutation) (b : Box) → ascend key_inside (m ∷ ms) ≡ true → prewrite_entries h b (m ∷ ms) ≡ Accepted → prewrite_entries h (apply_prewrite h m b) ms ≡ Accepted
  prewrite-still m ms b a p =
      prewrite_entries-all h (apply_prewrite h m b) ms
      ∙ batch.still-pass key_inside h.start (prewrite_entry h) (prewrite-depends h) (apply_prewrite h) (prewrite-only h h.start) m ms b a (sym (prewrite_entries-all h b (m ∷ ms)) ∙ p)

  -- what one entry keeps the batch keeps, with the entries that were applied
  pub prewrites-log : (P : Box → List Mutation → Type 0) → ((m : Mutation) (b : Box) (done : List Mutation) → prewrite_entry h b m ≡ Accepted → P b done → P (apply_prewrite h m b) (m ∷ done))
      → (ms : List Mutation) (b : Box) (done : List Mutation) → ascend key_inside ms ≡ true → prewrite_entries h b ms ≡ Accepted → P b done → P (apply_prewrites h ms b) (batch.onto ms done)
  prewrites-log P step ms b done a p v =
      rw (apply_prewrites-all h ms b) (batch.batch-log key_inside h.start (prewrite_entry h) (prewrite-depends h) (apply_prewrite h) (prewrite-only h h.start) P step ms b done a (sym (prewrite_entries-all h b ms) ∙ p) v)

  pub prewrites-keep : (P : Box → Type 0) → ((m : Mutation) (b : Box) → prewrite_entry h b m ≡ Accepted → P b → P (apply_prewrite h m b))
      → (ms : List Mutation) (b : Box) → ascend key_inside ms ≡ true → prewrite_entries h b ms ≡ Accepted → P b → P (apply_prewrites h ms b)
  prewrites-keep P step ms b a p v = prewrites-log (λ c done. P c) (λ m c done. step m c) ms b [] a p v

  pub prewrites-order : (ms : List Mutation) (b : Box) → ascend key_inside ms ≡ true → prewrite_entries h b ms ≡ Accepted → in_order b ≡ true → in_order (apply_prewrites h ms b) ≡ true
  prewrites-order = prewrites-keep (λ b. in_order b ≡ true) (prewrite-order h)

  -- a key that is not in the batch keeps what stands there
  pub prewrites-other : (t : ℕ) (i : Key) (ms : List Mutation) (b : Box) → Apart key_inside i ms → Same b (apply_prewrites h ms b) i t
  prewrites-other t i ms b f = rw (apply_prewrites-all h ms b) (batch.batch-other key_inside t (apply_prewrite h) (prewrite-only h t) i ms b f)
