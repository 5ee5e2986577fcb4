-- Document 02, CR 1: "defaults, locks, writes, each ascending by key, then stamp": so do the entries of every box whose part of the table stands in
-- order.
-- Assumes nothing.
use Prim.Native.Nat.{ℕ}
use mathlib.Core.Path.{◌≡◌, refl, ap}
use mathlib.Core.Logic.{◌⊎◌, inl, inr}
use mathlib.Core.Bool.{Bool, true, false, false≢true}
use mathlib.Core.List.{List, [], ◌∷◌}
use borrow.Author.Tests.{ltb-true}
use lib.Dec.{ltb}
use Rattle.seqs.specs.Tables.{All}
use Rattle.seqs.proofs.Alls.{all-weaken}
use Rattle.seqs.proofs.Tests.{and_left, and_right}
use Rattle.forms.specs.Bytes.{cmp, is_less, lt_bytes}
use Rattle.forms.specs.Key.{Key}
use Rattle.std.specs.declared.cmp.Ordering.{Ordering}
use Rattle.std.specs.declared.cmp.Ordering.TheVariants.{Less, Equal, Greater}
use Rattle.forms.proofs.Orders.{cmp-equal}
use Rattle.rules.specs.Box.{Box, Line, Standing, Finished, KeyLine, Default, by_order, before, row_before, all_after, ordered, in_order}
use Rattle.rules.specs.Page.{KeyLock, locks_of}
use Rattle.rules.specs.Image.{KeyRecord}
use Rattle.rules.specs.Restore.{lock_line, write_line}
use Rattle.rules.specs.Capture.{part_of, writes_of, entries_of, Ascends, Ascending, AscendingImage}

-- ---- lists

module _ {A : Type 0} where
  after-all : (lt : A → A → Bool) (x : A) (xs : List A) → all_after lt x xs ≡ true → All (λ (y : A). lt x y ≡ true) xs
  unfolding all_after All
  after-all lt x [] a = tt
  after-all lt x (y ∷ ys) a = (and_left _ _ a, after-all lt x ys (and_right (lt x y) _ a))

  ordered-ascends : (lt : A → A → Bool) (xs : List A) → ordered lt xs ≡ true → Ascending (λ (x y : A). lt x y ≡ true) xs
  unfolding ordered Ascending
  ordered-ascends lt [] o = tt
  ordered-ascends lt (x ∷ xs) o = (after-all lt x xs (and_left _ _ o), ordered-ascends lt xs (and_right (all_after lt x xs) _ o))

  ascends-as : (R S : A → A → Type 0) → ((x y : A) → R x y → S x y) → (xs : List A) → Ascending R xs → Ascending S xs
  unfolding Ascending
  ascends-as R S f [] a = tt
  ascends-as R S f (x ∷ xs) a = (all-weaken (R x) (S x) xs (f x) a.0, ascends-as R S f xs a.1)

-- ---- one entry before another

keyed : (k j : Key) (t : Bool) → by_order (cmp k j) t ≡ true → (lt_bytes k j ≡ true) ⊎ ((k ≡ j) × (t ≡ true))
unfolding lt_bytes
keyed k j t h = go (cmp k j) refl h
  where
    go : (o : Ordering) → cmp k j ≡ o → by_order o t ≡ true → (is_less (cmp k j) ≡ true) ⊎ ((k ≡ j) × (t ≡ true))
    go Less e h = inl (ap is_less e)
    go Equal e h = inr (cmp-equal k j e, h)
    go Greater e h = absurd (false≢true h)

numbered : (k j : Key) (n m : ℕ) → by_order (cmp k j) (ltb n m) ≡ true → Ascends k n j m
numbered k j n m h = go (keyed k j (ltb n m) h)
  where
    go : (lt_bytes k j ≡ true) ⊎ ((k ≡ j) × (ltb n m ≡ true)) → Ascends k n j m
    go (inl e) = inl e
    go (inr e) = inr (e.0, ltb-true n m e.1)

row-ascends : (a b : Default) → row_before a b ≡ true → Ascends a.key a.start b.key b.start
unfolding row_before
row-ascends a b h = numbered a.key b.key a.start b.start h

lock-ascends : (a b : KeyLock) → before (lock_line a) (lock_line b) ≡ true → lt_bytes a.key b.key ≡ true
unfolding before
lock-ascends a b h = go (keyed a.key b.key false h)
  where
    go : (lt_bytes a.key b.key ≡ true) ⊎ ((a.key ≡ b.key) × (false ≡ true)) → lt_bytes a.key b.key ≡ true
    go (inl e) = e
    go (inr e) = absurd (false≢true e.1)

write-ascends : (a b : KeyRecord) → before (write_line a) (write_line b) ≡ true → Ascends a.key a.write.stamp b.key b.write.stamp
unfolding before
write-ascends a b h = numbered a.key b.key a.write.stamp b.write.stamp h

-- ---- lines, locks and writes apart

-- a line is before each lock and each write of those after it
apart-after : (d : KeyLine) (es : List KeyLine) → all_after before d es ≡ true → All (λ (x : KeyLock). before d (lock_line x) ≡ true) (locks_of es) × All (λ (x : KeyRecord). before d (write_line x) ≡ true) (writes_of es)
unfolding all_after All locks_of writes_of
apart-after d [] a = (tt, tt)
apart-after d (e ∷ es) a = go e.key e.line (and_left _ _ a) (apart-after d es (and_right (before d e) _ a))
  where
    go : (k : Key) (x : Line) → before d (record { key = k; line = x }) ≡ true → All (λ x. before d (lock_line x) ≡ true) (locks_of es) × All (λ x. before d (write_line x) ≡ true) (writes_of es)
        → All (λ x. before d (lock_line x) ≡ true) (locks_of (record { key = k; line = x } ∷ es)) × All (λ x. before d (write_line x) ≡ true) (writes_of (record { key = k; line = x } ∷ es))
    go k (Standing l) h r = ((h, r.0), r.1)
    go k (Finished w) h r = (r.0, (h, r.1))

apart-ascends : (es : List KeyLine) → ordered before es ≡ true → Ascending (λ (x y : KeyLock). before (lock_line x) (lock_line y) ≡ true) (locks_of es) × Ascending (λ (x y : KeyRecord). before (write_line x) (write_line y) ≡ true) (writes_of es)
unfolding ordered Ascending locks_of writes_of
apart-ascends [] o = (tt, tt)
apart-ascends (e ∷ es) o = go e.key e.line (apart-after e es (and_left _ _ o)) (apart-ascends es (and_right (all_after before e es) _ o))
  where
    go : (k : Key) (x : Line) → All (λ y. before (record { key = k; line = x }) (lock_line y) ≡ true) (locks_of es) × All (λ y. before (record { key = k; line = x }) (write_line y) ≡ true) (writes_of es)
        → Ascending (λ x y. before (lock_line x) (lock_line y) ≡ true) (locks_of es) × Ascending (λ x y. before (write_line x) (write_line y) ≡ true) (writes_of es)
        → Ascending (λ x y. before (lock_line x) (lock_line y) ≡ true) (locks_of (record { key = k; line = x } ∷ es)) × Ascending (λ x y. before (write_line x) (write_line y) ≡ true) (writes_of (record { key = k; line = x } ∷ es))
    go k (Standing l) a r = ((a.0, r.0), r.1)
    go k (Finished w) a r = (r.0, (a.1, r.1))

-- ---- the image

pub part_ascends : (f t : ℕ) (b : Box) → in_order (part_of t b) ≡ true → AscendingImage (entries_of f t b)
unfolding in_order entries_of
part_ascends f t b o =
    let es = apart-ascends (part_of t b).lines (and_left _ _ o) in
    record {
      defaults = ascends-as _ _ row-ascends (part_of t b).defaults (ordered-ascends row_before (part_of t b).defaults (and_right (ordered before (part_of t b).lines) _ o));
      locks = ascends-as _ _ lock-ascends (locks_of (part_of t b).lines) es.0;
      writes = ascends-as _ _ write-ascends (writes_of (part_of t b).lines) es.1;
    }
