-- A table's part of a box: it keeps the order, the limits and whatever holds of every entry, and of a part the part is itself. The entries
-- of an image are the lines of its box, locks and writes apart. Assumes nothing.
use Prim.Native.Nat.{ℕ, suc, ◌≤◌}
use native.Mathlib.Omega.{arith}
use mathlib.Core.Path.{◌≡◌, refl, ap₂}
use mathlib.Core.Logic.{◌⊎◌, inl, inr}
use mathlib.Core.Bool.{Bool, true}
use mathlib.Core.List.{List, [], ◌∷◌, map}
use lib.ListN.{length}
use Rattle.seqs.specs.Tables.{All}
use Rattle.forms.specs.Key.{Key}
use Rattle.rules.specs.Box.{Box, Line, Standing, Finished, KeyLine, Default, in_order}
use Rattle.rules.specs.Room.{room_for}
use Rattle.rules.specs.Read.{keep_if, those}
use Rattle.rules.specs.Page.{KeyLock, locks_of}
use Rattle.rules.specs.Image.{KeyRecord}
use Rattle.rules.specs.Restore.{all_good, lock_line, write_line}
use Rattle.rules.specs.Capture.{line_of_table, row_of_table, part_of, writes_of, entries_of, AscendingImage, LineWords, LockWords, RecordWords, Words}
use Rattle.rules.proofs.AscendLaws.{part_ascends}
use Rattle.laws.proofs.StepLaws.{and_left, and_right, and_both}
use Rattle.laws.proofs.Sorted.{In}
use Rattle.laws.proofs.PlaceLaws.{those-fewer, those-hold}
use Rattle.laws.proofs.FewerLaws.{FewerBox, fewer-order, fewer-words, fewer-room}

-- ---- those of which a test holds

module _ {A : Type 0} (p : A → Bool) where
  pub those-all : (xs : List A) → all_good p xs ≡ true → those p xs ≡ xs
  unfolding those keep_if all_good
  those-all [] a = refl
  those-all (x ∷ xs) a = rw (and_left (p x) _ a, those-all xs (and_right (p x) _ a))

-- ---- the part

module _ (t : ℕ) (b : Box) where
  pub part-fewer : FewerBox (part_of t b) b
  unfolding part_of
  part-fewer = record { lines = those-fewer (line_of_table t) b.lines; defaults = those-fewer (row_of_table t) b.defaults }

  pub part-order : in_order b ≡ true → in_order (part_of t b) ≡ true
  part-order o = fewer-order part-fewer o

  -- "each ascending by key, then stamp": the entries of every box in order
  pub entries-ascend : (f : ℕ) → in_order b ≡ true → AscendingImage (entries_of f t b)
  entries-ascend f o = part_ascends f t b (part-order o)

  pub part-again : part_of t (part_of t b) ≡ part_of t b
  unfolding part_of
  part-again = ap₂ (λ (es : List KeyLine) (ds : List Default). record { lines = es; defaults = ds }) (those-all (line_of_table t) _ (those-hold (line_of_table t) b.lines)) (those-all (row_of_table t) _ (those-hold (row_of_table t) b.defaults))

  pub part-words : Words b → Words (part_of t b)
  part-words v = fewer-words part-fewer v

  pub part_room : room_for b ≡ true → room_for (part_of t b) ≡ true
  part_room r = fewer-room part-fewer r

-- ---- lines, locks and writes apart

abbrev line_at : Key → Line → KeyLine
line_at k x = record { key = k; line = x }

-- a line is one of the locks or of the writes, and the other way round
pub apart_in : (es : List KeyLine) (e : KeyLine) → In e es → In e (map lock_line (locks_of es)) ⊎ In e (map write_line (writes_of es))
unfolding locks_of writes_of
apart_in (f ∷ fs) e m = go f.key f.line m (apart_in fs e)
  where
    late : (k : Key) (x : Line) → In e (map lock_line (locks_of fs)) ⊎ In e (map write_line (writes_of fs)) → In e (map lock_line (locks_of (line_at k x ∷ fs))) ⊎ In e (map write_line (writes_of (line_at k x ∷ fs)))
    late k (Standing l) (inl q) = inl (inr q)
    late k (Standing l) (inr q) = inr q
    late k (Finished w) (inl q) = inl q
    late k (Finished w) (inr q) = inr (inr q)

    first : (k : Key) (x : Line) → e ≡ line_at k x → In e (map lock_line (locks_of (line_at k x ∷ fs))) ⊎ In e (map write_line (writes_of (line_at k x ∷ fs)))
    first k (Standing l) q = inl (inl q)
    first k (Finished w) q = inr (inl q)

    go : (k : Key) (x : Line) → (e ≡ line_at k x) ⊎ In e fs → (In e fs → In e (map lock_line (locks_of fs)) ⊎ In e (map write_line (writes_of fs))) → In e (map lock_line (locks_of (line_at k x ∷ fs))) ⊎ In e (map write_line (writes_of (line_at k x ∷ fs)))
    go k x (inl q) ih = first k x q
    go k x (inr q) ih = late k x (ih q)
apart_in [] e m = elim m [ ]

pub in-apart : (es : List KeyLine) (e : KeyLine) → In e (map lock_line (locks_of es)) ⊎ In e (map write_line (writes_of es)) → In e es
unfolding locks_of writes_of
in-apart [] e (inl m) = m
in-apart [] e (inr m) = m
in-apart (f ∷ fs) e m = go f.key f.line m (in-apart fs e)
  where
    go : (k : Key) (x : Line) → In e (map lock_line (locks_of (line_at k x ∷ fs))) ⊎ In e (map write_line (writes_of (line_at k x ∷ fs))) → (In e (map lock_line (locks_of fs)) ⊎ In e (map write_line (writes_of fs)) → In e fs) → (e ≡ line_at k x) ⊎ In e fs
    go k (Standing l) (inl (inl q)) ih = inl q
    go k (Standing l) (inl (inr q)) ih = inr (ih (inl q))
    go k (Standing l) (inr q) ih = inr (ih (inr q))
    go k (Finished w) (inl q) ih = inr (ih (inl q))
    go k (Finished w) (inr (inl q)) ih = inl q
    go k (Finished w) (inr (inr q)) ih = inr (ih (inr q))

-- what holds of each line holds of each lock and of each write
pub locks-good : (p : KeyLine → Bool) (es : List KeyLine) → all_good p es ≡ true → all_good (λ (x : KeyLock). p (lock_line x)) (locks_of es) ≡ true
unfolding locks_of all_good
locks-good p [] a = refl
locks-good p (e ∷ es) a = go e.key e.line (and_left (p e) _ a) (locks-good p es (and_right (p e) _ a))
  where
    go : (k : Key) (x : Line) → p (line_at k x) ≡ true → all_good (λ (x : KeyLock). p (lock_line x)) (locks_of es) ≡ true → all_good (λ (x : KeyLock). p (lock_line x)) (locks_of (line_at k x ∷ es)) ≡ true
    go k (Standing l) h ih = and_both _ _ h ih
    go k (Finished w) h ih = ih

pub writes-good : (p : KeyLine → Bool) (es : List KeyLine) → all_good p es ≡ true → all_good (λ (x : KeyRecord). p (write_line x)) (writes_of es) ≡ true
unfolding writes_of all_good
writes-good p [] a = refl
writes-good p (e ∷ es) a = go e.key e.line (and_left (p e) _ a) (writes-good p es (and_right (p e) _ a))
  where
    go : (k : Key) (x : Line) → p (line_at k x) ≡ true → all_good (λ (x : KeyRecord). p (write_line x)) (writes_of es) ≡ true → all_good (λ (x : KeyRecord). p (write_line x)) (writes_of (line_at k x ∷ es)) ≡ true
    go k (Standing l) h ih = ih
    go k (Finished w) h ih = and_both _ _ h ih

-- their numbers, and how many there are
pub lock-words : (es : List KeyLine) → All (λ (e : KeyLine). LineWords e.line) es → All (λ (x : KeyLock). LockWords x.lock) (locks_of es)
unfolding locks_of All
lock-words [] a = tt
lock-words (e ∷ es) a = go e.key e.line a.0 (lock-words es a.1)
  where
    go : (k : Key) (x : Line) → LineWords x → All (λ (x : KeyLock). LockWords x.lock) (locks_of es) → All (λ (x : KeyLock). LockWords x.lock) (locks_of (line_at k x ∷ es))
    go k (Standing l) h ih = (h, ih)
    go k (Finished w) h ih = ih

pub write-words : (es : List KeyLine) → All (λ (e : KeyLine). LineWords e.line) es → All (λ (x : KeyRecord). RecordWords x.write) (writes_of es)
unfolding writes_of All
write-words [] a = tt
write-words (e ∷ es) a = go e.key e.line a.0 (write-words es a.1)
  where
    go : (k : Key) (x : Line) → LineWords x → All (λ (x : KeyRecord). RecordWords x.write) (writes_of es) → All (λ (x : KeyRecord). RecordWords x.write) (writes_of (line_at k x ∷ es))
    go k (Standing l) h ih = ih
    go k (Finished w) h ih = (h, ih)

pub locks-few : (es : List KeyLine) → length (locks_of es) ≤ length es
unfolding locks_of
locks-few [] = omega arith
locks-few (e ∷ es) = go e.key e.line (locks-few es)
  where
    go : (k : Key) (x : Line) → length (locks_of es) ≤ length es → length (locks_of (line_at k x ∷ es)) ≤ suc (length es)
    go k (Standing l) h = omega arith
    go k (Finished w) h = omega arith

pub writes-few : (es : List KeyLine) → length (writes_of es) ≤ length es
unfolding writes_of
writes-few [] = omega arith
writes-few (e ∷ es) = go e.key e.line (writes-few es)
  where
    go : (k : Key) (x : Line) → length (writes_of es) ≤ length es → length (writes_of (line_at k x ∷ es)) ≤ suc (length es)
    go k (Standing l) h = omega arith
    go k (Finished w) h = omega arith
