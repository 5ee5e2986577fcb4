-- What two boxes show alike at a key, and what a line or a default that comes or goes leaves of other keys; the keys of a batch that ascends
-- all differ. Assumes nothing.
use Prim.Native.Nat.{ℕ}
use mathlib.Core.Path.{◌≡◌, refl, ◌∙◌}
use mathlib.Core.Bool.{Bool, true, false}
use mathlib.Core.List.{List, [], ◌∷◌}
use mathlib.Core.Option.{Option, none, some}
use lib.Dec.{eqb}
use Rattle.forms.specs.Key.{Key}
use Rattle.forms.specs.Bytes.{eq_bytes, lt_bytes}
use Rattle.forms.specs.Readers.{when}
use Rattle.forms.specs.Batch.{Mutation, key_inside, above, ascend, if_ascend, batch_of, mutations, keys}
use Rattle.forms.proofs.Orders.{lt_bytes-trans, lt_bytes-not-eq'}
use Rattle.rules.specs.Box.{Box, KeyLine, Default, records_of, lock_of, row_of, insert_line, insert_default, drop_lock, drop_row}
use Rattle.laws.proofs.StepLaws.{and_left, and_right, and-false}
use Rattle.laws.proofs.KeyLaws.{records-other, lock-other, records-drop_lock, lock-drop_lock, row_other, row-drop_row}

-- the two boxes show the same at a key, and at a start of it
pub record Same (b c : Box) (i : Key) (s : ℕ) : Type 0 where
  pub records : records_of i c.lines ≡ records_of i b.lines
  pub lock : lock_of i c.lines ≡ lock_of i b.lines
  pub row : row_of i s c.defaults ≡ row_of i s b.defaults

pub same_refl : (b : Box) (i : Key) (s : ℕ) → Same b b i s
same_refl b i s = record { records = refl; lock = refl; row = refl }

pub same-trans : (b c d : Box) (i : Key) (s : ℕ) → Same b c i s → Same c d i s → Same b d i s
same-trans b c d i s v w = record { records = w.records ∙ v.records; lock = w.lock ∙ v.lock; row = w.row ∙ v.row }

-- ---- a change at another key

abbrev mk : List KeyLine → List Default → Box
mk es ds = record { lines = es; defaults = ds }

module _ (b : Box) (i : Key) (s : ℕ) where
  pub same_line : (e : KeyLine) → eq_bytes i e.key ≡ false → Same b (mk (insert_line e b.lines) b.defaults) i s
  same_line e h = record { records = records-other i e b.lines h; lock = lock-other i e b.lines h; row = refl }

  pub same-drop_lock : (k : Key) → eq_bytes i k ≡ false → Same b (mk (drop_lock k b.lines) b.defaults) i s
  same-drop_lock k h = record { records = records-drop_lock i k b.lines; lock = lock-drop_lock i k b.lines h; row = refl }

  pub same-default : (d : Default) → eq_bytes i d.key ≡ false → Same b (mk b.lines (insert_default d b.defaults)) i s
  same-default d h = record { records = refl; lock = refl; row = row_other i s d b.defaults (and-false (eq_bytes i d.key) (eqb s d.start) h) }

  pub same-drop_row : (k : Key) (t : ℕ) → eq_bytes i k ≡ false → Same b (mk b.lines (drop_row k t b.defaults)) i s
  same-drop_row k t h = record { records = refl; lock = refl; row = row-drop_row i s k t b.defaults (and-false (eq_bytes i k) (eqb s t) h) }

-- two changes, one of lines and one of defaults
pub same_parts : (b c d : Box) (i : Key) (s : ℕ) → Same b c i s → Same b d i s → Same b (mk c.lines d.defaults) i s
same_parts b c d i s v w = record { records = v.records; lock = v.lock; row = w.row }

-- a line comes where the key's lock goes
pub same-replace : (b : Box) (i : Key) (s : ℕ) (k : Key) (e : KeyLine) → eq_bytes i k ≡ false → eq_bytes i e.key ≡ false → Same b (mk (insert_line e (drop_lock k b.lines)) b.defaults) i s
same-replace b i s k e h g = same-trans b (mk (drop_lock k b.lines) b.defaults) (mk (insert_line e (drop_lock k b.lines)) b.defaults) i s (same-drop_lock b i s k h) (same_line (mk (drop_lock k b.lines) b.defaults) i s e g)

-- ---- the keys of an ascending batch all differ

module _ {A : Type 0} (key : A → Key) where
  -- k is no key of the batch
  abbrev pub Apart : Key → List A → Type 0
  Apart k [] = Unit {0}
  Apart k (x ∷ xs) = (eq_bytes (key x) k ≡ false) × Apart k xs

  above_lower : (i j : Key) (xs : List A) → lt_bytes i j ≡ true → above key j xs ≡ true → above key i xs ≡ true
  unfolding above
  above_lower i j [] h a = refl
  above_lower i j (x ∷ xs) h a = rw (lt_bytes-trans i j (key x) h (and_left _ _ a)) (and_right (lt_bytes j (key x)) _ a)

  pub above_apart : (k : Key) (xs : List A) → above key k xs ≡ true → Apart k xs
  unfolding above
  above_apart k [] a = tt
  above_apart k (x ∷ xs) a = (lt_bytes-not-eq' k (key x) (and_left _ _ a), above_apart k xs (above_lower k (key x) xs (and_left _ _ a) (and_right (lt_bytes k (key x)) _ a)))

  pub ascend-apart : (x : A) (xs : List A) → ascend key (x ∷ xs) ≡ true → Apart (key x) xs
  unfolding ascend
  ascend-apart x xs a = above_apart (key x) xs a

  pub ascend-rest : (x : A) (xs : List A) → ascend key (x ∷ xs) ≡ true → ascend key xs ≡ true
  unfolding ascend above
  ascend-rest x [] a = refl
  ascend-rest x (y ∷ xs) a = and_right (lt_bytes (key x) (key y)) _ a

  -- a batch that was read ascends
  read-ascends : (o : Option (List A)) (xs : List A) → if_ascend key o ≡ some xs → ascend key xs ≡ true
  unfolding if_ascend
  read-ascends none xs e = cc
  read-ascends (some ys) xs e = go (ascend key ys) refl e
    where
      go : (t : Bool) → ascend key ys ≡ t → when t ys ≡ some xs → ascend key xs ≡ true
      go true h q =
          let s : ys ≡ xs = cc in
          rw s at h
      go false h q = cc

pub mutations-ascend : (s : List ℕ) (ms : List Mutation) → mutations s ≡ some ms → ascend key_inside ms ≡ true
unfolding mutations batch_of
mutations-ascend s ms e = read-ascends key_inside _ ms e

pub keys-ascend : (s : List ℕ) (ks : List Key) → keys s ≡ some ks → ascend (λ k. k) ks ≡ true
unfolding keys batch_of
keys-ascend s ks e = read-ascends (λ k. k) _ ks e
