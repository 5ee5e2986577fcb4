-- Readers at a place: what a byte, a stretch and a piece are there, and what a reader that follows another reads.
-- Assumes nothing.
use Prim.Native.Nat.{ℕ, suc, ◌+◌, ◌-◌, ◌≤◌, ◌<◌}
use native.Mathlib.Omega.{arith}
use native.Mathlib.Numerals.{add-one}
use mathlib.Core.Path.{◌≡◌, refl, sym, ◌∙◌, ap}
use mathlib.Core.Bool.{Bool, true, false}
use mathlib.Core.List.{List, [], ◌∷◌}
use mathlib.Core.Option.{Option, none, some}
use lib.ListN.{length, get_or, drop, length-drop, drop_of_length-le}
use lib.Seq.{drop-cons, drop-drop}
use lib.Dec.{leb, eqb}
use borrow.Author.Tests.{le-leb, lt-leb, eq-eqb, ne_eqb}
use Rattle.forms.specs.Bytes.{Bytes, bytes_at}
use Rattle.forms.specs.Readers.{Read, Reader, read_on, ◌>>=◌, just, only, when, byte, stretch, piece, up_to, times, ended}
use Rattle.forms.specs.Places.{found, IsPart}

-- what follows a reader goes by what it read
pub after : {A B : Type 0} {o o' : Option (Read A)} (f : A → Reader B) → o ≡ o' → read_on o f ≡ read_on o' f
after {A = A} f e = ap (λ (o : Option (Read A)). read_on o f) e

pub byte-none : (s : Bytes) (at : ℕ) → length s ≤ at → byte (drop at s) ≡ none
unfolding byte
byte-none s at h = rw (drop_of_length-le s h)

pub byte_at : (s : Bytes) (at : ℕ) → at < length s → byte (drop at s) ≡ some (record { got = get_or s at 0; rest = drop (at + 1) s })
unfolding byte
byte_at s at l = rw (drop-cons s at 0 l, add-one)

pub stretch-at : (s : Bytes) (at n : ℕ) → stretch n (drop at s) ≡ found s (leb n (length s - at)) (bytes_at s at n) (at + n)
unfolding stretch
stretch-at s at n = rw (length-drop, drop-drop)

pub stretch-good : (s : Bytes) (at n : ℕ) → n ≤ length s - at → stretch n (drop at s) ≡ found s true (bytes_at s at n) (at + n)
stretch-good s at n l = stretch-at s at n ∙ rw (le-leb n (length s - at) l)

pub stretch-short : (s : Bytes) (at n : ℕ) → length s - at < n → stretch n (drop at s) ≡ none
stretch-short s at n l = stretch-at s at n ∙ rw (lt-leb n (length s - at) l)

-- ---- a count of at most m

module _ (m : ℕ) (count : Reader ℕ) (s : Bytes) where
  pub up_to-none : count s ≡ none → up_to m count s ≡ none
  unfolding up_to ◌>>=◌ read_on
  up_to-none e = after (λ n. only (leb n m) n) e

  pub up_to-many : {n : ℕ} {t : Bytes} → count s ≡ some (record { got = n; rest = t }) → m < n → up_to m count s ≡ none
  unfolding up_to ◌>>=◌ read_on only
  up_to-many {n} e h = after (λ n. only (leb n m) n) e ∙ rw (lt-leb n m h)

  pub up_to-good : {n : ℕ} {t : Bytes} → count s ≡ some (record { got = n; rest = t }) → n ≤ m → up_to m count s ≡ some (record { got = n; rest = t })
  unfolding up_to ◌>>=◌ read_on only
  up_to-good {n} e h = after (λ n. only (leb n m) n) e ∙ rw (le-leb n m h)

-- ---- several in turn

abbrev pub read_more : {A : Type 0} → A → Option (Read (List A)) → Option (Read (List A))
read_more x none = none
read_more x (some q) = some (record { got = x ∷ q.got; rest = q.rest })

module _ {A : Type 0} (r : Reader A) (n : ℕ) (s : Bytes) where
  pub times-bad : r s ≡ none → times (suc n) r s ≡ none
  unfolding times ◌>>=◌ read_on
  times-bad e = after (λ x. times n r >>= (λ xs. just (x ∷ xs))) e

  pub times_more : {x : A} {t : Bytes} → r s ≡ some (record { got = x; rest = t }) → times (suc n) r s ≡ read_more x (times n r t)
  unfolding times ◌>>=◌ read_on just
  times_more {x} {t} e = after (λ x. times n r >>= (λ xs. just (x ∷ xs))) e ∙ go (times n r t)
    where
      go : (o : Option (Read (List A))) → read_on o (λ xs. just (x ∷ xs)) ≡ read_more x o
      go none = refl
      go (some q) = refl

-- ---- "nothing may follow"

abbrev pub is_empty : Bytes → Bool
is_empty [] = true
is_empty (x ∷ s) = false

pub end-at : (s : Bytes) (at : ℕ) → at ≤ length s → eqb at (length s) ≡ is_empty (drop at s)
end-at s at h = go (drop at s) (length-drop at s)
  where
    go : (t : Bytes) → length t ≡ length s - at → eqb at (length s) ≡ is_empty t
    go [] e = eq-eqb at (length s) (omega arith)
    go (x ∷ t) e = ne_eqb at (length s) (λ p. omega arith)

pub ended_at : {A : Type 0} (x : A) (s : Bytes) (at : ℕ) → at ≤ length s → ended (some (record { got = x; rest = drop at s })) ≡ when (eqb at (length s)) x
unfolding ended
ended_at {A = A} x s at h = go (drop at s) ∙ ap (λ (b : Bool). when b x) (sym (end-at s at h))
  where
    go : (t : Bytes) → ended (some (record { got = x; rest = t })) ≡ when (is_empty t) x
    go [] = refl
    go (y ∷ t) = refl

-- ---- `part_at`: what each way out says

module _ (s : Bytes) (at : ℕ) where
  pub part_none : length s ≤ at → piece (drop at s) ≡ none
  unfolding piece ◌>>=◌ read_on
  part_none h = after (λ n. stretch n) (byte-none s at h)

  pub part_short : at < length s → length s - at - 1 < get_or s at 0 → piece (drop at s) ≡ none
  unfolding piece ◌>>=◌ read_on
  part_short l m = after (λ n. stretch n) (byte_at s at l) ∙ stretch-short s (at + 1) (get_or s at 0) (omega arith)

  pub part_good : at < length s → get_or s at 0 ≤ length s - at - 1 → get_or s at 0 < 256 → IsPart s at (record { at = at + 1; len = get_or s at 0 })
  unfolding piece ◌>>=◌ read_on
  part_good l m b = record {
    read = record { is = after (λ n. stretch n) (byte_at s at l) ∙ stretch-good s (at + 1) (get_or s at 0) (omega arith); within = omega arith };
    inside = record { within = omega arith; small = omega arith };
  }
