-- What writers leave: one after the other, over a part that is lent, and what is read back; and the writers themselves.
-- Assumes nothing.
use Prim.Native.Nat.{ℕ, ◌+◌, ◌-◌, ◌≤◌, ◌<◌}
use native.Mathlib.Numerals.{add-one}
use native.Mathlib.Omega.{arith}
use mathlib.Core.Path.{◌≡◌, refl, sym, ap, ap₂, ◌∙◌, subst}
use mathlib.Core.List.{[], ◌∷◌, ◌++◌, append_assoc, append-nil}
use lib.ListN.{length, set, take, drop, length-append, length-drop, length-set, drop_of_length-le, take-append-drop}
use lib.Seq.{drop-drop, take_at, drop_at, set_split, length-take-le}
use borrow.Rule.Slice.PartMut.{put_mid}
use Rattle.seqs.proofs.Parts.{part_end}
use Rattle.seqs.proofs.Tables.{part_in}
use Rattle.forms.specs.Bytes.{Bytes, bytes_at, piece_bytes}
use Rattle.forms.specs.Writers.{Laid}

-- bytes that lie in a buffer are as many as asked for
pub bytes-long : (s : Bytes) (at n : ℕ) → at + n ≤ length s → length (bytes_at s at n) ≡ n
bytes-long s at n h = length-take-le n (drop at s) (omega (arith, length-drop at s))

-- ---- what is read back

module _ {at n r : ℕ} {b s t : Bytes} (v : Laid at n b s r t) where
  before : length (take at s) ≡ at
  before = length-take-le at s (omega arith)

  apart : t ≡ (take at s ++ b) ++ drop r s
  apart = v.is ∙ sym (append_assoc (take at s) b (drop r s))

  up_to : length (take at s ++ b) ≡ r
  up_to = omega (arith, length-append (take at s) b, before)

  -- what is below stays
  pub laid_kept : take at t ≡ take at s
  laid_kept = ap (take at) v.is ∙ take_at (take at s) (b ++ drop r s) at before

  pub laid-below : (i k : ℕ) → i + k ≤ at → bytes_at t i k ≡ bytes_at s i k
  laid-below i k h = sym (part_in t i k at h) ∙ ap (λ (l : Bytes). bytes_at l i k) laid_kept ∙ part_in s i k at h

  -- and what is past the end
  pub laid-past : drop r t ≡ drop r s
  laid-past = ap (drop r) apart ∙ drop_at (take at s ++ b) (drop r s) r up_to

  -- the buffer up to the end
  pub laid-front : take r t ≡ take at s ++ b
  laid-front = ap (take r) apart ∙ take_at (take at s ++ b) (drop r s) r up_to

  pub laid-long : r ≡ length (take r t)
  laid-long = sym (length-take-le r t (omega arith))

  -- the bytes stand at their place, and so does each part of them
  pub laid-stands : bytes_at t at n ≡ b
  laid-stands = ap (take n) (ap (drop at) v.is ∙ drop_at (take at s) (b ++ drop r s) at before) ∙ take_at b (drop r s) n v.size

  pub laid-inside : (i k : ℕ) → i + k ≤ n → bytes_at t (at + i) k ≡ bytes_at b i k
  laid-inside i k h =
      ap (take k) (sym (drop-drop i at t)) ∙ sym (part_in (drop at t) i k n h) ∙ ap (λ (l : Bytes). bytes_at l i k) laid-stands

-- ---- one after the other

-- the same bytes, said otherwise
pub laid_as : {at n : ℕ} {b d s t : Bytes} {r : ℕ} → Laid at n b s r t → b ≡ d → Laid at (length d) d s r t
laid_as {at} {b = b} {s = s} {t = t} {r = r} v e =
    subst (λ (x : Bytes). Laid at (length x) x s r t) e (record { size = refl; next = omega arith; within = v.within; length_is = v.length_is; is = v.is })

pub laid_none : (s : Bytes) (at : ℕ) → at ≤ length s → Laid at 0 [] s at s
laid_none s at h = record { size = refl; next = omega arith; within = h; length_is = refl; is = sym (take-append-drop at s) }

-- the next writer goes on where the one before ended
pub laid_then : {at n m q r : ℕ} {b d s t u : Bytes} → Laid at n b s q t → Laid q m d t r u → Laid at (n + m) (b ++ d) s r u
laid_then {at} {n} {m} {q} {r} {b} {d} {s} {t} {u} v w = record {
  size = length-append b d ∙ ap₂ ◌+◌ v.size w.size;
  next = omega arith;
  within = omega arith;
  length_is = w.length_is ∙ v.length_is;
  is =
      w.is ∙ ap₂ (λ (x y : Bytes). x ++ (d ++ y)) (laid-front v) rest
      ∙ append_assoc (take at s) b (d ++ drop r s) ∙ ap (λ (x : Bytes). take at s ++ x) (sym (append_assoc b d (drop r s)));
}
  where
    rest : drop r t ≡ drop r s
    rest = rw (w.next, ← drop-drop m q t, ← drop-drop m q s, laid-past v)

-- ---- over a part that is lent, from a place to the end

pub rest-long : (t : Bytes) (a : ℕ) → length (take (length t - a) (drop a t)) ≡ length t - a
rest-long t a = ap length (part_end a t) ∙ length-drop a t

pub laid-lent : (t : Bytes) (a : ℕ) → a ≤ length t → {n k : ℕ} {b part : Bytes} → Laid 0 n b (take (length t - a) (drop a t)) k part → Laid a n b t (a + k) (put_mid a (length t - a) t part)
laid-lent t a h {n} {k} {b} {part} v = record {
  size = v.size;
  next = omega arith;
  within = omega (arith, rest-long t a);
  length_is = omega (arith, ap length whole, length-append (take a t) (b ++ drop (a + k) t), length-append b (drop (a + k) t), length-take-le a t h, length-drop (a + k) t, rest-long t a);
  is = whole;
}
  where
    after : drop (length t - a) (drop a t) ≡ []
    after = let m : length (drop a t) ≤ length t - a = omega (arith, length-drop a t) in drop_of_length-le (drop a t) m

    whole : put_mid a (length t - a) t part ≡ take a t ++ (b ++ drop (a + k) t)
    whole =
        ap (λ (x : Bytes). take a t ++ (part ++ x)) after
        ∙ ap (λ (x : Bytes). take a t ++ x) (append-nil part ∙ v.is ∙ ap (λ (x : Bytes). b ++ drop k x) (part_end a t) ∙ ap (λ (x : Bytes). b ++ x) (drop-drop k a t))

-- ---- the writers

pub laid_byte : (s : Bytes) (at x : ℕ) → at < length s → Laid at 1 (x ∷ []) s (at + 1) (set s at x)
laid_byte s at x h = record {
  size = refl;
  next = refl;
  within = omega arith;
  length_is = length-set s at x;
  is = set_split s at x h ∙ ap (λ (n : ℕ). take at s ++ x ∷ drop n s) (sym (add-one at));
}

-- the same bytes in so many places, said otherwise
pub laid-digits : {at n m r : ℕ} {b d s t : Bytes} → Laid at m b s r t → b ≡ d → length d ≡ n → Laid at n d s r t
laid-digits {at} {n} {m} {r} {b} {d} {s} {t} v e l = subst (λ (k : ℕ). Laid at k d s r t) l (laid_as v e)

-- "a length byte and its bytes"
pub laid_piece : {b s t u : Bytes} {at a r : ℕ} → Laid at 1 (length b ∷ []) s a t → Laid a (length b) b t r u → Laid at (length b + 1) (piece_bytes b) s r u
laid_piece {b} {s} {u = u} {at = at} {r = r} v w = subst (λ (n : ℕ). Laid at n (piece_bytes b) s r u) (omega arith) (laid_then v w)
