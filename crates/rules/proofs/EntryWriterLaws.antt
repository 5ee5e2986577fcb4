-- The bytes of several entries, one after the other, and the loop that writes them; and a lock, a record and a default, their pieces in
-- the order of the paper.
-- Assumes nothing.
use Prim.Native.Nat.{ℕ, ◌+◌, ◌≤◌, ◌<◌}
use native.Mathlib.Numerals.{add-one}
use native.Mathlib.Omega.{arith}
use mathlib.Core.Path.{◌≡◌, refl, sym, ap, ◌∙◌, subst}
use mathlib.Core.List.{List, [], ◌∷◌, ◌++◌, append_assoc, append-nil}
use lib.ListN.{length, get_or, take, drop, length-append, take-append-drop}
use lib.Seq.{take-suc, take_all}
use Rattle.forms.specs.Bytes.{Bytes, piece_bytes}
use Rattle.forms.specs.Numbers.{digits}
use Rattle.forms.specs.Writers.{Laid}
use Rattle.forms.proofs.NumberLaws.{length_digits}
use Rattle.forms.proofs.WriterLaws.{laid_as, laid_none, laid_then}
use Rattle.rules.specs.declared.records.Record.{Record}
use Rattle.rules.specs.Box.{Lock, Default, kind_byte}
use Rattle.rules.specs.Written.{lock_bytes, all_bytes}
use Rattle.rules.specs.Capture.{record_bytes, default_bytes}

-- ---- several entries

module _ {A : Type 0} (f : A → Bytes) where
  bytes-split : (xs ys : List A) → all_bytes f (xs ++ ys) ≡ all_bytes f xs ++ all_bytes f ys
  unfolding all_bytes
  bytes-split [] ys = refl
  bytes-split (x ∷ xs) ys = ap (λ (b : Bytes). f x ++ b) (bytes-split xs ys) ∙ sym (append_assoc (f x) (all_bytes f xs) (all_bytes f ys))

  pub bytes-snoc : (xs : List A) (x : A) → all_bytes f (xs ++ (x ∷ [])) ≡ all_bytes f xs ++ f x
  unfolding all_bytes
  bytes-snoc xs x = bytes-split xs (x ∷ []) ∙ ap (λ (b : Bytes). all_bytes f xs ++ b) (append-nil (f x))

  module _ (xs : List A) (i : ℕ) where
    next-bytes : (d : A) → i < length xs → all_bytes f (take (i + 1) xs) ≡ all_bytes f (take i xs) ++ f (get_or xs i d)
    next-bytes d h = ap (λ (n : ℕ). all_bytes f (take n xs)) (add-one i) ∙ ap (all_bytes f) (take-suc xs i d h) ∙ bytes-snoc (take i xs) (get_or xs i d)

    first-long : length (all_bytes f (take i xs)) ≤ length (all_bytes f xs)
    first-long =
        omega (
          arith,
          ap length (ap (all_bytes f) (sym (take-append-drop i xs)) ∙ bytes-split (take i xs) (drop i xs)),
          length-append (all_bytes f (take i xs)) (all_bytes f (drop i xs)),
        )

-- the first i of them stand from `from` on
pub record Listing {A : Type 0} (f : A → Bytes) (xs : List A) (from : ℕ) (s : Bytes) (at i : ℕ) (t : Bytes) : Type 0 where
  pub low : i ≤ length xs
  pub laid : Laid from (length (all_bytes f (take i xs))) (all_bytes f (take i xs)) s at t

pub listing_start : {A : Type 0} (f : A → Bytes) (xs : List A) (from : ℕ) (s : Bytes) → from ≤ length s → Listing f xs from s from 0 s
unfolding all_bytes
listing_start f xs from s h = record { low = omega arith; laid = laid_none s from h }

module _ {A : Type 0} {f : A → Bytes} {xs : List A} {from : ℕ} {s : Bytes} {at i : ℕ} {t : Bytes} (v : Listing f xs from s at i t) where
  pub listing-end : length xs ≤ i → Laid from (length (all_bytes f xs)) (all_bytes f xs) s at t
  listing-end h = laid_as v.laid (ap (all_bytes f) (take_all i xs h))

  module _ (d : A) (h : i < length xs) where
    pub listing-room : from + length (all_bytes f xs) ≤ length s → at + length (f (get_or xs i d)) ≤ length t
    listing-room g =
        omega (
          arith,
          v.laid.next,
          v.laid.length_is,
          first-long f xs (i + 1),
          ap length (next-bytes f xs i d h),
          length-append (all_bytes f (take i xs)) (f (get_or xs i d)),
        )

    pub listing-more : {n r : ℕ} {u : Bytes} → Laid at n (f (get_or xs i d)) t r u → Listing f xs from s r (i + 1) u
    listing-more w = record { low = omega arith; laid = laid_as (laid_then v.laid w) (sym (next-bytes f xs i d h)) }

-- ---- a lock

pub lock-long : (l : Lock) → length (lock_bytes l) ≡ length l.primary + 26
unfolding lock_bytes
lock-long l = simp length-append (omega (arith, length_digits 8 l.txn, length_digits 8 l.start, length_digits 8 l.ttl))

pub lock-laid : (l : Lock) {k at a b c d r : ℕ} {s t u v w x : Bytes} → Laid at 8 (digits 8 l.txn) s a t → Laid a (length l.primary + 1) (piece_bytes l.primary) t b u → Laid b 8 (digits 8 l.start) u c v
    → Laid c 8 (digits 8 l.ttl) v d w → Laid d 1 (k ∷ []) w r x → k ≡ kind_byte l.kind → Laid at (length l.primary + 26) (lock_bytes l) s r x
unfolding lock_bytes
lock-laid l {at = at} {r = r} {s = s} {x = x} p q y z f e =
    subst (λ (n : ℕ). Laid at n (lock_bytes l) s r x) (lock-long l) (laid_as (laid_then p (laid_then q (laid_then y (laid_then z f)))) (rw e))

-- ---- a record

pub record-long : (w : Record) → length (record_bytes w) ≡ 25
unfolding record_bytes
record-long w = simp length-append (omega (arith, length_digits 8 w.stamp, length_digits 8 w.start, length_digits 8 w.commit))

pub record-laid : (w : Record) {k at a b c r : ℕ} {s t u v x : Bytes} → Laid at 8 (digits 8 w.stamp) s a t → Laid a 8 (digits 8 w.start) t b u → Laid b 8 (digits 8 w.commit) u c v → Laid c 1 (k ∷ []) v r x
    → k ≡ kind_byte w.kind → Laid at 25 (record_bytes w) s r x
unfolding record_bytes
record-laid w {at = at} {r = r} {s = s} {x = x} p q y f e =
    subst (λ (n : ℕ). Laid at n (record_bytes w) s r x) (record-long w) (laid_as (laid_then p (laid_then q (laid_then y f))) (rw e))

-- ---- a default

pub default-long : (d : Default) → length (default_bytes d) ≡ length d.key + length d.row + 10
unfolding default_bytes
default-long d = simp length-append (omega (arith, length_digits 8 d.start))

pub default-laid : (d : Default) {at a b r : ℕ} {s t u v : Bytes} → Laid at (length d.key + 1) (piece_bytes d.key) s a t → Laid a 8 (digits 8 d.start) t b u → Laid b (length d.row + 1) (piece_bytes d.row) u r v
    → Laid at (length d.key + length d.row + 10) (default_bytes d) s r v
unfolding default_bytes
default-laid d {at = at} {r = r} {s = s} {v = v} p q y =
    subst (λ (n : ℕ). Laid at n (default_bytes d) s r v) (default-long d) (laid_as (laid_then p (laid_then q y)) refl)
