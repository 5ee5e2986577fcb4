-- Numbers over every width: what the bytes of a number say, how large they can be, and the loop that reads them.
-- Assumes nothing.
use Prim.Native.Nat.{ℕ, zero, suc, ◌+◌, ◌-◌, ◌*◌, ◌/◌, ◌%◌, ◌^◌, ◌≤◌, ◌<◌}
use native.Mathlib.Omega.{arith}
use native.Mathlib.Numerals.{add-one}
use native.Mathlib.Nat.{sub-zero, div-one, div-div-eq-div-mul, pow-succ', pow-zero, pow-suc, one-le-pow, pow-le-pow_right, div-add-mod', lt_of_lt_of_le}
use mathlib.Core.Path.{◌≡◌, refl, sym, ◌∙◌, ap, ap₂, subst}
use mathlib.Core.Bool.{Bool, true, false}
use mathlib.Core.List.{[], ◌∷◌, ◌++◌, append_assoc, append-nil}
use mathlib.Core.Option.{Option, none, some}
use lib.ListN.{length, get_or, take, drop, length-append}
use lib.Seq.{take-suc}
use Rattle.std.specs.List.{slice_range}
use Rattle.std.specs.Int.{w64, byte_at, bytes_high_first, to_be_bytes}
use Rattle.seqs.proofs.Parts.{part_end}
use Rattle.std.proofs.lemmas.List.{length-take, take_all}
use lib.Dec.{leb}
use borrow.Author.Tests.{le-leb, lt-leb, leb-false}
use Rattle.forms.specs.Bytes.{Bytes, AllBytes}
use Rattle.forms.specs.Readers.{Read, read_on, ◌>>=◌, just}
use Rattle.forms.specs.Numbers.{number_from, number, digits, number_of, width_of}
use Rattle.forms.specs.Places.{found, IsNumber}
use Rattle.forms.specs.declared.number.Width.{Width}
use Rattle.forms.specs.declared.number.Width.TheVariants.{Two, Four, Eight}
use Rattle.forms.proofs.ReaderLaws.{after, stretch-at}

pub width_some : (w : Width) → 0 < width_of w
width_some Two = omega arith
width_some Four = omega arith
width_some Eight = omega arith

pub width_small : (w : Width) → width_of w ≤ 8
width_small Two = omega arith
width_small Four = omega arith
width_small Eight = omega arith

-- ---- how large a number of some bytes is

pub power_pos : (k : ℕ) → 0 < 256 ^ k
power_pos k = one-le-pow k 256 (omega arith)

-- one byte more
pub below_more : (k v b : ℕ) → v < 256 ^ k → b < 256 → v * 256 + b < 256 ^ suc k
below_more k v b h g = omega (arith, pow-suc 256 k)

-- "8 bytes" hold what up to eight bytes say
pub below_word : (k v : ℕ) → k ≤ 8 → v < 256 ^ k → v < 256 ^ 8
below_word k v l h = lt_of_lt_of_le h (pow-le-pow_right (omega arith) l)

pub number_more : (v : ℕ) (a b : Bytes) → number_from v (a ++ b) ≡ number_from (number_from v a) b
unfolding number_from
number_more v [] b = refl
number_more v (x ∷ a) b = number_more (v * 256 + x) a b

pub number-below : (s : Bytes) (k v : ℕ) → AllBytes s → v < 256 ^ k → number_from v s < 256 ^ (k + length s)
unfolding number_from
number-below [] k v g h = subst (λ (n : ℕ). v < 256 ^ n) {x = k} (omega arith) h
number-below (x ∷ s) k v g h =
    let e : suc k + length s ≡ k + suc (length s) = omega arith in
    subst (λ (n : ℕ). number_from (v * 256 + x) s < 256 ^ n) e (number-below s (suc k) (v * 256 + x) (λ i. g (suc i)) (below_more k v x h (g 0)))

pub bytes_take : (n : ℕ) (s : Bytes) → AllBytes s → AllBytes (take n s)
bytes_take zero s g i = omega arith
bytes_take (suc n) [] g i = omega arith
bytes_take (suc n) (x ∷ s) g zero = g 0
bytes_take (suc n) (x ∷ s) g (suc i) = bytes_take n s (λ j. g (suc j)) i

pub bytes_drop : (n : ℕ) (s : Bytes) → AllBytes s → AllBytes (drop n s)
bytes_drop zero s g i = g i
bytes_drop (suc n) [] g i = omega arith
bytes_drop (suc n) (x ∷ s) g i = bytes_drop n s (λ j. g (suc j)) i

-- ---- the bytes of a number

pub length_digits : (w v : ℕ) → length (digits w v) ≡ w
unfolding digits
length_digits zero v = refl
length_digits (suc w) v = length-append (digits w (v / 256)) (v % 256 ∷ []) ∙ ap (λ (n : ℕ). n + 1) (length_digits w (v / 256)) ∙ add-one w

pub number_digits : (w v : ℕ) → v < 256 ^ w → number (digits w v) ≡ v
unfolding digits number_from
number_digits zero v h = omega (arith, pow-zero 256)
number_digits (suc w) v h =
    number_more 0 (digits w (v / 256)) (v % 256 ∷ [])
    ∙ ap (λ (n : ℕ). n * 256 + v % 256) (number_digits w (v / 256) (omega (arith, pow-suc 256 w)))
    ∙ div-add-mod' v 256

last-digit : (k v x : ℕ) (s : Bytes) → x < 256 → digits (suc k) (v * 256 + x) ++ s ≡ digits k v ++ x ∷ s
unfolding digits
last-digit k v x s h =
    let d : (v * 256 + x) / 256 ≡ v = omega arith in
    let m : (v * 256 + x) % 256 ≡ x = omega arith in
    append_assoc (digits k ((v * 256 + x) / 256)) ((v * 256 + x) % 256 ∷ []) s ∙ ap₂ (λ (n y : ℕ). digits k n ++ y ∷ s) d m

-- each digit is a byte
pub digits-byte : (w v i : ℕ) → get_or (digits w v) i 0 < 256
unfolding digits
digits-byte zero v i = omega arith
digits-byte (suc w) v i = go (digits w (v / 256)) i (λ j. digits-byte w (v / 256) j)
  where
    go : (a : Bytes) (i : ℕ) → ((j : ℕ) → get_or a j 0 < 256) → get_or (a ++ (v % 256 ∷ [])) i 0 < 256
    go [] zero g = omega arith
    go [] (suc i) g = omega arith
    go (x ∷ a) zero g = g 0
    go (x ∷ a) (suc i) g = go a i (λ j. g (suc j))

-- bytes, each below 256, are those of the number that they say
pub digits_more : (k v : ℕ) (s : Bytes) → ((i : ℕ) → get_or s i 0 < 256) → digits (k + length s) (number_from v s) ≡ digits k v ++ s
unfolding number_from
digits_more k v [] g = let e : k + 0 ≡ k = omega arith in ap (λ (n : ℕ). digits n v) e ∙ sym (append-nil (digits k v))
digits_more k v (x ∷ s) g =
    let e : k + suc (length s) ≡ suc k + length s = omega arith in
    ap (λ (n : ℕ). digits n (number_from (v * 256 + x) s)) e ∙ digits_more (suc k) (v * 256 + x) s (λ i. g (suc i)) ∙ last-digit k v x s (g 0)

pub digits_number : (s : Bytes) → ((i : ℕ) → get_or s i 0 < 256) → digits (length s) (number s) ≡ s
unfolding digits
digits_number s g = let e : length s ≡ 0 + length s = omega arith in ap (λ (n : ℕ). digits n (number s)) e ∙ digits_more 0 0 s g

-- ---- the library's bytes of a number

byte_is : (k v : ℕ) → byte_at k v ≡ v / 256 ^ k % 256
byte_is zero v = ap (λ (n : ℕ). n % 256) (sym (ap (λ (p : ℕ). v / p) (pow-zero 256) ∙ div-one v))
byte_is (suc k) v = refl

byte-next : (k v : ℕ) → byte_at k (v / 256) ≡ byte_at (suc k) v
byte-next k v = byte_is k (v / 256) ∙ ap (λ (n : ℕ). n % 256) (div-div-eq-div-mul v 256 (256 ^ k) ∙ ap (λ (p : ℕ). v / p) (sym (pow-succ' 256 k)))

digits-first : (k v : ℕ) → digits (suc k) v ≡ byte_at k v ∷ digits k v
unfolding digits
digits-first zero v = refl
digits-first (suc k) v = ap (λ (d : Bytes). d ++ (v % 256 ∷ [])) (digits-first k (v / 256)) ∙ ap (λ (x : ℕ). x ∷ (digits k (v / 256) ++ (v % 256 ∷ []))) (byte-next k v)

high_first : (k v : ℕ) → bytes_high_first k v ≡ digits k v
unfolding digits
high_first zero v = refl
high_first (suc k) v = ap (λ (d : Bytes). byte_at k v ∷ d) (high_first k v) ∙ sym (digits-first k v)

-- of the eight bytes of a word the last are the digits
last_bytes : (w : Width) (v : ℕ) → take (8 - (8 - width_of w)) (drop (8 - width_of w) (to_be_bytes w64 v)) ≡ digits (width_of w) v
last_bytes Two v = high_first 2 v
last_bytes Four v = high_first 4 v
last_bytes Eight v = high_first 8 v

pub word-digits : (w : Width) (v : ℕ) {k : ℕ} {b : Bytes} → k ≡ width_of w → b ≡ to_be_bytes w64 v → take (8 - (8 - k)) (drop (8 - k) b) ≡ digits (width_of w) v
word-digits w v e f = ap₂ (λ (n : ℕ) (d : Bytes). take (8 - (8 - n)) (drop (8 - n) d)) e f ∙ last_bytes w v

-- ---- `number_at`: a number at a place

module _ (w : ℕ) (s : Bytes) (at : ℕ) where
  pub number_is : number_of w (drop at s) ≡ found s (leb w (length s - at)) (number (take w (drop at s))) (at + w)
  unfolding number_of ◌>>=◌ read_on just
  number_is = after (λ t. just (number t)) (stretch-at s at w) ∙ go (leb w (length s - at))
    where
      go : (b : Bool) → read_on (found s b (take w (drop at s)) (at + w)) (λ t. just (number t)) ≡ found s b (number (take w (drop at s))) (at + w)
      go true = refl
      go false = refl

  -- the bytes end before it does
  pub number-none : length s - at < w → number_of w (drop at s) ≡ none
  number-none h = number_is ∙ rw (lt-leb w (length s - at) h)

-- the bytes of a part from a place on
pub cut_twice : (w : ℕ) (s t b : Bytes) (at : ℕ) → t ≡ slice_range s at (length s) → b ≡ slice_range t 0 w → b ≡ take w (drop at s)
cut_twice w s t b at e f = f ∙ ap (λ (n : ℕ). take n t) (sub-zero w) ∙ ap (take w) (e ∙ part_end at s)

pub cut-bytes : (w : ℕ) (s b : Bytes) (at : ℕ) → b ≡ take w (drop at s) → AllBytes s → AllBytes b
cut-bytes w s b at e g = subst (λ (t : Bytes). AllBytes t) (sym e) (bytes_take w (drop at s) (bytes_drop at s g))

-- the reading loop: the first i bytes were read
pub record Reading (b : Bytes) (value i : ℕ) : Type 0 where
  pub bytes : AllBytes b
  pub is : value ≡ number (take i b)
  pub below : value < 256 ^ i

pub reading-start : (b : Bytes) → AllBytes b → Reading b 0 0
unfolding number_from
reading-start b g = record { bytes = g; is = refl; below = power_pos 0 }

module _ {b : Bytes} {value i : ℕ} (v : Reading b value i) where
  pub reading-fits : i < 8 → value * 256 + get_or b i 0 < 256 ^ 8
  reading-fits h = below_word (suc i) _ (omega arith) (below_more i value (get_or b i 0) v.below (v.bytes i))

  pub reading-more : i < length b → Reading b (value * 256 + get_or b i 0) (i + 1)
  unfolding number_from
  reading-more l = record {
    bytes = v.bytes;
    is =
        ap (λ (n : ℕ). n * 256 + get_or b i 0) v.is ∙ sym (number_more 0 (take i b) (get_or b i 0 ∷ []))
        ∙ ap number (sym (take-suc b i 0 l) ∙ ap (λ (n : ℕ). take n b) (sym (add-one i)));
    below = subst (λ (n : ℕ). value * 256 + get_or b i 0 < 256 ^ n) (sym (add-one i)) (below_more i value (get_or b i 0) v.below (v.bytes i));
  }

-- all of them were read
pub reading-end : {w : ℕ} {s b : Bytes} {at value i : ℕ} → b ≡ take w (drop at s) → at + w ≤ length s → i ≡ w → Reading b value i → IsNumber w s at value
reading-end {w} {s} {b} {at} {value} {i} cut h j u =
    let v : Reading (take w (drop at s)) value w = subst (λ (n : ℕ). Reading (take w (drop at s)) value n) j (subst (λ (t : Bytes). Reading t value i) cut u) in
    let l : w ≤ length s - at = omega arith in
    let e : take w (take w (drop at s)) ≡ take w (drop at s) = take_all w (take w (drop at s)) (omega (arith, length-take w (drop at s))) in
    let read : value ≡ number (take w (drop at s)) = v.is ∙ ap number e in
    record {
      read = record { is = number_is w s at ∙ rw (le-leb w (length s - at) l) (ap (λ (n : ℕ). found s true n (at + w)) (sym read)); within = h };
      small = v.below;
    }

-- ---- what a number at a place says

-- what was found there, as the definition has it
abbrev got_of : Option (Read ℕ) → ℕ
got_of none = 0
got_of (some r) = r.got

module _ {w : ℕ} {s : Bytes} {at v : ℕ} (n : IsNumber w s at v) where
  pub number-value : v ≡ number (take w (drop at s))
  number-value = go (leb w (length s - at)) (sym n.read.is ∙ number_is w s at)
    where
      go : (b : Bool) → some (record { got = v; rest = drop (at + w) s }) ≡ found s b (number (take w (drop at s))) (at + w) → v ≡ number (take w (drop at s))
      go true e = ap got_of e
      go false e = cc

pub number_short : (w : ℕ) (s : Bytes) (at : ℕ) → number_of w (drop at s) ≡ none → length s - at < w
number_short w s at h = leb-false w (length s - at) (go (leb w (length s - at)) (sym h ∙ number_is w s at))
  where
    go : (b : Bool) → none ≡ found s b (number (take w (drop at s))) (at + w) → b ≡ false
    go true e = cc
    go false e = refl
