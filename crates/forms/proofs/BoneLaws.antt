-- The bones of a row: what its spare bits say, what each way over the section says, and what a row in form is.
-- Assumes nothing.
use Prim.Native.Nat.{ℕ, zero, suc, ◌+◌, ◌-◌, ◌*◌, ◌/◌, ◌%◌, ◌^◌, ◌≤◌, ◌<◌}
use native.Mathlib.Omega.{arith}
use mathlib.Core.Path.{◌≡◌, refl, sym, ◌∙◌, ap, ap₂, subst}
use mathlib.Core.Bool.{Bool, true, false, not, ◌&&◌, false≢true}
use mathlib.Core.List.{List, [], ◌∷◌}
use mathlib.Core.Option.{Option, none, some}
use lib.ListN.{length, get_or, drop, take, length-drop}
use lib.Seq.{get_or-take, get_or-drop, length-take-le}
use lib.Pow.{shr-shr, shr_lt}
use lib.Dec.{leb, eqb}
use Rattle.seqs.proofs.Tests.{and_right}
use borrow.Author.Tests.{le-leb, lt-leb, leb-true, eq-eqb, ne_eqb, eqb-true, eqb-false}
use Rattle.forms.specs.Bytes.{Bytes, bytes_at}
use Rattle.forms.specs.Readers.{Read, Reader, read_on, ◌>>=◌, only, when, byte, stretch, up_to, ended, whole, is_some}
use Rattle.forms.specs.Row.{Row, fields, old_row_form, mask_bytes, bone, none_set, spares_zero, Bones, bones, row_from, row_form, or_no_bones, bones_of}
use Rattle.forms.specs.Places.{found, rest_of, IsRest, bones_at, IsMask, AreBones}
use Rattle.forms.specs.declared.row.Mask.{Mask}
use Rattle.forms.proofs.ReaderLaws.{after, byte-none, byte_at, stretch-good, stretch-short, up_to-none, up_to-good, ended_at}

-- ---- `spares_zero`: the bits of one byte

-- a number is zero where its lowest digit and the rest are
zero-halves : (x : ℕ) → not (eqb (x % 2) 1) && eqb (x / 2) 0 ≡ eqb x 0
zero-halves x = go (eqb (x % 2) 1) refl (eqb (x / 2) 0) refl
  where
    even : (x % 2 ≡ 1 → ⊥) → x / 2 ≡ 0 → x ≡ 0
    even n e = omega (arith, n)

    go : (a : Bool) → eqb (x % 2) 1 ≡ a → (b : Bool) → eqb (x / 2) 0 ≡ b → not a && b ≡ eqb x 0
    go true p b q = let odd = eqb-true (x % 2) 1 p in sym (ne_eqb x 0 (λ e. omega arith))
    go false p true q = let e = eqb-true (x / 2) 0 q in sym (eq-eqb x 0 (even (eqb-false (x % 2) 1 p) e))
    go false p false q = let e = eqb-false (x / 2) 0 q in sym (ne_eqb x 0 (λ z. e (omega arith)))

-- the bit k of the byte q
pub bone-of : (mask : Bytes) (q k : ℕ) → k < 8 → bone mask (8 * q + k) ≡ eqb (get_or mask q 0 / 2 ^ k % 2) 1
unfolding bone
bone-of mask q k h =
    let d : (8 * q + k) / 8 ≡ q = omega arith in
    let m : (8 * q + k) % 8 ≡ k = omega arith in
    ap₂ (λ (x y : ℕ). eqb (get_or mask x 0 / 2 ^ y % 2) 1) d m

-- the j bits of the byte q from its bit k on are zero where nothing is left of it above the first k
none_of : (mask : Bytes) (q k j : ℕ) → k + j ≤ 8 → get_or mask q 0 / 2 ^ k < 2 ^ j → none_set mask (8 * q + k) j ≡ eqb (get_or mask q 0 / 2 ^ k) 0
unfolding none_set
none_of mask q k zero h l = sym (eq-eqb (get_or mask q 0 / 2 ^ k) 0 (omega (arith, l)))
none_of mask q k (suc j) h l =
    let x : ℕ = get_or mask q 0 / 2 ^ k in
    let half : x / 2 ≡ get_or mask q 0 / 2 ^ (k + 1) = shr-shr (get_or mask q 0) k 1 in
    let rest : get_or mask q 0 / 2 ^ (k + 1) < 2 ^ j = subst (λ (y : ℕ). y < 2 ^ j) half (shr_lt j 1 (subst (λ (y : ℕ). x < 2 ^ y) (omega arith) l)) in
    let e : suc (8 * q + k) ≡ 8 * q + (k + 1) = omega arith in
    ap₂ (λ (a b : Bool). not a && b) (bone-of mask q k (omega arith)) (ap (λ (n : ℕ). none_set mask n j) e ∙ none_of mask q (k + 1) j (omega arith) rest ∙ ap (λ (y : ℕ). eqb y 0) (sym half))
    ∙ zero-halves x

-- the byte that the bones do not fill lies in the mask
pub last-in : (total at n : ℕ) → at + mask_bytes n ≤ total → (n % 8 ≡ 0 → ⊥) → at + n / 8 < total
unfolding mask_bytes
last-in total at n within h = omega (arith, h, within)

module _ (s : Bytes) (at n : ℕ) (within : at + mask_bytes n ≤ length s) where
  mask-length : length (bytes_at s at (mask_bytes n)) ≡ mask_bytes n
  mask-length = length-take-le (mask_bytes n) (drop at s) (subst (λ (k : ℕ). mask_bytes n ≤ k) (sym (length-drop at s)) (omega (arith, within)))

  pub spares-filled : n % 8 ≡ 0 → eqb (n % 8) 0 ≡ spares_zero n (bytes_at s at (mask_bytes n))
  unfolding spares_zero mask_bytes none_set
  spares-filled h = eq-eqb (n % 8) 0 h ∙ (let e : 8 * ((n + 7) / 8) - n ≡ 0 = omega (arith, h) in sym (ap (λ (k : ℕ). none_set (bytes_at s at (mask_bytes n)) n k) (ap (λ (k : ℕ). 8 * k - n) mask-length ∙ e)))

  pub spares-last : (n % 8 ≡ 0 → ⊥) → get_or s (at + n / 8) 0 < 256 → eqb (get_or s (at + n / 8) 0 / 2 ^ (n % 8)) 0 ≡ spares_zero n (bytes_at s at (mask_bytes n))
  unfolding spares_zero mask_bytes
  spares-last h b =
      let mask : Bytes = bytes_at s at (mask_bytes n) in
      let some : 0 < n % 8 = omega (arith, h) in
      let k : 8 * ((n + 7) / 8) - n ≡ 8 - n % 8 = omega arith in
      let place : n ≡ 8 * (n / 8) + n % 8 = omega arith in
      let e : 8 ≡ 8 - n % 8 + n % 8 = omega arith in
      let last : get_or mask (n / 8) 0 ≡ get_or s (at + n / 8) 0 = get_or-take (mask_bytes n) (drop at s) (n / 8) 0 (omega arith) ∙ get_or-drop at s (n / 8) 0 in
      let small : get_or mask (n / 8) 0 / 2 ^ (n % 8) < 2 ^ (8 - n % 8) = shr_lt (8 - n % 8) (n % 8) (subst (λ (y : ℕ). get_or mask (n / 8) 0 < 2 ^ y) e (subst (λ (y : ℕ). y < 256) (sym last) b)) in
      sym (
      ap (λ (j : ℕ). none_set mask n j) (ap (λ (k : ℕ). 8 * k - n) mask-length ∙ k)
      ∙ ap (λ (m : ℕ). none_set mask m (8 - n % 8)) place
      ∙ none_of mask (n / 8) (n % 8) (8 - n % 8) (omega arith) small
      ∙ ap (λ (y : ℕ). eqb (y / 2 ^ (n % 8)) 0) last
      )

-- ---- `bones_at`

abbrev mask_from : ℕ → Reader Bones
mask_from n = stretch (mask_bytes n) >>= (λ mask. only (spares_zero n mask) (record { count = n; mask = mask }))

pub bones-none : (s : Bytes) (at : ℕ) → length s ≤ at → bones (drop at s) ≡ none
unfolding bones ◌>>=◌ read_on
bones-none s at h = after mask_from (up_to-none 255 byte (drop at s) (byte-none s at h))

-- the mask lies in the bytes
pub mask-in : (total at n : ℕ) → at < total → (n + 7) / 8 ≤ total - at - 1 → at + 1 + mask_bytes n ≤ total
unfolding mask_bytes
mask-in total at n l h = omega arith

module _ (s : Bytes) (at n : ℕ) (l : at < length s) (e : n ≡ get_or s at 0) (b : n ≤ 255) where
  bones-mask : bones (drop at s) ≡ mask_from (n) (drop (at + 1) s)
  unfolding bones ◌>>=◌ read_on
  bones-mask = after mask_from (up_to-good 255 byte (drop at s) (byte_at s at l ∙ ap (λ (x : ℕ). some (record { got = x; rest = drop (at + 1) s })) (sym e)) b)

  pub bones-short : length s - at - 1 < (n + 7) / 8 → bones (drop at s) ≡ none
  unfolding ◌>>=◌ read_on mask_bytes
  bones-short h = bones-mask ∙ after (λ mask. only (spares_zero n mask) (record { count = n; mask = mask })) (stretch-short s (at + 1) (mask_bytes n) (omega (arith, h)))

  module _ (room : (n + 7) / 8 ≤ length s - at - 1) where
    bones-only : bones (drop at s) ≡ found s (spares_zero n (bytes_at s (at + 1) (mask_bytes n))) (record { count = n; mask = bytes_at s (at + 1) (mask_bytes n) }) (at + 1 + (n + 7) / 8)
    unfolding ◌>>=◌ read_on only mask_bytes
    bones-only = bones-mask ∙ after (λ mask. only (spares_zero n mask) (record { count = n; mask = mask })) (stretch-good s (at + 1) (mask_bytes n) (omega (arith, room)))

    module _ {t : Bool} (spare : t ≡ spares_zero n (bytes_at s (at + 1) (mask_bytes n))) where
      bones-found : (b : Bool) → t ≡ b → bones (drop at s) ≡ found s b (record { count = n; mask = bytes_at s (at + 1) (mask_bytes n) }) (at + 1 + (n + 7) / 8)
      bones-found b p = bones-only ∙ ap (λ (b : Bool). found s b (record { count = n; mask = bytes_at s (at + 1) (mask_bytes n) }) (at + 1 + (n + 7) / 8)) (sym spare ∙ p)

      pub bones-spare : t ≡ false → bones (drop at s) ≡ none
      bones-spare n = bones-found false n

      pub bones-good : t ≡ true → IsMask s at (record { count = n; at = at + 1; end = at + 1 + (n + 7) / 8 })
      unfolding mask_bytes
      bones-good n = record { read = record { is = bones-found true n; within = omega (arith, room, l) }; size = refl }

-- ---- `bones_in`

abbrev bones_after : Option Bytes → Option (Read Bones)
bones_after none = none
bones_after (some t) = bones t

row_from_lem : (s : Bytes) → row_from s ≡ bones_after (rest_of (fields s))
unfolding row_from ◌>>=◌ read_on
row_from_lem s = go (fields s)
  where
    go : (o : Option (Read (List Bytes))) → read_on o (λ _. bones) ≡ bones_after (rest_of o)
    go none = refl
    go (some q) = refl

module _ (s : Bytes) where
  pub row_tiny : length s < 3 → row_form s ≡ false
  unfolding row_form
  row_tiny h = simp (lt-leb _ _ h)

  pub row_long : 255 < length s → row_form s ≡ false
  unfolding row_form
  row_long h = let l : 3 ≤ length s = omega arith in simp (le-leb _ _ l, lt-leb _ _ h)

module _ (s : Bytes) (l : 3 ≤ length s) (h : length s ≤ 255) where
  row_is : {o : Option Bones} → whole row_from s ≡ o → row_form s ≡ is_some o
  unfolding row_form
  row_is e = simp (le-leb _ _ l, le-leb _ _ h) (ap is_some e)

  row-after : {o : Option Bytes} → rest_of (fields s) ≡ o → whole row_from s ≡ ended (bones_after o)
  unfolding whole
  row-after e = ap ended (row_from_lem s ∙ ap bones_after e)

  pub row_fields : rest_of (fields s) ≡ none → row_form s ≡ false
  unfolding ended
  row_fields e = row_is (row-after e)

  module _ {at : ℕ} (f : IsRest s (rest_of (fields s)) at) where
    pub row_bare : bones (drop at s) ≡ none → row_form s ≡ false
    unfolding ended
    row_bare e = row_is (row-after f.is ∙ ap ended e)

    module _ {m : Mask} (u : IsMask s at m) where
      row_ends : (b : Bool) → eqb m.end (length s) ≡ b → whole row_from s ≡ when b (bones_at s m)
      row_ends b p = row-after f.is ∙ ap ended u.read.is ∙ ended_at (bones_at s m) s m.end u.read.within ∙ ap (λ (b : Bool). when b (bones_at s m)) p

      pub row_more : (m.end ≡ length s → ⊥) → row_form s ≡ false
      row_more n = row_is (row_ends false (ne_eqb _ _ n))

      pub row_bones : m.end ≡ length s → AreBones s m
      unfolding bones_of
      row_bones e = let whole_is = row_ends true (eq-eqb _ _ e) in record { form = row_is whole_is; is = ap or_no_bones whole_is; size = sym u.size ∙ e }

-- ---- what holds of every row's bones

pub record Fitting (b : Bones) : Type 0 where
  pub small : b.count ≤ 255
  pub size : length b.mask ≡ mask_bytes b.count
  pub spare : spares_zero b.count b.mask ≡ true

none-fit : Fitting (or_no_bones none)
unfolding mask_bytes spares_zero none_set
none-fit = record { small = omega arith; size = refl; spare = refl }

-- what was read, before the end is looked at
abbrev got_bones : Option (Read Bones) → Bones
got_bones none = or_no_bones none
got_bones (some q) = q.got

bones-read : (t : Bytes) → Fitting (got_bones (bones t))
unfolding bones up_to byte only stretch ◌>>=◌ read_on
bones-read [] = none-fit
bones-read (n ∷ t) = by_count (leb n 255) refl
  where
    by-spare : n ≤ 255 → mask_bytes n ≤ length t → (b : Bool) → spares_zero n (take (mask_bytes n) t) ≡ b → Fitting (got_bones (when b (record { got = record { count = n; mask = take (mask_bytes n) t }; rest = drop (mask_bytes n) t })))
    by-spare c l true p = record { small = c; size = length-take-le (mask_bytes n) t l; spare = p }
    by-spare c l false p = none-fit

    by_length : n ≤ 255 → (b : Bool) → leb (mask_bytes n) (length t) ≡ b → Fitting (got_bones (read_on (when b (record { got = take (mask_bytes n) t; rest = drop (mask_bytes n) t })) (λ mask. only (spares_zero n mask) (record { count = n; mask = mask }))))
    by_length c true p = by-spare c (leb-true (mask_bytes n) (length t) p) (spares_zero n (take (mask_bytes n) t)) refl
    by_length c false p = none-fit

    by_count : (b : Bool) → leb n 255 ≡ b → Fitting (got_bones (read_on (when b (record { got = n; rest = t })) mask_from))
    by_count true p = by_length (leb-true n 255 p) (leb (mask_bytes n) (length t)) refl
    by_count false p = none-fit

pub bones-fit : (r : Row) → Fitting (bones_of r)
unfolding bones_of whole row_from ◌>>=◌ read_on ended
bones-fit r = by-fields (fields r)
  where
    by_end : (o : Option (Read Bones)) → Fitting (got_bones o) → Fitting (or_no_bones (ended o))
    by_end none f = none-fit
    by_end (some q) f = by-rest q.rest
      where
        by-rest : (t : Bytes) → Fitting (or_no_bones (ended (some (record { got = q.got; rest = t }))))
        by-rest [] = f
        by-rest (x ∷ t) = none-fit

    by-fields : (o : Option (Read (List Bytes))) → Fitting (or_no_bones (ended (read_on o (λ _. bones))))
    by-fields none = none-fit
    by-fields (some q) = by_end (bones q.rest) (bones-read q.rest)

-- no row is of both forms: document 01's reads it to its end, where the count byte is missing
pub not-both : (r : Row) → row_form r ≡ true → old_row_form r ≡ false
unfolding row_form old_row_form whole row_from ◌>>=◌ read_on ended bones up_to byte
not-both r h = ap (λ (b : Bool). leb 2 (length r) && leb (length r) 255 && b) (go (fields r) (and_right (leb 3 (length r) && leb (length r) 255) _ h)) ∙ off (leb 2 (length r) && leb (length r) 255)
  where
    off : (a : Bool) → a && false ≡ false
    off true = refl
    off false = refl

    go : (o : Option (Read (List Bytes))) → is_some (ended (read_on o (λ _. bones))) ≡ true → is_some (ended o) ≡ false
    go none e = refl
    go (some q) e = by-rest q.rest e
      where
        by-rest : (t : Bytes) → is_some (ended (bones t)) ≡ true → is_some (ended (some (record { got = q.got; rest = t }))) ≡ false
        by-rest [] e = absurd (false≢true e)
        by-rest (x ∷ t) e = refl
