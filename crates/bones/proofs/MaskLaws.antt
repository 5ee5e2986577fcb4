-- Bones in a mask: a byte's ones are the bones that it shows, the spare bits show none, and what each way out of the two questions says.
-- Assumes nothing.
use Prim.Native.Nat.{ℕ, zero, suc, ◌+◌, ◌-◌, ◌*◌, ◌/◌, ◌%◌, ◌^◌, ◌≤◌, ◌<◌}
use native.Mathlib.Omega.{arith}
use native.Mathlib.Nat.{mod-eq_of_lt, mod-lt}
use mathlib.Core.Path.{◌≡◌, refl, sym, ap, ap₂, ◌∙◌, subst}
use mathlib.Core.Bool.{Bool, true, false, not}
use lib.ListN.{length, get_or, take, drop, length-drop}
use lib.Seq.{get_or-drop, take_all, take-length}
use native.Mathlib.Numerals.{add-one}
use Rattle.std.specs.List.{sum_by}
use Rattle.std.proofs.lemmas.List.Sums.{sum_by_more}
use lib.Dec.{eqb, ltb}
use lib.Pow.{mod-pow-add, pow_pos}
use lib.Bits.{bit_and, and_mask}
use lib.Count.{ones, ones_cat}
use borrow.Author.Tests.{lt-ltb, le-ltb, not-true}
use Rattle.seqs.proofs.Tests.{and_left, and_right}
use Rattle.forms.specs.Bytes.{Bytes, AllBytes}
use Rattle.forms.specs.Row.{Row, mask_bytes, bone, none_set, spares_zero, Bones, row_form, bones_of, one, count_below}
use Rattle.forms.specs.Places.{AreBones}
use Rattle.forms.specs.declared.row.Mask.{Mask}
use Rattle.seqs.proofs.Parts.{part_end}
use Rattle.forms.proofs.NumberLaws.{bytes_drop}
use Rattle.forms.proofs.RowLaws.{row-bounds}
use Rattle.forms.proofs.BoneLaws.{bone-of, bones-fit}
use Rattle.rules.specs.Answers.{Answer, Accepted, No, ◌▸◌, need, count_if}
use Rattle.rules.specs.Bones.{Due, Tells, bone_steps, shown_if, bone_shown, bones_shown}

-- ---- the ones of a byte

one_of : (x : ℕ) → x < 2 → one (eqb x 1) ≡ ones x
unfolding ones
one_of zero h = refl
one_of (suc zero) h = refl
one_of (suc (suc x)) h = absurd (omega arith)

-- the first k bones of the byte q are its k lowest digits
low-bones : (mask : Bytes) (q k : ℕ) → k ≤ 8 → count_below (bone mask) (8 * q + k) ≡ count_below (bone mask) (8 * q) + ones (get_or mask q 0 % 2 ^ k)
unfolding count_below ones
low-bones mask q zero h =
    let z : get_or mask q 0 % 1 ≡ 0 = omega arith in
    let e : 8 * q + 0 ≡ 8 * q = omega arith in
    let c : count_below (bone mask) (8 * q) ≡ count_below (bone mask) (8 * q) + 0 = omega arith in
    ap (λ (n : ℕ). count_below (bone mask) n) e ∙ c ∙ sym (ap (λ (x : ℕ). count_below (bone mask) (8 * q) + ones x) z)
low-bones mask q (suc k) h =
    let x : ℕ = get_or mask q 0 in
    let e : 8 * q + suc k ≡ suc (8 * q + k) = omega arith in
    let more : suc k ≡ 1 + k = omega arith in
    let split : x % 2 ^ suc k ≡ x / 2 ^ k % 2 * 2 ^ k + x % 2 ^ k = ap (λ (n : ℕ). x % 2 ^ n) more ∙ mod-pow-add x 1 k in
    let top : ones (x % 2 ^ suc k) ≡ ones (x / 2 ^ k % 2) + ones (x % 2 ^ k) = ap ones split ∙ ones_cat k (x / 2 ^ k % 2) (x % 2 ^ k) (mod-lt x (pow_pos k)) in
    let bit : one (bone mask (8 * q + k)) ≡ ones (x / 2 ^ k % 2) = ap one (bone-of mask q k (omega arith)) ∙ one_of (x / 2 ^ k % 2) (omega arith) in
    let rest = low-bones mask q k (omega arith) in
    ap (λ (n : ℕ). count_below (bone mask) n) e ∙ ap₂ (λ (a b : ℕ). a + b) bit rest ∙ omega (arith, top)

pub byte-bones : (mask : Bytes) (q : ℕ) → get_or mask q 0 < 256 → count_below (bone mask) (8 * (q + 1)) ≡ count_below (bone mask) (8 * q) + ones (get_or mask q 0)
byte-bones mask q h =
    let e : 8 * (q + 1) ≡ 8 * q + 8 = omega arith in
    ap (λ (n : ℕ). count_below (bone mask) n) e ∙ low-bones mask q 8 (omega arith) ∙ ap (λ (x : ℕ). count_below (bone mask) (8 * q) + ones x) (mod-eq_of_lt h)

-- at most as many as are asked
count_most : (p : ℕ → Bool) (n : ℕ) → count_below p n ≤ n
unfolding count_below
count_most p zero = omega arith
count_most p (suc n) = let l = count_most p n in go (p n) l
  where
    go : (b : Bool) → count_below p n ≤ n → one b + count_below p n ≤ suc n
    go true l = omega arith
    go false l = omega arith

-- bits that are not set add nothing
none_more : (mask : Bytes) (n k : ℕ) → none_set mask n k ≡ true → count_below (bone mask) (n + k) ≡ count_below (bone mask) n
unfolding none_set count_below
none_more mask n zero h = let e : n + 0 ≡ n = omega arith in ap (λ (x : ℕ). count_below (bone mask) x) e
none_more mask n (suc k) h =
    let e : n + suc k ≡ suc n + k = omega arith in
    let off : bone mask n ≡ false = not-true (bone mask n) (and_left (not (bone mask n)) (none_set mask (suc n) k) h) in
    ap (λ (x : ℕ). count_below (bone mask) x) e
    ∙ none_more mask (suc n) k (and_right (not (bone mask n)) (none_set mask (suc n) k) h)
    ∙ ap (λ (b : Bool). one b + count_below (bone mask) n) off
    ∙ omega arith

-- ---- the ones of a mask are its bones

front-bones : (mask : Bytes) → AllBytes mask → (i : ℕ) → i ≤ length mask → sum_by ones (take i mask) ≡ count_below (bone mask) (8 * i)
unfolding count_below
front-bones mask g zero h = refl
front-bones mask g (suc i) h =
    let l : i < length mask = omega arith in
    let k : 8 * (i + 1) ≡ 8 * suc i = omega arith in
    ap (λ (n : ℕ). sum_by ones (take n mask)) (sym (add-one i)) ∙ sum_by_more ones mask i 0 l ∙ ap (λ (n : ℕ). n + ones (get_or mask i 0)) (front-bones mask g i (omega arith))
    ∙ sym (byte-bones mask i (g i)) ∙ ap (λ (n : ℕ). count_below (bone mask) n) k

mask-bones : (mask : Bytes) → AllBytes mask → sum_by ones mask ≡ count_below (bone mask) (8 * length mask)
mask-bones mask g = let l : length mask ≤ length mask = omega arith in ap (λ (m : Bytes). sum_by ones m) (sym (take-length mask)) ∙ front-bones mask g (length mask) l

-- ---- the two questions

tells : {A : Type 0} {due : Due A} {a : Answer} {x : A} → due ≡ record { answer = a; shown = x } → Tells due a x
tells {A} {due} {a} {x} e = subst (λ (d : Due A). Tells d a x) (sym e) (record { answer_is = record { number_is = refl; holder_is = refl; case_is = refl }; shown_is = refl })

module _ (r : Row) (e : row_form r ≡ false) where
  -- out of form
  pub bone-unformed : (n : ℕ) → Tells (bone_shown r n) (No 2) false
  unfolding bone_shown bone_steps ◌▸◌ need
  bone-unformed n = tells (ap (λ (f : Bool). record { answer = need f 2 ▸ need (ltb n (bones_of r).count) 3; shown = shown_if (need f 2 ▸ need (ltb n (bones_of r).count) 3) (bone (bones_of r).mask n) }) e)

  pub bones-unformed : Tells (bones_shown r) (No 2) 0
  unfolding bones_shown need count_if
  bones-unformed = tells (ap (λ (f : Bool). record { answer = need f 2; shown = count_if (need f 2) (count_below (bone (bones_of r).mask) (bones_of r).count) }) e)

module _ {r : Row} {m : Mask} (v : AreBones r m) where
  mask_is : (bones_of r).mask ≡ drop m.at r
  mask_is =
      ap (λ (b : Bones). b.mask) v.is
      ∙ take_all (mask_bytes m.count) (drop m.at r) (subst (λ (n : ℕ). n ≤ mask_bytes m.count) (sym (length-drop m.at r)) (let e = v.size in omega arith))

  count_is : (bones_of r).count ≡ m.count
  count_is = ap (λ (b : Bones). b.count) v.is

  judged : (n : ℕ) (t : Bool) → ltb n m.count ≡ t → bone_shown r n ≡ record { answer = need t 3; shown = shown_if (need t 3) (bone (drop m.at r) n) }
  unfolding bone_shown bone_steps ◌▸◌ need
  judged n t p =
      ap₂ (λ (f : Bool) (mask : Bytes). record { answer = need f 2 ▸ need (ltb n (bones_of r).count) 3; shown = shown_if (need f 2 ▸ need (ltb n (bones_of r).count) 3) (bone mask n) }) v.form mask_is
      ∙ ap (λ (t : Bool). record { answer = need t 3; shown = shown_if (need t 3) (bone (drop m.at r) n) }) (ap (λ (k : ℕ). ltb n k) count_is ∙ p)

  -- "a bone number not below the count is 3"
  pub bone-past : {n : ℕ} → m.count ≤ n → Tells (bone_shown r n) (No 3) false
  unfolding need
  bone-past {n} l = tells (judged n false (le-ltb n m.count l))

  -- its byte lies in the row
  pub bone-in : {n : ℕ} → n < m.count → m.at + n / 8 < length r
  unfolding mask_bytes
  bone-in {n} l = let e = v.size in omega arith

  pub bone-told : {n : ℕ} → n < m.count → Tells (bone_shown r n) Accepted (eqb (bit_and (get_or r (m.at + n / 8) 0 / 2 ^ (n % 8)) 1) 1)
  unfolding need bone
  bone-told {n} l =
      tells (
      judged n true (lt-ltb n m.count l)
      ∙ ap (λ (x : ℕ). record { answer = Accepted; shown = eqb (x / 2 ^ (n % 8) % 2) 1 }) (get_or-drop m.at r (n / 8) 0)
      ∙ ap (λ (x : ℕ). record { answer = Accepted; shown = eqb x 1 }) (sym (and_mask (get_or r (m.at + n / 8) 0 / 2 ^ (n % 8)) 1))
      )

  -- the mask lies in the row, and is short
  pub mask-start : m.at ≤ length r
  mask-start = let e = v.size in omega arith

  pub row-short : length r ≤ 255
  row-short = (row-bounds r v.form).short

  -- the bones shown are those of all bits of the mask
  all-bits : count_below (bone (drop m.at r)) (8 * length (drop m.at r)) ≡ count_below (bone (bones_of r).mask) (bones_of r).count
  unfolding spares_zero mask_bytes
  all-bits =
      let f = bones-fit r in
      let size : length (bones_of r).mask ≡ length (drop m.at r) = ap length mask_is in
      let fit = f.size in
      let e : 8 * length (drop m.at r) ≡ (bones_of r).count + (8 * length (bones_of r).mask - (bones_of r).count) = omega arith in
      ap₂ (λ (mask : Bytes) (n : ℕ). count_below (bone mask) n) (sym mask_is) e
      ∙ none_more (bones_of r).mask (bones_of r).count (8 * length (bones_of r).mask - (bones_of r).count) f.spare

  module _ (g : AllBytes r) {sum : ℕ} (e : sum ≡ sum_by ones (take (length r - m.at) (drop m.at r))) where
    s : sum ≡ count_below (bone (drop m.at r)) (8 * length (drop m.at r))
    s = e ∙ ap (λ (x : Bytes). sum_by ones x) (part_end m.at r) ∙ mask-bones (drop m.at r) (bytes_drop m.at r g)

    pub sum_fits : sum ≤ 255
    sum_fits = let l = count_most (bone (bones_of r).mask) (bones_of r).count in omega (arith, s, all-bits, (bones-fit r).small)

    pub bones-told : Tells (bones_shown r) Accepted sum
    unfolding bones_shown need count_if
    bones-told = tells (ap (λ (f : Bool). record { answer = need f 2; shown = count_if (need f 2) (count_below (bone (bones_of r).mask) (bones_of r).count) }) v.form ∙ ap (λ (n : ℕ). record { answer = Accepted; shown = n }) (sym (s ∙ all-bits)))
