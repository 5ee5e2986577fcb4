-- Rows: what each way over one of document 01's sections says, the loop over the texts, and what a row of 01's own form is.
-- Assumes nothing.
use Prim.Native.Nat.{ℕ, suc, ◌+◌, ◌-◌, ◌*◌, ◌≤◌, ◌<◌}
use native.Mathlib.Omega.{arith}
use native.Mathlib.Nat.{sub-zero}
use mathlib.Core.Path.{◌≡◌, refl, sym, ◌∙◌, ap, subst}
use mathlib.Core.Bool.{Bool, true, false, ◌&&◌}
use mathlib.Core.List.{List, [], ◌∷◌}
use mathlib.Core.Option.{Option, none, some}
use lib.ListN.{length, get_or, drop}
use lib.Dec.{leb, eqb}
use borrow.Author.Tests.{le-leb, leb-true}
use Rattle.seqs.proofs.Tests.{and_left, and_right}
use Rattle.forms.specs.Bytes.{Bytes}
use Rattle.forms.specs.Readers.{Read, read_on, ◌>>=◌, just, byte, stretch, piece, up_to, times, section, ended, whole, is_some}
use Rattle.forms.specs.Row.{Row, integers, texts, fields, old_row_form, row_form}
use Rattle.forms.specs.Places.{IsCount, rest_of, IsRest, RestAt, IsPart}
use Rattle.forms.specs.declared.part.Part.{Part}
use Rattle.std.specs.Prelude.{None, Some}
use Rattle.std.specs.Prelude.{Option as Maybe}
use Rattle.std.specs.Option.{option_eq}
use Rattle.forms.proofs.ReaderLaws.{after, byte-none, byte_at, stretch-good, stretch-short, up_to-none, up_to-many, up_to-good, read_more, times-bad, times_more, is_empty, end-at}

-- ---- `count_at`

module _ (s : Bytes) (at : ℕ) where
  pub count_none : length s ≤ at → up_to 8 byte (drop at s) ≡ none
  count_none h = up_to-none 8 byte (drop at s) (byte-none s at h)

  pub count_many : at < length s → 8 < get_or s at 0 → up_to 8 byte (drop at s) ≡ none
  count_many l h = up_to-many 8 byte (drop at s) (byte_at s at l) h

  pub count_good : at < length s → get_or s at 0 ≤ 8 → IsCount s at (get_or s at 0)
  count_good l h = record { read = record { is = up_to-good 8 byte (drop at s) (byte_at s at l) h; within = omega arith }; small = h }

-- ---- `integers_end`

module _ (s : Bytes) (at : ℕ) where
  pub integers_none : up_to 8 byte (drop at s) ≡ none → rest_of (integers (drop at s)) ≡ none
  unfolding integers ◌>>=◌ read_on
  integers_none e = ap rest_of (after (λ n. stretch (8 * n)) e)

module _ {s : Bytes} {at n : ℕ} (c : IsCount s at n) where
  pub integers_short : length s - at - 1 < 8 * n → rest_of (integers (drop at s)) ≡ none
  unfolding integers ◌>>=◌ read_on
  integers_short m = ap rest_of (after (λ n. stretch (8 * n)) c.read.is ∙ stretch-short s (at + 1) (8 * n) (omega arith))

  pub integers_good : 8 * n ≤ length s - at - 1 → IsRest s (rest_of (integers (drop at s))) (at + 1 + 8 * n)
  unfolding integers ◌>>=◌ read_on
  integers_good m = let l = c.read.within in record {
    is = ap rest_of (after (λ n. stretch (8 * n)) c.read.is ∙ stretch-good s (at + 1) (8 * n) (omega arith));
    within = omega arith;
  }

-- ---- `pieces_end`: the pieces from `end` on are still to come

pub record Passing (s : Bytes) (at count end i : ℕ) : Type 0 where
  pub within : end ≤ length s
  pub is : rest_of (times count piece (drop at s)) ≡ rest_of (times (count - i) piece (drop end s))

pub passing-start : {s : Bytes} {at : ℕ} (count : ℕ) → at ≤ length s → Passing s at count at 0
passing-start {s} {at} count h = record { within = h; is = ap (λ (n : ℕ). rest_of (times n piece (drop at s))) (sym (sub-zero count)) }

rest_more : {A : Type 0} (x : A) (o : Option (Read (List A))) → rest_of (read_more x o) ≡ rest_of o
rest_more x none = refl
rest_more x (some q) = refl

module _ {s : Bytes} {at count end i : ℕ} (v : Passing s at count end i) where
  module _ (more : i < count) where
    next : rest_of (times count piece (drop at s)) ≡ rest_of (times (suc (count - (i + 1))) piece (drop end s))
    next = let e : count - i ≡ suc (count - (i + 1)) = omega arith in v.is ∙ ap (λ (n : ℕ). rest_of (times n piece (drop end s))) e

    pub passing-bad : piece (drop end s) ≡ none → rest_of (times count piece (drop at s)) ≡ none
    passing-bad e = next ∙ ap rest_of (times-bad piece (count - (i + 1)) (drop end s) e)

    pub passing-more : {p : Part} → IsPart s end p → Passing s at count (p.at + p.len) (i + 1)
    passing-more {p} q = record {
      within = q.inside.within;
      is = next ∙ ap rest_of (times_more piece (count - (i + 1)) (drop end s) q.read.is) ∙ rest_more _ (times (count - (i + 1)) piece (drop (p.at + p.len) s));
    }

  pub passing-end : count ≤ i → IsRest s (rest_of (times count piece (drop at s))) end
  unfolding times just
  passing-end h = let z : count - i ≡ 0 = omega arith in record { is = v.is ∙ ap (λ (n : ℕ). rest_of (times n piece (drop end s))) z; within = v.within }

-- ---- `texts_end`

pub texts_none : (s : Bytes) (at : ℕ) → up_to 8 byte (drop at s) ≡ none → rest_of (texts (drop at s)) ≡ none
unfolding texts section ◌>>=◌ read_on
texts_none s at e = ap rest_of (after (λ n. times n piece) e)

module _ {s : Bytes} {at n : ℕ} (c : IsCount s at n) where
  pub texts_are : rest_of (texts (drop at s)) ≡ rest_of (times n piece (drop (at + 1) s))
  unfolding texts section ◌>>=◌ read_on
  texts_are = ap rest_of (after (λ n. times n piece) c.read.is)

-- the same rest, said otherwise
pub rest_as : (s : Bytes) {o o' : Option Bytes} (r : Maybe ℕ) → o ≡ o' → RestAt s o' r → RestAt s o r
rest_as s r e v = subst (λ (o : Option Bytes). RestAt s o r) (sym e) v

-- ---- `fields_end`

abbrev texts_after : Option Bytes → Option Bytes
texts_after none = none
texts_after (some t) = rest_of (texts t)

fields-rest : (s : Bytes) → rest_of (fields s) ≡ texts_after (rest_of (integers s))
unfolding fields ◌>>=◌ read_on
fields-rest s = go (integers s)
  where
    go : (o : Option (Read Bytes)) → rest_of (read_on o (λ _. texts)) ≡ texts_after (rest_of o)
    go none = refl
    go (some q) = refl

pub fields_none : (s : Bytes) → rest_of (integers s) ≡ none → rest_of (fields s) ≡ none
fields_none s e = fields-rest s ∙ ap texts_after e

pub fields_are : {s : Bytes} {at : ℕ} → IsRest s (rest_of (integers s)) at → rest_of (fields s) ≡ rest_of (texts (drop at s))
fields_are {s} v = fields-rest s ∙ ap texts_after v.is

-- ---- `old_row_in_form`

-- "nothing may follow": all was read where what is left is empty
abbrev is_end : Option Bytes → Bool
is_end none = false
is_end (some t) = is_empty t

end_is : {A : Type 0} (o : Option (Read A)) → is_some (ended o) ≡ is_end (rest_of o)
unfolding ended
end_is none = refl
end_is (some r) = go r.rest
  where
    go : (t : Bytes) → is_some (ended (some (record { got = r.got; rest = t }))) ≡ is_empty t
    go [] = refl
    go (x ∷ t) = refl

module _ (s : Bytes) (l : 2 ≤ length s) (h : length s ≤ 255) where
  old-is : {o : Option Bytes} → rest_of (fields s) ≡ o → old_row_form s ≡ is_end o
  unfolding old_row_form whole
  old-is e = simp (le-leb _ _ l, le-leb _ _ h) (end_is (fields s) ∙ ap is_end e)

  pub old_ends : (r : Maybe ℕ) → RestAt s (rest_of (fields s)) r → option_eq eqb r (Some (length s)) ≡ old_row_form s
  old_ends None e = sym (old-is e)
  old_ends (Some at) v = end-at s at v.within ∙ sym (old-is v.is)

-- ---- a row in form

-- "Lengths stay at most 255, the smallest row is 00 00 00"
pub record RowBounds (r : Row) : Type 0 where
  pub length_is : 3 ≤ length r
  pub short : length r ≤ 255

pub row-bounds : (r : Row) → row_form r ≡ true → RowBounds r
unfolding row_form
row-bounds r h =
    let g : leb 3 (length r) && leb (length r) 255 ≡ true = and_left _ _ h in
    record { length_is = leb-true _ _ (and_left _ _ g); short = leb-true _ _ (and_right (leb 3 (length r)) _ g) }
