-- Document 02, CR 4, the two questions: what holds of their answers, and worked cases, of which the list of those which differ is empty.
-- Assumes nothing.
use Prim.Native.Nat.{ℕ, zero, suc, ◌+◌, ◌≤◌, ◌<◌}
use native.Mathlib.Omega.{arith}
use mathlib.Core.Path.{◌≡◌, refl, sym, ap, ap₂, ◌∙◌}
use mathlib.Core.Bool.{Bool, true, false}
use mathlib.Core.List.{List, [], ◌∷◌, ◌++◌}
use lib.ListN.{replicate}
use lib.Dec.{ltb}
use borrow.Author.Tests.{lt-ltb, le-ltb}
use Rattle.forms.specs.Bytes.{cmp, eq_bytes}
use Rattle.forms.specs.Readers.{read_on, ◌>>=◌, just, only, byte, stretch, piece, up_to, times, section, ended, whole}
use Rattle.forms.specs.Row.{Row, integers, texts, fields, mask_bytes, bone, none_set, spares_zero, bones, row_from, row_form, bones_of, one, count_below}
use Rattle.rules.specs.Answers.{No, number, ◌▸◌, need, count_if}
use Rattle.rules.specs.Bones.{Due, bone_steps, shown_if, bone_shown, bones_shown}
use Rattle.rules.proofs.Worked.{Case, name_unless, differing}

pub count_same : (p q : ℕ → Bool) (n : ℕ) → ((i : ℕ) → i < n → p i ≡ q i) → count_below p n ≡ count_below q n
unfolding count_below
count_same p q zero e = refl
count_same p q (suc n) e = ap₂ (λ (b : Bool) (k : ℕ). one b + k) (e n (omega arith)) (count_same p q n (λ i l. e i (omega arith)))

count_none : (n : ℕ) → count_below (λ _. false) n ≡ 0
unfolding count_below
count_none zero = refl
count_none (suc n) = ap (λ (k : ℕ). 0 + k) (count_none n)

module _ (r : Row) where
  told : (f t : Bool) (n : ℕ) → row_form r ≡ f → ltb n (bones_of r).count ≡ t → bone_shown r n ≡ record { answer = need f 2 ▸ need t 3; shown = shown_if (need f 2 ▸ need t 3) (bone (bones_of r).mask n) }
  unfolding bone_shown bone_steps
  told f t n p q = ap₂ (λ (f t : Bool). record { answer = need f 2 ▸ need t 3; shown = shown_if (need f 2 ▸ need t 3) (bone (bones_of r).mask n) }) p q

  -- a row out of form is 2 for every number
  pub bone-refused : (n : ℕ) → row_form r ≡ false → bone_shown r n ≡ record { answer = No 2; shown = false }
  unfolding ◌▸◌ need
  bone-refused n h = told false (ltb n (bones_of r).count) n h refl

  -- "a bone number not below the count is 3", for every number
  pub bone-past : (n : ℕ) → row_form r ≡ true → (bones_of r).count ≤ n → bone_shown r n ≡ record { answer = No 3; shown = false }
  unfolding ◌▸◌ need
  bone-past n h l = told true false n h (le-ltb n (bones_of r).count l)

  -- "how many bones are shown" is the count of those of which the other call says yes
  pub bones-counted : (bones_shown r).shown ≡ count_below (λ n. (bone_shown r n).shown) (bones_of r).count
  unfolding bones_shown ◌▸◌ need count_if
  bones-counted = go (row_form r) refl
    where
      go : (f : Bool) → row_form r ≡ f → count_if (need f 2) (count_below (bone (bones_of r).mask) (bones_of r).count) ≡ count_below (λ n. (bone_shown r n).shown) (bones_of r).count
      go true h = sym (count_same (λ n. (bone_shown r n).shown) (bone (bones_of r).mask) (bones_of r).count (λ n l. ap (λ (d : Due Bool). d.shown) (told true true n h (lt-ltb n (bones_of r).count l))))
      go false h = sym (count_same (λ n. (bone_shown r n).shown) (λ _. false) (bones_of r).count (λ n l. ap (λ (d : Due Bool). d.shown) (bone-refused n h)) ∙ count_none (bones_of r).count)

-- ---- worked cases: the number of the first call, 1 if the bone is shown, the number of the second and how many

saw : Row → ℕ → List ℕ
saw r n = number (bone_shown r n).answer ∷ one (bone_shown r n).shown ∷ number (bones_shown r).answer ∷ (bones_shown r).shown ∷ []

-- 255 bones, of which the last is shown
many : Row
many = 0 ∷ 0 ∷ 255 ∷ replicate 31 0 ++ (64 ∷ [])

pub bone_table : List Case
bone_table =
    record { name = "no section: 2"; got = saw (0 ∷ 0 ∷ []) 0; wanted = 2 ∷ 0 ∷ 2 ∷ 0 ∷ [] } ∷
    record { name = "no bone: 3, and none shown"; got = saw (0 ∷ 0 ∷ 0 ∷ []) 0; wanted = 3 ∷ 0 ∷ 0 ∷ 0 ∷ [] } ∷
    record { name = "a byte too many: 2"; got = saw (0 ∷ 0 ∷ 0 ∷ 0 ∷ []) 0; wanted = 2 ∷ 0 ∷ 2 ∷ 0 ∷ [] } ∷
    record { name = "8 bones have one byte"; got = saw (0 ∷ 0 ∷ 8 ∷ 0x83 ∷ []) 7; wanted = 0 ∷ 1 ∷ 0 ∷ 3 ∷ [] } ∷
    record { name = "8 bones and two bytes: 2"; got = saw (0 ∷ 0 ∷ 8 ∷ 0x83 ∷ 0 ∷ []) 7; wanted = 2 ∷ 0 ∷ 2 ∷ 0 ∷ [] } ∷
    record { name = "bone 0 in the lowest bit"; got = saw (0 ∷ 0 ∷ 1 ∷ 1 ∷ []) 0; wanted = 0 ∷ 1 ∷ 0 ∷ 1 ∷ [] } ∷
    record { name = "a spare bit: 2"; got = saw (0 ∷ 0 ∷ 1 ∷ 2 ∷ []) 0; wanted = 2 ∷ 0 ∷ 2 ∷ 0 ∷ [] } ∷
    record { name = "bone 8 in the second byte"; got = saw (0 ∷ 0 ∷ 9 ∷ 0 ∷ 1 ∷ []) 8; wanted = 0 ∷ 1 ∷ 0 ∷ 1 ∷ [] } ∷
    record { name = "bone 0 not shown: 0"; got = saw (0 ∷ 0 ∷ 9 ∷ 0 ∷ 1 ∷ []) 0; wanted = 0 ∷ 0 ∷ 0 ∷ 1 ∷ [] } ∷
    record { name = "bone 9 of 9: 3"; got = saw (0 ∷ 0 ∷ 9 ∷ 0 ∷ 1 ∷ []) 9; wanted = 3 ∷ 0 ∷ 0 ∷ 1 ∷ [] } ∷
    record { name = "bone 254 of 255"; got = saw many 254; wanted = 0 ∷ 1 ∷ 0 ∷ 1 ∷ [] } ∷
    record { name = "bone 2^64 - 1: 3"; got = saw many 18446744073709551615; wanted = 3 ∷ 0 ∷ 0 ∷ 1 ∷ [] } ∷
    []

pub bones-worked : differing bone_table ≡ []
unfolding saw many bone_table name_unless differing cmp eq_bytes read_on ◌>>=◌ just only byte stretch piece up_to times section ended whole integers texts fields mask_bytes bone none_set spares_zero bones row_from row_form bones_of count_below ◌▸◌ need count_if bone_steps bone_shown bones_shown
bones-worked = refl
