-- The converter's ways out.
-- Assumes nothing.
use Prim.Native.Nat.{ℕ, ◌+◌, ◌-◌, ◌≤◌, ◌<◌}
use native.Mathlib.Omega.{arith}
use mathlib.Core.Path.{◌≡◌, refl, sym, ◌∙◌, ap, subst}
use mathlib.Core.Bool.{Bool, true, false, false≢true}
use mathlib.Core.List.{◌++◌}
use lib.ListN.{length, take, drop}
use lib.Seq.{take_at}
use lib.Dec.{leb}
use borrow.Author.Tests.{le-leb, lt-leb}
use Rattle.seqs.proofs.Tests.{and_right}
use Rattle.forms.specs.Bytes.{Bytes, AllBytes}
use Rattle.forms.specs.Row.{old_row_form}
use Rattle.forms.specs.Writers.{Laid}
use Rattle.rules.specs.Answers.{Accepted, No, need}
use Rattle.rules.specs.Outcomes.{Wrote}
use Rattle.rules.specs.Written.{write_if, WroteAs}
use Rattle.rules.specs.Image.{image}
use Rattle.rules.specs.Restore.{good_image_by}
use Rattle.rules.specs.Convert.{converted_bytes, convertible, convert_if, convert_image}
use Rattle.laws.proofs.StepLaws.{need-true, answered}
use Rattle.std.specs.Prelude.{None}
use Rattle.converts.specs.Judged.{Convertible, OldJudged}
use Rattle.converts.specs.Grown.{PutAsks}
use Rattle.converts.specs.Promise.{ImageConverted}
use Rattle.converts.proofs.ReadApartLaws.{sectioned}
use Rattle.converts.proofs.GrownLaws.{converted-long, put-asks}
use Rattle.converts.proofs.Converted.{converted-reads}

-- nothing was written
refused : (s out : Bytes) (n : ℕ) → WroteAs (convert_image s out) (record { answer = No n; count = 0 }) out → ImageConverted s out (record { answer = No n; count = 0 }) out
unfolding need
refused s out n w = record { wrote = w; reads = λ a. absurd (false≢true (need-true false n a)) }

-- "a fault by 01's image checks or a 255-byte row is 13"
pub converts-none : (s out : Bytes) → OldJudged s None → ImageConverted s out (record { answer = No 13; count = 0 }) out
unfolding convert_image convert_if
converts-none s out h =
    refused s out 13
    (subst (λ (b : Bool). WroteAs (convert_if b (converted_bytes s) out) (record { answer = No 13; count = 0 }) out) (sym h)
    (record { answer_is = answered refl; count_is = refl; out_is = refl }))

module _ {s : Bytes} (out : Bytes) {n : ℕ} (c : Convertible s n) where
  pub length_is : length (converted_bytes s) ≡ length s + 8 + n
  length_is = omega (arith, converted-long (sectioned s c.img c.is), c.count_is)

  by : (b : Bool) → leb (length (converted_bytes s)) (length out) ≡ b → {w : Wrote} {out' : Bytes} → WroteAs (write_if b (converted_bytes s) out) w out' → WroteAs (convert_image s out) w out'
  unfolding convert_image convert_if
  by b e {w} {out'} p =
      subst (λ (x : Bool). WroteAs (convert_if x (converted_bytes s) out) w out') (sym (ap convertible c.is ∙ c.good))
      (subst (λ (x : Bool). WroteAs (write_if x (converted_bytes s) out) w out') (sym e) p)

  -- "then a short buffer 12"
  pub converts-short : length out < length s + 8 + n → ImageConverted s out (record { answer = No 12; count = 0 }) out
  unfolding write_if
  converts-short l = refused s out 12 (by false (lt-leb (length (converted_bytes s)) (length out) (omega (arith, length_is))) (record { answer_is = answered refl; count_is = refl; out_is = refl }))

  module _ (l : length s + 8 + n ≤ length out) where
    pub converts-asks : PutAsks s n out
    unfolding convertible
    converts-asks =
        subst (λ (m : ℕ). PutAsks s m out) c.count_is
        (put-asks (sectioned s c.img c.is) out (and_right (good_image_by old_row_form c.img) _ c.good) (omega (arith, length_is)))

    pub converts-put : AllBytes s → {m : ℕ} {out' : Bytes} → Laid 0 (length (converted_bytes s)) (converted_bytes s) out m out' → ImageConverted s out (record { answer = Accepted; count = m }) out'
    unfolding write_if
    converts-put g {m} {out'} x = record {
      wrote =
          by true (le-leb (length (converted_bytes s)) (length out) (omega (arith, length_is)))
          (record { answer_is = answered refl; count_is = all; out_is = x.is ∙ ap (λ (k : ℕ). converted_bytes s ++ drop k out) all });
      reads = λ a i e. ap image (ap (take m) x.is ∙ take_at (converted_bytes s) (drop m out) m (sym all)) ∙ converted-reads s i g e;
    }
      where
        all : m ≡ length (converted_bytes s)
        all = omega (arith, x.next)
