-- The checking pass of a call that adds and frees: what is left to check, and what the entries that passed add and free.
-- Assumes nothing.
use Prim.Native.Nat.{ℕ, ◌+◌, ◌≤◌, ◌<◌}
use native.Mathlib.Omega.{arith}
use mathlib.Core.Path.{◌≡◌, refl}
use mathlib.Core.List.{List, map}
use Rattle.std.proofs.lemmas.List.{length-map}
use lib.ListN.{length, get_or}
use Rattle.std.specs.Prelude.{Err}
use Rattle.forms.specs.Bytes.{Bytes}
use Rattle.forms.specs.Places.{Listed}
use Rattle.forms.specs.declared.batch.Entry.{Entry}
use Rattle.rules.specs.Answers.{Accepted}
use Rattle.rules.specs.declared.answers.Refusal.{Refusal}
use Rattle.rules.specs.Outcomes.{refusal}
use Rattle.rules.proofs.OutcomeLaws.{refusal-not}
use Rattle.rules.specs.Box.{Box}
use Rattle.laws.specs.Adds.{plus}
use Rattle.calls.specs.Weights.{no_weight, Light, Sums, Steps, checked, EntryChecked, AllChecked}
use Rattle.calls.specs.declared.weights.Weight.{Weight}
use Rattle.calls.proofs.CheckAllLaws.{Walking, walking_start, walking-more, walking-out, walking-end, added_small, Summing, summing_start, summing-more, summing-small, summing-few, summing-end}
use Rattle.calls.proofs.PassLaws.{Pass, pass-start, pass-here, pass-more, pass-end}

pub record Seeing {A : Type 0} (c : Steps A) (b : Box) (all rest : List A) (w : Weight) : Type 0 where
  pub walk : Walking c.check b all rest
  pub added : Summing (c.adds b) c.add all rest w.added
  pub freed : Summing (c.frees b) c.free all rest w.freed

abbrev pub SeeingAll : {A : Type 0} → Steps A → (Entry → A) → Box → Bytes → List Entry → ℕ → Weight → Type 0
SeeingAll c item b s es i w = Pass (Seeing c b (map item es)) item s es i w

module _ {A : Type 0} (c : Steps A) (item : Entry → A) (b : Box) {s : Bytes} {es : List Entry} where
  pub seeing-start : Listed s es → SeeingAll c item b s es 0 no_weight
  seeing-start a =
      let few : length (map item es) ≤ 32 = omega (arith, length-map es item, a.short) in
      pass-start (Seeing c b (map item es)) item a (record {
        walk = walking_start c.check b (map item es);
        added = summing_start (c.adds b) c.add (map item es) few refl;
        freed = summing_start (c.frees b) c.free (map item es) few refl;
      })

nothing : {n add free : ℕ} → Light n add free no_weight
nothing = record { added = omega arith; freed = omega arith }

module _ {A : Type 0} {c : Steps A} {item : Entry → A} {b : Box} {s : Bytes} {es : List Entry} {i : ℕ} {sum : Weight} (v : SeeingAll c item b s es i sum) where
  light : Light 32 c.add c.free sum
  light = record { added = summing-few v.left.added; freed = summing-few v.left.freed }

  module _ (d : Entry) (more : i < length es) where
    module _ {w : Weight} (k : EntryChecked c b (item (get_or es i d)) (record { answer = Accepted; weight = w })) where
      pub seeing-small : c.add ≤ 65887 → c.free ≤ 65887 → Sums sum w
      seeing-small a f = record {
        added = summing-small v.left.added a;
        more_added = added_small a k.light.added;
        freed = summing-small v.left.freed f;
        more_freed = added_small f k.light.freed;
      }

      pub seeing-more : {t : Weight} → (t.added ≡ plus sum.added w.added) × (t.freed ≡ plus sum.freed w.freed) → SeeingAll c item b s es (i + 1) t
      seeing-more g = pass-more v d more (λ u. record {
        walk = walking-more u.walk k.answer_is refl;
        added = summing-more u.added (k.added_is refl) k.light.added g.0;
        freed = summing-more u.freed (k.freed_is refl) k.light.freed g.1;
      })

    pub seeing-out : (why : Refusal) → EntryChecked c b (item (get_or es i d)) (checked (Err why)) → AllChecked c b (map item es) (checked (Err why))
    seeing-out why k = record {
      answer_is = walking-out (pass-here v d more).walk k.answer_is (refusal-not why);
      added_is = λ p. absurd (refusal-not why p);
      freed_is = λ p. absurd (refusal-not why p);
      light = nothing;
    }

  pub seeing-end : length es ≤ i → AllChecked c b (map item es) (record { answer = Accepted; weight = sum })
  seeing-end z =
      let k = pass-end v z in
      record {
        answer_is = walking-end k.walk;
        added_is = λ p. summing-end k.added;
        freed_is = λ p. summing-end k.freed;
        light = light;
      }

-- an entry that is refused adds and frees nothing
pub checked_refused : {A : Type 0} (c : Steps A) (b : Box) (x : A) (why : Refusal) → refusal why ≡ c.check b x → EntryChecked c b x (checked (Err why))
checked_refused c b x why e = record {
  answer_is = e;
  added_is = λ p. absurd (refusal-not why p);
  freed_is = λ p. absurd (refusal-not why p);
  light = nothing;
}
