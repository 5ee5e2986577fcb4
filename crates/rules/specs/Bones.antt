-- Document 02, CR 4: "We also want to ask whether bone n is shown, and how many bones are shown." Both are asked of a row argument. "Refusals: a row
-- without the section is 2 as an argument ..; a bone number not below the count is 3".
-- Assumes nothing.
use Rattle.std.specs.Prelude.{ℕ, ◌≡◌, Bool, false, ltb, Result}
use Rattle.forms.specs.Row.{Row, bone, row_form, bones_of, count_below}
use Rattle.rules.specs.declared.answers.Refusal.{Refusal}
use Rattle.rules.specs.Answers.{Answer, Accepted, No, Held, Answered, ◌▸◌, need, count_if}
use Rattle.rules.specs.Outcomes.{outcome, value_or}

-- what such a call is due: the answer, and what it tells
pub record Due (A : Type 0) : Type 0 where
  pub answer : Answer
  pub shown : A

-- and what it promises: the answer with its holder, and what it tells
pub record Tells {A : Type 0} (due : Due A) (answer : Answer) (shown : A) : Type 0 where
  pub answer_is : Answered due.answer answer
  pub shown_is : shown ≡ due.shown

-- what it told: on a refusal no bone, which is `none`
abbrev pub told : {A : Type 0} → A → Result A Refusal → Due A
told none r = record { answer = outcome r; shown = value_or none r }

abbrev pub BoneShown : Type 0
BoneShown = Due Bool

abbrev pub BonesShown : Type 0
BonesShown = Due ℕ

-- "a row without the section is 2 as an argument", then "a bone number not below the count is 3"
unfoldable pub bone_steps : Row → ℕ → Answer
bone_steps r n = need (row_form r) 2 ▸ need (ltb n (bones_of r).count) 3

-- a refusal shows no bone
abbrev pub shown_if : Answer → Bool → Bool
shown_if Accepted b = b
shown_if (No n) b = false
shown_if (Held h) b = false

-- "whether bone n is shown"
unfoldable pub bone_shown : Row → ℕ → Due Bool
bone_shown r n = record { answer = bone_steps r n; shown = shown_if (bone_steps r n) (bone (bones_of r).mask n) }

-- "how many bones are shown": of how many numbers below the bone count; "a refusal's counts are 0"
unfoldable pub bones_shown : Row → Due ℕ
bones_shown r = record { answer = need (row_form r) 2; shown = count_if (need (row_form r) 2) (count_below (bone (bones_of r).mask) (bones_of r).count) }
