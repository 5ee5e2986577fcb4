-- Document 02, CR 4: "an image with an unconverted row is refused"; "a row without the section is .. 13 in an image". Restore answers 13 to an image
-- in the form that stands one of whose rows is not, and leaves box and floor. No bytes are rows of both forms, so a row of document 01's is such a
-- row. Assumes nothing.
use Prim.Native.Nat.{ℕ}
use mathlib.Core.Path.{◌≡◌, refl, sym, ap, ◌∙◌}
use mathlib.Core.Logic.{◌⊎◌, inl, inr}
use mathlib.Core.Bool.{Bool, true, false, ◌&&◌, not, true≢false}
use mathlib.Core.List.Memᴰ
use mathlib.Core.List.{List, [], ◌∷◌, Memᴰ}
use mathlib.Core.Option.{some}
use lib.Dec.{eqb}
use Rattle.forms.specs.Bytes.{Bytes}
use Rattle.forms.specs.Row.{Row, old_row_form, row_form}
use Rattle.forms.proofs.BoneLaws.{not-both}
use Rattle.rules.specs.Answers.{No, ◌▸◌, need}
use Rattle.rules.specs.Box.{Default}
use Rattle.rules.specs.Calls.{State, settle_state}
use Rattle.rules.specs.Image.{Image, image}
use Rattle.rules.specs.Restore.{of_table, good_default, all_good, good_image, restore_steps, restore_to, restore}
use Rattle.laws.proofs.StepLaws.{and-false, and-false-right}
use Rattle.laws.proofs.ImageBoxLaws.{good-image}

-- one that is bad is enough
bad-one : {A : Type 0} (p : A → Bool) (xs : List A) (x : A) → Memᴰ x xs → p x ≡ false → all_good p xs ≡ false
unfolding all_good
bad-one p [] x m h = absurd (Memᴰ.not-nil m)
bad-one {A} p (y ∷ ys) x m h = go (Memᴰ.cases_cons m) (λ n. bad-one p ys x n h)
  where
    go : (x ≡ y) ⊎ Memᴰ x ys → (Memᴰ x ys → all_good p ys ≡ false) → p y && all_good p ys ≡ false
    go (inl e) ih = and-false (p y) _ (ap p (sym e) ∙ h)
    go (inr n) ih = and-false-right (p y) _ (ih n)

module _ (i : Image) (d : Default) (m : Memᴰ d i.defaults) where
  bad-image : row_form d.row ≡ false → good_image i ≡ false
  bad-image h = go (good_image i) refl
    where
      bad : good_default i.table d ≡ false
      bad = and-false-right (of_table i.table d.key && not (eqb d.start 0)) _ h

      go : (t : Bool) → good_image i ≡ t → t ≡ false
      go true e = absurd (true≢false (sym (good-image i e).defaults ∙ bad-one (good_default i.table) i.defaults d m bad))
      go false e = refl

  module _ (s : Bytes) (st : State) (e : image s ≡ some i) where
    -- "a row without the section is .. 13 in an image"
    pub formless-13 : row_form d.row ≡ false → restore s st ≡ record { answer = No 13; state = st }
    unfolding restore restore_to restore_steps need ◌▸◌ settle_state
    formless-13 h = rw (e, bad-image h)

    -- "an image with an unconverted row is refused"
    pub unconverted-13 : old_row_form d.row ≡ true → restore s st ≡ record { answer = No 13; state = st }
    unconverted-13 h = formless-13 (old_row (row_form d.row) refl)
      where
        old_row : (t : Bool) → row_form d.row ≡ t → row_form d.row ≡ false
        old_row true g = absurd (true≢false (sym h ∙ not-both d.row g))
        old_row false g = g
