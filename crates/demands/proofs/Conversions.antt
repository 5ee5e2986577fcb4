-- Document 02, CR 4, carried to the calls: bones, the converter, and images that were not converted. Assumes nothing.
use Prim.Native.Nat.{ℕ, ◌≤◌}
use native.Mathlib.Omega.{arith}
use mathlib.Core.Path.{◌≡◌, refl, sym, ap, ◌∙◌}
use mathlib.Core.Bool.{Bool, true, false, ◌&&◌, not}
use mathlib.Core.Option.{Option, none, some}
use lib.ListN.{length, take}
use lib.Dec.{leb, eqb}
use Rattle.seqs.proofs.Tests.{and_left, and_right}
use Rattle.forms.specs.Bytes.{Bytes}
use Rattle.forms.specs.Row.{old_row_form, bones_of}
use Rattle.rules.specs.Answers.{Accepted, No}
use Rattle.rules.specs.Outcomes.{Wrote}
use Rattle.rules.specs.Calls.{Ended}
use Rattle.rules.specs.Image.{Image, old_image}
use Rattle.rules.specs.Restore.{all_good, good_default_by, good_image_by, restore}
use Rattle.rules.specs.Convert.{converted_bytes, converted, growing, convertible, convert_if, convert_image}
use Rattle.rules.specs.Bones.{Due, bone_shown}
use Rattle.rules.specs.Call.{Call}
use Rattle.rules.proofs.BoneCases.{count_same, bone-past, bones-counted}
use Rattle.laws.proofs.ImageRefusals.{formless-13, unconverted-13}
use Rattle.captures.specs.Promise.{image_in}
use Rattle.converts.proofs.ReadApartLaws.{sectioned}
use Rattle.converts.proofs.GrownLaws.{converted-long}
use Rattle.converts.proofs.Converted.{rows-in-form, sound-converts, converts-once}
use Rattle.calls.specs.Settled.{Changed}
use Rattle.demands.specs.Calls.{calling, Lent, state_in, changed, after, Kept}
use Rattle.demands.specs.Conversions.{BonesSummed, BonePast, Converts, RowsConverted, SoundConverted, ConvertedOnce, FormlessRefused, UnconvertedRefused}
use Rattle.demands.proofs.Refusals.{refusals}
use Rattle.demands.proofs.StoreImages.{never, front, counted-front}

-- ---- the bones

pub bones-summed : BonesSummed
bones-summed w r b says k each = k.shown_is ∙ bones-counted r ∙ count_same (λ n. (bone_shown r n).shown) (λ n. (says n).shown) (bones_of r).count (λ n l. sym (each n l).shown_is)

pub bone-past-count : BonePast
bone-past-count w r n b k h l = k.answer_is.case_is ∙ ap (λ (d : Due Bool). d.answer) (bone-past r n h l)

-- ---- the converter

-- an old image that it takes
record OldTaken (s : Bytes) : Type 0 where
  img : Image
  is : old_image s ≡ some img
  good : good_image_by old_row_form img ≡ true
  grow : all_good growing img.defaults ≡ true

old-taken : (s buffer : Bytes) → (convert_image s buffer).answer ≡ Accepted → OldTaken s
unfolding convert_image convert_if convertible
old-taken s buffer p = go (old_image s) refl p
  where
    some_good : (i : Image) → old_image s ≡ some i → (t : Bool) → good_image_by old_row_form i && all_good growing i.defaults ≡ t → (convert_if t (converted_bytes s) buffer).answer ≡ Accepted → OldTaken s
    some_good i e true h q = record { img = i; is = e; good = and_left _ _ h; grow = and_right (good_image_by old_row_form i) _ h }
    some_good i e false h q = absurd (never 13 q)

    go : (o : Option Image) → old_image s ≡ o → (convert_if (convertible o) (converted_bytes s) buffer).answer ≡ Accepted → OldTaken s
    go none e q = absurd (never 13 q)
    go (some i) e q = some_good i e (good_image_by old_row_form i && all_good growing i.defaults) refl q

rows-good : (i : Image) → good_image_by old_row_form i ≡ true → all_good (good_default_by old_row_form i.table) i.defaults ≡ true
rows-good i h = and_right (not (eqb i.table 0)) _ (and_left _ _ (and_left _ _ (and_left _ _ (and_left _ _ (and_left _ _ (and_left _ _ h))))))

-- the bytes that it counts are what it is to write
filled : (s buffer : Bytes) → (convert_image s buffer).answer ≡ Accepted → take (convert_image s buffer).count (convert_image s buffer).buffer ≡ converted_bytes s
unfolding convert_image convert_if
filled s buffer = go (convertible (old_image s))
  where
    go : (t : Bool) → (convert_if t (converted_bytes s) buffer).answer ≡ Accepted → take (convert_if t (converted_bytes s) buffer).count (convert_if t (converted_bytes s) buffer).buffer ≡ converted_bytes s
    go true e = front (leb (length (converted_bytes s)) (length buffer)) (converted_bytes s) buffer e
    go false e = absurd (never 13 e)

module _ {w : Lent} {s : Bytes} {r : Wrote} {out : Bytes} (c : Converts w s r out) where
  was : (convert_image s w.buffer).answer ≡ Accepted
  was = sym c.kept.wrote.answer_is.case_is ∙ c.accepted

  took : OldTaken s
  took = old-taken s w.buffer was

  bytes-are : image_in r out ≡ converted_bytes s
  bytes-are = counted-front c.kept.wrote ∙ filled s w.buffer was

pub rows-converted : RowsConverted
unfolding converted
rows-converted w s r out c =
    let t = took c in
    record { old = t.img; reads_old = t.is; reads_new = c.kept.reads c.accepted t.img t.is; in_form = rows-in-form t.img.table t.img.defaults (rows-good t.img t.good) t.grow }

pub sound-converted : SoundConverted
sound-converted w s r out i k e h g l =
    let fits : length (converted_bytes s) ≤ length w.buffer = omega (arith, converted-long (sectioned s i e)) in
    k.wrote.answer_is.case_is ∙ sound-converts s w.buffer i e h g fits

pub converted-once : ConvertedOnce
converted-once w v s r q out out' c k =
    let t = took c in
    k.wrote.answer_is.case_is ∙ ap (λ (b : Bytes). (convert_image b v.buffer).answer) (bytes-are c) ∙ converts-once s v.buffer t.img t.is

-- ---- restore

-- what it answers with 13 it leaves
left-13 : (w : Lent) (s : Bytes) (r : Changed) (area : Bytes) → Kept w (calling (Call.Restore s)) (changed r area) → restore s (state_in w) ≡ record { answer = No 13; state = state_in w } → (r.answer ≡ No 13) × (after w (changed r area) ≡ w)
left-13 w s r area k e =
    let a : r.answer ≡ No 13 = k.answer_is.case_is ∙ ap (λ (d : Ended). d.answer) e in
    (a, (refusals w (calling (Call.Restore s)) (changed r area) k (λ p. never 13 (sym a ∙ p))).left)

pub formless-refused : FormlessRefused
formless-refused w s i d r area k e m h = left-13 w s r area k (formless-13 i d m s (state_in w) e h)

pub unconverted-refused : UnconvertedRefused
unconverted-refused w s i d r area k e m h = left-13 w s r area k (unconverted-13 i d m s (state_in w) e h)
