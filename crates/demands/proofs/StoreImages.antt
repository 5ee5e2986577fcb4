-- Document 02, CR 1, carried to the store: what a call wrote ascends; restored, it is that table's part; and equal bytes are equal entries.
-- Assumes nothing.
use Prim.Native.Nat.{ℕ}
use mathlib.Core.Path.{◌≡◌, refl, sym, ap, ◌∙◌, subst}
use mathlib.Core.Bool.{Bool, true, false, not, true≢false}
use lib.ListN.{length, take, drop}
use lib.Seq.{take_at}
use lib.Dec.{leb, eqb}
use Rattle.forms.specs.Bytes.{Bytes}
use Rattle.rules.specs.Answers.{Accepted, No}
use Rattle.rules.specs.Outcomes.{Wrote}
use Rattle.rules.specs.Box.{Box, in_order}
use Rattle.rules.specs.Calls.{State, Ended}
use Rattle.rules.specs.Written.{Written, write_if, WroteAs}
use Rattle.rules.specs.Restore.{state_of, restore}
use Rattle.rules.specs.Capture.{part_of, image_of, capture_if, capture_image}
use Rattle.rules.proofs.AscendLaws.{part_ascends}
use Rattle.laws.proofs.ImageBoxLaws.{box_of-order}
use Rattle.laws.proofs.TablePartLaws.{part-again}
use Rattle.ledger.proofs.BoxImages.{same-image}
use Rattle.captures.specs.Promise.{image_in}
use Rattle.demands.specs.Calls.{Lent, box_in, floor_in, state_in}
use Rattle.demands.specs.StoreImages.{part_state, Writes, WrittenAscends, RestoresPart, SameBytes, SameBytesOnly, WrittenAgain}
use Rattle.demands.proofs.Carried.{taken}

pub never : (n : ℕ) → No n ≡ Accepted → ⊥
never n e = true≢false (cc)

-- ---- the bytes that an accepted call counts are those that it was to write

pub front : (k : Bool) (bytes buffer : Bytes) → (write_if k bytes buffer).answer ≡ Accepted → take (write_if k bytes buffer).count (write_if k bytes buffer).buffer ≡ bytes
unfolding write_if
front true bytes buffer e = take_at bytes (drop (length bytes) buffer) (length bytes) refl
front false bytes buffer e = absurd (never 12 e)

pub counted-front : {x : Written} {r : Wrote} {out : Bytes} → WroteAs x r out → take r.count out ≡ take x.count x.buffer
counted-front {x} {out = out} k = ap (λ (n : ℕ). take n out) k.count_is ∙ ap (take x.count) k.out_is

filled : (f t : ℕ) (b : Box) (buffer : Bytes) → (capture_image f t b buffer).answer ≡ Accepted → take (capture_image f t b buffer).count (capture_image f t b buffer).buffer ≡ image_of f t b
unfolding capture_image capture_if
filled f t b buffer = go (not (eqb t 0))
  where
    go : (k : Bool) → (capture_if k (image_of f t b) buffer).answer ≡ Accepted → take (capture_if k (image_of f t b) buffer).count (capture_if k (image_of f t b) buffer).buffer ≡ image_of f t b
    go true e = front (leb (length (image_of f t b)) (length buffer)) (image_of f t b) buffer e
    go false e = absurd (never 3 e)

module _ {w : Lent} {t : ℕ} {r : Wrote} {out : Bytes} (v : Writes w t r out) where
  image-is : image_in r out ≡ image_of (floor_in w) t (box_in w)
  image-is = counted-front v.kept.captured ∙ filled (floor_in w) t (box_in w) w.buffer (sym v.kept.captured.answer_is.case_is ∙ v.accepted)

  -- what restore takes stands in order
  part-ordered : in_order (part_of t (box_in w)) ≡ true
  unfolding state_of
  part-ordered =
      let e = v.kept.restores v.accepted (state_in w) in
      let k = taken (image_in r out) (state_in w) (ap (λ (d : Ended). d.answer) e) in
      subst (λ (b : Box). in_order b ≡ true) (ap (λ (st : State). st.box) (sym k.shown ∙ ap (λ (d : Ended). d.state) e)) (box_of-order k.img k.good)

  part-is : (old : State) → (restore (image_in r out) old).state ≡ part_state t w
  part-is old = ap (λ (e : Ended). e.state) (v.kept.restores v.accepted old)

pub restores-part : RestoresPart
restores-part w v t r out q area x k =
    let e = x.kept.restores x.accepted (state_in v) in
    (k.answer_is.case_is ∙ ap (λ (d : Ended). d.answer) e, k.shown ∙ ap (λ (d : Ended). d.state) e)

pub written-ascends : WrittenAscends
written-ascends w t r out v = (image-is v, part_ascends (floor_in w) t (box_in w) (part-ordered v))

-- equal bytes restore to one state
states : {w v : Lent} {t : ℕ} {r s : Wrote} {out out' : Bytes} → Writes w t r out → Writes v t s out' → image_in r out ≡ image_in s out'
    → part_state t w ≡ part_state t v
states {w} x y e = sym (part-is x (state_in w)) ∙ ap (λ (b : Bytes). (restore b (state_in w)).state) e ∙ part-is y (state_in w)

pub same_bytes : SameBytes
same_bytes w v t r s out out' x y = (
  λ e. (ap (λ (st : State). st.floor) (states x y e), ap (λ (st : State). st.box) (states x y e)),
  λ e. image-is x ∙ same-image t (floor_in w) (box_in w) (floor_in v) (box_in v) e.0 e.1 ∙ sym (image-is y),
)

pub same-bytes-only : SameBytesOnly
same-bytes-only w v t r s out out' x y g h =
    let p = same_bytes w v t r s out out' x y in
    (λ e. ((p.0 e).0, sym g ∙ (p.0 e).1 ∙ h), λ e. p.1 (e.0, ap (part_of t) e.1))

pub written-again : WrittenAgain
written-again w v t r s out out' buffer q area x k y =
    let e = (restores-part w v t r out q area x k).1 in
    (same_bytes (record { store = q.store; area = area; buffer = buffer }) w t s r out' out y x).1 (ap (λ (st : State). st.floor) e, ap (λ (st : State). part_of t st.box) e ∙ part-again t (box_in w))
