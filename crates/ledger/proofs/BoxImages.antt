-- Document 02's sentences on a written image (specs/BoxImages), of every box that a store shows and its floor: it restores to the table's part and
-- the floor, equal bytes are equal parts and floors, and it is the one image of its entries. Assumes nothing.
use Prim.Native.Nat.{ℕ}
use native.Mathlib.Omega.{arith}
use mathlib.Core.Path.{◌≡◌, refl, sym, ap, ap₂, ◌∙◌}
use mathlib.Core.Bool.{Bool, true, ◌&&◌, not}
use mathlib.Core.List.{List, [], ◌∷◌}
use mathlib.Core.Option.{some}
use lib.Dec.{eqb}
use borrow.Author.Tests.{ne_eqb}
use Rattle.forms.specs.Key.{key_form}
use Rattle.rules.specs.Answers.{◌▸◌, need}
use Rattle.rules.specs.Box.{Box, KeyLine, Default, before, row_before, ordered}
use Rattle.rules.specs.Room.{load_of, Fits, room_for}
use Rattle.rules.specs.Calls.{State, Ended, settle_state}
use Rattle.rules.specs.Image.{Image, image}
use Rattle.rules.specs.Restore.{all_good, good_default, good_image, healthy_image, floored_image, box_of, state_of, restore_steps, restore_to, restore}
use Rattle.rules.specs.Capture.{line_of_table, row_of_table, part_of, entries_of, image_of, ImageWords}
use Rattle.rules.proofs.RoomLaws.{fits_out}
use Rattle.laws.proofs.StepLaws.{and_left, and_right, and_both}
use Rattle.laws.proofs.BoxOrder.{order-lines, order-defaults}
use Rattle.laws.proofs.ImageBoxLaws.{image-lines, image-defaults}
use Rattle.laws.proofs.PlaceLaws.{those-hold}
use Rattle.laws.proofs.ImageBackLaws.{image-back}
use Rattle.laws.proofs.Sorted.{fewer-good}
use Rattle.laws.proofs.TablePartLaws.{part-fewer, part-order, part-again, part-words, part_room, apart_in, in-apart, locks-good, writes-good, lock-words, write-words, locks-few, writes-few}
use Rattle.ledger.specs.Tidy.{sound_line, good_line, good_row, Tidy, line_above}
use Rattle.ledger.specs.BoxImages.{Stored, TableNumber, CaptureRestores, EqualBytes, EqualBytesOnly, Canonical}
use Rattle.ledger.proofs.PartSoundLaws.{part-tidy}
use Rattle.ledger.proofs.ReadBackLaws.{defaults_once, locks_once, writes_once, has_row, lines-have, rows-pointed, tidy-once}

-- two tests together
good-both : {A : Type 0} (p q r : A → Bool) → ((x : A) → p x ≡ true → q x ≡ true → r x ≡ true) → (xs : List A) → all_good p xs ≡ true → all_good q xs ≡ true → all_good r xs ≡ true
unfolding all_good
good-both p q r h [] a c = refl
good-both p q r h (x ∷ xs) a c = and_both _ _ (h x (and_left _ _ a) (and_left _ _ c)) (good-both p q r h xs (and_right (p x) _ a) (and_right (q x) _ c))

module _ (f t : ℕ) (n : TableNumber t) (b : Box) (v : Stored f b) where
  abbrev part : Box
  part = part_of t b

  abbrev entries : Image
  entries = entries_of f t b

  tidy : Tidy part
  tidy = part-tidy t b v.tidy

  room : Fits (load_of part)
  unfolding room_for
  room = fits_out (load_of part) (part_room t b v.room)

  -- ---- the reader reads what was written

  fit : ImageWords entries
  unfolding entries_of load_of
  fit = record {
    table = n.small;
    floor = v.floor_word;
    defaults = record { count = omega (arith, room.defaults); words = (part-words t b v.words).defaults };
    locks = record { count = omega (arith, room.lines, locks-few part.lines); words = lock-words part.lines (part-words t b v.words).lines };
    writes = record { count = omega (arith, room.lines, writes-few part.lines); words = write-words part.lines (part-words t b v.words).lines };
  }

  pub read_back : image (image_of f t b) ≡ some entries
  unfolding image_of
  read_back = image-back entries fit

  -- ---- its entries are good

  lines_of : all_good (line_of_table t) part.lines ≡ true
  unfolding part_of
  lines_of = those-hold (line_of_table t) b.lines

  rows_of : all_good (row_of_table t) part.defaults ≡ true
  unfolding part_of
  rows_of = those-hold (row_of_table t) b.defaults

  abbrev line_good : KeyLine → Bool
  line_good e = line_of_table t e && sound_line e.line

  lines-good : all_good line_good part.lines ≡ true
  lines-good = good-both (line_of_table t) good_line line_good (λ e p q. and_both (line_of_table t e) _ p (and_right (key_form e.key) _ q)) part.lines lines_of tidy.sound.lines

  rows-good : all_good (good_default t) part.defaults ≡ true
  rows-good =
      good-both (row_of_table t) good_row (good_default t)
      (λ d p q. let h = and_left (key_form d.key && not (eqb d.start 0)) _ q in and_both _ _ (and_both (row_of_table t d) _ p (and_right (key_form d.key) _ h)) (and_right (key_form d.key && not (eqb d.start 0)) _ q))
      part.defaults rows_of tidy.sound.rows

  order-l : ordered before part.lines ≡ true
  order-l = order-lines part (part-order t b v.order)

  order-d : ordered row_before part.defaults ≡ true
  order-d = order-defaults part (part-order t b v.order)

  good : good_image entries ≡ true
  unfolding good_image entries_of
  good =
      and_both _ _ (and_both _ _ (and_both _ _ (and_both _ _ (and_both _ _ (and_both _ _ (and_both (not (eqb t 0)) _ (rw (ne_eqb t 0 (λ e. omega (arith, n.above)))) rows-good)
      (locks-good line_good part.lines lines-good)) (writes-good line_good part.lines lines-good)) (defaults_once part.defaults order-d)) (locks_once part.lines order-l)) (writes_once part.lines order-l))
      (writes-good (has_row part.defaults) part.lines (lines-have part tidy))

  healthy : healthy_image entries ≡ true
  unfolding healthy_image entries_of
  healthy = and_both _ _ (and_both _ _ (locks-good (has_row part.defaults) part.lines (lines-have part tidy)) (rows-pointed part tidy)) (tidy-once part tidy)

  floored : floored_image entries ≡ true
  unfolding floored_image entries_of
  floored = locks-good (λ (e : KeyLine). line_above f e.line) part.lines (fewer-good (λ (e : KeyLine). line_above f e.line) (part-fewer t b).lines v.above)

  floor_is : entries.floor ≡ f
  unfolding entries_of
  floor_is = refl

  -- ---- its box is the part

  box-is : box_of entries ≡ part
  unfolding entries_of
  box-is =
      ap₂ (λ (es : List KeyLine) (ds : List Default). record { lines = es; defaults = ds })
      (sym (image-lines entries good part.lines order-l (apart_in part.lines) (in-apart part.lines)))
      (sym (image-defaults entries good part.defaults order-d (λ d m. m) (λ d m. m)))

  -- ---- "Restoring what was written gives that table's part of the store"

  pub capture-restores : CaptureRestores f t b
  unfolding restore restore_to restore_steps state_of ◌▸◌ need settle_state
  capture-restores old = rw (read_back, good, healthy, floored, box-is, part_room t b v.room, floor_is)

  -- ---- "equal bytes exactly when they hold the same entries"

  pub canonical : Canonical f t b
  unfolding image_of entries_of
  canonical old = ap (λ (d : Ended). image_of d.state.floor t d.state.box) (capture-restores old) ∙ rw (part-again t b)

pub same-image : (t f : ℕ) (b : Box) (g : ℕ) (c : Box) → f ≡ g → part_of t b ≡ part_of t c → image_of f t b ≡ image_of g t c
unfolding image_of entries_of
same-image t f b g c z e = rw (z, e)

pub equal-bytes : (t : ℕ) → TableNumber t → (f : ℕ) (b : Box) (g : ℕ) (c : Box) → Stored f b → Stored g c → EqualBytes t f b g c
equal-bytes t n f b g c v w = (there, same-image t f b g c)
  where
    old : State
    old = record { box = b; floor = f }

    there : image_of f t b ≡ image_of g t c → (f ≡ g) × (part_of t b ≡ part_of t c)
    there e =
        let q = sym (capture-restores f t n b v old) ∙ ap (λ s. restore s old) e ∙ capture-restores g t n c w old in
        (ap (λ (d : Ended). d.state.floor) q, ap (λ (d : Ended). d.state.box) q)

pub equal-bytes-only : (t : ℕ) → TableNumber t → (f : ℕ) (b : Box) (g : ℕ) (c : Box) → Stored f b → Stored g c → EqualBytesOnly t f b g c
equal-bytes-only t n f b g c v w p q =
    (λ e. let r = (equal-bytes t n f b g c v w).0 e in (r.0, sym p ∙ r.1 ∙ q), λ z e. ap₂ (λ (h : ℕ) (d : Box). image_of h t d) z e)
