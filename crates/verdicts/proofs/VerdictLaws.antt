-- Restore's verdict: each way out of the function that decides of an image that was judged.
-- Assumes nothing.
use Prim.Native.Nat.{ℕ, ◌+◌, ◌≤◌}
use native.Mathlib.Omega.{arith}
use mathlib.Core.Path.{◌≡◌, refl, sym, ◌∙◌, ap, subst}
use mathlib.Core.Bool.{Bool, true, false, not, ◌&&◌, true≢false, false≢true}
use mathlib.Core.List.{List, ◌++◌, map}
use mathlib.Core.Option.{Option, none, some}
use lib.ListN.{length, take, drop}
use lib.Seq.{length-take-le, take_at}
use borrow.Author.Tests.{not-true, not-false}
use Rattle.forms.specs.Bytes.{Bytes}
use Rattle.rules.specs.Answers.{Accepted, No, ◌▸◌, need}
use Rattle.rules.specs.declared.room.Load.{Load}
use Rattle.rules.specs.Calls.{State}
use Rattle.rules.specs.Room.{fits, Fits, load_of, room_for}
use Rattle.rules.specs.Image.{Image, image}
use Rattle.rules.specs.Restore.{good_image, healthy_image, floored_image, box_of, state_of, restore_steps, restore_to, restore}
use Rattle.rules.proofs.RoomLaws.{fits_out}
use Rattle.seqs.specs.Tables.{All}
use Rattle.seqs.proofs.Tests.{and_both}
use Rattle.laws.proofs.SettleLaws.{settle_state-answer}
use Rattle.laws.proofs.StepLaws.{need-true}
use Rattle.images.specs.declared.sections.Sections.{Sections}
use Rattle.images.specs.Sections.{row_at, line_at}
use Rattle.images.proofs.TestLaws.{holds}
use Rattle.faults.specs.Judged.{is_sound, load_from, KindSaid}
use Rattle.verdicts.specs.Verdicts.{DecideAsk, Accepts}

-- ---- restore's answer

bad-answer : (o : Option Image) (st : State) → is_sound o ≡ false → (restore_to o st).answer ≡ No 13
unfolding restore_to restore_steps need ◌▸◌
bad-answer none st e = refl
bad-answer (some i) st e = settle_state-answer (restore_steps i) (state_of i) st ∙ go (good_image i) (healthy_image i) (floored_image i) e
  where
    go : (g h f : Bool) → g && h && f ≡ false → need g 13 ▸ need h 13 ▸ need f 13 ▸ need (room_for (box_of i)) 11 ≡ No 13
    go true true true q = absurd (true≢false q)
    go true true false q = refl
    go true false f q = refl
    go false h f q = refl

good-answer : (i : Image) (st : State) → is_sound (some i) ≡ true → (restore_to (some i) st).answer ≡ need (fits (load_of (box_of i))) 11
unfolding restore_to restore_steps need ◌▸◌ room_for
good-answer i st e = settle_state-answer (restore_steps i) (state_of i) st ∙ go (good_image i) (healthy_image i) (floored_image i) e
  where
    go : (g h f : Bool) → g && h && f ≡ true → need g 13 ▸ need h 13 ▸ need f 13 ▸ need (room_for (box_of i)) 11 ≡ need (room_for (box_of i)) 11
    go true true true q = refl
    go true true false q = absurd (false≢true q)
    go true false f q = absurd (false≢true q)
    go false h f q = absurd (false≢true q)

pub decided-bad : (s : Bytes) → is_sound (image s) ≡ false → (st : State) → (restore s st).answer ≡ No 13
unfolding restore
decided-bad s e st = bad-answer (image s) st e

-- ---- the ways out of `decide`

-- the front of a list that was copied over another's
copied : (k : ℕ) (from old x : List ℕ) → k ≤ length from → x ≡ take k from → take k (x ++ drop k old) ≡ take k from
copied k from old x g e = take_at x (drop k old) k (ap length e ∙ length-take-le k from g) ∙ e

module _ {s : Bytes} {i : Sections} {ds ps rows lines : List ℕ} (v : DecideAsk s i ds ps rows lines) {f : Bool} (fv : f ≡ fits (load_from i)) where
  abbrev all : ℕ
  all = i.locks + i.writes

  answer : (st : State) → (restore s st).answer ≡ need f 11
  unfolding restore
  answer st =
      let g = v.judged.in_place in
      ap (λ (o : Option Image). (restore_to o st).answer) g.is ∙ good-answer g.img st (and_both _ _ (and_both _ _ g.good g.healthy) g.floored) ∙ ap (λ (t : Bool). need t 11) (sym (fv ∙ ap fits g.load_is))

  pub decided-full : not f ≡ true → (st : State) → (restore s st).answer ≡ No 11
  unfolding need
  decided-full h st = answer st ∙ ap (λ (t : Bool). need t 11) (not-true f h)

  module _ (fg : not f ≡ false) where
    fit : Fits (load_from i)
    fit = fits_out (load_from i) (holds fv fg)

    pub rows_in : i.defaults ≤ length rows
    rows_in = omega (arith, fit.defaults, v.wide.some_rows)

    pub lines-in : all ≤ length lines
    lines-in = omega (arith, fit.lines, v.wide.some_lines)

    pub decided : {x y : List ℕ} → x ≡ take i.defaults ds → y ≡ take all ps
        → Accepts s (record { load = load_from i; floor = i.floor; writesat = i.writesat }) (x ++ drop i.defaults rows) (y ++ drop all lines)
    unfolding need
    decided {x} {y} p q =
        let g = v.judged.in_place in
        record {
          answer_is = λ st. answer st ∙ ap (λ (t : Bool). need t 11) (not-false f fg);
          placed = record {
            img = g.img;
            is = g.is;
            good = g.good;
            healthy = g.healthy;
            floored = g.floored;
            floor_is = g.floor_is;
            fit = fit;
            load_is = g.load_is;
            rows_are = ap (map (row_at s)) (copied i.defaults ds rows x v.judged.few_rows p) ∙ g.rows_are;
            lines_are = ap (map (line_at s i.writesat)) (copied all ps lines y v.judged.few_lines q) ∙ g.lines_are;
          };
          said = subst (All (KindSaid s i.writesat)) (sym (copied all ps lines y v.judged.few_lines q)) g.said;
        }
