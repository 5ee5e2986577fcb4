-- An image judged whole: each way out of the functions that judge it.
-- Assumes nothing.
use Prim.Native.Nat.{ℕ, ◌+◌, ◌≤◌}
use native.Mathlib.Omega.{arith}
use mathlib.Core.Path.{◌≡◌, refl, sym, ◌∙◌, ap, ap₂, subst}
use mathlib.Core.Bool.{Bool, true, false, not, ◌&&◌, and-false, and_assoc, and_comm, false≢true}
use mathlib.Core.List.{List, ◌++◌, map, map-map}
use mathlib.Core.Option.{Option, none, some}
use lib.ListN.{length, take, drop, length-append}
use lib.Seq.{length-take-le, take_at}
use borrow.Author.Tests.{ne_eqb, not-false}
use Rattle.forms.specs.Bytes.{Bytes}
use Rattle.forms.specs.Row.{row_form}
use Rattle.seqs.specs.Tables.{All}
use Rattle.rules.specs.Box.{KeyLine, Default, ordered}
use Rattle.rules.specs.Image.{Image, image}
use Rattle.rules.specs.Restore.{all_good, no_second, like_default, like_lock, like_write, has_default, good_image, image_lines, lock_has_default, pointed_to, like_line, healthy_image, lock_above, floored_image, box_of}
use Rattle.seqs.proofs.Tests.{and_left, and_right, and_both}
use Rattle.laws.proofs.LoadLaws.{load-eq}
use Rattle.orders.specs.declared.marks.By.TheVariants.{Rows, Pairs, Lines}
use Rattle.orders.specs.Marks.{before_at}
use Rattle.orders.specs.Sorts.{sorted, Sorted}
use Rattle.orders.proofs.SortLaws.{sorted-length}
use Rattle.images.specs.declared.checks.Form.TheVariants.{New}
use Rattle.images.specs.declared.entries.Section.TheVariants as sections
use Rattle.images.specs.declared.sections.Sections.{Sections}
use Rattle.images.specs.Entries.{raw_at}
use Rattle.images.specs.Good.{key_lock_of}
use Rattle.images.specs.Sections.{is_good, image_of, row_at, line_at, Listed, SectionsAre}
use Rattle.images.proofs.TestLaws.{fails, holds, and-out}
use Rattle.pairs.specs.Puts.{puts_of, same_pairs, puts_match}
use Rattle.faults.specs.Judged.{is_sound, locks_above, Alike, load_from, KindSaid, Sound}
use Rattle.faults.proofs.KindLaws.{lines-said}
use Rattle.pairs.proofs.SortedLaws.{and-cross, sorted_all, sorted-once}
use Rattle.pairs.proofs.SortedPlaceLaws.{likes-rows, likes-pairs, rows-in-order, rows-placed, rows-once, pairs-in-order, pairs-once, lines-placed, lines_once}
use Rattle.pairs.proofs.EntryPairLaws.{line_has, lines-have, pairs-match}
use Rattle.faults.proofs.ImageLoadLaws.{load_at}

-- ---- the ways out of `entries_agree`

-- in the turn in which the program makes the tests
in-turn : (d l w hw hl p n : Bool) → (d && l && w && hw) && (hl && p && n) ≡ d && (n && (((hl && hw) && p) && (l && w)))
in-turn false l w hw hl p n = refl
in-turn true false w hw hl p n = sym (ap (λ (b : Bool). n && b) (and-false ((hl && hw) && p)) ∙ and-false n)
in-turn true true w hw hl p n = and-cross w hw (hl && p) n ∙ ap₂ ◌&&◌ (and_comm w (hl && p)) (and_comm hw n) ∙ go w hw hl p n
  where
    go : (w hw hl p n : Bool) → ((hl && p) && w) && (n && hw) ≡ n && (((hl && hw) && p) && w)
    go w hw false p n = sym (and-false n)
    go w hw true p n = and_comm (p && w) (n && hw) ∙ and_assoc n hw (p && w) ∙ ap (λ (b : Bool). n && b) (sym (and_assoc hw p w))

module _ {s : Bytes} {i : Sections} {ds ls ws : List ℕ} (v : Listed New s i ds ls ws) where
  abbrev img : Image
  img = image_of s v.table i.floor ds ls ws

  abbrev lines : List KeyLine
  lines = image_lines img

  abbrev once : Bool
  once = no_second like_default img.defaults

  abbrev paired : Bool
  paired = no_second like_line lines

  abbrev pointed : Bool
  pointed = all_good (line_has img.defaults) lines && all_good (pointed_to lines) img.defaults

  abbrev apart : Bool
  apart = no_second like_lock img.locks && no_second like_write img.writes

  abbrev above : Bool
  above = locks_above s i.floor ls

  above-is : floored_image img ≡ above
  unfolding floored_image
  above-is = ap (all_good (lock_above i.floor)) (map-map key_lock_of (raw_at sections.Lock s) ls)

  sound-is : is_sound (image s) ≡ above && (once && (paired && (pointed && apart)))
  unfolding good_image healthy_image
  sound-is =
      ap is_sound v.is
      ∙ and_comm (good_image img && healthy_image img) (floored_image img)
      ∙ ap₂ ◌&&◌ above-is
      (ap (λ (b : Bool). (b && once && no_second like_lock img.locks && no_second like_write img.writes && all_good (has_default img.defaults) img.writes) && healthy_image img)
      (and_both _ _ (and_both _ _ (and_both _ _ (ap not (ne_eqb v.table 0 v.some_table)) v.good_defaults) v.good_locks) v.good_writes)
      ∙ in-turn once (no_second like_lock img.locks) (no_second like_write img.writes) (all_good (has_default img.defaults) img.writes) (all_good (lock_has_default img.defaults) img.locks) (all_good (pointed_to lines) img.defaults) paired
      ∙ ap (λ (b : Bool). once && (paired && ((b && all_good (pointed_to lines) img.defaults) && apart))) (sym (lines-have img.defaults img.locks img.writes)))

  bad : {ds' ps' : List ℕ} → is_sound (image s) ≡ false → Alike s i ds ls ws false ds' ps'
  bad e = record { is = sym e; rows = λ h. absurd (false≢true h); lines = λ h. absurd (false≢true h) }

  module _ {a : Bool} (av : a ≡ locks_above s i.floor ls) where
    pub alike-above : {ds' ps' : List ℕ} → not a ≡ true → Alike s i ds ls ws false ds' ps'
    alike-above h = bad (sound-is ∙ ap (λ (b : Bool). b && (once && (paired && (pointed && apart)))) (fails av h))

    module _ (ag : not a ≡ false) where
      left-all : is_sound (image s) ≡ once && (paired && (pointed && apart))
      left-all = sound-is ∙ ap (λ (b : Bool). b && (once && (paired && (pointed && apart)))) (holds av ag)

      module _ {d : Bool} {ds' : List ℕ} (dv : Sorted (before_at Rows s) ds d ds') where
        d-is : d ≡ once
        d-is = dv.ascends ∙ ap (ordered (before_at Rows s)) dv.is ∙ rows-once row_form v.table s v.begin v.lat ds v.defaults

        pub alike-rows : {ps' : List ℕ} → not d ≡ true → Alike s i ds ls ws false ds' ps'
        alike-rows h = bad (left-all ∙ ap (λ (b : Bool). b && (paired && (pointed && apart))) (fails d-is h))

        module _ (dg : not d ≡ false) {p : Bool} {ps : List ℕ} (pv : Sorted (before_at (Pairs i.writesat) s) (ls ++ ws) p ps) where
          p-is : p ≡ paired
          p-is = pv.ascends ∙ ap (ordered (before_at (Pairs i.writesat) s)) pv.is ∙ pairs-once row_form v.table s v.lat i.writesat (length s) ls ws v.locks v.writes

          left-two : is_sound (image s) ≡ paired && (pointed && apart)
          left-two = left-all ∙ ap (λ (b : Bool). b && (paired && (pointed && apart))) (holds d-is dg)

          pub alike-pairs : {ps' : List ℕ} → not p ≡ true → Alike s i ds ls ws false ds' ps'
          alike-pairs h = bad (left-two ∙ ap (λ (b : Bool). b && (pointed && apart)) (fails p-is h))

          module _ (pg : not p ≡ false) {m : Bool} (mv : m ≡ puts_match s i.writesat ds' ps) where
            m-is : m ≡ pointed
            m-is =
                mv
                ∙ ap₂ (λ (a : List KeyLine) (b : List Default). same_pairs (puts_of a) b) (ap (map (line_at s i.writesat)) pv.is ∙ pairs-in-order row_form v.table s v.lat i.writesat (length s) ls ws v.locks v.writes)
                (ap (map (row_at s)) dv.is ∙ rows-in-order row_form v.table s v.begin v.lat ds v.defaults)
                ∙ pairs-match lines img.defaults (sorted-once likes-pairs lines ∙ holds p-is pg) (sorted-once likes-rows img.defaults ∙ holds d-is dg)

            left_one : is_sound (image s) ≡ pointed && apart
            left_one = left-two ∙ ap (λ (b : Bool). b && (pointed && apart)) (holds p-is pg)

            pub alike-puts : {ps' : List ℕ} → not m ≡ true → Alike s i ds ls ws false ds' ps'
            alike-puts h = bad (left_one ∙ ap (λ (b : Bool). b && apart) (fails m-is h))

            pub alike_end : not m ≡ false → {l : Bool} {ps' : List ℕ} → Sorted (before_at (Lines i.writesat) s) (ls ++ ws) l ps' → Alike s i ds ls ws l ds' ps'
            alike_end h lv = record {
              is =
                  lv.ascends ∙ ap (ordered (before_at (Lines i.writesat) s)) lv.is ∙ lines_once row_form v.table s v.lat i.writesat (length s) ls ws v.locks v.writes
                  ∙ sym (left_one ∙ ap (λ (b : Bool). b && apart) (holds m-is h));
              rows = λ e. dv.is;
              lines = λ e. lv.is;
            }

-- ---- the ways out of `judge`

not_sound : (o : Option Image) → is_good row_form o ≡ false → is_sound o ≡ false
unfolding good_image
not_sound none e = refl
not_sound (some i) e = and-out _ _ (and-out _ _ e)

-- a list that was sorted in place
part : (lt : ℕ → ℕ → Bool) (n : ℕ) (l y x : List ℕ) → length x ≡ n → y ≡ sorted lt x → take n (y ++ drop n l) ≡ sorted lt x
part lt n l y x h e = take_at y (drop n l) n (ap length e ∙ sorted-length lt x ∙ h) ∙ e

part-few : (lt : ℕ → ℕ → Bool) (n : ℕ) (l y x : List ℕ) → length x ≡ n → y ≡ sorted lt x → n ≤ length (y ++ drop n l)
part-few lt n l y x h e = omega (arith, ap length e, sorted-length lt x, length-append y (drop n l))

pub judged-none : (s : Bytes) → is_good row_form (image s) ≡ false → is_sound (image s) ≡ false
judged-none s = not_sound (image s)

module _ {s : Bytes} {i : Sections} {ds ls ws : List ℕ} (v : SectionsAre New s i ds ls ws) where
  abbrev n : ℕ
  n = i.locks + i.writes

  length_is : length (take i.locks ls ++ take i.writes ws) ≡ n
  length_is = omega (arith, length-append (take i.locks ls) (take i.writes ws), length-take-le i.locks ls v.few_locks, length-take-le i.writes ws v.few_writes)

  module _ {r : Bool} {ds' ps' : List ℕ} (a : Alike s i (take i.defaults ds) (take i.locks ls) (take i.writes ws) r ds' ps') where
    pub judged-bad : not r ≡ true → is_sound (image s) ≡ false
    judged-bad h = fails a.is h

    pub judged-good : (ps : List ℕ) → not r ≡ false → Sound s i (ds' ++ drop i.defaults ds) (ps' ++ drop n ps)
    unfolding box_of
    judged-good ps h =
        let t : r ≡ true = not-false r h in
        let w = v.listed in
        let d = take i.defaults ds in
        let l = take i.locks ls in
        let m = take i.writes ws in
        let dl = length-take-le i.defaults ds v.few_defaults in
        let img' = image_of s w.table i.floor d l m in
        let both = sym (sym t ∙ a.is ∙ ap is_sound w.is) in
        record {
          in_place = record {
            img = image_of s w.table i.floor d l m;
            is = w.is;
            good = and_left _ _ (and_left _ _ both);
            healthy = and_right (good_image img') _ (and_left _ _ both);
            floored = and_right (good_image img' && healthy_image img') _ both;
            floor_is = refl;
            load_is = load-eq (load_from i) _ (omega (arith, w.bytes_is, length-take-le i.locks ls v.few_locks, length-take-le i.writes ws v.few_writes)) ∙ load_at s w.table i.floor d l m;
            rows_are = ap (map (row_at s)) (part (before_at Rows s) i.defaults ds ds' d dl (a.rows t)) ∙ rows-placed row_form w.table s w.begin w.lat d w.defaults;
            lines_are =
                ap (map (line_at s i.writesat)) (part (before_at (Lines i.writesat) s) n ps ps' (l ++ m) length_is (a.lines t)) ∙ lines-placed row_form w.table s w.lat i.writesat (length s) l m w.locks w.writes;
            said =
                subst (All (KindSaid s i.writesat)) (sym (part (before_at (Lines i.writesat) s) n ps ps' (l ++ m) length_is (a.lines t)))
                (sorted_all (before_at (Lines i.writesat) s) (KindSaid s i.writesat) (l ++ m) (lines-said row_form w.table s w.lat i.writesat (length s) l m w.locks w.writes));
          };
          few_rows = part-few (before_at Rows s) i.defaults ds ds' d dl (a.rows t);
          few_lines = part-few (before_at (Lines i.writesat) s) n ps ps' (l ++ m) length_is (a.lines t);
        }
