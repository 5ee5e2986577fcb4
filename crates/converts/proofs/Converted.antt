-- Document 02, CR 4, of what the converter writes: the same entries with floor 0, each row with its count and in form; an old image that document
-- 01's checks let in is converted, unless a row is full; and a converted image is not converted again.
-- Assumes nothing.
use Prim.Native.Nat.{ℕ, zero, suc, ◌+◌, ◌≤◌, ◌<◌, ◌^◌}
use native.Mathlib.Omega.{arith}
use mathlib.Core.Path.{◌≡◌, refl, sym, ap, ◌∙◌, subst}
use mathlib.Core.Bool.{Bool, true, false, not, ◌&&◌, true≢false, false≢true}
use mathlib.Core.List.{List, [], ◌∷◌, ◌++◌, map}
use mathlib.Core.Option.{Option, none, some}
use lib.ListN.{length, take, drop, length-map}
use lib.Seq.{length-take-le}
use lib.Dec.{leb, eqb}
use borrow.Author.Tests.{le-leb, leb-true, eq-eqb}
use Rattle.seqs.specs.Tables.{All}
use Rattle.seqs.proofs.Tests.{and_left, and_right, and_both}
use Rattle.forms.specs.Bytes.{Bytes, AllBytes}
use Rattle.forms.specs.Readers.{Read, Reader, just, byte, stretch, piece, times, section, ended, whole, is_some}
use Rattle.forms.specs.Numbers.{number, digits, number_of}
use Rattle.forms.specs.Row.{Row, old_row_form, row_form}
use Rattle.forms.proofs.NumberLaws.{length_digits, power_pos, number-below, bytes_take, bytes_drop}
use Rattle.rules.specs.Answers.{Accepted, No}
use Rattle.rules.specs.Box.{Default}
use Rattle.rules.specs.Written.{write_if}
use Rattle.rules.specs.Image.{Image, default_from, key_lock_from, write_from, sections_from, image_from, old_image_from, image, old_image}
use Rattle.rules.specs.Restore.{of_table, all_good, good_default_by, good_image_by}
use Rattle.rules.specs.Capture.{default_bytes, Word, Few}
use Rattle.rules.specs.Convert.{with_count, converted_bytes, converted, growing, convertible, convert_if, convert_image}
use Rattle.laws.proofs.ImageBackLaws.{then-reads, stretch-back, number-back, default-back, section-back}
use Rattle.converts.proofs.ReadApartLaws.{rest_or, got_or, apart, Sectioned, sectioned, stretch-read, number_read, times-read}
use Rattle.converts.proofs.GrownLaws.{converted-is}
use Rattle.converts.proofs.RowGainsLaws.{row-gains}

-- ---- bytes, and the numbers that they say

number_small : (w : ℕ) (s : Bytes) (q : Read ℕ) → AllBytes s → number_of w s ≡ some q → (q.got < 256 ^ w) × AllBytes q.rest
number_small w s q g e =
    let n = number_read w s q e in
    let z : 0 + length (take w s) ≡ w = omega (arith, length-take-le w s n.0) in (
      subst (λ (v : ℕ). v < 256 ^ w) n.1 (subst (λ (k : ℕ). number (take w s) < 256 ^ k) z (number-below (take w s) 0 0 (bytes_take w s g) (power_pos 0))),
      subst (λ (t : Bytes). AllBytes t) n.2 (bytes_drop w s g),
    )

byte-rest : (s : Bytes) (q : Read ℕ) → AllBytes s → byte s ≡ some q → AllBytes q.rest
unfolding byte
byte-rest [] q g e = absurd (false≢true (ap is_some e))
byte-rest (x ∷ s) q g e = subst (λ (t : Bytes). AllBytes t) (ap rest_or e) (λ i. g (suc i))

piece-rest : (s : Bytes) (q : Read Bytes) → AllBytes s → piece s ≡ some q → AllBytes q.rest
unfolding piece
piece-rest s q g e =
    let a = apart byte stretch s q e in
    let b = stretch-read a.0.got a.0.rest q a.2 in
    subst (λ (t : Bytes). AllBytes t) b.2 (bytes_drop a.0.got a.0.rest (byte-rest s a.0 g a.1))

abbrev Started : Default → Type 0
Started d = Word d.start

default-word : (s : Bytes) (q : Read Default) → AllBytes s → default_from s ≡ some q → Started q.got × AllBytes q.rest
unfolding default_from just
default-word s q g e =
    let a = apart piece _ s q e in
    let b = apart (number_of 8) _ a.0.rest q a.2 in
    let c = apart piece _ b.0.rest q b.2 in
    let n = number_small 8 a.0.rest b.0 (piece-rest s a.0 g a.1) b.1 in
    (subst (λ (d : Default). Started d) (ap (got_or q.got) c.2) n.0, subst (λ (t : Bytes). AllBytes t) (ap rest_or c.2) (piece-rest b.0.rest c.0 n.1 c.1))

times_words : (n : ℕ) (s : Bytes) (q : Read (List Default)) → AllBytes s → times n default_from s ≡ some q → All Started q.got
unfolding times just All
times_words zero s q g e = subst (λ (l : List Default). All Started l) (ap (got_or q.got) e) tt
times_words (suc n) s q g e =
    let a = apart default_from _ s q e in
    let b = apart (times n default_from) _ a.0.rest q a.2 in
    let d = default-word s a.0 g a.1 in
    subst (λ (l : List Default). All Started l) (ap (got_or q.got) b.2) (d.0, times_words n a.0.rest b.0 d.1 b.1)

count-words : (ds : List Default) → All Started ds → All Started (map with_count ds)
unfolding All
count-words [] a = tt
count-words (d ∷ ds) a = (a.0, count-words ds a.1)

-- ---- what is written is read back: the same entries, each row with its count

module _ (s : Bytes) (i : Image) (g : AllBytes s) (e : old_image s ≡ some i) where
  abbrev v : Sectioned s i
  v = sectioned s i e

  few : Few Started (map with_count i.defaults)
  unfolding section
  few =
      let t = number_small 4 s _ g v.table in
      let a = apart (number_of 2) (λ (n : ℕ). times n default_from) v.body _ v.defaults in
      let n = number_small 2 v.body a.0 t.1 a.1 in
      let q = times-read a.0.got a.0.rest _ a.2 in
      record {
        count = subst (λ (k : ℕ). k < 256 ^ 2) (sym (length-map i.defaults with_count ∙ q.0)) n.0;
        words = count-words i.defaults (times_words a.0.got a.0.rest _ n.1 a.2);
      }

  pub converted-reads : image (converted_bytes s) ≡ some (converted i)
  unfolding image whole ended image_from sections_from just converted
  converted-reads =
      ap ended
      (ap image_from (converted-is v)
      ∙ then-reads _ _ _ (number-back 4 i.table _ (number_small 4 s _ g v.table).0)
      (then-reads _ _ _ (number-back 8 0 _ (power_pos 8))
      (then-reads _ _ _ (section-back default_from default_bytes Started default-back (map with_count i.defaults) v.rest few) (then-reads _ _ _ v.locks (then-reads _ _ _ v.writes refl)))))

-- ---- each row is in form

row_short : (r : Row) → old_row_form r ≡ true → not (eqb (length r) 255) ≡ true → length r ≤ 254
unfolding old_row_form
row_short r h g =
    let b : length r ≤ 255 = leb-true (length r) 255 (and_right (leb 2 (length r)) _ (and_left _ _ h)) in
    let w : (length r ≡ 255 → ⊥) = λ z. true≢false (sym g ∙ ap not (eq-eqb (length r) 255 z)) in
    below (length r) b w
  where
    below : (n : ℕ) → n ≤ 255 → (n ≡ 255 → ⊥) → n ≤ 254
    below n p w = omega (arith, w)

gains : (t : ℕ) (d : Default) → good_default_by old_row_form t d ≡ true → growing d ≡ true → row_form (with_count d).row ≡ true
gains t d h g = let o = and_right (of_table t d.key && not (eqb d.start 0)) _ h in row-gains d.row o (row_short d.row o g)

pub rows-in-form : (t : ℕ) (ds : List Default) → all_good (good_default_by old_row_form t) ds ≡ true → all_good growing ds ≡ true → all_good (good_default_by row_form t) (map with_count ds) ≡ true
unfolding all_good
rows-in-form t [] h g = refl
rows-in-form t (d ∷ ds) h g =
    let x : good_default_by old_row_form t d ≡ true = and_left _ _ h in
    let y : growing d ≡ true = and_left _ _ g in
    and_both (good_default_by row_form t (with_count d)) _ (and_both (of_table t d.key && not (eqb d.start 0)) _ (and_left _ (old_row_form d.row) x) (gains t d x y))
    (rows-in-form t ds (and_right (good_default_by old_row_form t d) _ h) (and_right (growing d) _ g))

-- ---- which images are converted

-- an old image that document 01's checks let in, without a 255-byte row, is converted where there is room
pub sound-converts : (s buffer : Bytes) (i : Image) → old_image s ≡ some i → good_image_by old_row_form i ≡ true → all_good growing i.defaults ≡ true → length (converted_bytes s) ≤ length buffer → (convert_image s buffer).answer ≡ Accepted
unfolding convert_image convert_if convertible write_if
sound-converts s buffer i e h g l =
    ap (λ (o : Option Image). (convert_if (convertible o) (converted_bytes s) buffer).answer) e
    ∙ ap (λ (b : Bool). (convert_if b (converted_bytes s) buffer).answer) (and_both (good_image_by old_row_form i) _ h g)
    ∙ ap (λ (b : Bool). (write_if b (converted_bytes s) buffer).answer) (le-leb (length (converted_bytes s)) (length buffer) l)

-- a converted image is refused by the converter: the zero bytes of its floor read as three zero counts, and bytes are left over
table-read : (t : ℕ) (u : Bytes) → number_of 4 (digits 4 t ++ u) ≡ some (record { got = number (digits 4 t); rest = u })
unfolding number_of just
table-read t u = then-reads _ _ _ (stretch-back 4 (digits 4 t) u (length_digits 4 t)) refl

no-entries : {A : Type 0} (r : Reader A) (u : Bytes) → section (number_of 2) r (0 ∷ 0 ∷ u) ≡ some (record { got = []; rest = u })
unfolding section times just digits
no-entries r u = then-reads _ _ _ (number-back 2 0 u (power_pos 2)) refl

floor-left : (t : ℕ) (u : Bytes) → old_image (digits 4 t ++ (digits 8 0 ++ u)) ≡ none
unfolding old_image whole ended old_image_from sections_from just digits
floor-left t u =
    ap ended
    (then-reads _ _ _ (table-read t (digits 8 0 ++ u))
    (then-reads _ _ _ (no-entries default_from _) (then-reads _ _ _ (no-entries key_lock_from _) (then-reads _ _ _ (no-entries write_from (0 ∷ 0 ∷ u)) refl))))

pub converts-once : (s buffer : Bytes) (i : Image) → old_image s ≡ some i → (convert_image (converted_bytes s) buffer).answer ≡ No 13
unfolding convert_image convert_if convertible
converts-once s buffer i e =
    ap (λ (o : Option Image). (convert_if (convertible o) (converted_bytes (converted_bytes s)) buffer).answer) (ap old_image (converted-is (sectioned s i e)) ∙ floor-left i.table _)
