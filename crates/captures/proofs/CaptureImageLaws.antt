-- The image: its sections, each into what remains after the one before; how long it is; and what the call answers.
-- Assumes nothing.
use Prim.Native.Nat.{ℕ, suc, ◌+◌, ◌-◌, ◌≤◌, ◌<◌}
use native.Mathlib.Omega.{arith}
use mathlib.Core.Path.{◌≡◌, refl, sym, ap, ◌∙◌, subst}
use mathlib.Core.Bool.{Bool, true, false, ◌&&◌, not}
use mathlib.Core.List.{List, [], ◌∷◌, ◌++◌, map, append_assoc}
use lib.Dec.{leb}
use lib.ListN.{length, take, drop, length-append}
use borrow.Author.Tests.{le-leb, lt-leb, eq-eqb, ne_eqb}
use borrow.Rule.Slice.PartMut.{put_mid}
use Rattle.seqs.specs.Tables.{shown}
use Rattle.forms.specs.Bytes.{Bytes, piece_bytes}
use Rattle.forms.specs.Key.{Key}
use Rattle.forms.specs.Numbers.{digits}
use Rattle.forms.specs.Writers.{Laid}
use Rattle.forms.proofs.NumberLaws.{length_digits}
use Rattle.forms.proofs.WriterLaws.{laid-front, laid_as, laid_then, laid-lent, rest-long}
use Rattle.rules.specs.Answers.{Accepted, No}
use Rattle.rules.specs.Box as box
use Rattle.rules.specs.Read.{keep_if, those}
use Rattle.rules.specs.Page.{locks_of}
use Rattle.rules.specs.Written.{lock_bytes, key_lock_bytes, all_bytes, write_if, WroteAs}
use Rattle.rules.specs.Restore.{of_table}
use Rattle.rules.specs.Capture.{line_of_table, part_of, writes_of, entries_of, default_bytes, record_bytes, write_bytes, section_bytes, image_bytes, image_of, capture_if, capture_image}
use Rattle.laws.proofs.StepLaws.{answered}
use Rattle.store.specs.declared.table.Slot.{Slot}
use Rattle.store.specs.declared.table.Store.{Store}
use Rattle.store.specs.View.{line_of, box_of}
use Rattle.rules.specs.Outcomes.{Wrote}
use Rattle.picks.specs.declared.slots.Section.TheVariants.{Locks, Writes}
use Rattle.picks.specs.declared.sizes.Sizes.{Sizes}
use Rattle.picks.specs.Lines.{in_section, belongs, entry_bytes, lines_in, rows_in, lines_bytes, entries_in}
use Rattle.picks.specs.Sizes.{SizesAre}
use Rattle.captures.specs.Asks.{LinesAsk, ImageAsks}

-- ---- the lines of a section are its entries

abbrev line_at : Key → box.Line → box.KeyLine
line_at k x = record { key = k; line = x }

module _ (t : ℕ) where
  abbrev SameLocks : List box.KeyLine → List box.KeyLine → Type 0
  SameLocks xs es = (all_bytes entry_bytes xs ≡ all_bytes key_lock_bytes (locks_of es)) × (length xs ≡ length (locks_of es))

  locks-are : (es : List box.KeyLine) → SameLocks (those (belongs Locks t) es) (those (line_of_table t) es)
  unfolding those keep_if all_bytes entry_bytes key_lock_bytes locks_of
  locks-are [] = (refl, refl)
  locks-are (e ∷ es) = go e.key e.line (of_table t e.key) (locks-are es)
    where
      go : (k : Key) (x : box.Line) (b : Bool) → SameLocks (those (belongs Locks t) es) (those (line_of_table t) es)
          → SameLocks (keep_if (in_section Locks x && b) (line_at k x) (those (belongs Locks t) es)) (keep_if b (line_at k x) (those (line_of_table t) es))
      go k (box.Standing l) true ih = (ap (λ (c : Bytes). (piece_bytes k ++ lock_bytes l) ++ c) ih.0, ap suc ih.1)
      go k (box.Standing l) false ih = ih
      go k (box.Finished w) true ih = ih
      go k (box.Finished w) false ih = ih

  abbrev SameWrites : List box.KeyLine → List box.KeyLine → Type 0
  SameWrites xs es = (all_bytes entry_bytes xs ≡ all_bytes write_bytes (writes_of es)) × (length xs ≡ length (writes_of es))

  writes_are : (es : List box.KeyLine) → SameWrites (those (belongs Writes t) es) (those (line_of_table t) es)
  unfolding those keep_if all_bytes entry_bytes write_bytes writes_of
  writes_are [] = (refl, refl)
  writes_are (e ∷ es) = go e.key e.line (of_table t e.key) (writes_are es)
    where
      go : (k : Key) (x : box.Line) (b : Bool) → SameWrites (those (belongs Writes t) es) (those (line_of_table t) es)
          → SameWrites (keep_if (in_section Writes x && b) (line_at k x) (those (belongs Writes t) es)) (keep_if b (line_at k x) (those (line_of_table t) es))
      go k (box.Standing l) true ih = ih
      go k (box.Standing l) false ih = ih
      go k (box.Finished w) true ih = (ap (λ (c : Bytes). (piece_bytes k ++ record_bytes w) ++ c) ih.0, ap suc ih.1)
      go k (box.Finished w) false ih = ih

-- ---- the sections in their order

module _ (floor : ℕ) {slots : List Slot} {area : Bytes} {t : ℕ} {z : Sizes} (sizes : SizesAre slots area t z) where
  abbrev rows_of : Bytes
  rows_of = all_bytes default_bytes (rows_in slots area t)

  abbrev locks_in : Bytes
  locks_in = all_bytes entry_bytes (lines_in slots area t Locks)

  abbrev writes_in : Bytes
  writes_in = all_bytes entry_bytes (lines_in slots area t Writes)

  -- as they are written
  abbrev flat : Bytes
  flat = digits 4 t ++ (digits 8 floor ++ (digits 2 z.defaults ++ (rows_of ++ (digits 2 z.locks ++ (locks_in ++ (digits 2 z.writes ++ writes_in))))))

  flat-is : flat ≡ image_bytes (entries_in floor slots area t)
  unfolding image_bytes section_bytes entries_of part_of
  flat-is =
      let l = locks-are t (map (line_of area) slots) in
      let w = writes_are t (map (line_of area) slots) in
      rw (sizes.defaults, sizes.locks ∙ l.1, sizes.writes ∙ w.1, l.0, w.0) (simp append_assoc)

  flat-long : length flat ≡ z.bytes + 18
  flat-long =
      omega (
        arith,
        sizes.bytes,
        length-append (digits 4 t) (digits 8 floor ++ (digits 2 z.defaults ++ (rows_of ++ (digits 2 z.locks ++ (locks_in ++ (digits 2 z.writes ++ writes_in)))))),
        length-append (digits 8 floor) (digits 2 z.defaults ++ (rows_of ++ (digits 2 z.locks ++ (locks_in ++ (digits 2 z.writes ++ writes_in))))),
        length-append (digits 2 z.defaults) (rows_of ++ (digits 2 z.locks ++ (locks_in ++ (digits 2 z.writes ++ writes_in)))),
        length-append rows_of (digits 2 z.locks ++ (locks_in ++ (digits 2 z.writes ++ writes_in))),
        length-append (digits 2 z.locks) (locks_in ++ (digits 2 z.writes ++ writes_in)),
        length-append locks_in (digits 2 z.writes ++ writes_in),
        length-append (digits 2 z.writes) writes_in,
        length_digits 4 t,
        length_digits 8 floor,
        length_digits 2 z.defaults,
        length_digits 2 z.locks,
        length_digits 2 z.writes,
      )

  pub image-long : length (image_bytes (entries_in floor slots area t)) ≡ z.bytes + 18
  image-long = ap length (sym flat-is) ∙ flat-long

-- ---- one section after the other

module _ {slots : List Slot} {area : Bytes} {t : ℕ} {z : Sizes} {s : Bytes} (q : ImageAsks slots area t z s) (floor : ℕ) {a c b : ℕ} {u x v : Bytes} (one : Laid 0 4 (digits 4 t) s a u)
    (floored : Laid a 8 (digits 8 floor) u c x) (two : Laid c 2 (digits 2 z.defaults) x b v) where
  module _ {k d : ℕ} {part w : Bytes} (three : Laid 0 (length (all_bytes default_bytes (rows_in slots area t))) (all_bytes default_bytes (rows_in slots area t)) (take (length v - b) (drop b v)) k part)
      (four : Laid (b + k) 2 (digits 2 z.locks) (put_mid b (length v - b) v part) d w) where
    rows-laid : Laid b (length (all_bytes default_bytes (rows_in slots area t))) (all_bytes default_bytes (rows_in slots area t)) v (b + k) (put_mid b (length v - b) v part)
    rows-laid = laid-lent v b (omega (arith, two.within, two.length_is)) three

    pub lines-asked : LinesAsk slots area t z.held z.writes (take (length w - d) (drop d w))
    lines-asked = record {
      lined = q.lined;
      place = q.sizes.held;
      room = omega (arith, q.room, q.sizes.held, q.sizes.bytes, one.next, one.length_is, floored.next, floored.length_is, two.next, two.length_is, rows-laid.next, rows-laid.length_is, four.next, four.length_is, rest-long w d);
    }

    module _ {k2 : ℕ} {part2 : Bytes} (five : Laid 0 (length (lines_bytes slots area t z.writes)) (lines_bytes slots area t z.writes) (take (length w - d) (drop d w)) k2 part2) where
      pub image-laid : Laid 0 (length (image_bytes (entries_in floor slots area t))) (image_bytes (entries_in floor slots area t)) s (d + k2) (put_mid d (length w - d) w part2)
      image-laid = laid_as (laid_then one (laid_then floored (laid_then two (laid_then rows-laid (laid_then four (laid-lent w d (omega (arith, four.within, four.length_is)) five)))))) (flat-is floor q.sizes)

      pub image-fits : d + k2 ≤ 2097170
      image-fits = omega (arith, image-laid.next, image-long floor q.sizes, q.sizes.small)

-- ---- the answer

module _ (st : Store) (area : Bytes) (t : ℕ) (out : Bytes) where
  -- "a zero table number 3"
  pub captured-zero : t ≡ 0 → {r : Wrote} → r ≡ record { answer = No 3; count = 0 } → WroteAs (capture_image st.floor t (box_of st area) out) r out
  unfolding capture_image capture_if
  captured-zero e {r} p =
      subst (λ (b : Bool). WroteAs (capture_if (not b) (image_of st.floor t (box_of st area)) out) r out) (sym (eq-eqb t 0 e))
      (record { answer_is = answered (ap (λ (x : Wrote). x.answer) p); count_is = ap (λ (x : Wrote). x.count) p; out_is = refl })

  module _ (h : t ≡ 0 → ⊥) {z : Sizes} (sizes : SizesAre (take st.load.lines st.lines) area t z) where
    length_is : length (image_of st.floor t (box_of st area)) ≡ z.bytes + 18
    unfolding image_of shown
    length_is = image-long st.floor sizes

    by : (b : Bool) → leb (length (image_of st.floor t (box_of st area))) (length out) ≡ b → {r : Wrote} {out' : Bytes} → WroteAs (write_if b (image_of st.floor t (box_of st area)) out) r out' → WroteAs (capture_image st.floor t (box_of st area) out) r out'
    unfolding capture_image capture_if
    by b e {r} {out'} p =
        subst (λ (x : Bool). WroteAs (capture_if (not x) (image_of st.floor t (box_of st area)) out) r out') (sym (ne_eqb t 0 h))
        (subst (λ (x : Bool). WroteAs (write_if x (image_of st.floor t (box_of st area)) out) r out') (sym e) p)

    -- "then a short buffer 12"
    pub captured-short : length out < z.bytes + 18 → {r : Wrote} → r ≡ record { answer = No 12; count = 0 } → WroteAs (capture_image st.floor t (box_of st area) out) r out
    unfolding write_if
    captured-short l p =
        by false (lt-leb (length (image_of st.floor t (box_of st area))) (length out) (omega (arith, length_is)))
        (record { answer_is = answered (ap (λ (x : Wrote). x.answer) p); count_is = ap (λ (x : Wrote). x.count) p; out_is = refl })

    -- what is written is the image
    pub put_front : {m : ℕ} {out' : Bytes} → Laid 0 (length (image_bytes (entries_in st.floor (take st.load.lines st.lines) area t))) (image_bytes (entries_in st.floor (take st.load.lines st.lines) area t)) out m out' → take m out' ≡ image_of st.floor t (box_of st area)
    unfolding image_of shown
    put_front x = laid-front x

    pub captured-put : z.bytes + 18 ≤ length out → {m : ℕ} {out' : Bytes} → Laid 0 (length (image_bytes (entries_in st.floor (take st.load.lines st.lines) area t))) (image_bytes (entries_in st.floor (take st.load.lines st.lines) area t)) out m out'
        → WroteAs (capture_image st.floor t (box_of st area) out) (record { answer = Accepted; count = m }) out'
    unfolding write_if image_of shown
    captured-put l {m} x =
        by true (le-leb (length (image_of st.floor t (box_of st area))) (length out) (omega (arith, length_is)))
        (record { answer_is = answered refl; count_is = all; out_is = x.is ∙ ap (λ (k : ℕ). image_of st.floor t (box_of st area) ++ drop k out) all })
      where
        all : m ≡ length (image_bytes (entries_in st.floor (take st.load.lines st.lines) area t))
        all = omega (arith, x.next)
