-- The definition's inserts and drops, by place: what the table does at a place is what the box's definition makes.
-- Assumes nothing.
use Prim.Native.Nat.{ℕ, suc, ◌+◌, ◌-◌, ◌≤◌, ◌<◌}
use native.Mathlib.Omega.{arith}
use mathlib.Core.Path.{◌≡◌, refl, sym, ap, ap₂, ◌∙◌}
use mathlib.Core.Bool.{true}
use mathlib.Core.List.{List, ◌∷◌, ◌++◌}
use mathlib.Core.Option.{Option, none, some}
use lib.ListN.{length, take, drop, length-drop}
use lib.Seq.{drop-drop, take-append-add, drop-append-add, length-take-le}
use Rattle.seqs.specs.Tables.{insert_at, remove_at, move_to}
use Rattle.seqs.proofs.Tables.{drop-take}
use Rattle.forms.specs.Bytes.{lt_bytes, cmp}
use Rattle.forms.specs.Key.{Key}
use Rattle.rules.specs.Read.{those}
use Rattle.rules.specs.declared.records.Record.{Record}
use Rattle.rules.specs.Box as box
use Rattle.rules.specs.declared.records.Kind.TheVariants.{Put}
use Rattle.rules.specs.Calls.{stamped_at, record_for}
use Rattle.laws.specs.Places.{how_many, lines_before, finished_at, lock_place, lines_of}
use Rattle.laws.proofs.PlaceLaws.{how_many-le, how_many-ext, insert-place}
use Rattle.laws.proofs.BoxOrder.{before-trans, before-irrefl, clear-record, ordered-drop_lock}
use Rattle.laws.proofs.KeyLaws.{records-drop_lock, lock-gone}
use Rattle.laws.proofs.LinePlaces.{lines_from, drop_lock-place, lines_before-drop_lock, lock-comes, stamps_below, record-place}
use Rattle.lookups.specs.KeyStates.{stamp_line, record_place}

-- ---- lines

pub lock-in-place : (k : Key) (l : box.Lock) (es : List box.KeyLine) → box.ordered box.before es ≡ true → box.lock_of k es ≡ none
    → box.insert_line (record { key = k; line = box.Standing l }) es ≡ insert_at (lines_before k es) (record { key = k; line = box.Standing l }) es
unfolding insert_at
lock-in-place k l es o h = lock-comes k l es o h

-- only the stamp of a record tells what is before it
stamp-tells : (k : Key) (w : Record) (e : box.KeyLine) → box.before e (finished_at k w) ≡ box.before e (stamp_line k w.stamp)
unfolding box.before
stamp-tells k w e = go e.line
  where
    go : (x : box.Line) → box.by_order (cmp e.key k) (box.line_before x (box.Finished w)) ≡ box.by_order (cmp e.key k) (box.line_before x (stamp_line k w.stamp).line)
    go (box.Standing l) = refl
    go (box.Finished v) = refl

record-place-of : (k : Key) (w : Record) (es : List box.KeyLine) → how_many (λ (e : box.KeyLine). box.before e (finished_at k w)) es ≡ record_place k w.stamp es
record-place-of k w es = how_many-ext (λ (e : box.KeyLine). box.before e (finished_at k w)) (λ (e : box.KeyLine). box.before e (stamp_line k w.stamp)) (stamp-tells k w) es

pub record-in-place : (k : Key) (w : Record) (es : List box.KeyLine) → box.ordered box.before es ≡ true → stamped_at w.stamp (box.records_of k es) ≡ none
    → box.insert_line (finished_at k w) es ≡ insert_at (record_place k w.stamp es) (finished_at k w) es
unfolding insert_at
record-in-place k w es o h =
    insert-place box.before before-trans before-irrefl (finished_at k w) es (clear-record k w es h) o
    ∙ ap (λ (n : ℕ). take n es ++ finished_at k w ∷ drop n es) (record-place-of k w es)

pub record-few : (k : Key) (stamp : ℕ) (es : List box.KeyLine) → record_place k stamp es ≤ length es
record-few k stamp es = how_many-le (λ (e : box.KeyLine). box.before e (stamp_line k stamp)) es

pub lines-few : (k : Key) (es : List box.KeyLine) → lines_before k es ≤ length es
lines-few k es = how_many-le _ es

abbrev stamp_record : ℕ → Record
stamp_record stamp = record_for 0 stamp Put

pub remove-is : {A : Type 0} (i : ℕ) (l : List A) → take i l ++ drop (suc i) l ≡ remove_at i l
unfolding remove_at
remove-is i l = refl

-- an element goes out at i, and x comes in before what stood at j
pub insert-removed : {A : Type 0} (i j : ℕ) (x : A) (l : List A) → i < j → j ≤ length l → insert_at (j - 1) x (remove_at i l) ≡ move_to i j x l
unfolding insert_at remove_at move_to
insert-removed {A} i j x l h k =
    let a : length (take i l) ≡ i = length-take-le i l (omega arith) in
    let b : length (take i l) + (j - suc i) ≡ j - 1 = omega arith in
    let c : suc i + (j - suc i) ≡ j = omega arith in
    ap₂ (λ (p q : List A). p ++ x ∷ q)
    (ap (λ (n : ℕ). take n (take i l ++ drop (suc i) l)) (sym b) ∙ take-append-add (take i l) (drop (suc i) l) (j - suc i) ∙ ap (λ (r : List A). take i l ++ r) (sym (drop-take (suc i) j l h)))
    (ap (λ (n : ℕ). drop n (take i l ++ drop (suc i) l)) (sym b) ∙ drop-append-add (take i l) (drop (suc i) l) (j - suc i) ∙ drop-drop (j - suc i) (suc i) l ∙ ap (λ (n : ℕ). drop n l) c)

module _ (k : Key) (l : box.Lock) (es : List box.KeyLine) (o : box.ordered box.before es ≡ true) (lock : box.lock_of k es ≡ some l) where
  pub lock_there : lines_before k es < length es
  unfolding lines_of
  lock_there =
      let e : drop (lines_before k es) es ≡ lines_of k (some l) (box.records_of k es) ++ those (λ (e : box.KeyLine). lt_bytes k e.key) es
      = lines_from k es o ∙ ap (λ (q : Option box.Lock). lines_of k q (box.records_of k es) ++ those (λ (e : box.KeyLine). lt_bytes k e.key) es) lock in
      omega (arith, length-drop (lines_before k es) es, ap length e)

  pub lock-before : (stamp : ℕ) → lines_before k es < record_place k stamp es
  lock-before stamp =
      let e : record_place k stamp es ≡ lines_before k es + (1 + stamps_below (stamp_record stamp) (box.records_of k es))
      = record-place k (stamp_record stamp) es o ∙ ap (λ (q : Option box.Lock). lines_before k es + (lock_place q + stamps_below (stamp_record stamp) (box.records_of k es))) lock in
      omega arith

  pub dropped-in-place : box.drop_lock k es ≡ remove_at (lines_before k es) es
  dropped-in-place = drop_lock-place k l es o lock ∙ remove-is (lines_before k es) es

  pub ended-in-place : (w : Record) → stamped_at w.stamp (box.records_of k es) ≡ none
      → box.insert_line (finished_at k w) (box.drop_lock k es) ≡ move_to (lines_before k es) (record_place k w.stamp es) (finished_at k w) es
  ended-in-place w free =
      record-in-place k w (box.drop_lock k es) (ordered-drop_lock k es o) (ap (stamped_at w.stamp) (records-drop_lock k k es) ∙ free)
      ∙ ap₂ (λ (n : ℕ) (v : List box.KeyLine). insert_at n (finished_at k w) v) place dropped-in-place
      ∙ insert-removed (lines_before k es) (record_place k w.stamp es) (finished_at k w) es (lock-before w.stamp) (record-few k w.stamp es)
    where
      with-lock : record_place k w.stamp es ≡ lines_before k es + (1 + stamps_below (stamp_record w.stamp) (box.records_of k es))
      with-lock = record-place k (stamp_record w.stamp) es o ∙ ap (λ (q : Option box.Lock). lines_before k es + (lock_place q + stamps_below (stamp_record w.stamp) (box.records_of k es))) lock

      without : record_place k w.stamp (box.drop_lock k es) ≡ lines_before k es + (0 + stamps_below (stamp_record w.stamp) (box.records_of k es))
      without =
          record-place k (stamp_record w.stamp) (box.drop_lock k es) (ordered-drop_lock k es o)
          ∙ ap₂ (λ (n : ℕ) (q : Option box.Lock). n + (lock_place q + stamps_below (stamp_record w.stamp) (box.records_of k (box.drop_lock k es)))) (lines_before-drop_lock k es) (lock-gone k es o)
          ∙ ap (λ (ws : List Record). lines_before k es + (0 + stamps_below (stamp_record w.stamp) ws)) (records-drop_lock k k es)

      place : record_place k w.stamp (box.drop_lock k es) ≡ record_place k w.stamp es - 1
      place = omega (arith, with-lock, without)
