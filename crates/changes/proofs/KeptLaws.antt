-- A box in order and sound, with its tallies, after a lock or a record came.
-- Assumes nothing.
use Prim.Native.Nat.{ℕ, ◌≤◌}
use native.Mathlib.Omega.{arith}
use mathlib.Core.Path.{◌≡◌, refl, sym, ap, ap₂, ◌∙◌}
use mathlib.Core.Bool.{Bool, true, false, ◌&&◌, not}
use mathlib.Core.List.{List, [], ◌∷◌}
use mathlib.Core.Option.{Option, none, some}
use lib.Dec.{eqb}
use lib.ListN.{length}
use Rattle.forms.specs.Key.{Key, key_form}
use Rattle.forms.specs.Row.{Row}
use Rattle.forms.specs.Bytes.{eq_bytes}
use Rattle.forms.proofs.RowLaws.{row-bounds}
use Rattle.rules.specs.declared.records.Kind.{Kind}
use Rattle.rules.specs.declared.records.Kind.TheVariants.{Put, Delete, Rollback}
use Rattle.rules.specs.declared.records.Record.{Record}
use Rattle.rules.specs.declared.room.Load.{Load}
use Rattle.rules.specs.Box as box
use Rattle.rules.specs.Box.{start_of}
use Rattle.rules.specs.Room.{load_of}
use Rattle.rules.specs.Restore.{all_good, none_like, like_line}
use Rattle.rules.specs.Calls.{kind_of, stamped_at}
use Rattle.rules.specs.Sound.{sound_lock, sound_record}
use Rattle.rules.specs.Prewrite.{PrewriteTerms, lock_for, store_if, lock_line, unless_locked}
use Rattle.rules.specs.Commit.{with_start}
use Rattle.laws.specs.Adds.{plus, minus, lock_load, record_load, of_row, of_lock, prewrite_adds}
use Rattle.laws.specs.Places.{finished_at}
use Rattle.laws.proofs.StepLaws.{and_both}
use Rattle.laws.proofs.Sorted.{all_insert, fewer-good}
use Rattle.laws.proofs.BoxOrder.{order-lines, order-defaults, in_order_lem, ordered-lock, ordered-record, ordered-default, ordered-drop_lock, ordered-drop_row, drop_lock-fewer, drop_row-fewer, not_found}
use Rattle.laws.proofs.KeyLaws.{records-drop_lock, lock-gone, row-gone}
use Rattle.laws.proofs.LoadLaws.{load-eq, load_fields, plus_none, load_line, load-default, load-drop_lock, load-drop_row}
use Rattle.laws.proofs.PrewriteLaws.{prewrite-new}
use Rattle.laws.proofs.PrewriteLoad.{prewrite-load}
use Rattle.store.specs.View.{if_put, row_if, add_if}
use Rattle.store.specs.Made.{LeanRow, good_line, good_row, Tallied}
use Rattle.store.proofs.StoredLaws.{pair-sym, once-insert, once-fewer}
use Rattle.changes.specs.Loads.{row_size, lock_size, record_size, Within}
use Rattle.changes.specs.Changes.{entry_for, row_bytes, RowFits, record_over}

-- ---- a line's row

pub row_short : (k : Kind) (r : Row) → RowFits k r → length r ≤ 255
row_short Put r f = (row-bounds r f).short
row_short Delete r f = omega arith
row_short Rollback r f = omega arith

pub row-lean : (k : Kind) (r : Row) → RowFits k r → LeanRow k (length r)
row-lean Put r f = tt
row-lean Delete r f = f
row-lean Rollback r f = f

-- ---- tallies, by how long the parts are

pub row-size : (k : Kind) (key : Key) (r : Row) → of_row key (row_if k r) ≡ row_size k (length key) (length r)
unfolding of_row
row-size Put key r = refl
row-size Delete key r = refl
row-size Rollback key r = refl

row-if : (row : Option Row) → row ≡ row_if (kind_of row) (row_bytes row)
row-if (some r) = refl
row-if none = refl

pub lock-size : (key primary : Key) (row : Option Row) → lock_size (kind_of row) (length key) (length primary) (length (row_bytes row)) ≡ plus (lock_load key primary) (of_row key row)
lock-size key primary row =
    let e : of_row key row ≡ row_size (kind_of row) (length key) (length (row_bytes row)) = ap (of_row key) (row-if row) ∙ row-size (kind_of row) key (row_bytes row) in
    let q = load_fields e in
    let z = no_lines (kind_of row) (length key) (length (row_bytes row)) in
    load-eq _ _ (omega arith)
  where
    no_lines : (k : Kind) (a b : ℕ) → ((row_size k a b).lines ≡ 0) × ((row_size k a b).locks ≡ 0)
    no_lines Put a b = (refl, refl)
    no_lines Delete a b = (refl, refl)
    no_lines Rollback a b = (refl, refl)

pub record-size : (k : Kind) (key : Key) (r : Row) → record_size k (length key) (length r) ≡ plus (record_load key) (of_row key (row_if k r))
unfolding of_row
record-size Put key r = refl
record-size Delete key r = refl
record-size Rollback key r = refl

-- ---- no line of a pair

pub none-pair : (k : Key) (y : box.Line) (es : List box.KeyLine) → box.lock_of k es ≡ none → with_start (start_of y) (box.records_of k es) ≡ none → none_like like_line (record { key = k; line = y }) es ≡ true
unfolding none_like box.lock_of box.add_lock box.records_of box.add_record with_start
none-pair k y [] n w = refl
none-pair k y (e ∷ es) n w = go e.line (eq_bytes k e.key) n w (none-pair k y es)
  where
    go : (x : box.Line) (t : Bool) → box.add_lock t x (box.lock_of k es) ≡ none → with_start (start_of y) (box.add_record t x (box.records_of k es)) ≡ none
        → (box.lock_of k es ≡ none → with_start (start_of y) (box.records_of k es) ≡ none → none_like like_line (record { key = k; line = y }) es ≡ true)
        → not (t && eqb (start_of y) (start_of x)) && none_like like_line (record { key = k; line = y }) es ≡ true
    go x false n w ih = ih n w
    go (box.Standing m) true n w ih = let z : ◌≡◌ {A = ℕ} 0 1 = cc in absurd (omega arith)
    go (box.Finished v) true n w ih = let f = not_found (eqb (start_of y) v.start) v (with_start (start_of y) (box.records_of k es)) w in rw f.0 (ih n f.1)

-- ---- a lock comes

module _ {b : box.Box} {l : Load} (k : Tallied b l) (h : PrewriteTerms) (key : Key) (row : Option Row) where
  abbrev e : box.KeyLine
  e = record { key = key; line = box.Standing (lock_for h (kind_of row)) }

  pub kept-lock : box.lock_of key b.lines ≡ none → box.row_of key h.start b.defaults ≡ none → none_like like_line (record { key = key; line = box.Standing (lock_for h (kind_of row)) }) b.lines ≡ true
      → key_form key ≡ true → RowFits (kind_of row) (row_bytes row) → sound_lock (lock_for h (kind_of row)) ≡ true
      → Tallied (lock_line h (entry_for key row) b) (plus l (lock_size (kind_of row) (length key) (length h.primary) (length (row_bytes row))))
  unfolding lock_line prewrite_adds unless_locked store_if
  kept-lock free norow once form fits sound = record {
    load_is =
        ap₂ plus k.load_is (lock-size key h.primary row)
        ∙ sym (ap load_of (sym (prewrite-new h (entry_for key row) b free)) ∙ prewrite-load h (entry_for key row) b ∙ ap (plus (load_of b)) adds);
    sorted = in_order_lem _ _ (ordered-lock key (lock_for h (kind_of row)) b.lines free (order-lines b k.sorted)) (rows-order row);
    good = all_insert box.before e good_line b.lines (and_both (key_form key) _ form sound) k.good;
    rows = rows-good row fits;
    once = once-insert like_line pair-sym box.before e b.lines once k.once;
  }
    where
      adds : prewrite_adds h b (entry_for key row) ≡ plus (lock_load key h.primary) (of_row key row)
      adds = rw free

      rows-order : (o : Option Row) → box.ordered box.row_before (store_if key h.start o b.defaults) ≡ true
      rows-order (some r) = ordered-default (record { key = key; start = h.start; row = r }) b.defaults norow (order-defaults b k.sorted)
      rows-order none = order-defaults b k.sorted

      rows-good : (o : Option Row) → RowFits (kind_of o) (row_bytes o) → all_good good_row (store_if key h.start o b.defaults) ≡ true
      rows-good (some r) f = all_insert box.row_before (record { key = key; start = h.start; row = r }) good_row b.defaults f k.rows
      rows-good none f = k.rows

-- ---- a record comes, and the key's lock goes, if it has one

module _ {b : box.Box} {l : Load} (k : Tallied b l) (key : Key) (s : ℕ) where
  abbrev rest : box.Box
  rest = record { lines = box.drop_lock key b.lines; defaults = b.defaults }

  abbrev left : box.Box
  left = record { lines = box.drop_lock key b.lines; defaults = box.drop_row key s b.defaults }

  abbrev freed : Load
  freed = plus (of_lock key (box.lock_of key b.lines)) (of_row key (box.row_of key s b.defaults))

  load-left : plus freed (load_of left) ≡ l
  load-left =
      let p = load_fields (load-drop_lock b key ∙ sym k.load_is) in
      let q = load_fields (load-drop_row rest key s (order-defaults b k.sorted)) in
      load-eq _ _ (omega arith)

  -- what goes was counted
  pub freed-within : Within (plus (of_lock key (box.lock_of key b.lines)) (of_row key (box.row_of key s b.defaults))) l
  freed-within = let p = load_fields load-left in record { lines = omega arith; locks = omega arith; defaults = omega arith; bytes = omega arith }

module _ {b : box.Box} {l : Load} (k : Tallied b l) (key : Key) (w : Record) (row : Row) where
  -- no other line has the pair
  pub none_other : with_start w.start (box.records_of key b.lines) ≡ none → none_like like_line (finished_at key w) (box.drop_lock key b.lines) ≡ true
  none_other fresh = none-pair key (box.Finished w) (box.drop_lock key b.lines) (lock-gone key b.lines (order-lines b k.sorted)) (ap (with_start w.start) (records-drop_lock key key b.lines) ∙ fresh)

  pub kept_record : with_start w.start (box.records_of key b.lines) ≡ none → stamped_at w.stamp (box.records_of key b.lines) ≡ none → key_form key ≡ true → RowFits w.kind row → sound_record w ≡ true
      → Tallied (record_over key w row b)
      (plus (minus l (plus (of_lock key (box.lock_of key b.lines)) (of_row key (box.row_of key w.start b.defaults)))) (plus (record_load key) (of_row key (row_if w.kind row))))
  unfolding add_if of_row
  kept_record fresh free form fits sound = record {
    load_is =
        let p = load_fields (load-left k key w.start) in
        let q = load_fields (added w.kind) in
        let r = load_fields (load_line (left k key w.start) (finished_at key w)) in
        load-eq _ _ (omega arith);
    sorted =
        in_order_lem _ _
        (ordered-record key w (box.drop_lock key b.lines) (ap (stamped_at w.stamp) (records-drop_lock key key b.lines) ∙ free) (ordered-drop_lock key b.lines (order-lines b k.sorted)))
        (rows-order w.kind);
    good = all_insert box.before (finished_at key w) good_line (box.drop_lock key b.lines) (and_both (key_form key) _ form sound) (fewer-good good_line (drop_lock-fewer key b.lines) k.good);
    rows = rows-good w.kind fits;
    once =
        once-insert like_line pair-sym box.before (finished_at key w) (box.drop_lock key b.lines) (none_other fresh)
        (once-fewer like_line pair-sym (drop_lock-fewer key b.lines) k.once);
  }
    where
      d : box.Default
      d = record { key = key; start = w.start; row = row }

      ds : List box.Default
      ds = box.drop_row key w.start b.defaults

      es : List box.KeyLine
      es = box.insert_line (finished_at key w) (box.drop_lock key b.lines)

      added : (a : Kind) → load_of (record { lines = es; defaults = add_if (if_put a d) ds }) ≡ plus (load_of (record { lines = es; defaults = ds })) (of_row key (row_if a row))
      added Put = load-default (record { lines = es; defaults = ds }) d
      added Delete = sym (plus_none (load_of (record { lines = es; defaults = ds })))
      added Rollback = sym (plus_none (load_of (record { lines = es; defaults = ds })))

      ordered : box.ordered box.row_before ds ≡ true
      ordered = ordered-drop_row key w.start b.defaults (order-defaults b k.sorted)

      rows-order : (a : Kind) → box.ordered box.row_before (add_if (if_put a d) ds) ≡ true
      rows-order Put = ordered-default d ds (row-gone key w.start b.defaults) ordered
      rows-order Delete = ordered
      rows-order Rollback = ordered

      good_left : all_good good_row ds ≡ true
      good_left = fewer-good good_row (drop_row-fewer key w.start b.defaults) k.rows

      rows-good : (a : Kind) → RowFits a row → all_good good_row (add_if (if_put a d) ds) ≡ true
      rows-good Put f = all_insert box.row_before d good_row ds f good_left
      rows-good Delete f = good_left
      rows-good Rollback f = good_left
