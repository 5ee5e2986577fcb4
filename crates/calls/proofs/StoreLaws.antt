-- What a built store keeps at a key, as the checks of the calls need it: a pair has one line at most, a lock has the row that its kind asks,
-- and what goes with a lock is little. So the definitions pass where no store can fail.
-- Assumes nothing.
use Rattle.std.specs.Prelude.{None, Some}
use Prim.Native.Nat.{ℕ, ◌≤◌}
use native.Mathlib.Omega.{arith}
use mathlib.Core.Path.{◌≡◌, refl, sym, ap, ap₂, ◌∙◌}
use mathlib.Core.Bool.{Bool, true, false, not, ◌&&◌}
use mathlib.Core.List.{List, [], ◌∷◌}
use mathlib.Core.Option.{none, some}
use lib.Dec.{eqb}
use lib.ListN.{length}
use Rattle.forms.specs.Bytes.{Bytes, bytes_at, eq_bytes}
use Rattle.forms.specs.Key.{Key, key_form}
use Rattle.forms.specs.Row.{Row, row_form}
use Rattle.forms.proofs.KeyFormLaws.{key-bounds}
use Rattle.forms.proofs.RowLaws.{row-bounds}
use Rattle.rules.specs.declared.records.Kind.{Kind}
use Rattle.rules.specs.declared.records.Kind.TheVariants.{Put, Delete, Rollback}
use Rattle.rules.specs.Box as box
use Rattle.rules.specs.Box.{start_of}
use Rattle.rules.specs.Sound.{sound_lock}
use Rattle.rules.specs.Restore.{none_like, like_line}
use Rattle.rules.specs.Calls.{found_if}
use Rattle.rules.specs.Commit.{with_start}
use Rattle.laws.specs.Adds.{plus, lock_load, of_lock, of_row}
use Rattle.laws.proofs.StepLaws.{and_left, and_right, not-true}
use Rattle.laws.proofs.LoadLaws.{load-eq}
use Rattle.lookups.specs.declared.lookup.KeyState.{KeyState}
use Rattle.store.specs.declared.table.Store.{Store}
use Rattle.store.specs.declared.views.LockView.{LockView}
use Rattle.store.specs.View.{row_if, box_of}
use Rattle.store.specs.Made.{good_line, good_row, Built}
use Rattle.store.specs.Views.{lock_in}
use Rattle.lookups.specs.KeyStates.{Locked, locked_by, LockThere, IntentThere, KeyStateAt}
use Rattle.forms.proofs.WriterLaws.{bytes-long}
use Rattle.store.proofs.MemberLaws.{lock-found, row-found}
use Rattle.store.proofs.KeySoundLaws.{good-in}
use Rattle.changes.specs.Loads.{row_size, lock_size, freed_by, FreedAsks}
use Rattle.changes.specs.Changes.{Owned}
use Rattle.changes.proofs.KeptLaws.{row-size}
use Rattle.calls.specs.Weights.{AddedBy}

-- ---- one line of a pair

-- a pair that no line is of: no record has its start
pub pair-none : (k : Key) (y : box.Line) (es : List box.KeyLine) → none_like like_line (record { key = k; line = y }) es ≡ true → with_start (start_of y) (box.records_of k es) ≡ none
unfolding none_like box.records_of box.add_record with_start found_if
pair-none k y [] n = refl
pair-none k y (e ∷ es) n = go e.line (eq_bytes k e.key) (not-true _ (and_left _ _ n)) (pair-none k y es (and_right (not (like_line (record { key = k; line = y }) e)) _ n))
  where
    go : (x : box.Line) (t : Bool) → t && eqb (start_of y) (start_of x) ≡ false → with_start (start_of y) (box.records_of k es) ≡ none → with_start (start_of y) (box.add_record t x (box.records_of k es)) ≡ none
    go x false h ih = ih
    go (box.Standing l) true h ih = ih
    go (box.Finished w) true h ih = rw h ih

module _ {st : Store} {area : Bytes} (b : Built st area) (key : Key) where
  abbrev es : List box.KeyLine
  es = (box_of st area).lines

  abbrev ds : List box.Default
  ds = (box_of st area).defaults

  -- ---- a lock

  module _ {i : LockView} (held : some (lock_in area i) ≡ box.lock_of key (box_of st area).lines) (there : IntentThere st.top area (box_of st area).defaults key i) where
    abbrev row : Row
    row = bytes_at area i.rowat i.rowlen

    sound : sound_lock (lock_in area i) ≡ true
    sound = and_right (key_form key) _ (good-in good_line es (record { key = key; line = box.Standing (lock_in area i) }) (lock-found key es (lock_in area i) (sym held)) b.kept.good)

    primary-long : length (bytes_at area i.at i.len) ≡ i.len
    primary-long = bytes-long area i.at i.len (omega (arith, there.primary_in, b.top_in, b.area_long))

    row-long : length row ≡ i.rowlen
    row-long = bytes-long area i.rowat i.rowlen (omega (arith, there.row.within, b.top_in, b.area_long))

    primary-few : i.len ≤ 48
    unfolding sound_lock
    primary-few = omega (arith, primary-long, (key-bounds (bytes_at area i.at i.len) (and_right (not (eqb i.txn 0) && not (eqb i.start 0) && not (eqb i.ttl 0) && not (box.eq_kind i.kind Rollback)) _ sound)).short)

    put-form : i.kind ≡ Put → row_form row ≡ true
    put-form e =
        good-in good_row ds (record { key = key; start = i.start; row = row }) (row-found key i.start ds row (there.row.is ∙ ap (λ (k : Kind). row_if k row) e)) b.kept.rows

    -- what goes with it
    lock-frees : lock_size i.kind (length key) i.len i.rowlen ≡ plus (of_lock key (box.lock_of key es)) (of_row key (box.row_of key i.start ds))
    unfolding of_lock
    lock-frees = lock-sum i.kind ∙ ap₂ plus (ap (of_lock key) held) (sym (ap (of_row key) there.row.is ∙ row-size i.kind key row ∙ ap (row_size i.kind (length key)) row-long))
      where
        lock-sum : (a : Kind) → lock_size a (length key) i.len i.rowlen ≡ plus (lock_load key (bytes_at area i.at i.len)) (row_size a (length key) i.rowlen)
        lock-sum Put = load-eq _ _ (omega (arith, primary-long))
        lock-sum Delete = load-eq _ _ (omega (arith, primary-long))
        lock-sum Rollback = load-eq _ _ (omega (arith, primary-long))

    lock-few : length key ≤ 255 → AddedBy 1 1020 (lock_size i.kind (length key) i.len i.rowlen)
    lock-few k = go i.kind put-form
      where
        go : (a : Kind) → (a ≡ Put → row_form row ≡ true) → AddedBy 1 1020 (lock_size a (length key) i.len i.rowlen)
        go Put f = omega (arith, primary-few, row-long, (row-bounds row (f refl)).short)
        go Delete f = omega (arith, primary-few)
        go Rollback f = omega (arith, primary-few)

  module _ {start stamp : ℕ} {seen : KeyState} (f : KeyStateAt st area key start stamp seen) (short : length key ≤ 255) where
    pub freed_asks : FreedAsks seen.lock (length key)
    freed_asks = go seen.lock f.lock_there
      where
        go : (o : Locked) → LockThere st.top area ds key o → FreedAsks o (length key)
        go None t = tt
        go (Some i) t = omega (arith, t.primary_in, t.row.within, b.top_in)

    -- a key twice, a primary and a row, each in a part of 255 bytes
    pub freed-few : AddedBy 1 1020 (freed_by seen.lock (length key))
    freed-few = go seen.lock f.lock_is f.lock_there
      where
        go : (o : Locked) → locked_by area o ≡ box.lock_of key es → LockThere st.top area ds key o → AddedBy 1 1020 (freed_by o (length key))
        go None q t = omega arith
        go (Some i) q t = lock-few q t short

    -- "Room that was freed": the key's lock goes, which is of this start, and its row
    pub freed_is : Owned start seen.lock → (box.lock_of key (box_of st area).lines ≡ none → box.row_of key start (box_of st area).defaults ≡ none)
        → freed_by seen.lock (length key) ≡ plus (of_lock key (box.lock_of key (box_of st area).lines)) (of_row key (box.row_of key start (box_of st area).defaults))
    unfolding of_lock of_row
    freed_is own none_row = go seen.lock f.lock_is f.lock_there own
      where
        go : (o : Locked) → locked_by area o ≡ box.lock_of key es → LockThere st.top area ds key o → Owned start o
            → freed_by o (length key) ≡ plus (of_lock key (box.lock_of key es)) (of_row key (box.row_of key start ds))
        go None q t w = rw (← q, none_row (sym q))
        go (Some i) q t w = lock-frees q t ∙ ap (λ (m : ℕ). plus (of_lock key (box.lock_of key es)) (of_row key (box.row_of key m ds))) w
