-- `put_record`: a record comes, with a Put's row; the key's lock goes, if it has one, and its row.
-- Assumes nothing.
use Rattle.std.specs.Prelude.{None, Some}
use Prim.Native.Nat.{ℕ, ◌+◌, ◌≤◌, ◌<◌}
use native.Mathlib.Omega.{arith}
use mathlib.Core.Path.{◌≡◌, refl, sym, ap, ap₂, ◌∙◌, subst}
use mathlib.Core.Bool.{true}
use mathlib.Core.List.{List}
use mathlib.Core.Option.{none, some}
use lib.ListN.{length, get_or, take}
use lib.Seq.{get_or-take, length-take-le}
use Rattle.seqs.specs.Tables.{shown, insert_at, remove_at, move_to}
use Rattle.seqs.proofs.Tables.{table-long, shown-length, shown-at, map-remove}
use Rattle.forms.specs.Bytes.{Bytes, bytes_at}
use Rattle.forms.specs.Key.{Key}
use Rattle.forms.specs.Row.{Row}
use Rattle.forms.proofs.KeyFormLaws.{key-bounds}
use Rattle.rules.specs.declared.records.Kind.{Kind}
use Rattle.rules.specs.declared.records.Kind.TheVariants.{Put, Delete, Rollback}
use Rattle.rules.specs.declared.records.Record.{Record}
use Rattle.rules.specs.declared.room.Load.{Load}
use Rattle.rules.specs.Box as box
use Rattle.rules.specs.Box.{start_of}
use Rattle.rules.specs.Restore.{none_like, like_line}
use Rattle.rules.specs.Calls.{record_for}
use Rattle.laws.specs.Adds.{plus, minus, lock_load, of_row, of_lock}
use Rattle.laws.specs.Places.{finished_at}
use Rattle.laws.proofs.KeyLaws.{drop_lock-none, drop_row-none}
use Rattle.laws.proofs.LinePlaces.{lock-at}
use Rattle.laws.proofs.LoadLaws.{load-eq}
use Rattle.lookups.specs.declared.lookup.KeyState.{KeyState}
use Rattle.store.specs.declared.views.LockView.{LockView}
use Rattle.store.specs.declared.table.Line.TheVariants.{Finished}
use Rattle.store.specs.declared.table.Slot.{Slot}
use Rattle.store.specs.declared.table.Store.{Store}
use Rattle.store.specs.View.{Pairs, row_if, line_of, row_in, carries, default_in, add_if, stored, box_of, no_slot}
use Rattle.store.specs.Made.{SlotBelow, Tallied}
use Rattle.store.specs.Views.{lock_in}
use Rattle.lookups.specs.KeyStates.{Locked, locked_by, LockThere, IntentThere}
use Rattle.store.proofs.StoredLaws.{row-none, row_out}
use Rattle.forms.proofs.WriterLaws.{bytes-long}
use Rattle.store.proofs.BuiltLaws.{lines-order}
use Rattle.store.proofs.NeedLaws.{counted}
use Rattle.changes.specs.declared.change.NewSlot.{NewSlot}
use Rattle.changes.specs.declared.change.Change.{Change}
use Rattle.changes.specs.declared.change.Change.TheVariants.{Inserts}
use Rattle.changes.specs.Loads.{row_size, lock_size, record_size, freed_by, FreedAsks, Within}
use Rattle.changes.specs.Writes.{RecordStands}
use Rattle.changes.specs.Changes.{Leaves, ChangeAsks, changed, change_for, slot_change, SlotAsks, record_over, Owned, RecordAsks}
use Rattle.changes.proofs.LineLoadLaws.{counted-small}
use Rattle.changes.proofs.TablePlaceLaws.{record-in-place, record-few, lock_there, lock-before, dropped-in-place, ended-in-place}
use Rattle.changes.proofs.KeptLaws.{row_short, row-lean, row-size, record-size, none_other, freed-within, kept_record}
use Rattle.changes.proofs.ChangeLaws.{leaves-within, line-in, line-over}
use Rattle.changes.proofs.WriteLaws.{past-lower}

module _ {st : Store} {area : Bytes} {seen : KeyState} {key : Key} {start stamp : ℕ} {kind : Kind} {row : Row} (asks : RecordAsks st area seen key start stamp kind row) where
  abbrev es : List box.KeyLine
  es = (box_of st area).lines

  abbrev ds : List box.Default
  ds = (box_of st area).defaults

  abbrev n : ℕ
  n = st.load.lines

  abbrev w : Record
  w = record_for start stamp kind

  abbrev e : box.KeyLine
  e = finished_at key w

  count_fits : length es ≡ n
  count_fits = shown-length asks.built.lines (line_of area)

  ordered : box.ordered box.before es ≡ true
  ordered = lines-order asks.built

  once : none_like like_line e (box.drop_lock key es) ≡ true
  once = none_other asks.built.kept key w row asks.fresh

  place-few : seen.place ≤ n
  place-few = omega (arith, asks.looked.place_is, record-few key stamp es, count_fits)

  -- ---- the key has no lock

  module _ (q : seen.lock ≡ None) where
    free : box.lock_of key es ≡ none
    free = sym asks.looked.lock_is ∙ ap (locked_by area) q

    same_lines : box.drop_lock key es ≡ es
    same_lines = drop_lock-none key es free

    once-free : none_like like_line e es ≡ true
    once-free = subst (λ (v : List box.KeyLine). none_like like_line e v ≡ true) same_lines once

    pub no_row : box.row_of key start (box_of st area).defaults ≡ none
    unfolding shown
    no_row = row-none (line_of area) (row_in area) e (take n st.lines) once-free

  -- ---- the lock goes

  module _ {i : LockView} (q : seen.lock ≡ Some i) where
    abbrev x : box.Lock
    x = lock_in area i

    held : box.lock_of key es ≡ some x
    held = sym asks.looked.lock_is ∙ ap (locked_by area) q

    own : i.start ≡ start
    own = subst (Owned start) q asks.own

    there : IntentThere st.top area ds key i
    there = subst (LockThere st.top area ds key) q asks.looked.lock_there

    first-in : seen.first < n
    first-in = omega (arith, asks.looked.first_is, lock_there key x es ordered held, count_fits)

    before : seen.first < seen.place
    before = omega (arith, asks.looked.first_is, asks.looked.place_is, lock-before key x es ordered held stamp)

    abbrev slot : Slot
    slot = get_or st.lines seen.first no_slot

    -- the slot at the key's first place is the lock
    lock-here : line_of area slot ≡ record { key = key; line = box.Standing x }
    lock-here =
        sym (shown-at asks.built.lines (line_of area) seen.first first-in) ∙ ap (λ (i : ℕ). get_or es i (line_of area no_slot)) asks.looked.first_is
        ∙ lock-at key es ordered x (line_of area no_slot) held

    gone : box.drop_lock key es ≡ remove_at seen.first es
    gone = dropped-in-place key x es ordered held ∙ ap (λ (i : ℕ). remove_at i es) (sym asks.looked.first_is)

    row-gone : box.drop_row key start ds ≡ stored (remove_at seen.first (shown (default_in area) n st.lines))
    unfolding shown
    row-gone =
        let s : get_or (take n st.lines) seen.first no_slot ≡ slot = get_or-take n st.lines seen.first no_slot first-in in
        let l : line_of area (get_or (take n st.lines) seen.first no_slot) ≡ record { key = key; line = box.Standing x } = ap (line_of area) s ∙ lock-here in
        ap₂ (λ (k : Key) (t : ℕ). box.drop_row k t ds) (ap (λ (f : box.KeyLine). f.key) (sym l)) (sym (ap (λ (f : box.KeyLine). start_of f.line) l ∙ own))
        ∙ row_out (line_of area) (row_in area) (take n st.lines) seen.first no_slot (omega (arith, length-take-le n st.lines (table-long asks.built.lines), first-in)) asks.built.kept.once
        ∙ ap stored (map-remove (default_in area) seen.first (take n st.lines))

  -- ---- what goes

  abbrev freed : Load
  freed = plus (of_lock key (box.lock_of key es)) (of_row key (box.row_of key start ds))

  freed_is : (o : Locked) → seen.lock ≡ o → freed_by o (length key) ≡ freed
  unfolding of_lock of_row
  freed_is None q = rw (free q, no_row q)
  freed_is (Some i) q =
      let p : length (bytes_at area i.at i.len) ≡ i.len = bytes-long area i.at i.len (omega (arith, (there q).primary_in, asks.built.top_in, asks.built.area_long)) in
      let r : length (bytes_at area i.rowat i.rowlen) ≡ i.rowlen = bytes-long area i.rowat i.rowlen (omega (arith, (there q).row.within, asks.built.top_in, asks.built.area_long)) in
      let t : box.row_of key start ds ≡ row_if i.kind (bytes_at area i.rowat i.rowlen) = ap (λ (m : ℕ). box.row_of key m ds) (sym (own q)) ∙ (there q).row.is in
      let u : of_row key (box.row_of key start ds) ≡ row_size i.kind (length key) i.rowlen = ap (of_row key) t ∙ row-size i.kind key (bytes_at area i.rowat i.rowlen) ∙ ap (row_size i.kind (length key)) r in
      let v : of_lock key (box.lock_of key es) ≡ lock_load key (bytes_at area i.at i.len) = ap (of_lock key) (held q) in
      lock-sum i.kind p ∙ sym (ap₂ plus v u)
    where
      lock-sum : (a : Kind) → length (bytes_at area i.at i.len) ≡ i.len → lock_size a (length key) i.len i.rowlen ≡ plus (lock_load key (bytes_at area i.at i.len)) (row_size a (length key) i.rowlen)
      lock-sum Put p = load-eq _ _ (omega arith)
      lock-sum Delete p = load-eq _ _ (omega arith)
      lock-sum Rollback p = load-eq _ _ (omega arith)

  key-few : length key ≤ 48
  key-few = (key-bounds key asks.form).short

  pub record-room : {at : ℕ} → Pairs st.top at → at + at + length key + 8 + 8 + length row ≤ 131072
  record-room p = omega (arith, p.fewest, asks.area_room)

  pub slot-asks : {at : ℕ} → Pairs st.top at → SlotAsks at st.load seen (length key) kind (length row)
  slot-asks p = record {
    at_in = omega (arith, p.fewest, asks.area_room);
    loads = record {
      key_in = omega (arith, key-few);
      row-in = row_short kind row asks.row_fits;
      small = counted-small (counted asks.built);
      freed_asks = small seen.lock refl;
      freed_in = subst (λ (l : Load). Within l st.load) (sym (freed_is seen.lock refl)) (freed-within asks.built.kept key start);
    };
  }
    where
      small : (o : Locked) → seen.lock ≡ o → FreedAsks o (length key)
      small None q = tt
      small (Some i) q = omega (arith, key-few, (there q).primary_in, (there q).row.within, asks.built.top_in)

  -- ---- what comes

  abbrev b' : box.Box
  b' = record_over key w row (box_of st area)

  abbrev load' : Locked → Load
  load' o = plus (minus st.load (freed_by o (length key))) (record_size kind (length key) (length row))

  kept : (o : Locked) → seen.lock ≡ o → Tallied b' (load' o)
  kept o q =
      subst (Tallied b') (sym (ap₂ (λ (a c : Load). plus (minus st.load a) c) (freed_is o q) (record-size kind key row)))
      (kept_record asks.built.kept key w row asks.fresh asks.free asks.form asks.row_fits asks.sound)

  abbrev top : ℕ → ℕ
  top at = at + at + length key + 8 + 8 + length row

  abbrev comes : ℕ → Slot
  comes at = record { at = at; len = length key; used = true; line = Finished (record { rowlen = length row; kind = kind }) }

  abbrev coming : ℕ → Locked → NewSlot
  coming at o = record { to = seen.place; slot = comes at; load = load' o; top = top at }

  asked : (at : ℕ) (o : Locked) → seen.lock ≡ o → ChangeAsks st (change_for o seen.first (coming at o))
  asked at None q = record { low = place-few; room = asks.slot_free q; length_is = asks.built.lines.length_is }
  asked at (Some i) q = record { before = before q; low = omega (arith, place-few, asks.built.lines.count_fits); length_is = asks.built.lines.length_is }

  module _ {at : ℕ} (near : Pairs st.top at) {area' : Bytes} {end : ℕ} (v : RecordStands area (at + at) key stamp start row end area') where
    below : SlotBelow (top at) (comes at)
    below = record { below = omega arith; lean = row-lean kind row asks.row_fits; in_use = refl }

    line : line_of area' (comes at) ≡ e
    line = ap₂ (λ (k : Key) (y : box.Line). record { key = k; line = y }) v.key_is (v.line-is kind)

    placed : (o : Locked) → seen.lock ≡ o → Leaves b' (top at) (changed st (change_for o seen.first (coming at o))) area'
    placed None q =
        subst (λ (v : List box.KeyLine). Leaves (record { lines = box.insert_line e v; defaults = b'.defaults }) (top at) (changed st (Inserts (coming at None))) area') (sym (same_lines q))
        (line-in asks.built (past-lower v.past near.holds) (omega (arith, near.holds)) (record-room near) below line v.row_is (omega arith) place-few (asks.slot_free q) (once-free q)
        (record-in-place key w es ordered asks.free ∙ ap (λ (i : ℕ). insert_at i e es) (sym asks.looked.place_is))
        (ap (add_if (carries e row)) (sym (drop_row-none key start ds (no_row q))))
        (subst (λ (v : List box.KeyLine). Tallied (record { lines = box.insert_line e v; defaults = b'.defaults }) (load' None)) (same_lines q) (kept None q)))
    placed (Some i) q =
        line-over asks.built (past-lower v.past near.holds) (omega (arith, near.holds)) (record-room near) below line v.row_is (omega (arith, first-in q)) (before q) place-few
        (subst (λ (v : List box.KeyLine). none_like like_line e v ≡ true) (gone q) once)
        (ended-in-place key (x q) es ordered (held q) w asks.free ∙ ap₂ (λ (i j : ℕ). move_to i j e es) (sym asks.looked.first_is) (sym asks.looked.place_is))
        (ap (add_if (carries e row)) (sym (row-gone q)))
        (kept (Some i) q)

    pub record-put : {r : Change} → r ≡ slot_change at st.load seen (length key) kind (length row) end
        → (ChangeAsks st r) × (Leaves (record_over key (record_for start stamp kind) row (box_of st area)) (st.top + 1 + length key + 8 + 8 + length row) (changed st r) area')
    record-put {r} q =
        subst (λ (x : Change). (ChangeAsks st x) × (Leaves b' (st.top + 1 + length key + 8 + 8 + length row) (changed st x) area')) (sym (q ∙ ap (slot_change at st.load seen (length key) kind (length row)) v.next))
        (asked at seen.lock refl, leaves-within (omega (arith, near.fewest)) (placed seen.lock refl))
