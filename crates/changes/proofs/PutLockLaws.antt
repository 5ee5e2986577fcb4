-- `put_lock`: a lock comes, and a Put's row with it.
-- Assumes nothing.
use Prim.Native.Nat.{ℕ, ◌+◌, ◌≤◌}
use native.Mathlib.Omega.{arith}
use mathlib.Core.Path.{◌≡◌, refl, sym, ap, ap₂, ◌∙◌, subst}
use mathlib.Core.Bool.{true, ◌&&◌, not}
use mathlib.Core.List.{List}
use mathlib.Core.Option.{Option, none, some}
use lib.Dec.{eqb}
use lib.ListN.{length, take}
use Rattle.seqs.specs.Tables.{shown, insert_at}
use Rattle.seqs.proofs.Tables.{shown-length}
use Rattle.forms.specs.Bytes.{Bytes}
use Rattle.forms.specs.Key.{Key, key_form}
use Rattle.forms.specs.Row.{Row}
use Rattle.forms.proofs.KeyFormLaws.{key-bounds}
use Rattle.rules.specs.declared.records.Kind.{Kind}
use Rattle.rules.specs.declared.records.Kind.TheVariants.{Rollback}
use Rattle.rules.specs.declared.room.Load.{Load}
use Rattle.rules.specs.Box as box
use Rattle.rules.specs.Restore.{none_like, like_line}
use Rattle.rules.specs.Calls.{kind_of}
use Rattle.rules.specs.Sound.{sound_lock}
use Rattle.rules.specs.Prewrite.{PrewriteTerms, lock_for, store_if, lock_line}
use Rattle.laws.specs.Adds.{plus}
use Rattle.laws.proofs.StepLaws.{and_right}
use Rattle.lookups.specs.declared.lookup.KeyState.{KeyState}
use Rattle.store.specs.declared.table.Slot.{Slot}
use Rattle.store.specs.declared.table.Store.{Store}
use Rattle.store.specs.View.{Pairs, line_of, row_in, carries, add_if, box_of}
use Rattle.lookups.specs.KeyStates.{locked_by}
use Rattle.store.proofs.StoredLaws.{row-none}
use Rattle.store.proofs.BuiltLaws.{lines-order}
use Rattle.store.proofs.NeedLaws.{counted}
use Rattle.changes.specs.declared.change.NewSlot.{NewSlot}
use Rattle.changes.specs.declared.change.Change.TheVariants.{Inserts}
use Rattle.changes.specs.Loads.{lock_size, Small}
use Rattle.changes.specs.Writes.{LockStands}
use Rattle.changes.specs.Changes.{Leaves, InsertAsks, changed, entry_for, row_bytes, lock_slot, LockAsks}
use Rattle.changes.proofs.LineLoadLaws.{lock-small, counted-small}
use Rattle.changes.proofs.TablePlaceLaws.{lock-in-place, lines-few}
use Rattle.changes.proofs.KeptLaws.{row_short, row-lean, none-pair, kept-lock}
use Rattle.changes.proofs.ChangeLaws.{leaves-within, line-in}
use Rattle.changes.proofs.WriteLaws.{past-lower}

put-carries : (key : Key) (h : PrewriteTerms) (row : Option Row) (ds : List box.Default) → add_if (carries (record { key = key; line = box.Standing (lock_for h (kind_of row)) }) (row_bytes row)) ds ≡ store_if key h.start row ds
unfolding add_if store_if
put-carries key h (some r) ds = refl
put-carries key h none ds = refl

module _ {st : Store} {area : Bytes} {seen : KeyState} {h : PrewriteTerms} {key : Key} {row : Option Row} (asks : LockAsks st area seen h key row) where
  abbrev es : List box.KeyLine
  es = (box_of st area).lines

  pub put-insert : InsertAsks st seen.first
  put-insert = record { low = omega (arith, asks.looked.first_is, lines-few key es, shown-length asks.built.lines (line_of area)); room = asks.slot_free; length_is = asks.built.lines.length_is }

  pub put-key : length key ≤ 255
  put-key = let k = key-bounds key asks.form in omega arith

  pub put-row : length (row_bytes row) ≤ 255
  put-row = row_short (kind_of row) (row_bytes row) asks.row_fits

  pub put-primary : length h.primary ≤ 255
  unfolding sound_lock
  put-primary = let k = key-bounds h.primary (and_right (not (eqb h.txn 0) && not (eqb h.start 0) && not (eqb h.ttl 0) && not (box.eq_kind (kind_of row) Rollback)) (key_form h.primary) asks.sound) in omega arith

  pub put_small : Small st.load
  put_small = counted-small (counted asks.built)

  pub put-added : {added : Load} (kind : Kind) → added ≡ lock_size kind (length key) (length h.primary) (length (row_bytes row)) → Small added
  put-added kind e = lock-small kind (length key) (length h.primary) (length (row_bytes row)) e (omega (arith, put-key, put-primary, put-row))

  abbrev e : box.KeyLine
  e = record { key = key; line = box.Standing (lock_for h (kind_of row)) }

  abbrev top : ℕ → ℕ
  top at = at + at + length key + 8 + 8 + length (row_bytes row) + 8 + length h.primary

  abbrev slot : ℕ → Kind → Slot
  slot at kind = lock_slot at (length key) (length h.primary) kind (length (row_bytes row))

  free : box.lock_of key es ≡ none
  free = sym asks.looked.lock_is ∙ ap (locked_by area) asks.nobody

  once : none_like like_line e es ≡ true
  once = none-pair key e.line es free asks.fresh

  norow : box.row_of key h.start (box_of st area).defaults ≡ none
  unfolding shown
  norow = row-none (line_of area) (row_in area) e (take st.load.lines st.lines) once

  abbrev coming : ℕ → Kind → Load → ℕ → NewSlot
  coming at kind load end = record { to = seen.first; slot = slot at kind; load = load; top = end }

  -- the bytes from the next pair on have place
  pub put-room : {at : ℕ} → Pairs st.top at → at + at + length key + 8 + 8 + length (row_bytes row) + 8 + length h.primary ≤ 131072
  put-room p = omega (arith, p.fewest, asks.area_room)

  pub put-at : {at : ℕ} → Pairs st.top at → at ≤ 65535
  put-at p = omega (arith, p.fewest, asks.area_room)

  pub lock-put : {at : ℕ} → Pairs st.top at → {area' : Bytes} {end : ℕ} {kind : Kind} {added load : Load} → kind ≡ kind_of row → LockStands area (at + at) key h.txn h.start (row_bytes row) h.ttl h.primary end area'
      → added ≡ lock_size kind (length key) (length h.primary) (length (row_bytes row)) → load ≡ plus st.load added
      → Leaves (lock_line h (entry_for key row) (box_of st area)) (st.top + 1 + length key + 8 + 8 + length (row_bytes row) + 8 + length h.primary) (changed st (Inserts (coming at kind load end))) area'
  unfolding lock_line
  lock-put {at} near {area'} {end} {kind} {added} {load} kd w ad ld =
      leaves-within (omega (arith, near.fewest)) (subst (λ (x : NewSlot). Leaves (lock_line h (entry_for key row) (box_of st area)) (top at) (changed st (Inserts x)) area') (sym is) there)
    where
      kind' : Kind
      kind' = kind_of row

      load' : Load
      load' = plus st.load (lock_size kind' (length key) (length h.primary) (length (row_bytes row)))

      is : coming at kind load end ≡ coming at kind' load' (top at)
      is = rw (ld, ad, kd, w.next)

      there : Leaves (lock_line h (entry_for key row) (box_of st area)) (top at) (changed st (Inserts (coming at kind' load' (top at)))) area'
      there =
          line-in asks.built (past-lower w.past near.holds) (omega (arith, near.holds)) (put-room near) (record { below = omega arith; lean = row-lean kind' (row_bytes row) asks.row_fits; in_use = refl })
          (ap₂ (λ (k : Key) (x : box.Line). record { key = k; line = x }) w.key_is (w.line-is kind')) w.row_is
          (omega arith) put-insert.low asks.slot_free once
          (lock-in-place key (lock_for h kind') es (lines-order asks.built) free ∙ ap (λ (i : ℕ). insert_at i e es) (sym asks.looked.first_is))
          (put-carries key h row (box_of st area).defaults)
          (kept-lock asks.built.kept h key row free norow once asks.form asks.row_fits asks.sound)
