-- `end_lock`: the record of a commit takes the place of the key's lock, and carries its row.
-- Assumes nothing.
use Rattle.std.specs.Prelude.{None, Some}
use Prim.Native.Nat.{ℕ, ◌+◌, ◌≤◌, ◌<◌}
use native.Mathlib.Omega.{arith}
use mathlib.Core.Path.{◌≡◌, refl, sym, ap, ◌∙◌, subst}
use mathlib.Core.Bool.{Bool, true, false, ◌&&◌, not, true≢false}
use mathlib.Core.List.{List, [], ◌∷◌}
use mathlib.Core.Option.{none, some}
use lib.Dec.{eqb}
use lib.ListN.{length}
use borrow.Author.Tests.{eqb-true, eq-eqb, lt-ltb}
use Rattle.forms.specs.Bytes.{Bytes, bytes_at, eq_bytes}
use Rattle.forms.specs.Key.{Key, key_form}
use Rattle.forms.specs.Row.{Row}
use Rattle.forms.proofs.Orders.{eq_bytes-true}
use Rattle.forms.proofs.KeyFormLaws.{key-bounds}
use Rattle.rules.specs.declared.records.Kind.{Kind}
use Rattle.rules.specs.declared.records.Kind.TheVariants.{Put, Delete, Rollback}
use Rattle.rules.specs.Box as box
use Rattle.rules.specs.Calls.{record_for}
use Rattle.rules.specs.Sound.{sound_lock, sound_record, kind_fits}
use Rattle.rules.specs.Commit.{commit_to}
use Rattle.laws.proofs.StepLaws.{and_left, and_right}
use Rattle.laws.proofs.Sorted.{ordered-first, ordered-rest, after-in}
use Rattle.laws.proofs.BoxOrder.{row_before-trans, row_before-irrefl, order-defaults}
use Rattle.laws.proofs.KeyLaws.{insert-first, pair-after, drop_row-none}
use Rattle.lookups.specs.declared.lookup.KeyState.{KeyState}
use Rattle.store.specs.declared.views.LockView.{LockView}
use Rattle.store.specs.declared.table.Store.{Store}
use Rattle.store.specs.View.{Pairs, if_put, row_if, add_if, box_of}
use Rattle.store.specs.Made.{LeanRow, good_line, good_row}
use Rattle.store.specs.Views.{lock_in}
use Rattle.lookups.specs.KeyStates.{locked_by, LockThere, IntentThere}
use Rattle.store.proofs.MemberLaws.{lock-found, row-found}
use Rattle.store.proofs.KeySoundLaws.{good-in}
use Rattle.forms.proofs.WriterLaws.{bytes-long}
use Rattle.changes.specs.declared.change.Change.{Change}
use Rattle.changes.specs.Writes.{RecordStands}
use Rattle.changes.specs.Changes.{Leaves, ChangeAsks, changed, RowFits, record_over, slot_change, SlotAsks, Owned, RecordAsks, EndAsks}
use Rattle.changes.proofs.KeptLaws.{row_short}
use Rattle.changes.proofs.PutRecordLaws.{slot-asks, record-put}

-- ---- a row that goes and comes again

back_in : (d : box.Default) (ds : List box.Default) → box.ordered box.row_before ds ≡ true → box.row_of d.key d.start ds ≡ some d.row → box.insert_default d (box.drop_row d.key d.start ds) ≡ ds
unfolding box.row_of box.add_row box.drop_row box.unless_row box.insert_by box.put_in
back_in d [] o h = let z : ◌≡◌ {A = ℕ} 0 1 = cc in absurd (omega arith)
back_in d (y ∷ ys) o h = go (box.at_pair d.key d.start y) refl h (back_in d ys (ordered-rest box.row_before y ys o))
  where
    before : box.row_before y d ≡ true → (t : Bool) → box.row_before d y ≡ t → t ≡ false
    before p true q = absurd (true≢false (sym (row_before-trans d y d q p) ∙ row_before-irrefl d))
    before p false q = refl

    go : (t : Bool) → box.at_pair d.key d.start y ≡ t → box.add_row t y.row (box.row_of d.key d.start ys) ≡ some d.row
        → (box.row_of d.key d.start ys ≡ some d.row → box.insert_default d (box.drop_row d.key d.start ys) ≡ ys)
        → box.insert_default d (box.unless_row t y (box.drop_row d.key d.start ys)) ≡ y ∷ ys
    go true e p ih =
        let a : d.key ≡ y.key = eq_bytes-true d.key y.key (and_left _ _ e) in
        let c : d.start ≡ y.start = eqb-true d.start y.start (and_right (eq_bytes d.key y.key) _ e) in
        let r : d.row ≡ y.row = cc in
        let same : d ≡ y = λ i. record { key = a i; start = c i; row = r i } in
        ap (box.insert_default d) (drop_row-none d.key d.start ys (pair-after d.key d.start y ys e (ordered-first box.row_before y ys o)))
        ∙ ap (λ (x : box.Default). box.insert_default x ys) same ∙ insert-first box.row_before y ys (ordered-first box.row_before y ys o)
    go false e p ih =
        let f = before (after-in box.row_before y ys d (ordered-first box.row_before y ys o) (row-found d.key d.start ys d.row p)) (box.row_before d y) refl in
        rw (f, ih p)

pub row_back : (k : Key) (s : ℕ) (kind : Kind) (r : Row) (ds : List box.Default) → box.ordered box.row_before ds ≡ true → box.row_of k s ds ≡ row_if kind r → add_if (if_put kind (record { key = k; start = s; row = r })) (box.drop_row k s ds) ≡ ds
unfolding add_if
row_back k s Put r ds o h = back_in (record { key = k; start = s; row = r }) ds o h
row_back k s Delete r ds o h = drop_row-none k s ds h
row_back k s Rollback r ds o h = drop_row-none k s ds h

-- a sound lock makes a sound record
sound-ended : (x : box.Lock) (commit : ℕ) → sound_lock x ≡ true → x.start < commit → sound_record (record_for x.start commit x.kind) ≡ true
unfolding sound_lock
sound-ended x commit s h =
    let s₄ = and_left _ (key_form x.primary) s in
    let s₃ = and_left _ (not (box.eq_kind x.kind Rollback)) s₄ in
    let s₂ = and_left _ (not (eqb x.ttl 0)) s₃ in
    let start : not (eqb x.start 0) ≡ true = and_right (not (eqb x.txn 0)) _ s₂ in
    rw (eq-eqb commit commit refl, start) (go x.kind (and_right (not (eqb x.txn 0) && not (eqb x.start 0) && not (eqb x.ttl 0)) (not (box.eq_kind x.kind Rollback)) s₄))
  where
    go : (a : Kind) → not (box.eq_kind a Rollback) ≡ true → kind_fits a x.start commit ≡ true
    go Put n = lt-ltb _ _ h
    go Delete n = lt-ltb _ _ h
    go Rollback n = let z : ◌≡◌ {A = ℕ} 0 1 = cc in absurd (omega arith)

-- ---- the call

module _ {st : Store} {area : Bytes} {seen : KeyState} {key : Key} {start commit : ℕ} (asks : EndAsks st area seen key start commit) where
  pub end-nobody : seen.lock ≡ None → Leaves (commit_to commit (box_of st area) key none (box.lock_of key (box_of st area).lines)) (st.top + 320) st area
  unfolding commit_to
  end-nobody q =
      let f : box.lock_of key (box_of st area).lines ≡ none = sym asks.looked.lock_is ∙ ap (locked_by area) q in
      record { built = asks.built; shown = rw f; top_most = omega arith }

  module _ {i : LockView} (q : seen.lock ≡ Some i) where
    abbrev x : box.Lock
    x = lock_in area i

    abbrev row : Row
    row = bytes_at area i.rowat i.rowlen

    held : box.lock_of key (box_of st area).lines ≡ some x
    held = sym asks.looked.lock_is ∙ ap (locked_by area) q

    own : i.start ≡ start
    own = subst (Owned start) q asks.own

    there : IntentThere st.top area (box_of st area).defaults key i
    there = subst (LockThere st.top area (box_of st area).defaults key) q asks.looked.lock_there

    stored : box.row_of key start (box_of st area).defaults ≡ row_if i.kind row
    stored = ap (λ (m : ℕ). box.row_of key m (box_of st area).defaults) (sym own) ∙ there.row.is

    good : good_line (record { key = key; line = box.Standing x }) ≡ true
    good = good-in good_line (box_of st area).lines (record { key = key; line = box.Standing x }) (lock-found key (box_of st area).lines x held) asks.built.kept.good

    pub end_row : i.rowat + i.rowlen ≤ st.top
    end_row = there.row.within

    length_is : length row ≡ i.rowlen
    length_is = bytes-long area i.rowat i.rowlen (omega (arith, end_row, asks.built.top_in, asks.built.area_long))

    fits : (a : Kind) → box.row_of key start (box_of st area).defaults ≡ row_if a row → LeanRow a i.rowlen → RowFits a row
    fits Put p l = good-in good_row (box_of st area).defaults (record { key = key; start = start; row = row }) (row-found key start (box_of st area).defaults row p) asks.built.kept.rows
    fits Delete p l = omega (arith, length_is)
    fits Rollback p l = omega (arith, length_is)

    row_fits : RowFits i.kind row
    row_fits = fits i.kind stored there.row.lean

    form : key_form key ≡ true
    form = and_left _ _ good

    pub end-few : length key + 8 + 8 + i.rowlen ≤ 319
    end-few = let k = key-bounds key form in omega (arith, length_is, row_short i.kind row row_fits)

    record-asks : RecordAsks st area seen key start commit i.kind row
    record-asks = record {
      built = asks.built;
      looked = asks.looked;
      own = asks.own;
      fresh = asks.fresh;
      free = asks.free;
      form = form;
      row_fits = row_fits;
      sound = subst (λ (s : ℕ). sound_record (record_for s commit i.kind) ≡ true) own (sound-ended x commit (and_right (key_form key) _ good) (omega (arith, own, asks.later)));
      slot_free = λ p. let z : ◌≡◌ {A = ℕ} 0 1 = cc in absurd (omega arith);
      area_room = omega (arith, length_is, end-few, asks.area_room);
    }

    pub end-slot : {at : ℕ} → Pairs st.top at → SlotAsks at st.load seen (length key) i.kind i.rowlen
    end-slot {at} p = subst (λ (m : ℕ). SlotAsks at st.load seen (length key) i.kind m) length_is (slot-asks record-asks p)

    pub lock-ended : {at : ℕ} → Pairs st.top at → {area' : Bytes} {end : ℕ} {r : Change} → RecordStands area (at + at) key commit start (bytes_at area i.rowat i.rowlen) end area' → r ≡ slot_change at st.load seen (length key) i.kind i.rowlen end
        → (ChangeAsks st r) × (Leaves (commit_to commit (box_of st area) key none (box.lock_of key (box_of st area).lines)) (st.top + 320) (changed st r) area')
    unfolding commit_to
    lock-ended {at} near {area'} {end} {r} v p =
        let l = record-put record-asks near v (p ∙ ap (λ (m : ℕ). slot_change at st.load seen (length key) i.kind m end) (sym length_is)) in
        (l.0, record { built = l.1.built; shown = l.1.shown ∙ same; top_most = omega (arith, l.1.top_most, length_is, end-few) })
      where
        b : box.Box
        b = box_of st area

        back : add_if (if_put i.kind (record { key = key; start = start; row = row })) (box.drop_row key start b.defaults) ≡ b.defaults
        back = row_back key start i.kind row b.defaults (order-defaults b asks.built.kept.sorted) stored

        same : record_over key (record_for start commit i.kind) row b ≡ commit_to commit b key none (box.lock_of key b.lines)
        same = rw (held, own, back)
