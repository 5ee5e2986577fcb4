-- One line of an image comes into the store: its stretch, with its row, and the slot that shows both.
-- Assumes nothing.
use Prim.Native.Nat.{ℕ, ◌+◌, ◌≤◌}
use native.Mathlib.Omega.{arith}
use mathlib.Core.Path.{◌≡◌, refl, sym, ap, ap₂, ◌∙◌, subst}
use mathlib.Core.Bool.{Bool, true, false, not, ◌&&◌}
use mathlib.Core.List.{List}
use mathlib.Core.Option.{Option}
use lib.ListN.{length}
use lib.Dec.{ltb, eqb}
use borrow.Author.Tests.{eqb-true}
use Rattle.forms.specs.Bytes.{Bytes}
use Rattle.forms.specs.Places.{part_of}
use Rattle.forms.specs.Key.{Key, key_form}
use Rattle.forms.specs.Row.{Row}
use Rattle.rules.specs.declared.records.Kind.{Kind}
use Rattle.rules.specs.declared.records.Kind.TheVariants.{Put, Delete, Rollback}
use Rattle.rules.specs.Box as box
use Rattle.rules.specs.Calls.{record_for}
use Rattle.rules.specs.Sound.{kind_fits}
use Rattle.laws.proofs.StepLaws.{and_left, and_right}
use Rattle.store.specs.declared.table.Line.TheVariants.{Standing, Finished}
use Rattle.store.specs.declared.table.Slot.{Slot}
use Rattle.store.specs.View.{Pairs, if_put}
use Rattle.store.specs.Made.{LeanRow, sound_line}
use Rattle.forms.proofs.WriterLaws.{bytes-long}
use Rattle.changes.proofs.WriteLaws.{past-lower}
use Rattle.changes.specs.Writes.{LockStands, RecordStands}
use Rattle.images.specs.Entries.{raw_at, raw_of, Lies, Stood}
use Rattle.images.specs.declared.entries.ImageEntry.{ImageEntry}
use Rattle.orders.specs.Marks.{section_if}
use Rattle.images.specs.Good.{kind_of}
use Rattle.images.specs.Sections.{line_if, line_at}
use Rattle.restores.specs.declared.rows.RowPlace.{RowPlace}
use Rattle.orders.specs.Finds.{rows_at, key_inside}
use Rattle.restores.specs.Rows.{row_for, RowAsks, RowFound}
use Rattle.restores.specs.Fills.{Laid, size_of, carrying, laid, row_bytes, Comes, line_from, tail_in, OneStamp, WriteAsks, LineAsks}

-- ---- a row's bytes

row-bytes : (kind : Kind) (d : box.Default) → LeanRow kind (length d.row) → row_bytes (if_put kind d) ≡ length d.row
row-bytes Put d l = refl
row-bytes Delete d l = sym l
row-bytes Rollback d l = sym l

lean-for : (kind : Kind) (o : Option Row) → LeanRow kind (length (row_for kind o))
lean-for Put o = tt
lean-for Delete o = refl
lean-for Rollback o = refl

-- ---- `write_lock`, `write_record`

lock-comes : {area : Bytes} {top at : ℕ} {key : Key} {txn start : ℕ} {row : Row} {ttl : ℕ} {primary : Key} {end : ℕ} {area' : Bytes} (kind : Kind) → LeanRow kind (length row)
    → Pairs top at → LockStands area (at + at) key txn start row ttl primary end area'
    → Comes (carrying (record { key = key; line = box.Standing (record { txn = txn; primary = primary; start = start; ttl = ttl; kind = kind }) }) row) area top
    (record { at = at; len = length key; used = true; line = Standing (record { plen = length primary; rowlen = length row; kind = kind }) }) end area'
lock-comes {key = key} {start = start} {row = row} kind l near w = record {
  past = past-lower w.past near.holds;
  shows = let e = ap₂ {C = box.KeyLine} (λ (k : Key) (x : box.Line). record { key = k; line = x }) w.key_is (w.line-is kind) in ap₂ carrying e w.row_is;
  below = record { below = omega (arith, w.next); lean = l; in_use = refl };
  end_low = omega (arith, w.next, near.holds);
  end_most = omega (arith, w.next, near.fewest, row-bytes kind (record { key = key; start = start; row = row }) l);
}

record-comes : {area : Bytes} {top at : ℕ} {key : Key} {stamp start : ℕ} {row : Row} {end : ℕ} {area' : Bytes} (kind : Kind) → LeanRow kind (length row)
    → Pairs top at → RecordStands area (at + at) key stamp start row end area'
    → Comes (carrying (record { key = key; line = box.Finished (record_for start stamp kind) }) row) area top
    (record { at = at; len = length key; used = true; line = Finished (record { rowlen = length row; kind = kind }) }) end area'
record-comes {key = key} {start = start} {row = row} kind l near w = record {
  past = past-lower w.past near.holds;
  shows = let e = ap₂ {C = box.KeyLine} (λ (k : Key) (x : box.Line). record { key = k; line = x }) w.key_is (w.line-is kind) in ap₂ carrying e w.row_is;
  below = record { below = omega (arith, w.next); lean = l; in_use = refl };
  end_low = omega (arith, w.next, near.holds);
  end_most = omega (arith, w.next, near.fewest, row-bytes kind (record { key = key; start = start; row = row }) l);
}

module _ {s : Bytes} {b : Bool} {e : ImageEntry} {found : RowPlace} {area : Bytes} {top : ℕ} (asks : WriteAsks s b e found area top) where
  key-long : length (part_of s e.key) ≡ e.key.len
  key-long = bytes-long s e.key.at e.key.len asks.lies.key.within

  row-long : length (part_of s found.row) ≡ found.row.len
  row-long = bytes-long s found.row.at found.row.len asks.row-in.within

  piece-long : length (part_of s e.piece) ≡ e.piece.len
  piece-long = bytes-long s e.piece.at e.piece.len asks.lies.piece.within

  lean-row : LeanRow (kind_of e.kind) (length (part_of s found.row))
  lean-row = subst (LeanRow (kind_of e.kind)) (sym row-long) asks.lean

module _ {s : Bytes} {e : ImageEntry} {found : RowPlace} {area : Bytes} {top : ℕ} (asks : WriteAsks s true e found area top) where
  pub lock-written : {kind : Kind} → kind ≡ kind_of e.kind → {at : ℕ} → Pairs top at → {key row primary : Bytes} → key ≡ part_of s e.key → row ≡ part_of s found.row → primary ≡ part_of s e.piece → {end : ℕ} {area' : Bytes}
      → LockStands area (at + at) key e.first e.second row e.third primary end area'
      → Comes (carrying (line_from true (raw_of s e)) (part_of s found.row)) area top (record { at = at; len = e.key.len; used = true; line = Standing (record { plen = e.piece.len; rowlen = found.row.len; kind = kind }) }) end area'
  lock-written kd {at} near ke re pe {end} {area'} w =
      subst (λ (x : Slot). Comes (carrying (line_from true (raw_of s e)) (part_of s found.row)) area top x end area')
      (λ i. record { at = at; len = key-long asks i; used = true; line = Standing (record { plen = piece-long asks i; rowlen = row-long asks i; kind = sym kd i }) })
      (lock-comes (kind_of e.kind) (lean-row asks) near (subst (λ (x : Bytes × Bytes × Bytes). LockStands area (at + at) x.0 e.first e.second x.1 e.third x.2 end area') (λ i. (ke i, re i, pe i)) w))

module _ {s : Bytes} {e : ImageEntry} {found : RowPlace} {area : Bytes} {top : ℕ} (asks : WriteAsks s false e found area top) where
  pub record-written : {kind : Kind} → kind ≡ kind_of e.kind → {at : ℕ} → Pairs top at → {key row : Bytes} → key ≡ part_of s e.key → row ≡ part_of s found.row → {end : ℕ} {area' : Bytes} → RecordStands area (at + at) key e.first e.second row end area'
      → Comes (carrying (line_from false (raw_of s e)) (part_of s found.row)) area top (record { at = at; len = e.key.len; used = true; line = Finished (record { rowlen = found.row.len; kind = kind }) }) end area'
  record-written kd {at} near ke re {end} {area'} w =
      subst (λ (p : box.KeyLine × Slot). Comes (carrying p.0 (part_of s found.row)) area top p.1 end area')
      (λ i. (record { key = part_of s e.key; line = box.Finished (record { stamp = e.first; start = e.second; commit = sym asks.stamp i; kind = kind_of e.kind }) }, record { at = at; len = key-long asks i; used = true; line = Finished (record { rowlen = row-long asks i; kind = sym kd i }) }))
      (record-comes (kind_of e.kind) (lean-row asks) near (subst (λ (x : Bytes × Bytes). RecordStands area (at + at) x.0 e.first e.second x.1 end area') (λ i. (ke i, re i)) w))

-- ---- `put_line`

-- the line of an entry, whichever section it is of
abbrev entry_line : Bool → Bytes → ImageEntry → box.KeyLine
entry_line b s e = line_from b (raw_of s e)

one-stamp : (b : Bool) (s : Bytes) (e : ImageEntry) → sound_line (entry_line b s e).line ≡ true → OneStamp b e
one-stamp true s e h = tt
one-stamp false s e h = eqb-true e.third e.first (and_left _ _ (and_left (eqb e.third e.first && not (eqb e.second 0)) (kind_fits (kind_of e.kind) e.second e.third) h))

module _ {s : Bytes} {rows : List ℕ} {e : ImageEntry} where
  rows-ask : (b : Bool) → e.key.at + e.key.len ≤ length s → {area : Bytes} {top : ℕ} → LineAsks (entry_line b s e) (rows_at s rows) area top → RowAsks s rows e
  rows-ask true k a = record { place = record { sorted = a.sorted; key_in = k }; has = a.has }
  rows-ask false k a = record { place = record { sorted = a.sorted; key_in = k }; has = a.has }

  module _ {found : RowPlace} (f : RowFound s rows e found) where
    found-long : length (row_for (kind_of e.kind) (box.row_of (key_inside s e) e.second (rows_at s rows))) ≡ found.row.len
    found-long = sym (ap length f.is) ∙ bytes-long s found.row.at found.row.len f.inside.within

    carried : (b : Bool) → carrying (entry_line b s e) (part_of s found.row) ≡ laid (rows_at s rows) (entry_line b s e)
    carried true = ap (carrying (entry_line true s e)) f.is
    carried false = ap (carrying (entry_line false s e)) f.is

    lean : LeanRow (kind_of e.kind) found.row.len
    lean = subst (LeanRow (kind_of e.kind)) found-long (lean-for (kind_of e.kind) (box.row_of (key_inside s e) e.second (rows_at s rows)))

    row_room : row_bytes (if_put (kind_of e.kind) (record { key = key_inside s e; start = e.second; row = row_for (kind_of e.kind) (box.row_of (key_inside s e) e.second (rows_at s rows)) })) ≡ found.row.len
    row_room = row-bytes (kind_of e.kind) (record { key = key_inside s e; start = e.second; row = row_for (kind_of e.kind) (box.row_of (key_inside s e) e.second (rows_at s rows)) }) (lean-for (kind_of e.kind) _) ∙ found-long

    module _ (lies : Lies s e) where
      room : (b : Bool) (top : ℕ) → top + 1 + size_of (laid (rows_at s rows) (entry_line b s e)) ≤ 131072 → top + 1 + e.key.len + 8 + 8 + found.row.len + tail_in b e ≤ 131072
      room true top h = omega (arith, row_room, bytes-long s e.key.at e.key.len lies.key.within, bytes-long s e.piece.at e.piece.len lies.piece.within)
      room false top h = omega (arith, row_room, bytes-long s e.key.at e.key.len lies.key.within)

      write-asks : (b : Bool) {area : Bytes} {top : ℕ} → LineAsks (entry_line b s e) (rows_at s rows) area top → WriteAsks s b e found area top
      write-asks b a = record {
        lies = lies;
        row-in = f.inside;
        lean = lean;
        stamp = one-stamp b s e (and_right (key_form (entry_line b s e).key) _ a.good);
        length_is = a.length_is;
        room = room b _ a.room;
      }

module _ (writesat : ℕ) {s : Bytes} {p : ℕ} {e : ImageEntry} (v : Stood (section_if (ltb p writesat)) s p e) {b : Bool} (is : ltb p writesat ≡ b) where
  line-is : line_at s writesat p ≡ entry_line b s e
  line-is = ap (λ (t : Bool). line_if t s p) is ∙ from b ∙ ap (line_from b) (ap (λ (t : Bool). raw_at (section_if t) s p) (sym is) ∙ sym v.raw)
    where
      from : (t : Bool) → line_if t s p ≡ line_from t (raw_at (section_if t) s p)
      from true = refl
      from false = refl

  module _ (rows : List ℕ) (area : Bytes) (top : ℕ) (a : LineAsks (line_at s writesat p) (rows_at s rows) area top) where
    asks : LineAsks (entry_line b s e) (rows_at s rows) area top
    asks = subst (λ (x : box.KeyLine). LineAsks x (rows_at s rows) area top) line-is a

    pub put-row-asks : RowAsks s rows e
    put-row-asks = rows-ask b v.lies.key.within asks

    module _ {found : RowPlace} (f : RowFound s rows e found) where
      pub put-asks : WriteAsks s b e found area top
      put-asks = write-asks f v.lies b asks

      pub put-done : {r : Slot} {end : ℕ} {area' : Bytes} → Comes (carrying (line_from b (raw_of s e)) (part_of s found.row)) area top r end area' → Comes (laid (rows_at s rows) (line_at s writesat p)) area top r end area'
      put-done {r} {end} {area'} c = subst (λ (y : Laid). Comes y area top r end area') (carried f b ∙ ap (laid (rows_at s rows)) (sym line-is)) c
