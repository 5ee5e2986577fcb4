-- How much of the area the lines need: no more than the live bytes, 16 for each line and 8 for each lock. Within the four limits that is
-- 67,584 bytes, so an area of 131,072 packed anew has more place than any call brings.
-- Assumes nothing.
use Prim.Native.Nat.{ℕ, suc, ◌+◌, ◌*◌, ◌≤◌}
use native.Mathlib.Nat.{suc-mul, min-le_right}
use native.Mathlib.Omega.{arith}
use mathlib.Core.Path.{◌≡◌, refl, sym, ap, ap₂, ◌∙◌, subst}
use mathlib.Core.List.{List, [], ◌∷◌, map}
use mathlib.Core.Option.{Option, none, some}
use lib.ListN.{length, take, drop, length-take, length-drop}
use lib.Seq.{length-take-le}
use Rattle.seqs.specs.Tables.{All, shown}
use Rattle.seqs.proofs.Tables.{table-long, shown-length}
use Rattle.seqs.proofs.Alls.{all-weaken}
use Rattle.forms.specs.Bytes.{Bytes, bytes_at}
use Rattle.rules.specs.declared.records.Kind.{Kind}
use Rattle.rules.specs.declared.records.Kind.TheVariants.{Put, Delete, Rollback}
use Rattle.rules.specs.declared.room.Load.{Load}
use Rattle.rules.specs.Box as box
use Rattle.rules.specs.Box.{start_of, kind_in}
use Rattle.rules.specs.Room.{sum_of, load_of, one_lock, line_bytes, lock_count, bytes_of_lines, bytes_of_defaults}
use Rattle.laws.proofs.Sorted.{length-insert, sum-insert}
use Rattle.store.specs.declared.table.Line.{Line}
use Rattle.store.specs.declared.table.Line.TheVariants.{Standing, Finished}
use Rattle.store.specs.declared.table.Slot.{Slot}
use Rattle.store.specs.declared.table.Store.{Store}
use Rattle.store.specs.View.{eight_at, place_of, row_len, line_in, past, key_of, line_of, row_in, size_of, if_put, default_in, add_if, stored, box_of}
use Rattle.store.specs.Made.{LeanRow, Lean, SlotBelow, Built, Made, Counted}
use Rattle.forms.proofs.WriterLaws.{bytes-long}

abbrev bytes_in : Option box.Default → ℕ
bytes_in none = 0
bytes_in (some d) = length d.key + length d.row

stored_bytes : (os : List (Option box.Default)) → bytes_of_defaults (stored os) ≡ sum_of bytes_in os
unfolding stored add_if sum_of
stored_bytes [] = refl
stored_bytes (none ∷ os) = omega (arith, stored_bytes os)
stored_bytes (some d ∷ os) = sum-insert box.row_before d (λ (d : box.Default). length d.key + length d.row) (stored os) ∙ ap (λ (n : ℕ). length d.key + length d.row + n) (stored_bytes os)

-- a row is counted with the default that its line carries
row-counted : (k : Kind) (d : box.Default) → LeanRow k (length d.row) → length d.row ≤ bytes_in (if_put k d)
row-counted Put d l = omega arith
row-counted Delete d l = omega arith
row-counted Rollback d l = omega arith

module _ (area : Bytes) where
  slot-need : (s : Slot) → SlotBelow (length area) s → size_of s ≤ line_bytes (key_of area s) (line_of area s).line + bytes_in (default_in area s) + 16 + 8 * one_lock (line_of area s).line
  slot-need s b = go s.line b.below b.lean
    where
      go : (x : Line) → place_of s + s.len + past x ≤ length area → Lean x → s.len + past x ≤ line_bytes (key_of area s) (line_in area (place_of s + s.len) x) + bytes_in (default_in area (record { at = s.at; len = s.len; used = s.used; line = x })) + 16 + 8 * one_lock (line_in area (place_of s + s.len) x)
      go (Standing l) h n =
          let k = bytes-long area (place_of s) s.len (omega arith) in
          let r = bytes-long area (place_of s + s.len + 8 + 8) l.rowlen (omega arith) in
          let p = bytes-long area (place_of s + s.len + 8 + 8 + l.rowlen + 8) l.plen (omega arith) in
          omega (arith, row-counted l.kind (record { key = key_of area s; start = eight_at area (place_of s + s.len + 8); row = row_in area (record { at = s.at; len = s.len; used = s.used; line = Standing l }) }) (subst (LeanRow l.kind) (sym r) n))
      go (Finished w) h n =
          let k = bytes-long area (place_of s) s.len (omega arith) in
          let r = bytes-long area (place_of s + s.len + 8 + 8) w.rowlen (omega arith) in
          omega (arith, row-counted w.kind (record { key = key_of area s; start = eight_at area (place_of s + s.len + 8); row = row_in area (record { at = s.at; len = s.len; used = s.used; line = Finished w }) }) (subst (LeanRow w.kind) (sym r) n))

  slots-need : (ss : List Slot) → All (SlotBelow (length area)) ss → sum_of size_of ss ≤ bytes_of_lines (map (line_of area) ss) + sum_of bytes_in (map (default_in area) ss) + 16 * length ss + 8 * lock_count (map (line_of area) ss)
  unfolding All sum_of
  slots-need [] a = omega arith
  slots-need (s ∷ ss) a = omega (arith, slot-need s a.0, slots-need ss a.1)

pub area-need : {st : Store} {area : Bytes} → Built st area → sum_of size_of (take st.load.lines st.lines) ≤ st.load.bytes + 16 * st.load.lines + 8 * st.load.locks
unfolding load_of shown
area-need {st} {area} b =
    let ss : List Slot = take st.load.lines st.lines in
    let n = slots-need area (take st.load.lines st.lines) (all-weaken (SlotBelow st.top) (SlotBelow (length area)) ss (λ s p. record { below = omega (arith, p.below, b.top_in, b.area_long); lean = p.lean; in_use = p.in_use }) b.lines.holds) in
    let l = b.kept.load_is in
    omega (arith, stored_bytes (map (default_in area) ss), ap (λ (l : Load). l.bytes) l, ap (λ (l : Load). l.locks) l, ap (λ (l : Load). l.lines) l, length-take-le st.load.lines st.lines (table-long b.lines))

-- within the four limits
pub area-enough : {st : Store} {area : Bytes} → Made st area → sum_of size_of (take st.load.lines st.lines) ≤ 67584
area-enough m = omega (arith, area-need m.built, m.fit.lines, m.fit.locks, m.fit.bytes)

-- ---- the tallies of a built store

bytes_most : (area : Bytes) (at len : ℕ) → length (bytes_at area at len) ≤ length area
bytes_most area at len = omega (arith, length-take len (drop at area), length-drop at area, min-le_right len (length (drop at area)))

carried-most : (k : Kind) (d : box.Default) → bytes_in (if_put k d) ≤ length d.key + length d.row
carried-most Put d = omega arith
carried-most Delete d = omega arith
carried-most Rollback d = omega arith

module _ (area : Bytes) where
  slot-most : (s : Slot) → line_bytes (key_of area s) (line_of area s).line + bytes_in (default_in area s) ≤ 4 * length area
  slot-most s =
      let k = bytes_most area (place_of s) s.len in
      let r = bytes_most area (place_of s + s.len + 8 + 8) (row_len s.line) in
      let c = carried-most (kind_in (line_of area s).line) (record { key = key_of area s; start = start_of (line_of area s).line; row = row_in area s }) in
      omega (arith, go s.line)
    where
      go : (x : Line) → line_bytes (key_of area s) (line_in area (place_of s + s.len) x) ≤ length (key_of area s) + length area
      go (Standing l) = omega (arith, bytes_most area (place_of s + s.len + 8 + 8 + l.rowlen + 8) l.plen)
      go (Finished w) = omega arith

  slots-most : (ss : List Slot) → bytes_of_lines (map (line_of area) ss) + sum_of bytes_in (map (default_in area) ss) ≤ length ss * (4 * length area)
  unfolding sum_of
  slots-most [] = omega arith
  slots-most (s ∷ ss) = let p = slot-most s in let q = slots-most ss in omega (arith, suc-mul (length ss) (4 * length area))

locks-le : (es : List box.KeyLine) → lock_count es ≤ length es
unfolding sum_of
locks-le [] = omega arith
locks-le (e ∷ es) = go e.line (locks-le es)
  where
    go : (x : box.Line) → lock_count es ≤ length es → one_lock x + lock_count es ≤ suc (length es)
    go (box.Standing l) h = omega arith
    go (box.Finished w) h = omega arith

-- a default is a line's
stored-few : (os : List (Option box.Default)) → length (stored os) ≤ length os
unfolding stored add_if
stored-few [] = omega arith
stored-few (none ∷ os) = omega (arith, stored-few os)
stored-few (some d ∷ os) = omega (arith, stored-few os, length-insert box.row_before d (stored os))

few-times : (n : ℕ) → n ≤ 1024 → n * 524288 ≤ 536870912
few-times n h = omega arith

pub counted : {st : Store} {area : Bytes} → Built st area → Counted st.load
unfolding load_of shown
counted {st} {area} b =
    let ss : List Slot = take st.load.lines st.lines in
    let l = b.kept.load_is in
    let n = length-take-le st.load.lines st.lines (table-long b.lines) in
    let e : length ss * (4 * length area) ≡ st.load.lines * 524288 = ap₂ (λ (x y : ℕ). x * (4 * y)) n b.area_long in
    record {
      lines = b.lines.count_fits;
      locks = omega (arith, ap (λ (l : Load). l.locks) l, ap (λ (l : Load). l.lines) l, locks-le (box_of st area).lines);
      defaults = omega (arith, ap (λ (l : Load). l.defaults) l, stored-few (map (default_in area) ss), shown-length b.lines (default_in area));
      bytes = omega (arith, ap (λ (l : Load). l.bytes) l, stored_bytes (map (default_in area) ss), slots-most area ss, few-times st.load.lines b.lines.count_fits, e);
    }
