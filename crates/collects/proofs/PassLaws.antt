-- One line of the walk, in the words of the definitions: whether it stays, what it frees, the first key that counts from it on, and the place of
-- the lock that holds the collection up.
-- Assumes nothing.
use Prim.Native.Nat.{ℕ, ◌+◌, ◌≤◌}
use native.Mathlib.Omega.{arith}
use mathlib.Core.Path.{◌≡◌, refl, sym, ap, ap₂, ◌∙◌, subst}
use mathlib.Core.Bool.{Bool, true, false, ◌&&◌, ◌||◌, not}
use mathlib.Core.List.{List}
use lib.Dec.{leb, ltb}
use lib.ListN.{length}
use borrow.Author.Tests.{ltb-true, ltb-false, le-leb, lt-leb}
use Rattle.std.specs.Prelude.{Some}
use Rattle.std.specs.Prelude.{Option as Maybe}
use Rattle.forms.specs.Bytes.{Bytes, bytes_at}
use Rattle.forms.specs.declared.part.Part.{Part}
use Rattle.forms.specs.Places.{part_of, given_part}
use Rattle.forms.proofs.WriterLaws.{bytes-long}
use Rattle.rules.specs.declared.records.Kind.{Kind}
use Rattle.rules.specs.declared.records.Kind.TheVariants.{Put, Delete, Rollback}
use Rattle.rules.specs.declared.room.Load.{Load}
use Rattle.rules.specs.Box as box
use Rattle.rules.specs.Collect.{none_counts, stays}
use Rattle.laws.proofs.StepLaws.{by-test}
use Rattle.ledger.specs.Tidy.{line_above}
use Rattle.store.specs.declared.table.Slot.{Slot}
use Rattle.store.specs.declared.table.LockSlot.{LockSlot}
use Rattle.store.specs.declared.table.RecordSlot.{RecordSlot}
use Rattle.store.specs.declared.table.Line.{Line}
use Rattle.store.specs.declared.table.Line.TheVariants.{Standing, Finished}
use Rattle.store.specs.View.{eight_at, place_of, past, key_of, line_in, line_of, row_in}
use Rattle.changes.specs.Loads.{record_size}
use Rattle.changes.proofs.KeptLaws.{record-size}
use Rattle.collects.specs.declared.passing.Passed.{Passed}
use Rattle.collects.specs.Passes.{is_key, NewerIn, record_by, lock_passed, passed_in, line_passed}
use Rattle.collects.proofs.NextLaws.{counts, key_if}
use Rattle.collects.proofs.LeftLaws.{load_in, freed_if}

abbrev pub place_if : Bool → Maybe ℕ → Maybe ℕ → Maybe ℕ
place_if true a b = a
place_if false a b = b

-- the line e at j, before the lines es, which frees l if it goes
pub record LinePassed (f : ℕ) (area : Bytes) (e : box.KeyLine) (l : Load) (es : List box.KeyLine) (j : ℕ) (p q : Passed) : Type 0 where
  pub key_in : NewerIn area q.newer
  pub next : given_part area q.newer ≡ key_if (counts f e.line) e.key (given_part area p.newer)
  pub stays_is : q.stays ≡ stays f es e
  pub freed : q.freed ≡ freed_if (stays f es e) p.freed l
  pub held : q.held ≡ place_if (line_above f e.line) p.held (Some j)

-- ---- a record, by its three tests: above the floor, its kind, a newer one that counts

record ByTests (area : Bytes) (key : Part) (l : Load) (p : Passed) (above : Bool) (kind : Kind) (newer : Bool) (q : Passed) : Type 0 where
  key_in : NewerIn area q.newer
  next : given_part area q.newer ≡ key_if (not above && not (box.eq_kind kind Rollback)) (part_of area key) (given_part area p.newer)
  stays_is : q.stays ≡ above || (box.eq_kind kind Put && not newer)
  freed : q.freed ≡ freed_if (above || (box.eq_kind kind Put && not newer)) p.freed l
  held : q.held ≡ p.held

by_tests : (area : Bytes) (key : Part) (l : Load) (p : Passed) → key.at + key.len ≤ length area → NewerIn area p.newer → (above : Bool) (kind : Kind) (newer : Bool)
    → ByTests area key l p above kind newer (record_by above kind newer p key l)
by_tests area key l p h g true kind newer = record { key_in = g; next = refl; stays_is = refl; freed = refl; held = refl }
by_tests area key l p h g false Put true = record { key_in = h; next = refl; stays_is = refl; freed = refl; held = refl }
by_tests area key l p h g false Put false = record { key_in = h; next = refl; stays_is = refl; freed = refl; held = refl }
by_tests area key l p h g false Delete newer = record { key_in = h; next = refl; stays_is = refl; freed = refl; held = refl }
by_tests area key l p h g false Rollback newer = record { key_in = g; next = refl; stays_is = refl; freed = refl; held = refl }

not-above : (f s : ℕ) → leb s f ≡ not (ltb f s)
not-above f s = by-test (λ t. ltb f s ≡ t → leb s f ≡ not t) (ltb f s) (λ q r. lt-leb s f (ltb-true f s r)) (λ q r. le-leb s f (ltb-false f s r)) refl

module _ (f : ℕ) (area : Bytes) (p : Passed) (s : Slot) (j : ℕ) (es : List box.KeyLine) (key_in : NewerIn area p.newer)
    (newer : none_counts f (box.records_of (key_of area s) es) ≡ not (is_key (key_of area s) (given_part area p.newer))) where
  abbrev at : ℕ
  at = place_of s + s.len

  lock-passed : (l : LockSlot) {k : Load} → LinePassed f area (record { key = key_of area s; line = line_in area (place_of s + s.len) (Standing l) }) k es j p (passed_in f area p s j (Standing l))
  lock-passed l = record {
    key_in = by-test (λ t. NewerIn area (lock_passed t p j).newer) (ltb f (eight_at area (at + 8))) (λ q. key_in) (λ q. key_in);
    next = by-test (λ t. given_part area (lock_passed t p j).newer ≡ given_part area p.newer) (ltb f (eight_at area (at + 8))) (λ q. refl) (λ q. refl);
    stays_is = by-test (λ t. (lock_passed t p j).stays ≡ true) (ltb f (eight_at area (at + 8))) (λ q. refl) (λ q. refl);
    freed = by-test (λ t. (lock_passed t p j).freed ≡ p.freed) (ltb f (eight_at area (at + 8))) (λ q. refl) (λ q. refl);
    held = by-test (λ t. (lock_passed t p j).held ≡ place_if t p.held (Some j)) (ltb f (eight_at area (at + 8))) (λ q. refl) (λ q. refl);
  }

  record-passed : (w : RecordSlot) → place_of s + s.len ≤ length area → {k : Load} → record_size w.kind s.len w.rowlen ≡ k
      → LinePassed f area (record { key = key_of area s; line = line_in area (place_of s + s.len) (Finished w) }) k es j p (passed_in f area p s j (Finished w))
  record-passed w h {k} e =
      let t = by_tests area (record { at = place_of s; len = s.len }) (record_size w.kind s.len w.rowlen) p h key_in (ltb f (eight_at area at)) w.kind (is_key (key_of area s) (given_part area p.newer)) in
      record {
        key_in = t.key_in;
        next = t.next ∙ ap (λ (b : Bool). key_if (b && not (box.eq_kind w.kind Rollback)) (key_of area s) (given_part area p.newer)) (sym (not-above f (eight_at area at)));
        stays_is = t.stays_is ∙ ap stay (sym newer);
        freed = t.freed ∙ ap (λ (l : Load). freed_if (stay (not (is_key (key_of area s) (given_part area p.newer)))) p.freed l) e ∙ ap (λ (b : Bool). freed_if (stay b) p.freed k) (sym newer);
        held = t.held;
      }
    where
      stay : Bool → Bool
      stay b = ltb f (eight_at area at) || (box.eq_kind w.kind Put && b)

  pub line-passed : place_of s + s.len + past s.line ≤ length area → LinePassed f area (line_of area s) (load_in (line_of area) (row_in area) s) es j p (line_passed f area p s j)
  line-passed h = go s.line refl h
    where
      Passes : Line → Type 0
      Passes x = LinePassed f area (record { key = key_of area s; line = line_in area (place_of s + s.len) x }) (load_in (line_of area) (row_in area) (record { at = s.at; len = s.len; used = s.used; line = x })) es j p (passed_in f area p s j x)

      size : (w : RecordSlot) → place_of s + s.len + past (Finished w) ≤ length area → record_size w.kind s.len w.rowlen ≡ load_in (line_of area) (row_in area) (record { at = s.at; len = s.len; used = s.used; line = Finished w })
      size w h =
          let k = bytes-long area (place_of s) s.len (omega arith) in
          let r = bytes-long area (place_of s + s.len + 8 + 8) w.rowlen (omega arith) in
          ap₂ (record_size w.kind) (sym k) (sym r) ∙ record-size w.kind (key_of area s) (bytes_at area (place_of s + s.len + 8 + 8) w.rowlen)

      go : (x : Line) → s.line ≡ x → place_of s + s.len + past x ≤ length area → Passes s.line
      go (Standing l) e h = subst Passes (sym e) (lock-passed l)
      go (Finished w) e h = subst Passes (sym e) (record-passed w (omega arith) (size w h))
