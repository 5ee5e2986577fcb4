-- The entry of a line: its bytes and its cost are those of the definitions; what a line that is shown does to a page; and so a line's turn on a
-- page of locks. A store's locks are sound, so that "sound (9)" passes.
-- Assumes nothing.
use Prim.Native.Nat.{ℕ, suc, ◌+◌, ◌≤◌}
use native.Mathlib.Omega.{arith}
use mathlib.Core.Path.{◌≡◌, refl, sym, ap, ◌∙◌, subst}
use mathlib.Core.Bool.{Bool, true, false, not, ◌&&◌}
use mathlib.Core.List.{◌∷◌, ◌++◌, map, List}
use lib.Dec.{leb, eqb, ltb}
use lib.ListN.{length, length-append}
use Rattle.forms.specs.Bytes.{Bytes, bytes_at}
use Rattle.forms.specs.Key.{key_form}
use Rattle.forms.specs.Row.{row_form}
use Rattle.forms.proofs.KeyFormLaws.{key-bounds}
use Rattle.forms.proofs.RowLaws.{row-bounds}
use Rattle.forms.proofs.WriterLaws.{bytes-long}
use Rattle.rules.specs.declared.records.Kind.TheVariants.{Rollback}
use Rattle.rules.specs.Answers.{Reply, nothing, shown, refused}
use Rattle.rules.specs.Box.{Lock, eq_kind}
use Rattle.rules.specs.Sound.{sound_lock}
use Rattle.rules.specs.Page.{Page, Limits, KeyRow, KeyLock, on_page, too_large, cost_step, limit_step, on_judged, row_cost, lock_cost, Bounds, in_bounds, locks_of, locks_within, page_walk, sound_step, intent_walk, unless_above, conflicting}
use Rattle.rules.specs.Written.{piece_bytes, lock_bytes, key_row_bytes, key_lock_bytes}
use Rattle.rules.proofs.EntryWriterLaws.{lock-long}
use Rattle.laws.proofs.StepLaws.{and_right}
use Rattle.store.specs.declared.table.Slot.{Slot}
use Rattle.store.specs.declared.table.LockSlot.{LockSlot}
use Rattle.store.specs.declared.table.RecordSlot.{RecordSlot}
use Rattle.store.specs.declared.table.Line.{Line}
use Rattle.store.specs.declared.table.Line.TheVariants.{Standing, Finished}
use Rattle.store.specs.View.{place_of, past, row_len, key_of, row_in, line_in}
use Rattle.store.specs.Views.{lock_view, view_in, lock_in}
use Rattle.walks.specs.Walked.{page_on, line_bytes, entry_bytes, part_len, turn_to}
use Rattle.turns.specs.Turns.{cost_in, cost_of, stop_if, large_if, add, room_turn, turn_due}
use Rattle.walks.proofs.WalkLaws.{AddFits, TurnGood, Stepped}
use borrow.Author.Tests.{le-leb}
use Rattle.rules.specs.Box as box
use Rattle.rules.specs.Read.{keep_if}
use Rattle.store.specs.Made.{sound_line}
use Rattle.turns.specs.Dues.{due_if, see_lock}

-- ---- how long entries are

row-long : (x : KeyRow) → length (key_row_bytes x) ≡ row_cost x + 2
unfolding key_row_bytes
row-long x = length-append (piece_bytes x.key) (piece_bytes x.row) ∙ omega arith

key-lock-long : (x : KeyLock) → length (key_lock_bytes x) ≡ lock_cost x + 1
unfolding key_lock_bytes
key-lock-long x = length-append (piece_bytes x.key) (lock_bytes x.lock) ∙ omega (arith, lock-long x.lock)

-- ---- a line is listed

-- as this entry of the definitions, at its cost
pub record Lists {A : Type 0} (area : Bytes) (bytes : A → Bytes) (cost : A → ℕ) (over : ℕ) (s : Slot) (x : A) : Type 0 where
  pub fits : AddFits area over s (cost_of s)
  pub bytes_is : bytes x ≡ entry_bytes area s
  pub cost_is : cost x ≡ cost_of s

abbrev pub row_on : Bytes → Slot → KeyRow
row_on area s = record { key = key_of area s; row = row_in area s }

abbrev pub lock_on : Bytes → Slot → LockSlot → KeyLock
lock_on area s l = record { key = key_of area s; lock = lock_in area (lock_view area (place_of s + s.len) l) }

module _ (area : Bytes) (s : Slot) (h : place_of s + s.len + past s.line ≤ length area) (k : key_form (key_of area s) ≡ true) where
  key-long : length (key_of area s) ≡ s.len
  key-long = bytes-long area (place_of s) s.len (omega arith)

  -- a record, for its row
  pub row-lists : (w : RecordSlot) → s.line ≡ Finished w → row_form (row_in area s) ≡ true → Lists area key_row_bytes row_cost 2 s (row_on area s)
  unfolding key_row_bytes
  row-lists w e r = record {
    fits = record {
      within = record { within = h; short = let q = row-bounds (row_in area s) r in omega (arith, row-long', ap part_len e, ap row_len e) };
      cheap = let p = key-bounds (key_of area s) k in let q = row-bounds (row_in area s) r in omega (arith, cost);
      size = ap length (sym bytes) ∙ row-long (row_on area s) ∙ ap (λ (n : ℕ). n + 2) cost;
    };
    bytes_is = bytes;
    cost_is = cost;
  }
    where
      row-long' : length (row_in area s) ≡ row_len s.line
      row-long' =
          let a = ap past e in
          let b = ap row_len e in
          bytes-long area (place_of s + s.len + 8 + 8) (row_len s.line) (omega arith)

      cost : row_cost (row_on area s) ≡ cost_of s
      cost = omega (arith, key-long, row-long', ap row_len e, ap (cost_in s.len) e)

      bytes : key_row_bytes (row_on area s) ≡ entry_bytes area s
      bytes = subst (λ (x : Line). piece_bytes (key_of area s) ++ piece_bytes (bytes_at area (place_of s + s.len + 8 + 8) (row_len x)) ≡ piece_bytes (key_of area s) ++ line_bytes area (view_in area (place_of s + s.len) x)) (sym e) refl

  -- an intent, for its lock
  pub lock-lists : (l : LockSlot) → s.line ≡ Standing l → sound_lock (lock_on area s l).lock ≡ true → Lists area key_lock_bytes lock_cost 1 s (lock_on area s l)
  unfolding key_lock_bytes sound_lock
  lock-lists l e g = record {
    fits = record {
      within = record { within = h; short = let q = key-bounds lock.primary primary-form in omega (arith, primary-long, ap part_len e) };
      cheap = let p = key-bounds (key_of area s) k in let q = key-bounds lock.primary primary-form in omega (arith, cost);
      size = ap length (sym bytes) ∙ key-lock-long (lock_on area s l) ∙ ap (λ (n : ℕ). n + 1) cost;
    };
    bytes_is = bytes;
    cost_is = cost;
  }
    where
      lock : Lock
      lock = (lock_on area s l).lock

      primary-form : key_form (lock_on area s l).lock.primary ≡ true
      primary-form = and_right (not (eqb lock.txn 0) && not (eqb lock.start 0) && not (eqb lock.ttl 0) && not (eq_kind lock.kind Rollback)) (key_form lock.primary) g

      primary-long : length (lock_on area s l).lock.primary ≡ l.plen
      primary-long = let a = ap past e in bytes-long area (place_of s + s.len + 8 + 8 + l.rowlen + 8) l.plen (omega arith)

      cost : lock_cost (lock_on area s l) ≡ cost_of s
      cost = omega (arith, key-long, primary-long, ap (cost_in s.len) e)

      bytes : key_lock_bytes (lock_on area s l) ≡ entry_bytes area s
      bytes = ap (λ (x : Line). piece_bytes (key_of area s) ++ line_bytes area (view_in area (place_of s + s.len) x)) (sym e)

-- ---- what one that is shown does to a page

module _ {A : Type 0} {area : Bytes} {bytes : A → Bytes} {cost : A → ℕ} {over : ℕ} {s : Slot} {x : A} (l : Lists area bytes cost over s x) where
  pub page-cons : (r : Reply (Page A)) → page_on bytes (on_page x r) ≡ on_page (entry_bytes area s) (page_on bytes r)
  unfolding page_on on_page
  page-cons nothing = refl
  page-cons (shown p) = ap (λ (b : Bytes). shown (record { rows = b ∷ map bytes p.rows; more = p.more })) l.bytes_is
  page-cons (refused v) = refl

  pub shown-turn : (m : Limits) (count sum : ℕ) (rest : ℕ → ℕ → Reply (Page A))
      → page_on bytes (on_judged m cost count sum rest (shown x)) ≡ turn_to area (λ c t. page_on bytes (rest c t)) count sum (room_turn m.rows m.bytes count (sum + cost_of s) (add s))
  unfolding on_judged limit_step cost_step too_large page_on
  shown-turn m count sum rest =
      ap (λ (n : ℕ). page_on bytes (limit_step (leb m.rows count) (cost_step (leb (sum + n) m.bytes) (eqb count 0) x (rest (suc count) (sum + n))))) l.cost_is
      ∙ steps (leb m.rows count) (leb (sum + cost_of s) m.bytes) (eqb count 0)
    where
      steps : (p q first : Bool) → page_on bytes (limit_step p (cost_step q first x (rest (suc count) (sum + cost_of s)))) ≡ turn_to area (λ c t. page_on bytes (rest c t)) count sum (stop_if p (large_if q first (add s)))
      steps true q first = refl
      steps false true first = page-cons (rest (suc count) (sum + cost_of s))
      steps false false true = refl
      steps false false false = refl

  pub shown-good : (rows most count total : ℕ) → TurnGood area over (room_turn rows most count total (add s))
  shown-good rows most count total = steps (leb rows count) (leb total most) (eqb count 0)
    where
      steps : (p q first : Bool) → TurnGood area over (stop_if p (large_if q first (add s)))
      steps true q first = tt
      steps false true first = l.fits
      steps false false true = tt
      steps false false false = tt

abbrev intents : Limits → List KeyLock → ℕ → ℕ → Reply (Page Bytes)
intents m xs count sum = page_on key_lock_bytes (intent_walk m.rows xs count)

abbrev conflicts : ℕ → Limits → List KeyLock → ℕ → ℕ → Reply (Page Bytes)
conflicts moment m xs count sum = page_on key_lock_bytes (page_walk (conflicting moment) lock_cost m xs count sum)

-- ---- one lock

module _ {area : Bytes} {s : Slot} {x : KeyLock} (l : Lists area key_lock_bytes lock_cost 1 s x) (m : Limits) (xs : List KeyLock) (count sum : ℕ) where
  -- "per lock the lock limit, then sound (9)"
  intent-turn : sound_lock x.lock ≡ true → sum + 600 ≤ m.bytes → intents m (x ∷ xs) count sum ≡ turn_to area (intents m xs) count sum (room_turn m.rows m.bytes count (sum + cost_of s) (add s))
  unfolding intent_walk sound_step limit_step page_on
  intent-turn g h = rw (g, le-leb (sum + cost_of s) m.bytes (omega (arith, l.fits.cheap))) (go (leb m.rows count))
    where
      go : (p : Bool) → page_on key_lock_bytes (limit_step p (on_page x (intent_walk m.rows xs (suc count)))) ≡ turn_to area (intents m xs) count sum (stop_if p (add s))
      go true = refl
      go false = page-cons l (intent_walk m.rows xs (suc count))

  -- "per lock sound (9), skipped if it starts above the moment, lock limit, bytes as in Page"
  conflict-turn : (moment : ℕ) → sound_lock x.lock ≡ true → conflicts moment m (x ∷ xs) count sum ≡ turn_to area (conflicts moment m xs) count sum (turn_due true (due_if (not (ltb moment x.lock.start)) s) m.rows m.bytes count sum)
  unfolding page_walk conflicting sound_step unless_above on_judged
  conflict-turn moment g = rw g (go (ltb moment x.lock.start))
    where
      go : (u : Bool) → page_on key_lock_bytes (on_judged m lock_cost count sum (λ c z. page_walk (conflicting moment) lock_cost m xs c z) (unless_above u x)) ≡ turn_to area (conflicts moment m xs) count sum (turn_due true (due_if (not u) s) m.rows m.bytes count sum)
      go true = refl
      go false = shown-turn l m count sum (λ c z. page_walk (conflicting moment) lock_cost m xs c z)

  conflict-good : (u : Bool) → TurnGood area 1 (turn_due true (due_if u s) m.rows m.bytes count sum)
  conflict-good true = shown-good l m.rows m.bytes count (sum + cost_of s)
  conflict-good false = tt

-- ---- one line: a record is passed over, and a lock that is out of bounds

module _ (area : Bytes) (s : Slot) (h : place_of s + s.len + past s.line ≤ length area) (k : key_form (key_of area s) ≡ true) (m : Limits) (a : Bounds) (moment : ℕ) (es : List box.KeyLine) (count sum : ℕ) where
  abbrev line_at : Line → box.KeyLine
  line_at x = record { key = key_of area s; line = line_in area (place_of s + s.len) x }

  pub intent-stepped : sum + 600 ≤ m.bytes → (x : Line) → s.line ≡ x → sound_line (line_in area (place_of s + s.len) x) ≡ true → (t : Bool) → in_bounds a (key_of area s) ≡ t
      → Stepped area 1 (intents m (locks_within a (locks_of (line_at x ∷ es)))) (intents m (locks_within a (locks_of es))) count sum (turn_due t (see_lock true moment s (view_in area (place_of s + s.len) x)) m.rows m.bytes count sum)
  unfolding locks_of locks_within keep_if
  intent-stepped f (Finished w) q g true e = record { is = refl; good = tt }
  intent-stepped f (Finished w) q g false e = record { is = refl; good = tt }
  intent-stepped f (Standing l) q g false e = record { is = rw e; good = tt }
  intent-stepped f (Standing l) q g true e =
      let z = lock-lists area s h k l q g in
      record { is = rw e (intent-turn z m (locks_within a (locks_of es)) count sum g f); good = shown-good z m.rows m.bytes count (sum + cost_of s) }

  pub conflict-stepped : (x : Line) → s.line ≡ x → sound_line (line_in area (place_of s + s.len) x) ≡ true → (t : Bool) → in_bounds a (key_of area s) ≡ t
      → Stepped area 1 (conflicts moment m (locks_within a (locks_of (line_at x ∷ es)))) (conflicts moment m (locks_within a (locks_of es))) count sum (turn_due t (see_lock false moment s (view_in area (place_of s + s.len) x)) m.rows m.bytes count sum)
  unfolding locks_of locks_within keep_if
  conflict-stepped (Finished w) q g true e = record { is = refl; good = tt }
  conflict-stepped (Finished w) q g false e = record { is = refl; good = tt }
  conflict-stepped (Standing l) q g false e = record { is = rw e; good = tt }
  conflict-stepped (Standing l) q g true e =
      let z = lock-lists area s h k l q g in
      record { is = rw e (conflict-turn z m (locks_within a (locks_of es)) count sum moment g); good = conflict-good z m (locks_within a (locks_of es)) count sum (not (ltb moment (lock_on area s l).lock.start)) }
