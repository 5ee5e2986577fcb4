-- What a collection leaves of a box: at a key its lock, and of its records those that stay; the box in order and within its limits. The records
-- that go have stamp and start at or below the floor, so that no step of a call with a start above it sees them go. Assumes nothing.
use Prim.Native.Nat.{ℕ, ◌≤◌, ◌<◌}
use native.Mathlib.Omega.{arith}
use mathlib.Core.Path.{◌≡◌, refl, ap, sym, ◌∙◌, subst}
use mathlib.Core.Bool.{Bool, true, false, ◌&&◌, not, true≢false}
use mathlib.Core.List.{List, [], ◌∷◌}
use mathlib.Core.Option.{Option}
use lib.Dec.{ltb, eqb}
use borrow.Author.Tests.{ltb-false, lt-ltb, ne_eqb}
use Rattle.forms.specs.Key.{Key}
use Rattle.forms.specs.Bytes.{eq_bytes}
use Rattle.forms.proofs.Orders.{eq_bytes-refl, eq_bytes-true}
use Rattle.rules.specs.declared.records.Record.{Record}
use Rattle.rules.specs.Answers.{◌▸◌, need}
use Rattle.rules.specs.Box.{Box, Lock, Line, Standing, Finished, KeyLine, Default, records_of, add_record, lock_of, add_lock, row_of, add_row, at_pair, in_order}
use Rattle.rules.specs.Sound.{sound_record, all_sound}
use Rattle.rules.specs.Room.{room_for}
use Rattle.rules.specs.Read.{keep_if, those}
use Rattle.rules.specs.Page.{locks_of, add_standing}
use Rattle.rules.specs.Calls.{all_below, found_if, stamped_at}
use Rattle.rules.specs.Commit.{with_start}
use Rattle.rules.specs.Rollback.{rollback_records}
use Rattle.rules.specs.Capture.{Words}
use Rattle.rules.specs.Collect.{record_stays, stays, kept_lines, dropped_lines, row_stays, collected}
use Rattle.laws.proofs.StepLaws.{by-test, and_left, and_right, and_both, or-false-left}
use Rattle.laws.proofs.Sorted.{Fewer, empty, gone, kept}
use Rattle.laws.proofs.RecordLaws.{sound-le}
use Rattle.laws.proofs.FewerLaws.{FewerBox, fewer-order, fewer-words, fewer-room}
use Rattle.laws.proofs.PlaceLaws.{those-fewer}

abbrev line_at : Key → Line → KeyLine
line_at k x = record { key = k; line = x }

-- ---- the box

pub kept-fewer : (f : ℕ) (es : List KeyLine) → Fewer (kept_lines f es) es
unfolding kept_lines keep_if
kept-fewer f [] = empty
kept-fewer f (e ∷ es) = by-test (λ t. Fewer (keep_if t e (kept_lines f es)) (e ∷ es)) (stays f es e) (λ q. kept (kept-fewer f es)) (λ q. gone (kept-fewer f es))

pub dropped-fewer : (f : ℕ) (es : List KeyLine) → Fewer (dropped_lines f es) es
unfolding dropped_lines keep_if
dropped-fewer f [] = empty
dropped-fewer f (e ∷ es) = by-test (λ t. Fewer (keep_if (not t) e (dropped_lines f es)) (e ∷ es)) (stays f es e) (λ q. gone (dropped-fewer f es)) (λ q. kept (dropped-fewer f es))

module _ (f : ℕ) (b : Box) where
  pub collected-fewer : FewerBox (collected f b) b
  unfolding collected
  collected-fewer = record { lines = kept-fewer f b.lines; defaults = those-fewer (row_stays f b.lines) b.defaults }

  pub collected-order : in_order b ≡ true → in_order (collected f b) ≡ true
  collected-order o = fewer-order collected-fewer o

  pub collected-words : Words b → Words (collected f b)
  collected-words v = fewer-words collected-fewer v

  pub collected-room : room_for b ≡ true → room_for (collected f b) ≡ true
  collected-room r = fewer-room collected-fewer r

-- ---- locks stay

pub lock-kept : (f : ℕ) (k : Key) (es : List KeyLine) → lock_of k (kept_lines f es) ≡ lock_of k es
unfolding lock_of add_lock kept_lines keep_if
lock-kept f k [] = refl
lock-kept f k (e ∷ es) = go e.key e.line (lock-kept f k es)
  where
    free : (t : Bool) (w : Record) (o : Option Lock) → add_lock t (Finished w) o ≡ o
    free true w o = refl
    free false w o = refl

    go : (j : Key) (x : Line) → lock_of k (kept_lines f es) ≡ lock_of k es → lock_of k (keep_if (stays f es (line_at j x)) (line_at j x) (kept_lines f es)) ≡ add_lock (eq_bytes k j) x (lock_of k es)
    go j (Standing l) ih = ap (add_lock (eq_bytes k j) (Standing l)) ih
    go j (Finished w) ih =
        by-test (λ t. lock_of k (keep_if t (line_at j (Finished w)) (kept_lines f es)) ≡ add_lock (eq_bytes k j) (Finished w) (lock_of k es)) (stays f es (line_at j (Finished w)))
        (λ q. ap (add_lock (eq_bytes k j) (Finished w)) ih) (λ q. ih ∙ sym (free (eq_bytes k j) w (lock_of k es)))

pub locks-kept : (f : ℕ) (es : List KeyLine) → locks_of (kept_lines f es) ≡ locks_of es
unfolding locks_of kept_lines keep_if
locks-kept f [] = refl
locks-kept f (e ∷ es) = go e.key e.line (locks-kept f es)
  where
    go : (j : Key) (x : Line) → locks_of (kept_lines f es) ≡ locks_of es → locks_of (keep_if (stays f es (line_at j x)) (line_at j x) (kept_lines f es)) ≡ add_standing j x (locks_of es)
    go j (Standing l) ih = ap (add_standing j (Standing l)) ih
    go j (Finished w) ih = by-test (λ t. locks_of (keep_if t (line_at j (Finished w)) (kept_lines f es)) ≡ locks_of es) (stays f es (line_at j (Finished w))) (λ q. ih) (λ q. ih)

-- ---- of a key's records, those that stay

unfoldable pub kept_records : ℕ → List Record → List Record
kept_records f [] = []
kept_records f (w ∷ ws) = keep_if (record_stays f ws w) w (kept_records f ws)

pub records-kept : (f : ℕ) (k : Key) (es : List KeyLine) → records_of k (kept_lines f es) ≡ kept_records f (records_of k es)
unfolding records_of add_record kept_lines kept_records keep_if
records-kept f k [] = refl
records-kept f k (e ∷ es) = go e.key e.line (eq_bytes k e.key) refl (records-kept f k es)
  where
    own : (w : Record) → records_of k (kept_lines f es) ≡ kept_records f (records_of k es)
        → records_of k (keep_if (record_stays f (records_of k es) w) (line_at k (Finished w)) (kept_lines f es)) ≡ keep_if (record_stays f (records_of k es) w) w (kept_records f (records_of k es))
    own w ih =
        by-test (λ t. records_of k (keep_if t (line_at k (Finished w)) (kept_lines f es)) ≡ keep_if t w (kept_records f (records_of k es))) (record_stays f (records_of k es) w)
        (λ q. rw (eq_bytes-refl k) (ap (λ (ws : List Record). w ∷ ws) ih)) (λ q. ih)

    go : (j : Key) (x : Line) (t : Bool) → eq_bytes k j ≡ t → records_of k (kept_lines f es) ≡ kept_records f (records_of k es)
        → records_of k (keep_if (stays f es (line_at j x)) (line_at j x) (kept_lines f es)) ≡ kept_records f (add_record t x (records_of k es))
    go j x false e ih =
        by-test (λ t. records_of k (keep_if t (line_at j x) (kept_lines f es)) ≡ kept_records f (records_of k es)) (stays f es (line_at j x)) (λ q. rw e ih) (λ q. ih)
    go j (Standing l) true e ih = rw e ih
    go j (Finished w) true e ih =
        subst (λ (i : Key). records_of k (keep_if (record_stays f (records_of i es) w) (line_at i (Finished w)) (kept_lines f es)) ≡ kept_records f (w ∷ records_of k es)) (eq_bytes-true k j e) (own w ih)

pub records-fewer : (f : ℕ) (ws : List Record) → Fewer (kept_records f ws) ws
unfolding kept_records keep_if
records-fewer f [] = empty
records-fewer f (w ∷ ws) = by-test (λ t. Fewer (keep_if t w (kept_records f ws)) (w ∷ ws)) (record_stays f ws w) (λ q. kept (records-fewer f ws)) (λ q. gone (records-fewer f ws))

pub below-fewer : (s : ℕ) {ys xs : List Record} → Fewer ys xs → all_below s xs ≡ true → all_below s ys ≡ true
unfolding all_below
below-fewer s empty a = refl
below-fewer s (gone {x = w} q) a = below-fewer s q (and_right (ltb w.stamp s) _ a)
below-fewer s (kept {x = w} q) a = and_both (ltb w.stamp s) _ (and_left _ _ a) (below-fewer s q (and_right (ltb w.stamp s) _ a))

-- ---- those that go are at or below the floor

-- a list of which some have gone, and only such as P says
pub data Thinned {A : Type 0} (P : A → Type 0) : List A → List A → Type 0 where
  no_more : Thinned P [] []
  went : {x : A} {ys xs : List A} → P x → Thinned P ys xs → Thinned P ys (x ∷ xs)
  stayed : {x : A} {ys xs : List A} → Thinned P ys xs → Thinned P (x ∷ ys) (x ∷ xs)

-- a record at or below the floor, and so is its start
abbrev pub Low : ℕ → Record → Type 0
Low f w = (sound_record w ≡ true) × (w.stamp ≤ f) × (w.start ≤ f)

low-record : (f : ℕ) (ws : List Record) (w : Record) → sound_record w ≡ true → record_stays f ws w ≡ false → Low f w
low-record f ws w s q =
    let l : w.stamp ≤ f = ltb-false f w.stamp (or-false-left (ltb f w.stamp) _ q) in
    (s, l, omega (arith, sound-le w s))

pub records-thinned : (f : ℕ) (ws : List Record) → all_sound ws ≡ true → Thinned (Low f) (kept_records f ws) ws
unfolding kept_records keep_if all_sound
records-thinned f [] s = no_more
records-thinned f (w ∷ ws) s =
    by-test (λ t. record_stays f ws w ≡ t → Thinned (Low f) (keep_if t w (kept_records f ws)) (w ∷ ws)) (record_stays f ws w)
    (λ q r. stayed (records-thinned f ws (and_right (sound_record w) _ s))) (λ q r. went (low-record f ws w (and_left _ _ s) r) (records-thinned f ws (and_right (sound_record w) _ s))) refl

module _ (f s : ℕ) (up : f < s) where
  pub thinned-below : {ys xs : List Record} → Thinned (Low f) ys xs → all_below s ys ≡ all_below s xs
  unfolding all_below
  thinned-below no_more = refl
  thinned-below (went {x = w} p t) = let l : w.stamp < s = omega (arith, p.1) in rw (lt-ltb w.stamp s l) (thinned-below t)
  thinned-below (stayed {x = w} t) = ap (λ (c : Bool). ltb w.stamp s && c) (thinned-below t)

  pub thinned-started : {ys xs : List Record} → Thinned (Low f) ys xs → with_start s ys ≡ with_start s xs
  unfolding with_start found_if
  thinned-started no_more = refl
  thinned-started (went {x = w} p t) = let l : w.start ≤ f = p.2 in rw (ne_eqb s w.start (λ e. omega arith)) (thinned-started t)
  thinned-started (stayed {x = w} t) = ap (found_if (eqb s w.start) w) (thinned-started t)

  pub thinned-stamped : {ys xs : List Record} → Thinned (Low f) ys xs → stamped_at s ys ≡ stamped_at s xs
  unfolding stamped_at found_if
  thinned-stamped no_more = refl
  thinned-stamped (went {x = w} p t) = let l : w.stamp ≤ f = p.1 in rw (ne_eqb s w.stamp (λ e. omega arith)) (thinned-stamped t)
  thinned-stamped (stayed {x = w} t) = ap (found_if (eqb s w.stamp) w) (thinned-stamped t)

  pub thinned-rollback : {ys xs : List Record} → Thinned (Low f) ys xs → rollback_records s ys ≡ rollback_records s xs
  unfolding rollback_records need ◌▸◌
  thinned-rollback no_more = refl
  thinned-rollback (went {x = w} p t) = let l : w.start ≤ f = p.2 in rw (p.0, ne_eqb s w.start (λ e. omega arith)) (thinned-rollback t)
  thinned-rollback (stayed {x = w} t) = rw (thinned-rollback t)

pub thinned-sound : {f : ℕ} {ys xs : List Record} → Thinned (Low f) ys xs → all_sound ys ≡ all_sound xs
unfolding all_sound
thinned-sound no_more = refl
thinned-sound (went p t) = rw p.0 (thinned-sound t)
thinned-sound (stayed {x = w} t) = ap (λ (c : Bool). sound_record w && c) (thinned-sound t)

-- ---- rows

-- a row that stays is found
pub row_kept : (k : Key) (s : ℕ) (p : Default → Bool) (ds : List Default) → ((d : Default) → at_pair k s d ≡ true → p d ≡ true) → row_of k s (those p ds) ≡ row_of k s ds
unfolding row_of add_row those keep_if
row_kept k s p [] h = refl
row_kept k s p (d ∷ ds) h =
    let ih = row_kept k s p ds h in
    by-test (λ t. p d ≡ t → row_of k s (keep_if t d (those p ds)) ≡ add_row (at_pair k s d) d.row (row_of k s ds)) (p d)
    (λ q r. ap (add_row (at_pair k s d) d.row) ih)
    (λ q r. by-test (λ u. at_pair k s d ≡ u → row_of k s (those p ds) ≡ add_row u d.row (row_of k s ds)) (at_pair k s d) (λ g a. absurd (true≢false (sym (h d a) ∙ r))) (λ g a. ih) refl) refl
