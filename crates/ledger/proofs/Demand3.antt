-- Demand 3 whole: with the pairs, the number of lines and the sum of locks and records, less those that collections dropped. All follow from the
-- claim on pairs alone. Where the floor is 0 nothing was dropped, and it is document 01's sentence.
-- Assumes nothing.
use Prim.Native.Nat.{ℕ, suc, ◌+◌, ◌≤◌}
use native.Mathlib.Omega.{arith}
use mathlib.Core.Path.{◌≡◌, refl, ap, sym, ◌∙◌}
use mathlib.Core.Bool.{Bool, true, false, ◌||◌, true≢false}
use mathlib.Core.List.{List, [], ◌∷◌}
use mathlib.Core.Option.{Option}
use lib.ListN.{length}
use Rattle.forms.specs.Key.{Key}
use Rattle.forms.specs.Row.{Row}
use Rattle.rules.specs.Box.{Box, Line, Standing, Finished, KeyLine}
use Rattle.rules.specs.Room.{sum_of, one_lock, lock_count}
use Rattle.rules.specs.Figures.{stats, figures, record_keys, add_finished}
use Rattle.laws.proofs.StepLaws.{by-test}
use Rattle.rules.specs.Call.{Changing}
use Rattle.ledger.specs.Ledger.{Named, is_at, named, last_row, Past, after, empty, start_of, line_is, chosen, lines_at, cons_if, Fate, absent, present, AtMost, none_left, one_left, different_pairs, suc_unless, Demand3, OldDemand3}
use Rattle.ledger.proofs.ChosenLaws.{without, without_gone, without-stays, without-length}
use Rattle.ledger.proofs.PairRowLaws.{self, pair_is, apart}
use Rattle.ledger.proofs.Undropped.{one, named-gone, named-there, row-there, struck, struck-own, struck-other, struck-pairs}
use Rattle.ledger.proofs.Pairs.{Claim, not-dropped, pairs}

-- ---- each named pair has one line, and no other pair any

abbrev Once : List KeyLine → List Named → Type 0
Once es log = (k : Key) (s : ℕ) → length (lines_at k s es) ≡ one (named k s log)

-- the same, with the pairs whose line was dropped
abbrev OnceOr : List KeyLine → List Named → List Named → Type 0
OnceOr es ds log = (k : Key) (s : ℕ) → length (lines_at k s es) + one (named k s ds) ≡ one (named k s log)

once : (f : ℕ) (b : Box) (ds log : List Named) → Claim f ds b log → OnceOr b.lines ds log
once f b ds log v k s =
    by-test (λ t. named k s ds ≡ t → length (lines_at k s b.lines) + one t ≡ one (named k s log)) (named k s ds)
    (λ e r. let n = go _ (v.fates k s) in omega (arith, rw (named-gone k s ds r log) at n, ap one (v.known k s r)))
    (λ e r. let n = go _ (v.fates k s) in omega (arith, rw (named-there k s ds r log) at n)) refl
  where
    go : (t : Bool) {r : Option Row} → Fate b k s r t → length (lines_at k s b.lines) ≡ one t
    go false (absent a d) = ap length a
    go true (present x a d) = ap length a

-- ---- the count, name by name

-- no pair has a line: there is no line
no_line : (es : List KeyLine) → Once es [] → length es ≡ 0
unfolding named chosen cons_if
no_line [] h = refl
no_line (e ∷ es) h =
    let t : line_is e.key (start_of e.line) e ≡ true = self e.key (start_of e.line) in
    let z : suc (length (lines_at e.key (start_of e.line) es)) ≡ 0 = rw t at (h e.key (start_of e.line)) in
    omega arith

module _ (n : Named) (log : List Named) (es : List KeyLine) (h : Once es (n ∷ log)) where
  at_own : length (lines_at n.key n.start es) ≡ 1
  unfolding named
  at_own = h n.key n.start ∙ rw (self n.key n.start)

  known-before : named n.key n.start log ≡ true → Once es log
  unfolding named
  known-before p k s =
      let again : is_at k s n ≡ true → named k s log ≡ true = λ e. let q = pair_is k n.key s n.start e in rw (q.0, q.1) p in
      by-test (λ t. length (lines_at k s es) ≡ one (t || named k s log) → length (lines_at k s es) ≡ one (named k s log)) (is_at k s n) (λ e r. r ∙ ap one (sym (again e))) (λ e r. r) (h k s)

  -- the lines without those of the pair
  abbrev others : List KeyLine
  others = without (line_is n.key n.start) es

  new-now : named n.key n.start log ≡ false → Once others log
  unfolding named
  new-now p k s =
      let gone : is_at k s n ≡ true → length (lines_at k s others) ≡ one (named k s log) = λ e. let q = pair_is k n.key s n.start e in
      rw (q.0, q.1) (ap length (without_gone (line_is n.key n.start) (λ (e : KeyLine). e.line) es) ∙ ap one (sym p)) in
      by-test (λ t. length (lines_at k s es) ≡ one (t || named k s log) → length (lines_at k s others) ≡ one (named k s log)) (is_at k s n) (λ e r. gone e)
      (λ e r. ap length (without-stays (line_is k s) (λ (e : KeyLine). e.line) (line_is n.key n.start) (λ f. apart k n.key s n.start f.key (start_of f.line) e) es) ∙ r) (h k s)

count : (log : List Named) (es : List KeyLine) → Once es log → length es ≡ different_pairs log
unfolding different_pairs suc_unless
count [] es h = no_line es h
count (n ∷ log) es h =
    by-test (λ t. length es ≡ suc_unless t (different_pairs log)) (named n.key n.start log) (λ p. count log es (known-before n log es h p))
    (λ p. omega (arith, without-length (line_is n.key n.start) (λ (e : KeyLine). e.line) es, at_own n log es h, count log (others n log es h) (new-now n log es h p)))

at_most_one : (t : Bool) → one t ≤ 1
at_most_one true = omega arith
at_most_one false = omega arith

-- a dropped pair has no line, and is struck from the names
count-or : (ds : List Named) (es : List KeyLine) (log : List Named) → OnceOr es ds log → length es + different_pairs ds ≡ different_pairs log
unfolding different_pairs suc_unless named
count-or [] es log h = omega (arith, count log es (λ k s. omega (arith, h k s)))
count-or (d ∷ ds) es log h =
    by-test (λ t. named d.key d.start ds ≡ t → length es + suc_unless t (different_pairs ds) ≡ different_pairs log) (named d.key d.start ds)
    (λ p r. count-or ds es log (again r)) (λ p r. omega (arith, count-or ds es (struck d log) (new r), struck-pairs d log, here, at_most_one (named d.key d.start log))) refl
  where
    here : length (lines_at d.key d.start es) + 1 ≡ one (named d.key d.start log)
    here = rw (self d.key d.start) at (h d.key d.start)

    again : named d.key d.start ds ≡ true → OnceOr es ds log
    again p k s =
        by-test (λ t. is_at k s d ≡ t → length (lines_at k s es) + one (t || named k s ds) ≡ one (named k s log) → length (lines_at k s es) + one (named k s ds) ≡ one (named k s log)) (is_at k s d)
        (λ e r q. let j = pair_is k d.key s d.start r in rw (rw (sym j.0, sym j.1) at p) q) (λ e r q. q) refl (h k s)

    new : named d.key d.start ds ≡ false → OnceOr es ds (struck d log)
    new p k s =
        by-test (λ t. is_at k s d ≡ t → length (lines_at k s es) + one (t || named k s ds) ≡ one (named k s log) → length (lines_at k s es) + one (named k s ds) ≡ one (named k s (struck d log))) (is_at k s d)
        (λ e r q. let j = pair_is k d.key s d.start r in rw (j.0, j.1, p, struck-own d log) (none (named d.key d.start log) here)) (λ e r q. rw (struck-other k s d log r) q) refl (h k s)
      where
        none : (t : Bool) → length (lines_at d.key d.start es) + 1 ≡ one t → length (lines_at d.key d.start es) + 0 ≡ 0
        none true q = omega (arith, q)
        none false q = omega (arith, q)

-- ---- the statistics count each line once, as a lock or as a record

parts-cons : (k : Key) (x : Line) (n a : ℕ) (ks : List Key) → n ≡ a + length ks → suc n ≡ (one_lock x + a) + length (add_finished k x ks)
parts-cons k (Standing l) n a ks h = omega arith
parts-cons k (Finished w) n a ks h = omega arith

parts : (es : List KeyLine) → length es ≡ lock_count es + length (record_keys es)
unfolding sum_of record_keys
parts [] = refl
parts (e ∷ es) = parts-cons e.key e.line (length es) (lock_count es) (record_keys es) (parts es)

sum_is : (b : Box) → (stats b).locks + (stats b).records.all ≡ length b.lines
unfolding stats figures
sum_is b = sym (parts b.lines)

-- ---- the theorem

-- a fate is at most one line
most : (b : Box) (k : Key) (s : ℕ) (r : Option Row) (t : Bool) → Fate b k s r t → AtMost b k s r t
most b k s r false (absent a d) = none_left a d
most b k s r true (present x a d) = one_left x a d

gone : (b : Box) (k : Key) (s : ℕ) (r last : Option Row) (t u : Bool) → t ≡ false → Fate b k s r t → AtMost b k s last u
gone b k s r last false u e (absent a d) = none_left a d
gone b k s r last true u e (present x a d) = absurd (true≢false e)

module _ (p : Past) (v : Claim p.floor p.dropped p.box p.log) where
  -- a pair that was not dropped
  there : (k : Key) (s : ℕ) → named k s p.dropped ≡ false → Fate p.box k s (last_row k s p.log) (named k s p.log)
  there k s d = rw (named-there k s p.dropped d p.log, row-there k s p.dropped d p.log) at (v.fates k s)

  lines_are : length p.box.lines + different_pairs p.dropped ≡ different_pairs p.log
  lines_are = count-or p.dropped p.box.lines p.log (once p.floor p.box p.dropped p.log v)

  pub holding : Demand3 p
  holding = record {
    above = λ k s l. there k s (not-dropped p.floor p.dropped p.box p.log v k s l);
    at-or-below = λ k s l.
        by-test (λ t. named k s p.dropped ≡ t → AtMost p.box k s (last_row k s p.log) (named k s p.log)) (named k s p.dropped)
        (λ e r. gone p.box k s _ _ _ _ (named-gone k s p.dropped r p.log) (v.fates k s)) (λ e r. most p.box k s _ _ (there k s r)) refl;
    pairs = v.fates;
    sum = omega (arith, sum_is p.box, lines_are);
    lines = lines_are;
  }

  -- on the floor 0 nothing was dropped
  none_dropped : p.floor ≡ 0 → (ds : List Named) → p.dropped ≡ ds → ds ≡ []
  unfolding named
  none_dropped z [] e = refl
  none_dropped z (d ∷ ds) e =
      let l = v.low d.key d.start (rw (e, self d.key d.start)) in
      absurd (omega (arith, l.0, l.1, z))

  pub old-holding : p.floor ≡ 0 → OldDemand3 p
  unfolding named different_pairs
  old-holding z =
      let e : p.dropped ≡ [] = none_dropped z p.dropped refl in
      let l : length p.box.lines + 0 ≡ different_pairs p.log = rw e at lines_are in
      record { pairs = λ k s. there k s (rw e); sum = omega (arith, sum_is p.box, l); lines = omega (arith, l) }

pub demand3 : (cs : List Changing) → Demand3 (after cs empty)
demand3 cs = holding (after cs empty) (pairs cs)

-- and document 01's sentence, where the floor is 0
pub old-demand3 : (cs : List Changing) → (after cs empty).floor ≡ 0 → OldDemand3 (after cs empty)
old-demand3 cs z = old-holding (after cs empty) (pairs cs) z
