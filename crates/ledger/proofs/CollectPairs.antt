-- What a collection leaves of a pair of key and start: its line and its row, or neither. So what it leaves of a tidy box is tidy. The pairs that
-- lose their line start at or below the floor. Assumes nothing.
use Prim.Native.Nat.{ℕ, ◌+◌, ◌≤◌, ◌<◌}
use native.Mathlib.Omega.{arith}
use mathlib.Core.Path.{◌≡◌, refl, sym, ap, ◌∙◌, subst}
use mathlib.Core.Logic.{◌⊎◌, inl, inr}
use mathlib.Core.Bool.{Bool, true, false, ◌&&◌, ◌||◌, not}
use mathlib.Core.List.{List, [], ◌∷◌}
use lib.ListN.{length}
use lib.Dec.{leb, eqb}
use borrow.Author.Tests.{leb-true, le-leb, ltb-false, eqb-false}
use Rattle.forms.specs.Key.{Key, key_form}
use Rattle.rules.specs.declared.records.Kind.{Kind}
use Rattle.rules.specs.declared.records.Kind.TheVariants.{Put, Delete, Rollback}
use Rattle.rules.specs.Box.{Box, Line, Standing, Finished, KeyLine, Default, start_of, kind_in, line_is, at_pair, eq_kind, records_of}
use Rattle.rules.specs.Sound.{sound_record}
use Rattle.rules.specs.Read.{keep_if}
use Rattle.rules.specs.Restore.{all_good, pointed_to}
use Rattle.rules.specs.Collect.{record_stays, stays, kept_lines, dropped_lines, row_stays, collected}
use Rattle.laws.proofs.StepLaws.{passed, by-test, and_left, and_right, and_both, and-false, or-false-left, not-true}
use Rattle.laws.proofs.Sorted.{In, Fewer, empty, gone, kept, fewer-good}
use Rattle.laws.proofs.RecordLaws.{sound-le}
use Rattle.laws.proofs.CollectLaws.{kept-fewer, dropped-fewer, collected-fewer}
use Rattle.ledger.specs.Ledger.{cons_if, chosen, lines_at, rows_at}
use Rattle.ledger.specs.Tidy.{RowsOf, Paired, free, taken, good_line, good_row, sound_line, Sound, Tidy}
use Rattle.ledger.proofs.ChosenLaws.{cons-nil, chosen-good}
use Rattle.ledger.proofs.PairRowLaws.{pair_is}
use Rattle.ledger.proofs.PartSoundLaws.{chosen-those, chosen-left, same-pair}

-- ---- what is chosen of a list of which some have gone

pub fewer-chosen : {A B : Type 0} (p : A → Bool) (g : A → B) {ys xs : List A} → Fewer ys xs → Fewer (chosen p g ys) (chosen p g xs)
unfolding chosen cons_if
fewer-chosen p g empty = empty
fewer-chosen p g (gone {x = x} {ys = ys} {xs = xs} q) = by-test (λ t. Fewer (chosen p g ys) (cons_if t (g x) (chosen p g xs))) (p x) (λ e. gone (fewer-chosen p g q)) (λ e. fewer-chosen p g q)
fewer-chosen p g (kept {x = x} {ys = ys} {xs = xs} q) =
    by-test (λ t. Fewer (cons_if t (g x) (chosen p g ys)) (cons_if t (g x) (chosen p g xs))) (p x) (λ e. kept (fewer-chosen p g q)) (λ e. fewer-chosen p g q)

fewer-nil : {A : Type 0} {ys : List A} → Fewer ys [] → ys ≡ []
fewer-nil empty = refl

fewer-none : {A : Type 0} {ys xs : List A} → Fewer ys xs → xs ≡ [] → ys ≡ []
fewer-none {ys = ys} q e = fewer-nil (subst (λ xs. Fewer ys xs) e q)

fewer-one : {A : Type 0} {x : A} {ys : List A} → Fewer ys (x ∷ []) → (ys ≡ []) ⊎ (ys ≡ x ∷ [])
fewer-one (gone q) = inl (fewer-nil q)
fewer-one {x = x} (kept q) = inr (ap (λ zs. x ∷ zs) (fewer-nil q))

no_length : {A : Type 0} (xs : List A) → length xs ≡ 0 → xs ≡ []
no_length [] e = refl
no_length (x ∷ xs) e = absurd (omega (arith, e))

-- ---- a dropped Put, and its row

pub pointed-none : (d : Default) (es : List KeyLine) → lines_at d.key d.start es ≡ [] → pointed_to es d ≡ false
unfolding pointed_to chosen
pointed-none d [] h = refl
pointed-none d (e ∷ es) h =
    let q = cons-nil (line_is d.key d.start e) e.line (lines_at d.key d.start es) h in
    rw (and-false (line_is d.key d.start e) (eq_kind (kind_in e.line) Put) q.0) (pointed-none d es q.1)

pub pointed-put : (d : Default) (es : List KeyLine) (x : Line) → lines_at d.key d.start es ≡ x ∷ [] → kind_in x ≡ Put → pointed_to es d ≡ true
unfolding pointed_to chosen cons_if
pointed-put d [] x h p = absurd (omega (arith, ap length h))
pointed-put d (e ∷ es) x h p = go (line_is d.key d.start e) h (pointed-put d es x)
  where
    go : (t : Bool) → cons_if t e.line (lines_at d.key d.start es) ≡ x ∷ [] → (lines_at d.key d.start es ≡ x ∷ [] → kind_in x ≡ Put → pointed_to es d ≡ true)
        → (t && eq_kind (kind_in e.line) Put) || pointed_to es d ≡ true
    go true h ih = let q : e.line ≡ x = cc in rw (q, p)
    go false h ih = ih h p

-- ---- the pair

-- its line and its row, or neither
pub data PairLeft (f : ℕ) (b : Box) (k : Key) (s : ℕ) : Type 0 where
  whole : lines_at k s (collected f b).lines ≡ lines_at k s b.lines → rows_at k s (collected f b).defaults ≡ rows_at k s b.defaults → lines_at k s (dropped_lines f b.lines) ≡ [] → PairLeft f b k s
  neither : lines_at k s (collected f b).lines ≡ [] → rows_at k s (collected f b).defaults ≡ [] → (x : Line) → lines_at k s (dropped_lines f b.lines) ≡ x ∷ [] → PairLeft f b k s

-- each line stays or goes
split : (f : ℕ) (k : Key) (s : ℕ) (es : List KeyLine) → length (lines_at k s es) ≡ length (lines_at k s (kept_lines f es)) + length (lines_at k s (dropped_lines f es))
unfolding chosen cons_if kept_lines dropped_lines keep_if
split f k s [] = refl
split f k s (e ∷ es) =
    let ih = split f k s es in
    by-test (λ t. length (cons_if (line_is k s e) e.line (lines_at k s es)) ≡ length (lines_at k s (keep_if t e (kept_lines f es))) + length (lines_at k s (keep_if (not t) e (dropped_lines f es)))) (stays f es e)
    (λ q. by-test (λ u. length (cons_if u e.line (lines_at k s es)) ≡ length (cons_if u e.line (lines_at k s (kept_lines f es))) + length (lines_at k s (dropped_lines f es))) (line_is k s e) (λ r. omega (arith, ih)) (λ r. ih))
    (λ q. by-test (λ u. length (cons_if u e.line (lines_at k s es)) ≡ length (lines_at k s (kept_lines f es)) + length (cons_if u e.line (lines_at k s (dropped_lines f es)))) (line_is k s e) (λ r. omega (arith, ih)) (λ r. ih))

module _ (f : ℕ) (b : Box) (k : Key) (s : ℕ) where
  abbrev kept_at : List Line
  kept_at = lines_at k s (kept_lines f b.lines)

  abbrev dropped_at : List Line
  dropped_at = lines_at k s (dropped_lines f b.lines)

  -- the row of a line that stays
  rows_whole : dropped_at ≡ [] → rows_at k s (collected f b).defaults ≡ rows_at k s b.defaults
  unfolding collected
  rows_whole n =
      chosen-those (at_pair k s) (λ (d : Default). d.row) (row_stays f b.lines)
      (λ d p. let j = pair_is k d.key s d.start p in ap not (pointed-none d (dropped_lines f b.lines) (rw (sym j.0, sym j.1) n))) b.defaults

  -- and of one that goes
  rows-neither : (x : Line) → dropped_at ≡ x ∷ [] → RowsOf (kind_in x) (rows_at k s b.defaults) → rows_at k s (collected f b).defaults ≡ []
  unfolding collected
  rows-neither x n d = go (kind_in x) refl d
    where
      fewer : rows_at k s b.defaults ≡ [] → rows_at k s (collected f b).defaults ≡ []
      fewer e = fewer-none (fewer-chosen (at_pair k s) (λ (d : Default). d.row) (collected-fewer f b).defaults) e

      go : (kind : Kind) → kind_in x ≡ kind → RowsOf kind (rows_at k s b.defaults) → rows_at k s (collected f b).defaults ≡ []
      go Put p d =
          chosen-left (at_pair k s) (λ (d : Default). d.row) (row_stays f b.lines)
          (λ d q. let j = pair_is k d.key s d.start q in ap not (pointed-put d (dropped_lines f b.lines) x (rw (sym j.0, sym j.1) n) p)) b.defaults
      go Delete p d = fewer d
      go Rollback p d = fewer d

  kept-at : Fewer kept_at (lines_at k s b.lines)
  kept-at = fewer-chosen (line_is k s) (λ (e : KeyLine). e.line) (kept-fewer f b.lines)

  dropped-at : Fewer dropped_at (lines_at k s b.lines)
  dropped-at = fewer-chosen (line_is k s) (λ (e : KeyLine). e.line) (dropped-fewer f b.lines)

  pub pair_left : Paired b k s → PairLeft f b k s
  unfolding collected
  pair_left (free a d) = whole (fewer-none kept-at a ∙ sym a) (rows_whole (fewer-none dropped-at a)) (fewer-none dropped-at a)
  pair_left (taken x a d) = go (fewer-one (subst (λ (xs : List Line). Fewer kept_at xs) a kept-at)) (fewer-one (subst (λ (xs : List Line). Fewer dropped_at xs) a dropped-at))
    where
      all : 1 ≡ length kept_at + length dropped_at
      all = ap length (sym a) ∙ split f k s b.lines

      go : (kept_at ≡ []) ⊎ (kept_at ≡ x ∷ []) → (dropped_at ≡ []) ⊎ (dropped_at ≡ x ∷ []) → PairLeft f b k s
      go (inr p) q = let n : dropped_at ≡ [] = no_length dropped_at (omega (arith, all, ap length p)) in whole (p ∙ sym a) (rows_whole n) n
      go (inl p) (inr q) = neither p (rows-neither x q d) x q
      go (inl p) (inl q) = absurd (omega (arith, all, ap length p, ap length q))

-- ---- the box

module _ (f : ℕ) (b : Box) where
  pub collected-sound : Sound b → Sound (collected f b)
  collected-sound v = record { lines = fewer-good good_line (collected-fewer f b).lines v.lines; rows = fewer-good good_row (collected-fewer f b).defaults v.rows }

  pub collected-tidy : Tidy b → Tidy (collected f b)
  collected-tidy v = record { pairs = λ k s. go k s (pair_left f b k s (v.pairs k s)); sound = collected-sound v.sound }
    where
      go : (k : Key) (s : ℕ) → PairLeft f b k s → Paired (collected f b) k s
      go k s (whole a d n) = same-pair {b = b} {c = collected f b} a d (v.pairs k s)
      go k s (neither a d x n) = free a d

-- ---- what goes is at or below the floor

abbrev low_line : ℕ → KeyLine → Bool
low_line f e = leb (start_of e.line) f && not (eqb (start_of e.line) 0)

dropped-good : (f : ℕ) (es : List KeyLine) → all_good good_line es ≡ true → all_good (low_line f) (dropped_lines f es) ≡ true
unfolding all_good dropped_lines keep_if
dropped-good f [] g = refl
dropped-good f (e ∷ es) g = go e.key e.line (and_left (good_line e) _ g) (dropped-good f es (and_right (good_line e) _ g))
  where
    go : (j : Key) (x : Line) → key_form j && sound_line x ≡ true → all_good (low_line f) (dropped_lines f es) ≡ true → all_good (low_line f) (keep_if (not (stays f es (record { key = j; line = x }))) (record { key = j; line = x }) (dropped_lines f es)) ≡ true
    go j (Standing l) h ih = ih
    go j (Finished w) h ih =
        let s : sound_record w ≡ true = and_right (key_form j) _ h in
        let z : not (eqb w.start 0) ≡ true = search passed in
        by-test (λ t. record_stays f (records_of j es) w ≡ t → all_good (low_line f) (keep_if (not t) (record { key = j; line = Finished w }) (dropped_lines f es)) ≡ true) (record_stays f (records_of j es) w)
        (λ q r. ih)
        (λ q r. let l : w.stamp ≤ f = ltb-false f w.stamp (or-false-left _ _ r) in and_both _ _ (and_both _ _ (le-leb w.start f (omega (arith, sound-le w s))) z) ih) refl

pub dropped-low : (f : ℕ) (b : Box) → Sound b → (k : Key) (s : ℕ) (x : Line) → In x (lines_at k s (dropped_lines f b.lines)) → (0 < s) × (s ≤ f)
dropped-low f b v k s x m =
    chosen-good (line_is k s) (λ (e : KeyLine). e.line) (low_line f) (λ z. (0 < s) × (s ≤ f)) at (dropped_lines f b.lines) x (dropped-good f b.lines v.lines) m
  where
    at : (e : KeyLine) → line_is k s e ≡ true → low_line f e ≡ true → (0 < s) × (s ≤ f)
    at e p q =
        let j : s ≡ start_of e.line = (pair_is k e.key s (start_of e.line) p).1 in
        let l : start_of e.line ≤ f = leb-true _ _ (and_left _ _ q) in
        let n : start_of e.line ≡ 0 → ⊥ = eqb-false _ _ (not-true _ (and_right (leb (start_of e.line) f) _ q)) in
        (omega (arith, j, n), omega (arith, j, l))
