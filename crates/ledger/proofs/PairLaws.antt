-- The claim on pairs: one law for what every accepted entry does to it, what it says of a pair whatever was named, and the way back from
-- there by the names of the box's own lines. Assumes nothing.
use Prim.Native.Nat.{ℕ}
use mathlib.Core.Path.{◌≡◌, refl, sym, ◌∙◌}
use mathlib.Core.Bool.{Bool, true, false, ◌||◌}
use mathlib.Core.List.{List, [], ◌∷◌}
use mathlib.Core.Option.{Option, none, some}
use Rattle.forms.specs.Key.{Key}
use Rattle.forms.specs.Row.{Row}
use Rattle.rules.specs.declared.records.Kind.{Kind}
use Rattle.rules.specs.declared.records.Kind.TheVariants.{Put, Delete, Rollback}
use Rattle.rules.specs.Box.{Box, Line, KeyLine, Default, start_of, kind_in, line_is, eq_kind, row_of}
use Rattle.rules.specs.Calls.{non_empty}
use Rattle.laws.proofs.StepLaws.{by-test}
use Rattle.laws.proofs.Sorted.{In}
use Rattle.ledger.specs.Ledger.{Named, each_named, is_at, named, last_row, row_if, or_older, cons_if, chosen, lines_at, rows_at, of_line, RowFits, Fate, absent, present, Holds}
use Rattle.ledger.specs.Tidy.{RowsOf, Paired, free, taken}
use Rattle.ledger.proofs.ChosenLaws.{in-nil, sole}
use Rattle.ledger.proofs.PairRowLaws.{first_of, row_first, pair_is}

pub fate-move : (b c : Box) (k : Key) (s : ℕ) (r : Option Row) (t : Bool) → lines_at k s c.lines ≡ lines_at k s b.lines → rows_at k s c.defaults ≡ rows_at k s b.defaults → Fate b k s r t → Fate c k s r t
fate-move b c k s r false p q (absent a d) = absent (p ∙ a) (q ∙ d)
fate-move b c k s r true p q (present x a d) = present x (p ∙ a) (rw q d)

-- an accepted entry leaves the other pairs as they were
abbrev pub Apart : Box → Box → Named → Type 0
Apart b c n = (k : Key) (s : ℕ) → is_at k s n ≡ false → (lines_at k s c.lines ≡ lines_at k s b.lines) × (rows_at k s c.defaults ≡ rows_at k s b.defaults)

-- and its own with one line and the last row
abbrev pub Own : Box → Named → List Named → Type 0
Own c n log = Fate c n.key n.start (or_older n.row (last_row n.key n.start log)) true

pub extend : (b c : Box) (n : Named) (log : List Named) → Holds b log → Apart b c n → Own c n log → Holds c (n ∷ log)
unfolding named last_row row_if or_older
extend b c n log hs others own k s =
    let here : is_at k s n ≡ true → (k ≡ n.key) × (s ≡ n.start) = pair_is k n.key s n.start in
    by-test (λ t. Fate c k s (or_older (row_if t n.row) (last_row k s log)) (t || named k s log)) (is_at k s n) (λ e. rw ((here e).0, (here e).1) own)
    (λ e. fate-move b c k s _ _ (others k s e).0 (others k s e).1 (hs k s))

-- a pair that has a line has no other, and its row fits it
pub has_one : (b : Box) (k : Key) (s : ℕ) (r : Option Row) (t : Bool) (z : Line) → Fate b k s r t → In z (lines_at k s b.lines) → (lines_at k s b.lines ≡ z ∷ []) × RowFits (kind_in z) r (rows_at k s b.defaults)
has_one b k s r false z (absent a d) h = absurd (in-nil z _ h a)
has_one b k s r true z (present x a d) h = (rw (sole z x _ h a) a, rw (sole z x _ h a) d)

-- a pair without a line has no row
pub has-none : (b : Box) (k : Key) (s : ℕ) (r : Option Row) (t : Bool) → Fate b k s r t → lines_at k s b.lines ≡ [] → rows_at k s b.defaults ≡ []
has-none b k s r false (absent a d) h = d
has-none b k s r true (present x a d) h = cc

-- so, whatever was named: no line and no row, or one line and its rows
pub paired : (b : Box) (k : Key) (s : ℕ) (r : Option Row) (t : Bool) → Fate b k s r t → Paired b k s
paired b k s r false (absent a d) = free a d
paired b k s r true (present x a d) = taken x a (go (kind_in x) r d)
  where
    go : (kind : Kind) (r : Option Row) → RowFits kind r (rows_at k s b.defaults) → RowsOf kind (rows_at k s b.defaults)
    go Put none f = absurd f
    go Put (some q) f = (q, f)
    go Delete r f = f
    go Rollback r f = f

-- ---- a box whose pairs are so keeps the claim with the names of its own lines

-- the row of a pair's lines: that of the first Put
abbrev row_among : Option Row → List Line → Option Row
row_among stored [] = none
row_among stored (x ∷ xs) = or_older (row_if (eq_kind (kind_in x) Put) stored) (row_among stored xs)

module _ (k : Key) (s : ℕ) (ds : List Default) where
  pub named-lines : (es : List KeyLine) → named k s (each_named (of_line ds) es) ≡ non_empty (lines_at k s es)
  unfolding each_named named chosen cons_if
  named-lines [] = refl
  named-lines (e ∷ es) =
      by-test (λ t. t || named k s (each_named (of_line ds) es) ≡ non_empty (cons_if t e.line (lines_at k s es))) (line_is k s e) (λ q. refl) (λ q. named-lines es)

  row-lines : (es : List KeyLine) → last_row k s (each_named (of_line ds) es) ≡ row_among (row_of k s ds) (lines_at k s es)
  unfolding each_named last_row row_if or_older chosen cons_if
  row-lines [] = refl
  row-lines (e ∷ es) =
      let ih = row-lines es in
      let own : line_is k s e ≡ true → row_of e.key (start_of e.line) ds ≡ row_of k s ds = λ q. let p = pair_is k e.key s (start_of e.line) q in rw (p.0, p.1) in
      by-test (λ t. or_older (row_if t (of_line ds e).row) (last_row k s (each_named (of_line ds) es)) ≡ row_among (row_of k s ds) (cons_if t e.line (lines_at k s es))) (line_is k s e)
      (λ q. rw (own q, ih)) (λ q. ih)

-- the lines and the defaults may stand elsewhere, as long as they are the box's
pub own-holds : (b : Box) (es : List KeyLine) (ds : List Default) → ((k : Key) (s : ℕ) → Paired b k s)
    → ((k : Key) (s : ℕ) → lines_at k s b.lines ≡ lines_at k s es) → ((k : Key) (s : ℕ) → rows_at k s b.defaults ≡ rows_at k s ds) → Holds b (each_named (of_line ds) es)
unfolding row_if or_older
own-holds b es ds ps ls rs k s = rw (named-lines k s ds es, row-lines k s ds es, row_first k s ds, sym (ls k s), sym (rs k s)) (fate (ps k s))
  where
    row_fits : (kind : Kind) (stored : List Row) → RowsOf kind stored → RowFits kind (or_older (row_if (eq_kind kind Put) (first_of stored)) none) stored
    row_fits Put stored d = rw d.1
    row_fits Delete stored e = e
    row_fits Rollback stored e = e

    fate : Paired b k s → Fate b k s (row_among (first_of (rows_at k s b.defaults)) (lines_at k s b.lines)) (non_empty (lines_at k s b.lines))
    fate (free a d) = rw a (absent a d)
    fate (taken x a d) = rw a (present x a (row_fits (kind_in x) _ d))
