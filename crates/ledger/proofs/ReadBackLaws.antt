-- The entries of a tidy box in order whose keys are all of one table are an image that restore finds good and not sick.
-- Assumes nothing.
use Prim.Native.Nat.{ℕ}
use mathlib.Core.Path.{◌≡◌, refl, sym, ap, ap₂, ◌∙◌}
use mathlib.Core.Logic.{◌⊎◌, inl, inr}
use mathlib.Core.Bool.{Bool, true, false, ◌&&◌, ◌||◌, not}
use mathlib.Core.List.{List, [], ◌∷◌, ◌++◌, map}
use Rattle.forms.specs.Bytes.{eq_bytes}
use Rattle.forms.specs.Key.{Key}
use Rattle.forms.specs.Row.{Row}
use Rattle.forms.specs.Readers.{is_some}
use Rattle.forms.proofs.Orders.{eq_bytes-sym}
use Rattle.rules.specs.declared.records.Kind.{Kind}
use Rattle.rules.specs.declared.records.Kind.TheVariants.{Put, Delete, Rollback}
use Rattle.rules.specs.Box.{Box, Line, Standing, Finished, KeyLine, Default, start_of, kind_in, eq_kind, line_is, at_pair, before, row_before, all_after, ordered, row_of}
use Rattle.rules.specs.Page.{KeyLock, locks_of}
use Rattle.rules.specs.Image.{KeyRecord}
use Rattle.rules.specs.Restore.{all_good, none_like, no_second, kind_has_default, like_default, like_lock, like_write, lock_line, write_line, points_to, pointed_to, like_line}
use Rattle.rules.specs.Capture.{writes_of}
use Rattle.laws.proofs.StepLaws.{and_left, and_right, and_both, not-true}
use Rattle.laws.proofs.Sorted.{In}
use Rattle.laws.proofs.BoxOrder.{same_place, before-apart, row_before-apart, eqb-sym}
use Rattle.laws.proofs.TablePartLaws.{apart_in, in-apart}
use Rattle.ledger.specs.Ledger.{cons_if, chosen, lines_at, rows_at}
use Rattle.ledger.specs.Tidy.{RowsOf, Paired, free, taken, Tidy}
use Rattle.ledger.proofs.ChosenLaws.{cons-nil, in-cons, in-nil, sole}
use Rattle.ledger.proofs.PairRowLaws.{first_of, row_first, self}

not-false : (a : Bool) → a ≡ false → not a ≡ true
not-false a h = rw h

-- ---- no second of its like, as each stands before all that follow

pub defaults_once : (ds : List Default) → ordered row_before ds ≡ true → no_second like_default ds ≡ true
unfolding ordered no_second all_after none_like
defaults_once [] o = refl
defaults_once (d ∷ ds) o = and_both _ _ (none ds (and_left _ _ o)) (defaults_once ds (and_right (all_after row_before d ds) _ o))
  where
    none : (es : List Default) → all_after row_before d es ≡ true → none_like like_default d es ≡ true
    none [] a = refl
    none (e ∷ es) a = and_both _ _ (not-false _ (row_before-apart d e (and_left _ _ a))) (none es (and_right (row_before d e) _ a))

abbrev line_at : Key → Line → KeyLine
line_at k x = record { key = k; line = x }

and-true : (t : Bool) → t && true ≡ false → t ≡ false
and-true true h = h
and-true false h = refl

no-lock : (x : KeyLock) (es : List KeyLine) → all_after before (lock_line x) es ≡ true → none_like like_lock x (locks_of es) ≡ true
unfolding all_after none_like locks_of same_place
no-lock x [] a = refl
no-lock x (e ∷ es) a = go e.key e.line (before-apart (lock_line x) e (and_left _ _ a)) (no-lock x es (and_right (before (lock_line x) e) _ a))
  where
    go : (k : Key) (y : Line) → same_place (lock_line x) (line_at k y) ≡ false → none_like like_lock x (locks_of es) ≡ true → none_like like_lock x (locks_of (line_at k y ∷ es)) ≡ true
    go k (Standing l) h ih = and_both _ _ (not-false (eq_bytes x.key k) (and-true (eq_bytes x.key k) h)) ih
    go k (Finished w) h ih = ih

no_write : (x : KeyRecord) (es : List KeyLine) → all_after before (write_line x) es ≡ true → none_like like_write x (writes_of es) ≡ true
unfolding all_after none_like writes_of same_place
no_write x [] a = refl
no_write x (e ∷ es) a = go e.key e.line (before-apart (write_line x) e (and_left _ _ a)) (no_write x es (and_right (before (write_line x) e) _ a))
  where
    go : (k : Key) (y : Line) → same_place (write_line x) (line_at k y) ≡ false → none_like like_write x (writes_of es) ≡ true → none_like like_write x (writes_of (line_at k y ∷ es)) ≡ true
    go k (Standing l) h ih = ih
    go k (Finished w) h ih = and_both _ _ (not-false _ h) ih

pub locks_once : (es : List KeyLine) → ordered before es ≡ true → no_second like_lock (locks_of es) ≡ true
unfolding ordered no_second locks_of
locks_once [] o = refl
locks_once (e ∷ es) o = go e.key e.line (and_left _ _ o) (locks_once es (and_right (all_after before e es) _ o))
  where
    go : (k : Key) (y : Line) → all_after before (line_at k y) es ≡ true → no_second like_lock (locks_of es) ≡ true → no_second like_lock (locks_of (line_at k y ∷ es)) ≡ true
    go k (Standing l) a ih = and_both _ _ (no-lock (record { key = k; lock = l }) es a) ih
    go k (Finished w) a ih = ih

pub writes_once : (es : List KeyLine) → ordered before es ≡ true → no_second like_write (writes_of es) ≡ true
unfolding ordered no_second writes_of
writes_once [] o = refl
writes_once (e ∷ es) o = go e.key e.line (and_left _ _ o) (writes_once es (and_right (all_after before e es) _ o))
  where
    go : (k : Key) (y : Line) → all_after before (line_at k y) es ≡ true → no_second like_write (writes_of es) ≡ true → no_second like_write (writes_of (line_at k y ∷ es)) ≡ true
    go k (Standing l) a ih = ih
    go k (Finished w) a ih = and_both _ _ (no_write (record { key = k; write = w }) es a) ih

-- ---- one line of a pair

-- what is in the list is chosen
pub in-chosen : {A B : Type 0} (p : A → Bool) (f : A → B) (xs : List A) (x : A) → In x xs → p x ≡ true → In (f x) (chosen p f xs)
unfolding chosen cons_if
in-chosen p f (y ∷ ys) x (inl e) h = subst-in e
  where
    subst-in : x ≡ y → In (f x) (cons_if (p y) (f y) (chosen p f ys))
    subst-in e = rw (sym e, h) (inl refl)
in-chosen p f (y ∷ ys) x (inr m) h = in-cons (p y) (f x) (f y) (chosen p f ys) (in-chosen p f ys x m h)
in-chosen {A = A} {B = B} p f [] x x4 h = elim x4 [ ]

-- what is chosen is in the list
chosen-in : {A B : Type 0} (p : A → Bool) (f : A → B) (xs : List A) (z : B) → In z (chosen p f xs) → (x : A) × In x xs × (p x ≡ true) × (z ≡ f x)
unfolding chosen cons_if
chosen-in p f (y ∷ ys) z m = go (p y) refl m (chosen-in p f ys z)
  where
    late : (x : _) × In x ys × (p x ≡ true) × (z ≡ f x) → (x : _) × In x (y ∷ ys) × (p x ≡ true) × (z ≡ f x)
    late r = (r.0, inr r.1, r.2, r.3)

    go : (t : Bool) → p y ≡ t → In z (cons_if t (f y) (chosen p f ys)) → (In z (chosen p f ys) → (x : _) × In x ys × (p x ≡ true) × (z ≡ f x)) → (x : _) × In x (y ∷ ys) × (p x ≡ true) × (z ≡ f x)
    go true e (inl q) ih = (y, inl refl, e, q)
    go true e (inr q) ih = late (ih q)
    go false e q ih = late (ih q)
chosen-in {A = A} {B = B} p f [] z m = elim m [ ]

-- a pair has no second line
abbrev Single : List KeyLine → Type 0
Single es = (k : Key) (s : ℕ) → (lines_at k s es ≡ []) ⊎ ((x : Line) × (lines_at k s es ≡ x ∷ []))

single : {b : Box} {k : Key} {s : ℕ} → Paired b k s → (lines_at k s b.lines ≡ []) ⊎ ((x : Line) × (lines_at k s b.lines ≡ x ∷ []))
single (free a d) = inl a
single (taken x a d) = inr (x, a)

none-like : (e : KeyLine) (es : List KeyLine) → lines_at e.key (start_of e.line) es ≡ [] → none_like like_line e es ≡ true
unfolding none_like chosen
none-like e [] h = refl
none-like e (f ∷ fs) h = let q = cons-nil (line_is e.key (start_of e.line) f) f.line (lines_at e.key (start_of e.line) fs) h in and_both _ _ (not-false _ q.0) (none-like e fs q.1)

single-rest : (e : KeyLine) (es : List KeyLine) → Single (e ∷ es) → Single es
unfolding chosen cons_if
single-rest e es v k s = go (line_is k s e) (v k s)
  where
    go : (t : Bool) → (cons_if t e.line (lines_at k s es) ≡ []) ⊎ ((x : Line) × (cons_if t e.line (lines_at k s es) ≡ x ∷ [])) → (lines_at k s es ≡ []) ⊎ ((x : Line) × (lines_at k s es ≡ x ∷ []))
    go true (inl h) = inl (cc)
    go true (inr h) = inl (let q = h.1 in cc)
    go false h = h

pub lines_once : (es : List KeyLine) → Single es → no_second like_line es ≡ true
unfolding no_second chosen cons_if
lines_once [] v = refl
lines_once (e ∷ es) v = and_both _ _ (none-like e es (go (v e.key (start_of e.line)))) (lines_once es (single-rest e es v))
  where
    go : (cons_if (line_is e.key (start_of e.line) e) e.line (lines_at e.key (start_of e.line) es) ≡ []) ⊎ ((x : Line) × (cons_if (line_is e.key (start_of e.line) e) e.line (lines_at e.key (start_of e.line) es) ≡ x ∷ []))
        → lines_at e.key (start_of e.line) es ≡ []
    go (inl h) = let q = rw (self e.key (start_of e.line)) at h in cc
    go (inr h) = let q = rw (self e.key (start_of e.line)) at h.1 in cc

-- ---- the same of locks and writes apart

module _ {A : Type 0} (like : A → A → Bool) where
  none_in : (x : A) (ys : List A) → ((y : A) → In y ys → like x y ≡ false) → none_like like x ys ≡ true
  unfolding none_like
  none_in x [] h = refl
  none_in x (y ∷ ys) h = and_both _ _ (not-false _ (h y (inl refl))) (none_in x ys (λ z m. h z (inr m)))

  in-none : (x : A) (ys : List A) → none_like like x ys ≡ true → (y : A) → In y ys → like x y ≡ false
  unfolding none_like
  in-none x (z ∷ zs) n y (inl e) = ap (like x) e ∙ not-true _ (and_left _ _ n)
  in-none x (z ∷ zs) n y (inr m) = in-none x zs (and_right (not (like x z)) _ n) y m
  in-none x [] n y x3 = elim x3 [ ]

  none_more : (x y : A) (xs zs : List A) → like x y ≡ false → none_like like x (xs ++ zs) ≡ true → none_like like x (xs ++ y ∷ zs) ≡ true
  unfolding none_like
  none_more x y [] zs h n = and_both _ _ (not-false (like x y) h) n
  none_more x y (a ∷ xs) zs h n = and_both (not (like x a)) _ (and_left (not (like x a)) _ n) (none_more x y xs zs h (and_right (not (like x a)) _ n))

  module _ (like-sym : (x y : A) → like x y ≡ like y x) where
    -- one more in the middle
    once_more : (y : A) (xs zs : List A) → none_like like y (xs ++ zs) ≡ true → no_second like (xs ++ zs) ≡ true → no_second like (xs ++ y ∷ zs) ≡ true
    unfolding none_like no_second
    once_more y [] zs n o = and_both _ _ n o
    once_more y (a ∷ xs) zs n o =
        and_both _ _ (none_more a y xs zs (like-sym a y ∙ not-true _ (and_left _ _ n)) (and_left _ _ o))
        (once_more y xs zs (and_right (not (like y a)) _ n) (and_right (none_like like a (xs ++ zs)) _ o))

either-in : {A : Type 0} (x : A) (xs zs : List A) → In x (xs ++ zs) → In x xs ⊎ In x zs
either-in x [] zs m = inr m
either-in x (a ∷ xs) zs (inl e) = inl (inl e)
either-in x (a ∷ xs) zs (inr m) = go (either-in x xs zs m)
  where
    go : In x xs ⊎ In x zs → In x (a ∷ xs) ⊎ In x zs
    go (inl q) = inl (inr q)
    go (inr q) = inr q

in_either : {A : Type 0} (x : A) (xs zs : List A) → In x xs ⊎ In x zs → In x (xs ++ zs)
in_either x [] zs (inl m) = absurd m
in_either x [] zs (inr m) = m
in_either x (a ∷ xs) zs (inl (inl e)) = inl e
in_either x (a ∷ xs) zs (inl (inr m)) = inr (in_either x xs zs (inl m))
in_either x (a ∷ xs) zs (inr m) = inr (in_either x xs zs (inr m))

abbrev apart : List KeyLine → List KeyLine
apart es = map lock_line (locks_of es) ++ map write_line (writes_of es)

like-sym : (a b : KeyLine) → like_line a b ≡ like_line b a
like-sym a b = ap₂ ◌&&◌ (eq_bytes-sym a.key b.key) (eqb-sym (start_of a.line) (start_of b.line))

pub apart-once : (es : List KeyLine) → no_second like_line es ≡ true → no_second like_line (apart es) ≡ true
unfolding locks_of writes_of no_second
apart-once [] o = refl
apart-once (e ∷ es) o =
    go e.key e.line (none_in like_line e (apart es) (λ f m. in-none like_line e es (and_left _ _ o) f (in-apart es f (either-in f (map lock_line (locks_of es)) (map write_line (writes_of es)) m)))) (apart-once es (and_right (none_like like_line e es) _ o))
  where
    go : (k : Key) (x : Line) → none_like like_line (line_at k x) (apart es) ≡ true → no_second like_line (apart es) ≡ true → no_second like_line (apart (line_at k x ∷ es)) ≡ true
    go k (Standing l) n ih = and_both _ _ n ih
    go k (Finished w) n ih = once_more like_line like-sym (line_at k (Finished w)) (map lock_line (locks_of es)) (map write_line (writes_of es)) n ih

-- ---- rows and their lines

each-good : {A : Type 0} (p : A → Bool) (xs : List A) → ((x : A) → In x xs → p x ≡ true) → all_good p xs ≡ true
unfolding all_good
each-good p [] h = refl
each-good p (x ∷ xs) h = and_both _ _ (h x (inl refl)) (each-good p xs (λ y m. h y (inr m)))

-- a Put line has its row
abbrev pub has_row : List Default → KeyLine → Bool
has_row ds e = kind_has_default (kind_in e.line) (is_some (row_of e.key (start_of e.line) ds))

module _ (b : Box) (v : Tidy b) where
  row-of : (kind : Kind) (rs : List Row) → RowsOf kind rs → kind_has_default kind (is_some (first_of rs)) ≡ true
  row-of Put rs r = rw r.1
  row-of Delete rs r = refl
  row-of Rollback rs r = refl

  line_row : (e : KeyLine) → In e b.lines → has_row b.defaults e ≡ true
  line_row e m = rw (row_first e.key (start_of e.line) b.defaults) (go (v.pairs e.key (start_of e.line)))
    where
      here : In e.line (lines_at e.key (start_of e.line) b.lines)
      here = in-chosen (line_is e.key (start_of e.line)) (λ (f : KeyLine). f.line) b.lines e m (self e.key (start_of e.line))

      go : Paired b e.key (start_of e.line) → kind_has_default (kind_in e.line) (is_some (first_of (rows_at e.key (start_of e.line) b.defaults))) ≡ true
      go (free a d) = absurd (in-nil _ _ here a)
      go (taken x a d) = ap (λ (y : Line). kind_has_default (kind_in y) (is_some (first_of (rows_at e.key (start_of e.line) b.defaults)))) (sole e.line x _ here a) ∙ row-of (kind_in x) _ d

  pub lines-have : all_good (has_row b.defaults) b.lines ≡ true
  lines-have = each-good _ b.lines line_row

  -- a row's pair has a Put line
  put_of : (kind : Kind) (r : Row) (rs : List Row) → RowsOf kind rs → In r rs → eq_kind kind Put ≡ true
  put_of Put r rs d m = refl
  put_of Delete r rs d m = absurd (in-nil r rs m d)
  put_of Rollback r rs d m = absurd (in-nil r rs m d)

  pointed-in : (d : Default) (es : List KeyLine) (e : KeyLine) → In e es → points_to d e ≡ true → pointed_to es d ≡ true
  unfolding pointed_to
  pointed-in d (f ∷ fs) e (inl q) h = rw (sym q, h)
  pointed-in d (f ∷ fs) e (inr m) h = or_right (points_to d f) _ (pointed-in d fs e m h)
    where
      or_right : (s t : Bool) → t ≡ true → s || t ≡ true
      or_right true t h = refl
      or_right false t h = h
  pointed-in d [] e x'' h = elim x'' [ ]

  row_line : (d : Default) → In d b.defaults → pointed_to (apart b.lines) d ≡ true
  row_line d m = go (v.pairs d.key d.start)
    where
      here : In d.row (rows_at d.key d.start b.defaults)
      here = in-chosen (at_pair d.key d.start) (λ (x : Default). x.row) b.defaults d m (self d.key d.start)

      go : Paired b d.key d.start → pointed_to (apart b.lines) d ≡ true
      go (free a q) = absurd (in-nil _ _ here q)
      go (taken x a q) =
          let y = chosen-in (line_is d.key d.start) (λ (f : KeyLine). f.line) b.lines x (rw a (inl refl)) in
          pointed-in d (apart b.lines) y.0 (in_either y.0 (map lock_line (locks_of b.lines)) (map write_line (writes_of b.lines)) (apart_in b.lines y.0 y.1))
          (and_both (line_is d.key d.start y.0) _ y.2 (rw (sym y.3) (put_of (kind_in x) d.row _ q here)))

  pub rows-pointed : all_good (pointed_to (apart b.lines)) b.defaults ≡ true
  rows-pointed = each-good _ b.defaults row_line

  pub tidy-once : no_second like_line (apart b.lines) ≡ true
  tidy-once = apart-once b.lines (lines_once b.lines (λ k s. single (v.pairs k s)))
