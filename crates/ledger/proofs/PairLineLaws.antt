-- What the lines of a pair become when a lock goes, and what a key's lock and records say of its pairs' lines. Assumes nothing.
use Prim.Native.Nat.{ℕ}
use mathlib.Core.Path.{◌≡◌, refl, ap, sym}
use mathlib.Core.Logic.{inl, inr}
use mathlib.Core.Bool.{Bool, true, false, ◌&&◌, true≢false}
use mathlib.Core.List.{List, [], ◌∷◌}
use mathlib.Core.Option.{Option, none, some}
use lib.Dec.{eqb}
use borrow.Author.Tests.{eq-eqb}
use Rattle.forms.specs.Key.{Key}
use Rattle.forms.specs.Bytes.{eq_bytes}
use Rattle.forms.proofs.Orders.{eq_bytes-true}
use Rattle.rules.specs.declared.records.Record.{Record}
use Rattle.rules.specs.Box.{Lock, Line, Standing, Finished, KeyLine, records_of, add_record, lock_of, add_lock, unless_lock, drop_lock}
use Rattle.rules.specs.Calls.{found_if}
use Rattle.rules.specs.Commit.{with_start}
use Rattle.laws.proofs.Sorted.{In}
use Rattle.ledger.specs.Ledger.{chosen, lines_at, cons_if, start_of}
use Rattle.ledger.proofs.ChosenLaws.{in-cons, in-nil}

-- ---- the lock of a key is one of the lines of its pair

lock-in-cons : (b : Bool) (x : Line) (o : Option Lock) (xs : List Line) (l : Lock) → add_lock b x o ≡ some l → (o ≡ some l → In (Standing l) xs) → In (Standing l) (cons_if (b && eqb l.start (start_of x)) x xs)
unfolding add_lock cons_if
lock-in-cons true (Standing m) o xs l h ih =
    let p : m ≡ l = cc in
    let q : eqb l.start m.start ≡ true = eq-eqb _ _ (ap (λ (z : Lock). z.start) (sym p)) in
    rw q (inl (ap Standing (sym p)))
lock-in-cons true (Finished w) o xs l h ih = in-cons (eqb l.start w.start) (Standing l) (Finished w) xs (ih h)
lock-in-cons false x o xs l h ih = ih h

pub lock-in : (k : Key) (es : List KeyLine) (l : Lock) → lock_of k es ≡ some l → In (Standing l) (lines_at k l.start es)
unfolding lock_of chosen
lock-in k [] l h = absurd (true≢false (cc))
lock-in k (e ∷ es) l h = lock-in-cons (eq_bytes k e.key) e.line (lock_of k es) (lines_at k l.start es) l h (lock-in k es l)

-- ---- a record of the key is one of the lines of its pair

record-in-cons : (b : Bool) (x : Line) (ws : List Record) (xs : List Line) (w : Record) → In w (add_record b x ws) → (In w ws → In (Finished w) xs) → In (Finished w) (cons_if (b && eqb w.start (start_of x)) x xs)
unfolding add_record cons_if
record-in-cons true (Standing m) ws xs w h ih = in-cons (eqb w.start m.start) (Finished w) (Standing m) xs (ih h)
record-in-cons true (Finished v) ws xs w (inl p) ih =
    let q : eqb w.start v.start ≡ true = eq-eqb _ _ (ap (λ (z : Record). z.start) p) in
    rw q (inl (ap Finished p))
record-in-cons true (Finished v) ws xs w (inr h) ih = in-cons (eqb w.start v.start) (Finished w) (Finished v) xs (ih h)
record-in-cons false x ws xs w h ih = ih h

pub record-in : (k : Key) (es : List KeyLine) (w : Record) → In w (records_of k es) → In (Finished w) (lines_at k w.start es)
unfolding records_of chosen
record-in k [] w h = h
record-in k (e ∷ es) w h = record-in-cons (eq_bytes k e.key) e.line (records_of k es) (lines_at k w.start es) w h (record-in k es w)

-- ---- a lock goes: the lines of another pair stay

module _ (i k : Key) (s : ℕ) (l : Lock) (apart : eq_bytes k i && eqb s l.start ≡ false) where
  drop-other-cons : (b : Bool) (j : Key) (x : Line) (o : Option Lock) (es rest : List KeyLine) → eq_bytes i j ≡ b → add_lock b x o ≡ some l → (o ≡ some l → lines_at k s rest ≡ lines_at k s es)
      → lines_at k s (unless_lock b (record { key = j; line = x }) x es rest) ≡ lines_at k s (record { key = j; line = x } ∷ es)
  unfolding add_lock unless_lock chosen cons_if
  drop-other-cons true j (Standing m) o es rest e h ih =
      let p : m ≡ l = cc in
      let q : j ≡ i = sym (eq_bytes-true i j e) in
      let t : eq_bytes k j && eqb s m.start ≡ false = rw (q, p) apart in
      rw t
  drop-other-cons true j (Finished w) o es rest e h ih = rw (ih h)
  drop-other-cons false j x o es rest e h ih = rw (ih h)

  pub drop-other : (es : List KeyLine) → lock_of i es ≡ some l → lines_at k s (drop_lock i es) ≡ lines_at k s es
  unfolding lock_of drop_lock
  drop-other [] h = refl
  drop-other (f ∷ es) h = drop-other-cons (eq_bytes i f.key) f.key f.line (lock_of i es) es (drop_lock i es) refl h (drop-other es)

-- ---- a lock goes that was its pair's only line: the pair has none any more

keep-cons : (t : Bool) (y x z : Line) (xs ys : List Line) → cons_if t y xs ≡ x ∷ [] → In z xs → (xs ≡ x ∷ [] → ys ≡ []) → cons_if t y ys ≡ []
unfolding cons_if
keep-cons true y x z xs ys h m ih = absurd (in-nil z xs m (cc))
keep-cons false y x z xs ys h m ih = ih h

module _ (k : Key) (l : Lock) (y : Line) where
  drop-same-cons : (b : Bool) (j : Key) (x : Line) (o : Option Lock) (es rest : List KeyLine) → eq_bytes k j ≡ b → add_lock b x o ≡ some l
      → (o ≡ some l → In (Standing l) (lines_at k l.start es))
      → (o ≡ some l → lines_at k l.start es ≡ y ∷ [] → lines_at k l.start rest ≡ [])
      → lines_at k l.start (record { key = j; line = x } ∷ es) ≡ y ∷ []
      → lines_at k l.start (unless_lock b (record { key = j; line = x }) x es rest) ≡ []
  unfolding add_lock unless_lock chosen cons_if
  drop-same-cons true j (Standing m) o es rest e h m-in ih n =
      let p : m ≡ l = cc in
      let q : eq_bytes k j && eqb l.start m.start ≡ true = rw (e, p) (eq-eqb l.start l.start refl) in
      let r : Standing m ∷ lines_at k l.start es ≡ y ∷ [] = rw q at n in
      cc
  drop-same-cons true j (Finished w) o es rest e h m-in ih n =
      keep-cons (eq_bytes k j && eqb l.start w.start) (Finished w) y (Standing l) _ _ n (m-in h) (ih h)
  drop-same-cons false j x o es rest e h m-in ih n =
      keep-cons (eq_bytes k j && eqb l.start (start_of x)) x y (Standing l) _ _ n (m-in h) (ih h)

  pub drop-same : (es : List KeyLine) → lock_of k es ≡ some l → lines_at k l.start es ≡ y ∷ [] → lines_at k l.start (drop_lock k es) ≡ []
  unfolding lock_of drop_lock
  drop-same [] h n = absurd (true≢false (cc))
  drop-same (f ∷ es) h n =
      drop-same-cons (eq_bytes k f.key) f.key f.line (lock_of k es) es (drop_lock k es) refl h (lock-in k es l) (drop-same es) n

-- ---- no lock, and no record with this start: no line

module _ (k : Key) (s : ℕ) where
  no-lines-cons : (b : Bool) (x : Line) (o : Option Lock) (ws : List Record) (xs : List Line) → add_lock b x o ≡ none → with_start s (add_record b x ws) ≡ none → (o ≡ none → with_start s ws ≡ none → xs ≡ []) → cons_if (b && eqb s (start_of x)) x xs ≡ []
  unfolding add_lock add_record cons_if with_start found_if
  no-lines-cons true (Standing m) o ws xs h n ih = cc
  no-lines-cons true (Finished w) o ws xs h n ih = go (eqb s w.start) n
    where
      go : (t : Bool) → found_if t w (with_start s ws) ≡ none → cons_if t (Finished w) xs ≡ []
      go true p = cc
      go false p = ih h p
  no-lines-cons false x o ws xs h n ih = ih h n

  pub no_lines : (es : List KeyLine) → lock_of k es ≡ none → with_start s (records_of k es) ≡ none → lines_at k s es ≡ []
  unfolding lock_of records_of chosen
  no_lines [] h n = refl
  no_lines (e ∷ es) h n =
      no-lines-cons (eq_bytes k e.key) e.line (lock_of k es) (records_of k es) (lines_at k s es) h n (no_lines es)
