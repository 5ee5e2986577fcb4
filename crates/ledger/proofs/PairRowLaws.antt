-- What the rows of a pair become when a row comes or goes. Assumes nothing.
use Prim.Native.Nat.{ℕ}
use mathlib.Core.Path.{◌≡◌, refl, sym, ◌∙◌}
use mathlib.Core.Bool.{Bool, true, false, ◌&&◌, not}
use mathlib.Core.List.{List, [], ◌∷◌}
use mathlib.Core.Option.{Option, none, some}
use lib.Dec.{eqb}
use borrow.Author.Tests.{eq-eqb, eqb-true}
use Rattle.forms.specs.Key.{Key}
use Rattle.forms.specs.Row.{Row}
use Rattle.forms.specs.Bytes.{eq_bytes}
use Rattle.forms.proofs.Orders.{eq_bytes-refl, eq_bytes-true}
use Rattle.rules.specs.Box.{Default, at_pair, row_before, insert_default, drop_row, unless_row, row_of, add_row}
use Rattle.laws.proofs.StepLaws.{and_left, and_right}
use Rattle.ledger.specs.Ledger.{chosen, rows_at, cons_if}
use Rattle.ledger.proofs.ChosenLaws.{without, without_gone, without-stays, chosen-other, chosen-new}

abbrev pub first_of : List Row → Option Row
first_of [] = none
first_of (r ∷ rs) = some r

first-cons : (b : Bool) (r : Row) (o : Option Row) (rs : List Row) → o ≡ first_of rs → add_row b r o ≡ first_of (cons_if b r rs)
unfolding add_row cons_if
first-cons true r o rs h = refl
first-cons false r o rs h = h

-- the row that a lookup finds is the first of the pair's
pub row_first : (k : Key) (s : ℕ) (ds : List Default) → row_of k s ds ≡ first_of (rows_at k s ds)
unfolding row_of chosen
row_first k s [] = refl
row_first k s (d ∷ ds) = first-cons (at_pair k s d) d.row (row_of k s ds) (rows_at k s ds) (row_first k s ds)

nil-first : (rs : List Row) → first_of rs ≡ none → rs ≡ []
nil-first [] h = refl
nil-first (r ∷ rs) h = cc

pub no_rows : (k : Key) (s : ℕ) (ds : List Default) → row_of k s ds ≡ none → rows_at k s ds ≡ []
no_rows k s ds h = nil-first _ (sym (row_first k s ds) ∙ h)

-- ---- pairs

pub pair_is : (k j : Key) (s q : ℕ) → eq_bytes k j && eqb s q ≡ true → (k ≡ j) × (s ≡ q)
pair_is k j s q h = (eq_bytes-true k j (and_left _ _ h), eqb-true s q (and_right (eq_bytes k j) _ h))

-- what is of one pair is alike
pub pair-alike : (k : Key) (s : ℕ) (i j : Key) (q r : ℕ) → eq_bytes k i && eqb s q ≡ true → eq_bytes k j && eqb s r ≡ true → eq_bytes i j && eqb q r ≡ true
pair-alike k s i j q r h n = let e = pair_is k i s q h in rw (sym e.0, sym e.1) n

pub apart : (k i : Key) (s q : ℕ) (j : Key) (r : ℕ) → eq_bytes k i && eqb s q ≡ false → eq_bytes i j && eqb q r ≡ true → eq_bytes k j && eqb s r ≡ false
apart k i s q j r h e = let p = pair_is i j q r e in rw (sym p.0, sym p.1) h

-- ---- a row goes

drop-without : (k : Key) (s : ℕ) (ds : List Default) → drop_row k s ds ≡ without (at_pair k s) ds
unfolding drop_row unless_row chosen cons_if
drop-without k s [] = refl
drop-without k s (d ∷ ds) = go (at_pair k s d) (drop-without k s ds)
  where
    go : (t : Bool) → drop_row k s ds ≡ without (at_pair k s) ds → unless_row t d (drop_row k s ds) ≡ cons_if (not t) d (without (at_pair k s) ds)
    go true ih = ih
    go false ih = rw ih

pub rows-gone : (k : Key) (s : ℕ) (ds : List Default) → rows_at k s (drop_row k s ds) ≡ []
rows-gone k s ds = rw (drop-without k s ds) (without_gone (at_pair k s) (λ (d : Default). d.row) ds)

module _ (i k : Key) (q s : ℕ) (other : eq_bytes k i && eqb s q ≡ false) where
  pub rows_stay : (ds : List Default) → rows_at k s (drop_row i q ds) ≡ rows_at k s ds
  rows_stay ds = rw (drop-without i q ds) (without-stays (at_pair k s) (λ (d : Default). d.row) (at_pair i q) (λ d. apart k i s q d.key d.start other) ds)

  -- ---- a row comes

  pub rows_other : (r : Row) (ds : List Default) → rows_at k s (insert_default (record { key = i; start = q; row = r }) ds) ≡ rows_at k s ds
  rows_other r ds = chosen-other (at_pair k s) (λ (d : Default). d.row) row_before (record { key = i; start = q; row = r }) ds other

pub self : (k : Key) (s : ℕ) → eq_bytes k k && eqb s s ≡ true
self k s = rw (eq_bytes-refl k) (eq-eqb s s refl)

pub rows_new : (k : Key) (s : ℕ) (r : Row) (ds : List Default) → rows_at k s ds ≡ [] → rows_at k s (insert_default (record { key = k; start = s; row = r }) ds) ≡ r ∷ []
rows_new k s r ds n = chosen-new (at_pair k s) (λ (d : Default). d.row) row_before (record { key = k; start = s; row = r }) ds (self k s) n
