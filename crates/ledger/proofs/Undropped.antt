-- The names whose pair no collection dropped: a pair that was dropped is not among them, and of any other they say what the whole log says. How
-- many different pairs are left where one is struck out. Assumes nothing.
use Prim.Native.Nat.{ℕ, ◌+◌}
use native.Mathlib.Omega.{arith}
use mathlib.Core.Path.{◌≡◌, refl, sym, ap, ap₂, ◌∙◌}
use mathlib.Core.Bool.{Bool, true, false, ◌&&◌, ◌||◌, not}
use mathlib.Core.List.{List, [], ◌∷◌}
use Rattle.forms.specs.Key.{Key}
use Rattle.forms.proofs.Orders.{eq_bytes-sym}
use Rattle.laws.proofs.StepLaws.{by-test}
use Rattle.laws.proofs.BoxOrder.{eqb-sym}
use Rattle.ledger.specs.Ledger.{Named, is_at, named, row_if, or_older, last_row, cons_if, chosen, onto, undropped, different_pairs, suc_unless}
use Rattle.ledger.proofs.ChosenLaws.{without}
use Rattle.ledger.proofs.PairRowLaws.{pair_is, apart}

-- a name of the pair is named where the pair is
same-named : (k : Key) (s : ℕ) (n : Named) (ds : List Named) → is_at k s n ≡ true → named n.key n.start ds ≡ named k s ds
same-named k s n ds e = let j = pair_is k n.key s n.start e in rw (sym j.0, sym j.1)

-- ---- the names that are left

pub undropped-none : (log : List Named) → undropped [] log ≡ log
unfolding undropped named cons_if
undropped-none [] = refl
undropped-none (n ∷ log) = ap (λ (ns : List Named). n ∷ ns) (undropped-none log)

pub undropped-cons : (ds : List Named) (n : Named) (log : List Named) → named n.key n.start ds ≡ false → undropped ds (n ∷ log) ≡ n ∷ undropped ds log
unfolding undropped cons_if
undropped-cons ds n log e = rw e

module _ (k : Key) (s : ℕ) (ds : List Named) where
  pub named-gone : named k s ds ≡ true → (log : List Named) → named k s (undropped ds log) ≡ false
  unfolding undropped named cons_if
  named-gone d [] = refl
  named-gone d (n ∷ log) =
      let ih = named-gone d log in
      by-test (λ t. is_at k s n ≡ t → named k s (cons_if (not (named n.key n.start ds)) n (undropped ds log)) ≡ false) (is_at k s n)
      (λ e r. rw (same-named k s n ds r ∙ d) ih)
      (λ e r. by-test (λ t. named k s (cons_if t n (undropped ds log)) ≡ false) (not (named n.key n.start ds)) (λ q. rw r ih) (λ q. ih)) refl

  pub named-there : named k s ds ≡ false → (log : List Named) → named k s (undropped ds log) ≡ named k s log
  unfolding undropped named cons_if
  named-there d [] = refl
  named-there d (n ∷ log) =
      let ih = named-there d log in
      by-test (λ t. is_at k s n ≡ t → named k s (cons_if (not (named n.key n.start ds)) n (undropped ds log)) ≡ (t || named k s log)) (is_at k s n)
      (λ e r. rw (same-named k s n ds r ∙ d, r))
      (λ e r. by-test (λ t. named k s (cons_if t n (undropped ds log)) ≡ named k s log) (not (named n.key n.start ds)) (λ q. rw r ih) (λ q. ih)) refl

  pub row-there : named k s ds ≡ false → (log : List Named) → last_row k s (undropped ds log) ≡ last_row k s log
  unfolding undropped last_row row_if or_older cons_if
  row-there d [] = refl
  row-there d (n ∷ log) =
      let ih = row-there d log in
      by-test (λ t. is_at k s n ≡ t → last_row k s (cons_if (not (named n.key n.start ds)) n (undropped ds log)) ≡ or_older (row_if t n.row) (last_row k s log)) (is_at k s n)
      (λ e r. rw (same-named k s n ds r ∙ d, r, ih))
      (λ e r. by-test (λ t. last_row k s (cons_if t n (undropped ds log)) ≡ last_row k s log) (not (named n.key n.start ds)) (λ q. rw r ih) (λ q. ih)) refl

-- what goes onto a list is named there too
pub named-onto : (k : Key) (s : ℕ) (ns ds : List Named) → named k s (onto ns ds) ≡ named k s ns || named k s ds
unfolding onto named
named-onto k s [] ds = refl
named-onto k s (n ∷ ns) ds = named-onto k s ns (n ∷ ds) ∙ turn (is_at k s n) (named k s ns) (named k s ds)
  where
    turn : (a b c : Bool) → b || (a || c) ≡ (a || b) || c
    turn true true c = refl
    turn true false c = refl
    turn false b c = refl

-- ---- a pair struck out

abbrev pub struck : Named → List Named → List Named
struck n ds = without (is_at n.key n.start) ds

pub struck-own : (n : Named) (ds : List Named) → named n.key n.start (struck n ds) ≡ false
unfolding chosen cons_if named
struck-own n [] = refl
struck-own n (d ∷ ds) =
    by-test (λ t. is_at n.key n.start d ≡ t → named n.key n.start (cons_if (not t) d (struck n ds)) ≡ false) (is_at n.key n.start d) (λ e r. struck-own n ds) (λ e r. rw r (struck-own n ds)) refl

pub struck-other : (k : Key) (s : ℕ) (n : Named) (ds : List Named) → is_at k s n ≡ false → named k s (struck n ds) ≡ named k s ds
unfolding chosen cons_if named
struck-other k s n [] h = refl
struck-other k s n (d ∷ ds) h =
    let ih = struck-other k s n ds h in
    by-test (λ t. is_at n.key n.start d ≡ t → named k s (cons_if (not t) d (struck n ds)) ≡ (is_at k s d || named k s ds)) (is_at n.key n.start d)
    (λ e r. rw (apart k n.key s n.start d.key d.start h r) ih) (λ e r. rw ih) refl

abbrev pub one : Bool → ℕ
one true = 1
one false = 0

pub struck-pairs : (n : Named) (ds : List Named) → different_pairs ds ≡ different_pairs (struck n ds) + one (named n.key n.start ds)
unfolding chosen cons_if named different_pairs suc_unless
struck-pairs n [] = refl
struck-pairs n (d ∷ ds) =
    let ih = struck-pairs n ds in
    by-test (λ t. is_at n.key n.start d ≡ t → suc_unless (named d.key d.start ds) (different_pairs ds) ≡ different_pairs (cons_if (not t) d (struck n ds)) + one (t || named n.key n.start ds)) (is_at n.key n.start d)
    (λ e r. rw (same-named n.key n.start d ds r) (own (named n.key n.start ds) ih))
    (λ e r. rw (struck-other d.key d.start n ds (ap₂ ◌&&◌ (eq_bytes-sym d.key n.key) (eqb-sym d.start n.start) ∙ r)) (other (named d.key d.start ds) ih)) refl
  where
    own : (t : Bool) → different_pairs ds ≡ different_pairs (struck n ds) + one t → suc_unless t (different_pairs ds) ≡ different_pairs (struck n ds) + 1
    own true ih = ih
    own false ih = omega (arith, ih)

    other : (t : Bool) → different_pairs ds ≡ different_pairs (struck n ds) + one (named n.key n.start ds) → suc_unless t (different_pairs ds) ≡ suc_unless t (different_pairs (struck n ds)) + one (named n.key n.start ds)
    other true ih = ih
    other false ih = omega (arith, ih)
