-- A key's newer records, told by one key: since the lines stand in order, one of them counts exactly if the first line that counts has the key.
-- Assumes nothing.
use Prim.Native.Nat.{ℕ}
use mathlib.Core.Path.{◌≡◌, refl, sym, ap, ◌∙◌}
use mathlib.Core.Bool.{Bool, true, false, ◌&&◌, not}
use mathlib.Core.List.{List, [], ◌∷◌}
use mathlib.Core.Option.{Option, some, none}
use Rattle.forms.specs.Bytes.{eq_bytes}
use Rattle.forms.specs.Key.{Key}
use Rattle.forms.proofs.Orders.{eq_bytes-sym, lt_bytes-else}
use Rattle.rules.specs.Box.{Line, Standing, Finished, KeyLine, records_of, add_record, before, all_after, ordered}
use Rattle.rules.specs.Collect.{counts_by, none_counts}
use Rattle.laws.proofs.StepLaws.{by-test, and_left, and_right, and_both}
use Rattle.laws.proofs.Sorted.{ordered-first, ordered-rest}
use Rattle.laws.proofs.BoxOrder.{before-not-above}
use Rattle.laws.proofs.LinePlaces.{past-lines}
use Rattle.collects.specs.Passes.{is_key}

-- a line counts: a record "stamped at or below F" "that is not a Rollback"
abbrev pub counts : ℕ → Line → Bool
counts f (Standing l) = false
counts f (Finished w) = counts_by f w

abbrev pub key_if : Bool → Key → Option Key → Option Key
key_if true k o = some k
key_if false k o = o

-- the key of the first line that counts, if one does
unfoldable pub next_key : ℕ → List KeyLine → Option Key
next_key f [] = none
next_key f (e ∷ es) = key_if (counts f e.line) e.key (next_key f es)

module _ (f : ℕ) (e : KeyLine) where
  rest-order : (x : KeyLine) (xs : List KeyLine) → ordered before (e ∷ x ∷ xs) ≡ true → ordered before (e ∷ xs) ≡ true
  unfolding ordered all_after
  rest-order x xs o = and_both _ _ (and_right (before e x) _ (and_left _ _ o)) (ordered-rest before x xs (and_right (all_after before e (x ∷ xs)) _ o))

  -- lines of a later key have none of its records
  none-later : (x : KeyLine) (xs : List KeyLine) → ordered before (e ∷ x ∷ xs) ≡ true → eq_bytes e.key x.key ≡ false → records_of e.key (x ∷ xs) ≡ []
  unfolding all_after
  none-later x xs o q =
      (past-lines e.key x xs (ordered-rest before e (x ∷ xs) o)
      (lt_bytes-else x.key e.key (eq_bytes-sym x.key e.key ∙ q) (before-not-above e x (and_left _ _ (ordered-first before e (x ∷ xs) o))))).1

  pub next-none : (es : List KeyLine) → ordered before (e ∷ es) ≡ true → none_counts f (records_of e.key es) ≡ not (is_key e.key (next_key f es))
  unfolding none_counts records_of add_record next_key
  next-none [] o = refl
  next-none (x ∷ xs) o = go x.key x.line o (next-none xs (rest-order x xs o))
    where
      go : (j : Key) (y : Line) → ordered before (e ∷ record { key = j; line = y } ∷ xs) ≡ true → none_counts f (records_of e.key xs) ≡ not (is_key e.key (next_key f xs))
          → none_counts f (add_record (eq_bytes e.key j) y (records_of e.key xs)) ≡ not (is_key e.key (key_if (counts f y) j (next_key f xs)))
      go j (Standing l) o ih = by-test (λ t. none_counts f (add_record t (Standing l) (records_of e.key xs)) ≡ not (is_key e.key (next_key f xs))) (eq_bytes e.key j) (λ q. ih) (λ q. ih)
      go j (Finished w) o ih =
          by-test (λ u. eq_bytes e.key j ≡ u → none_counts f (add_record u (Finished w) (records_of e.key xs)) ≡ not (is_key e.key (key_if (counts_by f w) j (next_key f xs)))) (eq_bytes e.key j)
          (λ q r. by-test (λ t. not t && none_counts f (records_of e.key xs) ≡ not (is_key e.key (key_if t j (next_key f xs)))) (counts_by f w) (λ _. sym (ap not r)) (λ _. ih))
          (λ q r. by-test (λ t. none_counts f (records_of e.key xs) ≡ not (is_key e.key (key_if t j (next_key f xs)))) (counts_by f w) (λ _. ap (none_counts f) (rw r at (none-later (record { key = j; line = Finished w }) xs o r)) ∙ sym (ap not r)) (λ _. ih)) refl
