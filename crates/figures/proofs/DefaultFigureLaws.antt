-- What the defaults add to the figures is what the Put lines tell: their keys are the lines' keys, in the same order, and their starts are
-- starts of lines. The records' keys are the finished lines'.
-- Assumes nothing.
use Prim.Native.Nat.{ℕ, ◌≤◌, max}
use native.Mathlib.Omega.{arith}
use mathlib.Core.Path.{◌≡◌, refl, sym, ap, ap₂, ◌∙◌, subst}
use mathlib.Core.Bool.{Bool, true, false, true≢false}
use mathlib.Core.List.{List, [], ◌∷◌, map}
use Rattle.forms.specs.Bytes.{eq_bytes}
use Rattle.forms.specs.Key.{Key}
use Rattle.forms.specs.Row.{Row}
use Rattle.forms.proofs.Orders.{eq_bytes-true, lt_bytes-else}
use Rattle.rules.specs.declared.records.Kind.{Kind}
use Rattle.rules.specs.declared.records.Kind.TheVariants.{Put, Delete, Rollback}
use Rattle.rules.specs.Box.{Line, Standing, Finished, KeyLine, Default, before, row_before, ordered, put_in, insert_by, insert_default, start_of, kind_in}
use Rattle.rules.specs.Figures.{default_keys, add_finished, record_keys, line_stamp, largest}
use Rattle.laws.proofs.Sorted.{ordered-first, ordered-rest}
use Rattle.laws.proofs.BoxOrder.{row_before-less}
use Rattle.store.specs.View.{if_put, carries, add_if, stored}
use Rattle.figures.specs.Walks.{if_row, rows_in, records_in}
use Rattle.figures.proofs.Chains.{times}
use Rattle.figures.proofs.RunLaws.{keys_of, NotBelow, keys-after}

pub record-keys : (es : List KeyLine) → record_keys es ≡ keys_of records_in es
unfolding record_keys keys_of
record-keys [] = refl
record-keys (e ∷ es) = go e.line (record-keys es)
  where
    go : (x : Line) → record_keys es ≡ keys_of records_in es → add_finished e.key x (record_keys es) ≡ times (records_in x) e.key (keys_of records_in es)
    go (Standing l) h = h
    go (Finished w) h = ap (λ (ks : List Key). e.key ∷ ks) h

-- a default goes in among those of its own key: of the keys it is as if it came first
keys-insert : (d : Default) (ds : List Default) → NotBelow d.key (default_keys ds) → default_keys (insert_default d ds) ≡ d.key ∷ default_keys ds
unfolding default_keys insert_by put_in
keys-insert d [] a = refl
keys-insert d (e ∷ ds) a = go (row_before d e) refl (eq_bytes e.key d.key) refl (keys-insert d ds a.1)
  where
    go : (b : Bool) → row_before d e ≡ b → (t : Bool) → eq_bytes e.key d.key ≡ t → default_keys (insert_default d ds) ≡ d.key ∷ default_keys ds
        → default_keys (put_in b d e ds (insert_default d ds)) ≡ d.key ∷ e.key ∷ default_keys ds
    go true h t q ih = refl
    go false h true q ih = let p : e.key ≡ d.key = eq_bytes-true e.key d.key q in ap (λ (ks : List Key). e.key ∷ ks) ih ∙ ap₂ (λ (j k : Key). j ∷ k ∷ default_keys ds) p (sym p)
    go false h false q ih = absurd (true≢false (sym (row_before-less d e (lt_bytes-else e.key d.key q a.0)) ∙ h))

largest-insert : (f : Default → ℕ) (d : Default) (ds : List Default) → largest f (insert_default d ds) ≡ max (f d) (largest f ds)
unfolding largest insert_by put_in
largest-insert f d [] = refl
largest-insert f d (e ∷ ds) = go (row_before d e) (largest-insert f d ds)
  where
    go : (b : Bool) → largest f (insert_default d ds) ≡ max (f d) (largest f ds) → largest f (put_in b d e ds (insert_default d ds)) ≡ max (f d) (max (f e) (largest f ds))
    go true h = refl
    go false h = omega arith

module _ {A : Type 0} (line : A → KeyLine) (row : A → Row) where
  abbrev rows : List A → List Default
  rows xs = stored (map (λ (x : A). carries (line x) (row x)) xs)

  abbrev held : A → Default
  held x = record { key = (line x).key; start = start_of (line x).line; row = row x }

  pub stored-keys : (xs : List A) → ordered before (map line xs) ≡ true → default_keys (rows xs) ≡ keys_of rows_in (map line xs)
  unfolding default_keys stored add_if keys_of
  stored-keys [] o = refl
  stored-keys (x ∷ xs) o = go (kind_in (line x).line) (stored-keys xs (ordered-rest before (line x) (map line xs) o))
    where
      go : (k : Kind) → default_keys (rows xs) ≡ keys_of rows_in (map line xs) → default_keys (add_if (if_put k (held x)) (rows xs)) ≡ times (if_row k) (line x).key (keys_of rows_in (map line xs))
      go Put h =
          keys-insert (held x) (rows xs) (subst (NotBelow (line x).key) (sym h) (keys-after rows_in (line x) (map line xs) (ordered-first before (line x) (map line xs) o)))
          ∙ ap (λ (ks : List Key). (line x).key ∷ ks) h
      go Delete h = h
      go Rollback h = h

  pub stored-starts : (xs : List A) → largest (λ (d : Default). d.start) (rows xs) ≤ largest (λ (e : KeyLine). line_stamp e.line) (map line xs)
  unfolding largest stored add_if
  stored-starts [] = omega arith
  stored-starts (x ∷ xs) = go (kind_in (line x).line) (stored-starts xs) (own (line x).line)
    where
      own : (y : Line) → start_of y ≤ line_stamp y
      own (Standing l) = omega arith
      own (Finished w) = omega arith

      go : (k : Kind) → largest (λ (d : Default). d.start) (rows xs) ≤ largest (λ (e : KeyLine). line_stamp e.line) (map line xs) → start_of (line x).line ≤ line_stamp (line x).line
          → largest (λ (d : Default). d.start) (add_if (if_put k (held x)) (rows xs)) ≤ max (line_stamp (line x).line) (largest (λ (e : KeyLine). line_stamp e.line) (map line xs))
      go Put h s = omega (arith, largest-insert (λ (d : Default). d.start) (held x) (rows xs))
      go Delete h s = omega arith
      go Rollback h s = omega arith
