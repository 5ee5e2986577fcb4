-- The walk over lines in order gives the figures of the keys that they add: its runs are the chains.
-- Assumes nothing.
use Prim.Native.Nat.{ℕ, zero, suc, ◌≤◌}
use native.Mathlib.Omega.{arith}
use mathlib.Core.Path.{◌≡◌, refl, sym, ap, ◌∙◌, subst}
use mathlib.Core.Bool.{Bool, true, false, true≢false}
use mathlib.Core.List.{List, [], ◌∷◌}
use mathlib.Core.Option.{Option, some, none}
use lib.ListN.{length}
use Rattle.forms.specs.Bytes.{eq_bytes, lt_bytes}
use Rattle.forms.specs.Key.{Key}
use Rattle.forms.proofs.Orders.{eq_bytes-true, lt_bytes-else, lt_bytes-not-eq}
use Rattle.rules.specs.Box.{Line, KeyLine, before, all_after, ordered}
use Rattle.rules.specs.Figures.{chain_of, different, chains_of, chains, from_to, over, longest, figures}
use Rattle.laws.proofs.StepLaws.{and_left, and_right}
use Rattle.laws.proofs.Sorted.{ordered-first, ordered-rest}
use Rattle.laws.proofs.BoxOrder.{before-not-above}
use Rattle.figures.specs.declared.runs.Run.{Run}
use Rattle.figures.specs.Walks.{ended, Few, next_run, goes_on, key_at, run_of}
use Rattle.figures.proofs.Chains.{times, times_more, times_long, chain-past, figures-run, figures-few}

-- the keys that lines add, each as often as it is added
unfoldable pub keys_of : (Line → ℕ) → List KeyLine → List Key
keys_of n [] = []
keys_of n (e ∷ es) = times (n e.line) e.key (keys_of n es)

-- ---- lines in order have their keys in order

-- no key of the list is below k
abbrev pub NotBelow : Key → List Key → Type 0
NotBelow k [] = Unit {0}
NotBelow k (j ∷ js) = (lt_bytes j k ≡ false) × NotBelow k js

below-times : (n : ℕ) (k j : Key) (ks : List Key) → lt_bytes j k ≡ false → NotBelow k ks → NotBelow k (times n j ks)
below-times zero k j ks h a = a
below-times (suc n) k j ks h a = (h, below-times n k j ks h a)

-- what is below j is none of those that are not
below_none : (k j : Key) (ks : List Key) → lt_bytes k j ≡ true → NotBelow j ks → chain_of k ks ≡ 0
unfolding chain_of
below_none k j [] p a = refl
below_none k j (i ∷ ks) p a = chain-past 1 k i ks (go (eq_bytes k i) refl) ∙ below_none k j ks p a.1
  where
    go : (b : Bool) → eq_bytes k i ≡ b → b ≡ false
    go true e = absurd (true≢false (sym p ∙ ap (λ (x : Key). lt_bytes x j) (eq_bytes-true k i e) ∙ a.0))
    go false e = refl

module _ (n : Line → ℕ) where
  pub keys-after : (e : KeyLine) (es : List KeyLine) → all_after before e es ≡ true → NotBelow e.key (keys_of n es)
  unfolding all_after keys_of
  keys-after e [] h = tt
  keys-after e (f ∷ es) h = below-times (n f.line) e.key f.key (keys_of n es) (before-not-above e f (and_left _ _ h)) (keys-after e es (and_right (before e f) _ h))

  -- a key that is not the next one does not stand further on
  far : (e : KeyLine) (es : List KeyLine) → ordered before (e ∷ es) ≡ true → goes_on (key_at es) e.key ≡ false → chain_of e.key (keys_of n es) ≡ 0
  unfolding all_after keys_of key_at chain_of
  far e [] o h = refl
  far e (f ∷ es) o h =
      let p : lt_bytes e.key f.key ≡ true = lt_bytes-else f.key e.key h (before-not-above e f (and_left _ _ (ordered-first before e (f ∷ es) o))) in
      chain-past (n f.line) e.key f.key (keys_of n es) (lt_bytes-not-eq e.key f.key p)
      ∙ below_none e.key f.key (keys_of n es) p (keys-after f es (ordered-first before f es (ordered-rest before e (f ∷ es) o)))

  -- the key before; any one will do where there is none
  abbrev last : Option Key → Key
  last none = []
  last (some k) = k

  last-is : (o : Option Key) (k : Key) → goes_on o k ≡ true → last o ≡ k
  last-is none k h = absurd (true≢false (sym h))
  last-is (some j) k h = eq_bytes-true j k h

  -- ---- what the walk keeps: the run of the last key, and the figures of the rest

  record Kept (es : List KeyLine) (r : Run) : Type 0 where
    rest : List Key
    keys-are : keys_of n es ≡ times r.long (last (key_at es)) rest
    closed_is : r.closed ≡ figures rest
    apart : chain_of (last (key_at es)) rest ≡ 0

  kept-ended : {es : List KeyLine} {r : Run} → Kept es r → ended r.long r.closed ≡ figures (keys_of n es)
  kept-ended {es} {r} v = ap (ended r.long) v.closed_is ∙ sym (ap figures v.keys-are ∙ figures-run r.long (last (key_at es)) v.rest v.apart)

  kept : (es : List KeyLine) → ordered before es ≡ true → Kept es (run_of n es)
  unfolding keys_of key_at run_of chain_of figures chains different chains_of from_to over longest
  kept [] o = record { rest = []; keys-are = refl; closed_is = refl; apart = refl }
  kept (e ∷ es) o = go (goes_on (key_at es) e.key) refl (kept es (ordered-rest before e es o))
    where
      go : (b : Bool) → goes_on (key_at es) e.key ≡ b → Kept es (run_of n es) → Kept (e ∷ es) (next_run b (n e.line) (run_of n es))
      go true h v =
          let q : last (key_at es) ≡ e.key = last-is (key_at es) e.key h in
          record {
            rest = v.rest;
            keys-are =
                ap (times (n e.line) e.key) (v.keys-are ∙ ap (λ (k : Key). times (run_of n es).long k v.rest) q)
                ∙ sym (times_more (n e.line) (run_of n es).long e.key v.rest);
            closed_is = v.closed_is;
            apart = ap (λ (k : Key). chain_of k v.rest) (sym q) ∙ v.apart;
          }
      go false h v = record { rest = keys_of n es; keys-are = refl; closed_is = kept-ended v; apart = far e es o h }

  -- at its end the last run ends too
  pub run-figures : (es : List KeyLine) → ordered before es ≡ true → ended (run_of n es).long (run_of n es).closed ≡ figures (keys_of n es)
  run-figures es o = kept-ended (kept es o)

  few-keys : ((x : Line) → n x ≤ 1) → (es : List KeyLine) → length (keys_of n es) ≤ length es
  unfolding keys_of
  few-keys one [] = omega arith
  few-keys one (e ∷ es) = omega (arith, times_long (n e.line) e.key (keys_of n es), one e.line, few-keys one es)

  pub run-few : ((x : Line) → n x ≤ 1) → (es : List KeyLine) → ordered before es ≡ true → length es ≤ 1024 → Few (run_of n es).long (run_of n es).closed
  run-few one es o h =
      let v = kept es o in
      subst (Few (run_of n es).long) (sym v.closed_is) (figures-few (run_of n es).long (last (key_at es)) v.rest (omega (arith, few-keys one es, ap length v.keys-are)))
