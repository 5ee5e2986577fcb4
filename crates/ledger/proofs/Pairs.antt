-- Demand 3, its claim on pairs: after any sequence of calls from an empty store, each pair that an accepted call named and whose line no
-- collection dropped has exactly one line, and no other pair has any; and a row is stored for exactly the pairs whose line is a Put, the last
-- that was carried. What was dropped starts at or below the floor, and was named. Assumes nothing.
use Prim.Native.Nat.{ℕ, ◌≤◌, ◌<◌}
use native.Mathlib.Omega.{arith}
use mathlib.Core.Path.{◌≡◌, refl, sym, ap, ◌∙◌, subst}
use mathlib.Core.Logic.{◌⊎◌, inl, inr}
use mathlib.Core.Bool.{Bool, true, false, ◌||◌, true≢false, false≢true}
use mathlib.Core.List.{List, [], ◌∷◌}
use mathlib.Core.Option.{Option}
use Rattle.forms.specs.Key.{Key}
use Rattle.forms.specs.Row.{Row}
use Rattle.rules.specs.Box.{Box, Line, KeyLine, line_is, fresh}
use Rattle.rules.specs.Calls.{non_empty}
use Rattle.rules.specs.Collect.{dropped_lines, collected}
use Rattle.rules.specs.Call.{Changing}
use Rattle.laws.proofs.StepLaws.{by-test}
use Rattle.laws.proofs.Sorted.{In}
use Rattle.laws.proofs.FewerLaws.{fewer-in}
use Rattle.laws.proofs.CollectLaws.{dropped-fewer}
use Rattle.ledger.specs.Ledger.{Named, of_line, each_named, dropped_by, onto, after, empty, is_at, named, last_row, chosen, lines_at, rows_at, Fate, absent, present, Holds, undropped}
use Rattle.ledger.specs.Tidy.{Sound}
use Rattle.ledger.proofs.ChosenLaws.{in-nil}
use Rattle.ledger.proofs.PairLaws.{fate-move, paired, named-lines}
use Rattle.ledger.proofs.PrewriteHolds.{prewrite-holds}
use Rattle.ledger.proofs.CommitHolds.{commit-holds}
use Rattle.ledger.proofs.RollbackHolds.{rollback-holds}
use Rattle.ledger.proofs.OneStepHolds.{step-holds, again-holds}
use Rattle.ledger.proofs.SoundEntries.{fresh-sound, prewrite-sound, ended-sound, commit-ended, rollback-ended, step-ended, prewrite-floor, commit-floor, rollback-floor}
use Rattle.ledger.proofs.CollectPairs.{PairLeft, whole, neither, pair_left, fewer-chosen, collected-sound, dropped-low}
use Rattle.ledger.proofs.Undropped.{undropped-none, undropped-cons, named-gone, named-there, row-there, named-onto}
use Rattle.ledger.proofs.Always.{Entries, Inductive, always}

pub record Claim (f : ℕ) (ds : List Named) (b : Box) (log : List Named) : Type 0 where
  pub fates : Holds b (undropped ds log)
  pub low : (k : Key) (s : ℕ) → named k s ds ≡ true → (0 < s) × (s ≤ f)
  pub known : (k : Key) (s : ℕ) → named k s ds ≡ true → named k s log ≡ true
  pub sound : Sound b

-- where nothing was dropped
pub claims : (f : ℕ) (b : Box) (log : List Named) → Holds b log → Sound b → Claim f [] b log
unfolding named
claims f b log hs v = record { fates = subst (λ (l : List Named). Holds b l) (sym (undropped-none log)) hs; low = λ k s e. absurd (false≢true e); known = λ k s e. absurd (false≢true e); sound = v }

fresh_holds : Holds fresh []
unfolding fresh named chosen
fresh_holds k s = absent refl refl

-- ---- an entry

or_right : (a b : Bool) → b ≡ true → a || b ≡ true
or_right true b h = refl
or_right false b h = h

module _ (f : ℕ) (ds : List Named) (b : Box) (log : List Named) (v : Claim f ds b log) where
  -- a pair above the floor was not dropped
  pub not-dropped : (k : Key) (s : ℕ) → f < s → named k s ds ≡ false
  not-dropped k s l = by-test (λ t. named k s ds ≡ t → t ≡ false) (named k s ds) (λ e r. absurd (omega (arith, (v.low k s r).1))) (λ e r. refl) refl

  claim-on : (c : Box) (n : Named) → f < n.start → Holds c (n ∷ undropped ds log) → Sound c → Claim f ds c (n ∷ log)
  unfolding named
  claim-on c n l hs w = record {
    fates = subst (λ (l : List Named). Holds c l) (sym (undropped-cons ds n log (not-dropped n.key n.start l))) hs;
    low = v.low;
    known = λ k s e. or_right (is_at k s n) _ (v.known k s e);
    sound = w;
  }

entries-kept : (f : ℕ) (ds : List Named) → Entries f (Claim f ds)
entries-kept f ds = record {
  prewritten = λ h m b log z p v. claim-on f ds b log v _ _ (prewrite-floor f h z) (prewrite-holds h m b (undropped ds log) p v.fates) (prewrite-sound h m b p f z v.sound);
  committed = λ h k b log z p v. claim-on f ds b log v _ _ (commit-floor f h z) (commit-holds h b k (undropped ds log) p v.fates) (ended-sound f b _ k (commit-ended f h k b z p) v.sound);
  rolled-back = λ txn s k b log z p v. claim-on f ds b log v _ _ (rollback-floor f txn s z) (rollback-holds txn s b k (undropped ds log) p v.fates) (ended-sound f b _ k (rollback-ended f txn s k b z p) v.sound);
  stepped = λ h m b log z e r p v. claim-on f ds b log v _ _ (commit-floor f h z) (step-holds h m b (undropped ds log) p v.fates) (ended-sound f b _ m.key (step-ended f h m b z e r) v.sound);
  applied_before = λ h m b log z p v. claim-on f ds b log v _ _ (commit-floor f h z) (again-holds h m b (undropped ds log) p v.fates) v.sound;
}

-- ---- a collection

or-either : (a b : Bool) → a || b ≡ true → (a ≡ true) ⊎ (b ≡ true)
or-either true b h = inl refl
or-either false b h = inr h

fate-none : (b : Box) (k : Key) (s : ℕ) (r : Option Row) (t : Bool) → t ≡ false → lines_at k s b.lines ≡ [] → rows_at k s b.defaults ≡ [] → Fate b k s r t
fate-none b k s r true e a d = absurd (true≢false e)
fate-none b k s r false e a d = absent a d

fate-named : (b : Box) (k : Key) (s : ℕ) (r : Option Row) (t : Bool) (x : Line) → Fate b k s r t → In x (lines_at k s b.lines) → t ≡ true
fate-named b k s r false x (absent a d) m = absurd (in-nil x _ m a)
fate-named b k s r true x (present y a d) m = refl

fate-lines : (b : Box) (k : Key) (s : ℕ) (r : Option Row) (t : Bool) → Fate b k s r t → t ≡ false → (lines_at k s b.lines ≡ []) × (rows_at k s b.defaults ≡ [])
fate-lines b k s r false (absent a d) e = (a, d)
fate-lines b k s r true (present x a d) e = absurd (true≢false e)

one_in : (xs : List Line) → non_empty xs ≡ true → (x : Line) × In x xs
one_in [] e = absurd (false≢true e)
one_in (x ∷ xs) e = (x, inl refl)

module _ (f g : ℕ) (ds : List Named) (b : Box) (log : List Named) (up : f ≤ g) (v : Claim f ds b log) where
  abbrev names : List Named
  names = each_named (of_line b.defaults) (dropped_lines g b.lines)

  abbrev more : List Named
  more = onto names ds

  names-are : (k : Key) (s : ℕ) → named k s names ≡ non_empty (lines_at k s (dropped_lines g b.lines))
  names-are k s = named-lines k s b.defaults (dropped_lines g b.lines)

  more-are : (k : Key) (s : ℕ) (t : Bool) → non_empty (lines_at k s (dropped_lines g b.lines)) ≡ t → named k s more ≡ t || named k s ds
  more-are k s t e = named-onto k s names ds ∙ ap (λ (u : Bool). u || named k s ds) (names-are k s ∙ e)

  collected-fate : (k : Key) (s : ℕ) → Fate (collected g b) k s (last_row k s (undropped more log)) (named k s (undropped more log))
  collected-fate k s = go (pair_left g b k s (paired b k s _ _ (v.fates k s)))
    where
      go : PairLeft g b k s → Fate (collected g b) k s (last_row k s (undropped more log)) (named k s (undropped more log))
      go (neither a d x n) = fate-none (collected g b) k s _ _ (named-gone k s more (more-are k s true (ap non_empty n)) log) a d
      go (whole a d n) =
          let same : named k s more ≡ named k s ds = more-are k s false (ap non_empty n) in
          by-test (λ t. named k s ds ≡ t → Fate (collected g b) k s (last_row k s (undropped more log)) (named k s (undropped more log))) (named k s ds)
          (λ e r. let o = fate-lines b k s _ _ (v.fates k s) (named-gone k s ds r log) in fate-none (collected g b) k s _ _ (named-gone k s more (same ∙ r) log) (a ∙ o.0) (d ∙ o.1))
          (λ e r. rw (named-there k s more (same ∙ r) log, row-there k s more (same ∙ r) log) (fate-move b (collected g b) k s _ _ a d (rw (named-there k s ds r log, row-there k s ds r log) at (v.fates k s)))) refl

  dropped-in : (k : Key) (s : ℕ) → named k s names ≡ true → (x : Line) × In x (lines_at k s (dropped_lines g b.lines))
  dropped-in k s e = one_in (lines_at k s (dropped_lines g b.lines)) (sym (names-are k s) ∙ e)

  still-named : (k : Key) (s : ℕ) → named k s (undropped ds log) ≡ true → named k s log ≡ true
  still-named k s e =
      by-test (λ t. named k s ds ≡ t → named k s log ≡ true) (named k s ds) (λ q r. absurd (true≢false (sym e ∙ named-gone k s ds r log))) (λ q r. sym (named-there k s ds r log) ∙ e) refl

  claim-collected : Claim g more (collected g b) log
  claim-collected = record { fates = collected-fate; low = low; known = known; sound = collected-sound g b v.sound }
    where
      low : (k : Key) (s : ℕ) → named k s more ≡ true → (0 < s) × (s ≤ g)
      low k s e = go (or-either _ _ (sym (named-onto k s names ds) ∙ e))
        where
          go : (named k s names ≡ true) ⊎ (named k s ds ≡ true) → (0 < s) × (s ≤ g)
          go (inl q) = let x = dropped-in k s q in dropped-low g b v.sound k s x.0 x.1
          go (inr q) = let l = v.low k s q in (l.0, omega (arith, l.1))

      known : (k : Key) (s : ℕ) → named k s more ≡ true → named k s log ≡ true
      known k s e = go (or-either _ _ (sym (named-onto k s names ds) ∙ e))
        where
          go : (named k s names ≡ true) ⊎ (named k s ds ≡ true) → named k s log ≡ true
          go (inl q) =
              let x = dropped-in k s q in
              still-named k s (fate-named b k s _ _ x.0 (v.fates k s) (fewer-in x.0 (fewer-chosen (line_is k s) (λ (e : KeyLine). e.line) (dropped-fewer g b.lines)) x.1))
          go (inr q) = v.known k s q

-- ---- every sequence

pub claim-kept : Inductive Claim
unfolding dropped_by
claim-kept = record {
  at_first = claims 0 fresh [] fresh_holds fresh-sound;
  entries = entries-kept;
  collects = λ f g ds b log up l v. claim-collected f g ds b log up v;
}

pub pairs : (cs : List Changing) → let p = after cs empty in Claim p.floor p.dropped p.box p.log
pairs = always Claim claim-kept
