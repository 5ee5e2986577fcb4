-- The claim on pairs is kept by an accepted entry of a one-step batch, whether it is applied now or was before. Assumes nothing.
use Prim.Native.Nat.{ℕ}
use mathlib.Core.Path.{◌≡◌, refl, ap, ◌∙◌}
use mathlib.Core.Bool.{Bool, true, false, ◌&&◌, false≢true}
use mathlib.Core.List.{List, [], ◌∷◌}
use mathlib.Core.Option.{Option, none, some}
use lib.Dec.{eqb}
use borrow.Author.Tests.{eqb-true}
use Rattle.forms.specs.Key.{Key}
use Rattle.forms.specs.Row.{Row}
use Rattle.forms.specs.Bytes.{eq_bytes}
use Rattle.forms.specs.Batch.{Mutation}
use Rattle.rules.specs.Answers.{Accepted}
use Rattle.rules.specs.declared.records.Kind.{Kind}
use Rattle.rules.specs.declared.records.Kind.TheVariants.{Delete}
use Rattle.rules.specs.declared.records.Record.{Record}
use Rattle.rules.specs.Box.{Box, Lock, Standing, Finished, Default, records_of, lock_of, row_of, eq_kind, drop_row}
use Rattle.rules.specs.Calls.{kind_of, row_stands, stamped_at, record_for}
use Rattle.rules.specs.declared.terms.CommitTerms.{CommitTerms}
use Rattle.rules.specs.Commit.{with_start}
use Rattle.rules.specs.OneStep.{applied_if, applied_by, applied_in, is_already, step_lock, replace_if, apply_step}
use Rattle.laws.proofs.StepLaws.{passed}
use Rattle.laws.proofs.OneStepLaws.{step_check, step-passed, step-own}
use Rattle.laws.proofs.RecordLaws.{eq_kind-true, below-started, stamped-in}
use Rattle.ledger.specs.Ledger.{Named, of_mutation, last_row, or_older, lines_at, rows_at, RowFits, present, Holds}
use Rattle.ledger.proofs.PairLineLaws.{no_lines}
use Rattle.ledger.proofs.PairRowLaws.{row_first, rows-gone, rows_stay, rows_other, rows_new}
use Rattle.ledger.proofs.PairLaws.{extend, has-none}
use Rattle.ledger.proofs.PrewriteHolds.{row_same}
use Rattle.ledger.proofs.CloseHolds.{lock-at, record-at, one_line, OfStart, closed-other, closed_same}

-- ---- "a Put's row is stored and replaces one already stored at this start"

replace-own : (k : Key) (s : ℕ) (r last : Option Row) (ds : List Default) → (r ≡ none → rows_at k s ds ≡ []) → RowFits (kind_of r) (or_older r last) (rows_at k s (replace_if k s r ds))
unfolding replace_if or_older
replace-own k s none last ds h = h refl
replace-own k s (some r) last ds h = rows_new k s r (drop_row k s ds) (rows-gone k s ds)

replace-apart : (i k : Key) (q s : ℕ) (r : Option Row) (ds : List Default) → eq_bytes k i && eqb s q ≡ false → rows_at k s (replace_if i q r ds) ≡ rows_at k s ds
unfolding replace_if
replace-apart i k q s none ds h = refl
replace-apart i k q s (some r) ds h = rows_other i k q s h r (drop_row i q ds) ∙ rows_stay i k q s h ds

-- the lock that is let pass is the call's
own-start : (h : CommitTerms) (kind : Kind) (o : Option Lock) → step_lock h kind o ≡ Accepted → OfStart h.start o
own-start h kind none q = tt
own-start h kind (some l) q = (step-own h kind l q).1

module _ (h : CommitTerms) (m : Mutation) (b : Box) (log : List Named) where
  -- a Delete finds no row of its pair
  spare : (o : Option Lock) → Holds b log → lock_of m.key b.lines ≡ o → with_start h.start (records_of m.key b.lines) ≡ none
      → step_lock h (kind_of m.row) o ≡ Accepted → m.row ≡ none → rows_at m.key h.start b.defaults ≡ []
  spare none hs there n q e = has-none b m.key h.start _ _ (hs m.key h.start) (no_lines m.key h.start b.lines there n)
  spare (some l) hs there n q e =
      let kinds : l.kind ≡ Delete = (step-own h (kind_of m.row) l q).2 ∙ ap kind_of e in
      rw kinds at (one_line b m.key h.start log (Standing l) hs (lock-at b m.key h.start log l there (own-start h (kind_of m.row) (some l) q))).1

  stepped : Holds b log → with_start h.start (records_of m.key b.lines) ≡ none → step_lock h (kind_of m.row) (lock_of m.key b.lines) ≡ Accepted
      → Holds (apply_step h m b) (of_mutation h.start m ∷ log)
  unfolding apply_step
  stepped hs n q =
      let p : OfStart h.start (lock_of m.key b.lines) = own-start h (kind_of m.row) (lock_of m.key b.lines) q in
      extend b (apply_step h m b) (of_mutation h.start m) log hs
      (λ i r e. (closed-other b m.key h.start h.commit (kind_of m.row) (lock_of m.key b.lines) i r refl p e, replace-apart m.key i h.start r m.row b.defaults e))
      (present (Finished (record_for h.start h.commit (kind_of m.row)))
      (closed_same b m.key h.start h.commit (kind_of m.row) log (lock_of m.key b.lines) hs refl p (λ e. n))
      (replace-own m.key h.start m.row _ b.defaults (spare (lock_of m.key b.lines) hs refl n q)))

  pub step-holds : step_check h b m ≡ Accepted → Holds b log → Holds (apply_step h m b) (of_mutation h.start m ∷ log)
  step-holds p hs = stepped hs (below-started h.start _ (step-passed h b m p).sound (step-passed h b m p).below) (step-passed h b m p).lock

  -- ---- an entry that is applied already

  already-true : (a c : Bool) → is_already (applied_if a c) ≡ true → a && c ≡ true
  unfolding applied_if
  already-true true true e = refl
  already-true true false e = e
  already-true false c e = e

  pub again-holds : is_already (applied_in h b m) ≡ true → Holds b log → Holds b (of_mutation h.start m ∷ log)
  unfolding applied_in applied_by
  again-holds a hs = go (stamped_at h.commit (records_of m.key b.lines)) refl a
    where
      go : (f : Option Record) → stamped_at h.commit (records_of m.key b.lines) ≡ f
          → is_already (applied_by h.start m.row (row_of m.key h.start b.defaults) f) ≡ true → Holds b (of_mutation h.start m ∷ log)
      go none e q = absurd (false≢true q)
      go (some w) e q =
          let t : eqb w.start h.start && (eq_kind w.kind (kind_of m.row) && row_stands m.row (row_of m.key h.start b.defaults)) ≡ true = already-true _ _ q in
          let at : w.start ≡ h.start = eqb-true w.start h.start (search passed) in
          let kinds : w.kind ≡ kind_of m.row = eq_kind-true w.kind (kind_of m.row) (search passed) in
          let stands : row_stands m.row (row_of m.key h.start b.defaults) ≡ true = search passed in
          let one : (lines_at m.key h.start b.lines ≡ Finished w ∷ []) × RowFits w.kind (last_row m.key h.start log) (rows_at m.key h.start b.defaults) =
          one_line b m.key h.start log (Finished w) hs (record-at b m.key h.start log w (stamped-in h.commit _ w e).0 at) in
          extend b b (of_mutation h.start m) log hs (λ i r x. (refl, refl))
          (present (Finished w) one.0 (rw kinds (row_same m.row _ _ (rw kinds at one.1) (rw row_first at stands))))
