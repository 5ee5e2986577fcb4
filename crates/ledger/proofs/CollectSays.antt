-- What a collection leaves is what document 02 says (specs/Collected): of a key's records those above the floor, and the newest by it that is not a
-- Rollback, if it is a Put; its lock; and the rows of the Put lines that are left. Assumes nothing.
use Prim.Native.Nat.{ℕ, ◌≤◌, ◌<◌}
use native.Mathlib.Omega.{arith}
use mathlib.Core.Path.{◌≡◌, refl, sym, ap, ◌∙◌, subst}
use mathlib.Core.Logic.{◌⊎◌, inl, inr}
use mathlib.Core.Bool.{Bool, true, false, ◌&&◌, ◌||◌, not, true≢false, false≢true}
use mathlib.Core.List.Memᴰ
use mathlib.Core.List.{List, [], ◌∷◌, Memᴰ}
use lib.Dec.{leb, ltb}
use borrow.Author.Tests.{ltb-true, ltb-false, lt-ltb, leb-true, le-leb}
use Rattle.forms.specs.Key.{Key}
use Rattle.forms.specs.Row.{Row}
use Rattle.rules.specs.declared.records.Kind.{Kind}
use Rattle.rules.specs.declared.records.Kind.TheVariants.{Put, Delete, Rollback}
use Rattle.rules.specs.declared.records.Record.{Record}
use Rattle.rules.specs.Box.{Box, Line, KeyLine, Default, kind_in, line_is, at_pair, eq_kind, records_of, all_after, ordered, in_order}
use Rattle.rules.specs.Read.{keep_if, those}
use Rattle.rules.specs.Shown.{Counts, Newest}
use Rattle.rules.specs.Restore.{pointed_to}
use Rattle.rules.specs.Collect.{counts_by, none_counts, record_stays, kept_lines, dropped_lines, row_stays, collected}
use Rattle.laws.proofs.StepLaws.{by-test, and_left, and_right, not-true}
use Rattle.laws.proofs.Sorted.{In, ordered-first, ordered-rest, after-in}
use Rattle.laws.proofs.BoxOrder.{order-lines}
use Rattle.laws.proofs.KeyLaws.{stamp_before, records-ordered}
use Rattle.laws.proofs.RecordLaws.{eq_kind-true}
use Rattle.laws.proofs.FewerLaws.{fewer-in}
use Rattle.laws.proofs.CollectLaws.{lock-kept, kept_records, records-kept, dropped-fewer}
use Rattle.ledger.specs.Ledger.{lines_at, rows_at}
use Rattle.ledger.specs.Tidy.{RowsOf, Paired, free, taken, Tidy}
use Rattle.ledger.specs.Collected.{CollectsTo, Stays, CollectSays}
use Rattle.ledger.proofs.ChosenLaws.{in-nil, sole}
use Rattle.ledger.proofs.PairRowLaws.{self}
use Rattle.ledger.proofs.ReadBackLaws.{in-chosen}
use Rattle.ledger.proofs.CollectPairs.{fewer-chosen, pointed-none, pointed-put, PairLeft, whole, neither, pair_left}

-- ---- members, said two ways

mem-in : {A : Type 0} (x : A) (xs : List A) → Memᴰ x xs → In x xs
mem-in x [] i = absurd (Memᴰ.not-nil i)
mem-in x (y ∷ ys) i = go (Memᴰ.cases_cons i) (mem-in x ys)
  where
    go : (x ≡ y) ⊎ Memᴰ x ys → (Memᴰ x ys → In x ys) → (x ≡ y) ⊎ In x ys
    go (inl e) ih = inl e
    go (inr j) ih = inr (ih j)

pub in_mem : {A : Type 0} (x : A) (xs : List A) → In x xs → Memᴰ x xs
in_mem x (y ∷ ys) (inl e) = Memᴰ.head e
in_mem x (y ∷ ys) (inr m) = Memᴰ.tail (in_mem x ys m)
in_mem {A = A} x [] x'' = elim x'' [ ]

-- ---- a key's records

or-either : (a b : Bool) → a || b ≡ true → (a ≡ true) ⊎ (b ≡ true)
or-either true b h = inl refl
or-either false b h = inr h

put-counts : (kind : Kind) → eq_kind kind Put ≡ true → eq_kind kind Rollback ≡ false
put-counts Put e = refl
put-counts Delete e = refl
put-counts Rollback e = absurd (false≢true e)

module _ (f : ℕ) where
  none_in : (ws : List Record) (v : Record) → none_counts f ws ≡ true → In v ws → counts_by f v ≡ false
  unfolding none_counts
  none_in (w ∷ ws) v n (inl e) = ap (counts_by f) e ∙ not-true _ (and_left _ _ n)
  none_in (w ∷ ws) v n (inr m) = none_in ws v (and_right (not (counts_by f w)) _ n) m
  none_in [] v n x'' = elim x'' [ ]

  in-none : (ws : List Record) → ((v : Record) → In v ws → counts_by f v ≡ true → ⊥) → none_counts f ws ≡ true
  unfolding none_counts
  in-none [] h = refl
  in-none (w ∷ ws) h =
      by-test (λ t. counts_by f w ≡ t → not t && none_counts f ws ≡ true) (counts_by f w) (λ e r. absurd (h w (inl refl) r)) (λ e r. in-none ws (λ v m. h v (inr m))) refl

  counts-by : (v : Record) → v.stamp ≤ f → Counts v → counts_by f v ≡ true
  counts-by v l c = rw (le-leb v.stamp f l, c)

  -- the record that stays is above, or the newest
  out_first : (w : Record) (ws : List Record) → record_stays f ws w ≡ true → Stays f (w ∷ ws) w
  out_first w ws q = by-test (λ t. ltb f w.stamp ≡ t → Stays f (w ∷ ws) w) (ltb f w.stamp) (λ e r. inl (ltb-true f w.stamp r)) (λ e r. inr (low r (rw r at q))) refl
    where
      low : ltb f w.stamp ≡ false → eq_kind w.kind Put && none_counts f ws ≡ true → Newest f (w ∷ ws) w × (w.kind ≡ Put)
      low r p = (
        record {
          among = Memᴰ.head refl;
          by = ltb-false f w.stamp r;
          counts = put-counts w.kind (and_left _ _ p);
          newest = λ v i l c. newest v l c (Memᴰ.cases_cons i);
        },
        eq_kind-true w.kind Put (and_left _ _ p),
      )
        where
          newest : (v : Record) → v.stamp ≤ f → Counts v → (v ≡ w) ⊎ Memᴰ v ws → v.stamp ≤ w.stamp
          newest v l c (inl e) = subst (λ (z : Record). v.stamp ≤ z.stamp) e (omega arith)
          newest v l c (inr i) = absurd (true≢false (sym (counts-by v l c) ∙ none_in ws v (and_right (eq_kind w.kind Put) _ p) (mem-in v ws i)))

  -- one more below it changes nothing
  out-later : (u : Record) (ws : List Record) (w : Record) → all_after stamp_before u ws ≡ true → In w ws → Stays f ws w → Stays f (u ∷ ws) w
  out-later u ws w a m (inl l) = inl l
  out-later u ws w a m (inr p) = inr (record { among = Memᴰ.tail p.0.among; by = p.0.by; counts = p.0.counts; newest = λ v i l c. newest v l c (Memᴰ.cases_cons i) }, p.1)
    where
      newest : (v : Record) → v.stamp ≤ f → Counts v → (v ≡ u) ⊎ Memᴰ v ws → v.stamp ≤ w.stamp
      newest v l c (inl e) =
          let q : u.stamp < w.stamp = ltb-true u.stamp w.stamp (after-in stamp_before u ws w a m) in
          subst (λ (z : Record). z.stamp ≤ w.stamp) (sym e) (omega arith)
      newest v l c (inr i) = p.0.newest v i l c

  out : (ws : List Record) (w : Record) → ordered stamp_before ws ≡ true → In w (kept_records f ws) → In w ws × Stays f ws w
  unfolding kept_records keep_if
  out (u ∷ ws) w o m = go (record_stays f ws u) refl m (out ws w (ordered-rest stamp_before u ws o))
    where
      late : In w ws × Stays f ws w → In w (u ∷ ws) × Stays f (u ∷ ws) w
      late r = (inr r.0, out-later u ws w (ordered-first stamp_before u ws o) r.0 r.1)

      go : (t : Bool) → record_stays f ws u ≡ t → In w (keep_if t u (kept_records f ws)) → (In w (kept_records f ws) → In w ws × Stays f ws w) → In w (u ∷ ws) × Stays f (u ∷ ws) w
      go true q (inl e) ih = (inl e, subst (λ (z : Record). Stays f (u ∷ ws) z) (sym e) (out_first u ws q))
      go true q (inr m) ih = late (ih m)
      go false q m ih = late (ih m)
  out [] w o m = elim m [ ]

  -- the other way round
  into-first : (w : Record) (ws : List Record) → all_after stamp_before w ws ≡ true → Stays f (w ∷ ws) w → record_stays f ws w ≡ true
  into-first w ws a (inl l) = rw (lt-ltb f w.stamp l)
  into-first w ws a (inr p) = rw (p.1, in-none ws none) (last (ltb f w.stamp))
    where
      last : (t : Bool) → t || true ≡ true
      last true = refl
      last false = refl

      none : (v : Record) → In v ws → counts_by f v ≡ true → ⊥
      none v m c =
          let l : v.stamp ≤ w.stamp = p.0.newest v (Memᴰ.tail (in_mem v ws m)) (leb-true v.stamp f (and_left _ _ c)) (not-true _ (and_right (leb v.stamp f) _ c)) in
          let q : w.stamp < v.stamp = ltb-true w.stamp v.stamp (after-in stamp_before w ws v a m) in
          omega (arith, l, q)

  into : (ws : List Record) (w : Record) → ordered stamp_before ws ≡ true → In w ws → Stays f ws w → In w (kept_records f ws)
  unfolding kept_records keep_if
  into (u ∷ ws) w o (inl e) s = rw (into-first u ws (ordered-first stamp_before u ws o) (subst (λ (z : Record). Stays f (u ∷ ws) z) e s)) (inl e)
  into (u ∷ ws) w o (inr m) s = go (record_stays f ws u) (into ws w (ordered-rest stamp_before u ws o) m (less s))
    where
      less : Stays f (u ∷ ws) w → Stays f ws w
      less (inl l) = inl l
      less (inr p) = inr (record { among = in_mem w ws m; by = p.0.by; counts = p.0.counts; newest = λ v i. p.0.newest v (Memᴰ.tail i) }, p.1)

      go : (t : Bool) → In w (kept_records f ws) → In w (keep_if t u (kept_records f ws))
      go true i = inr i
      go false i = i
  into [] w o x3 s = elim x3 [ ]

-- ---- rows

those-like : {A : Type 0} (p q : A → Bool) (xs : List A) → ((x : A) → In x xs → p x ≡ q x) → those p xs ≡ those q xs
unfolding those keep_if
those-like p q [] h = refl
those-like p q (x ∷ xs) h = rw (h x (inl refl), those-like p q xs (λ y m. h y (inr m)))

module _ (f : ℕ) (b : Box) (v : Tidy b) where
  -- a row's pair has a Put line
  put-line : (d : Default) → In d b.defaults → (x : Line) × (lines_at d.key d.start b.lines ≡ x ∷ []) × (kind_in x ≡ Put)
  put-line d m = go (v.pairs d.key d.start)
    where
      here : In d.row (rows_at d.key d.start b.defaults)
      here = in-chosen (at_pair d.key d.start) (λ (x : Default). x.row) b.defaults d m (self d.key d.start)

      put : (kind : Kind) (rs : List Row) → RowsOf kind rs → In d.row rs → kind ≡ Put
      put Put rs q i = refl
      put Delete rs q i = absurd (in-nil d.row rs i q)
      put Rollback rs q i = absurd (in-nil d.row rs i q)

      go : Paired b d.key d.start → (x : Line) × (lines_at d.key d.start b.lines ≡ x ∷ []) × (kind_in x ≡ Put)
      go (free a q) = absurd (in-nil d.row _ here q)
      go (taken x a q) = (x, a, put (kind_in x) _ q here)

  -- it stays exactly if that line does
  pub row-pointed : (d : Default) → In d b.defaults → row_stays f b.lines d ≡ pointed_to (kept_lines f b.lines) d
  unfolding collected
  row-pointed d m = go (put-line d m) (pair_left f b d.key d.start (v.pairs d.key d.start))
    where
      go : (x : Line) × (lines_at d.key d.start b.lines ≡ x ∷ []) × (kind_in x ≡ Put) → PairLeft f b d.key d.start → not (pointed_to (dropped_lines f b.lines) d) ≡ pointed_to (kept_lines f b.lines) d
      go x (whole a q n) = ap not (pointed-none d (dropped_lines f b.lines) n) ∙ sym (pointed-put d (kept_lines f b.lines) x.0 (a ∙ x.1) x.2)
      go x (neither a q y n) =
          let same : y ≡ x.0 = sole y x.0 _ (fewer-in y (fewer-chosen (line_is d.key d.start) (λ (e : KeyLine). e.line) (dropped-fewer f b.lines)) (rw n (inl refl))) x.1 in
          ap not (pointed-put d (dropped_lines f b.lines) y n (ap kind_in same ∙ x.2)) ∙ sym (pointed-none d (kept_lines f b.lines) a)

  pub collect-says : in_order b ≡ true → CollectSays f b
  unfolding collected
  collect-says o = record {
    records = λ k w. (λ i. let r = out f (records_of k b.lines) w (sorted k) (there k w i) in (in_mem w _ r.0, r.1), λ s. back k w (into f (records_of k b.lines) w (sorted k) (mem-in w _ s.0) s.1));
    locks = λ k. lock-kept f k b.lines;
    rows = those-like (row_stays f b.lines) (pointed_to (kept_lines f b.lines)) b.defaults row-pointed;
  }
    where
      sorted : (k : Key) → ordered stamp_before (records_of k b.lines) ≡ true
      sorted k = records-ordered k b.lines (order-lines b o)

      there : (k : Key) (w : Record) → Memᴰ w (records_of k (kept_lines f b.lines)) → In w (kept_records f (records_of k b.lines))
      there k w i = subst (λ (ws : List Record). In w ws) (records-kept f k b.lines) (mem-in w _ i)

      back : (k : Key) (w : Record) → In w (kept_records f (records_of k b.lines)) → Memᴰ w (records_of k (kept_lines f b.lines))
      back k w i = in_mem w _ (subst (λ (ws : List Record). In w ws) (sym (records-kept f k b.lines)) i)

  pub collects-to : in_order b ≡ true → CollectsTo f b (collected f b)
  collects-to o =
      let s = collect-says o in
      record { records = s.records; locks = s.locks; rows = s.rows }
