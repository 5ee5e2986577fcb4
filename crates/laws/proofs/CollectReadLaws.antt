-- "Reads and pages at moments at or above F answer as before; the record counts of CR 6 may fall": at one key, the walk over the records that
-- stay replies as the walk over all of them and examines no more, as the newest record by the floor that is not a Rollback decides, or nothing
-- does. Assumes nothing.
use Prim.Native.Nat.{ℕ, ◌≤◌, ◌<◌}
use native.Mathlib.Omega.{arith}
use mathlib.Core.Path.{◌≡◌, refl, ap, sym, ◌∙◌}
use mathlib.Core.Logic.{inl, inr}
use mathlib.Core.Bool.{Bool, true, false, ◌&&◌, true≢false}
use mathlib.Core.List.{List, [], ◌∷◌, reverse_aux}
use lib.Dec.{leb, ltb}
use borrow.Author.Tests.{le-leb, lt-leb, le-ltb, ltb-true, ltb-false}
use Rattle.forms.specs.Key.{Key}
use Rattle.rules.specs.declared.records.Kind.{Kind}
use Rattle.rules.specs.declared.records.Kind.TheVariants.{Put, Delete, Rollback}
use Rattle.rules.specs.declared.records.Record.{Record}
use Rattle.rules.specs.Box.{Default, eq_kind, row_of, all_after, ordered}
use Rattle.rules.specs.Sound.{sound_record, all_sound}
use Rattle.rules.specs.Read.{keep_if, at_or_below, newest_first, show_row, Examined, one_record, walk}
use Rattle.rules.specs.Collect.{none_counts, record_stays}
use Rattle.laws.proofs.StepLaws.{and_left, and_right}
use Rattle.laws.proofs.Sorted.{In, ordered-first, ordered-rest}
use Rattle.laws.proofs.KeyLaws.{stamp_before}
use Rattle.laws.proofs.CollectLaws.{kept_records}

-- after a record above the floor none counts
none_above : (f : ℕ) (w : Record) (ws : List Record) → f < w.stamp → all_after stamp_before w ws ≡ true → none_counts f ws ≡ true
unfolding all_after none_counts
none_above f w [] up a = refl
none_above f w (v ∷ ws) up a =
    let l : w.stamp < v.stamp = ltb-true w.stamp v.stamp (and_left _ _ a) in
    rw (lt-leb v.stamp f (omega arith)) (none_above f w ws up (and_right (stamp_before w v) _ a))

-- the same reply, from no more records than before
pub record Fell (x y : Examined) : Type 0 where
  pub reply : x.reply ≡ y.reply
  pub count : x.count ≤ y.count

module _ (k : Key) (f m : ℕ) (up : f ≤ m) (ds es : List Default) where
  -- a Put that stays has its row
  abbrev RowsStay : List Record → Type 0
  RowsStay ws = (w : Record) → In w (kept_records f ws) → w.kind ≡ Put → row_of k w.start es ≡ row_of k w.start ds

  rows-rest : (w : Record) (ws : List Record) → RowsStay (w ∷ ws) → RowsStay ws
  unfolding kept_records keep_if
  rows-rest w ws h v i = h v (go (record_stays f ws w) i)
    where
      go : (t : Bool) → In v (kept_records f ws) → In v (keep_if t w (kept_records f ws))
      go true i = inr i
      go false i = i

  -- what the walks so far say: as long as a record to come counts, none stays; then both say the same
  record Alike (ws older left : List Record) : Type 0 where
    same : none_counts f ws ≡ true → Fell (walk k es left) (walk k ds older)
    none_yet : none_counts f ws ≡ false → left ≡ []

  -- one more on both, with the same row
  both : (w : Record) (older left : List Record) → sound_record w ≡ true → (w.kind ≡ Put → row_of k w.start es ≡ row_of k w.start ds) → Fell (walk k es left) (walk k ds older)
      → Fell (walk k es (w ∷ left)) (walk k ds (w ∷ older))
  unfolding walk one_record
  both w older left s r e = rw s (go w.kind r)
    where
      go : (kind : Kind) → (kind ≡ Put → row_of k w.start es ≡ row_of k w.start ds)
          → Fell (one_record true kind (show_row (row_of k w.start es)) (walk k es left)) (one_record true kind (show_row (row_of k w.start ds)) (walk k ds older))
      go Put r = record { reply = ap show_row (r refl); count = omega arith }
      go Delete r = record { reply = refl; count = omega arith }
      go Rollback r = record { reply = e.reply; count = omega (arith, e.count) }

  -- one more, which goes: a Delete, which decides, or a Rollback, which is passed over
  deleted : (w : Record) (older left : List Record) → sound_record w ≡ true → w.kind ≡ Delete → left ≡ [] → Fell (walk k es left) (walk k ds (w ∷ older))
  unfolding walk one_record
  deleted w older left s e n = rw (s, e, n) (record { reply = refl; count = omega arith })

  passed : (w : Record) (older left : List Record) → sound_record w ≡ true → w.kind ≡ Rollback → Fell (walk k es left) (walk k ds older) → Fell (walk k es left) (walk k ds (w ∷ older))
  unfolding walk one_record
  passed w older left s e v = rw (s, e) (record { reply = v.reply; count = omega (arith, v.count) })

  module _ (w : Record) (ws older left : List Record) where
    -- above the floor: it stays
    above : f < w.stamp → all_after stamp_before w ws ≡ true → sound_record w ≡ true → (w.kind ≡ Put → row_of k w.start es ≡ row_of k w.start ds) → Alike (w ∷ ws) older left
        → (t : Bool) → Alike ws (keep_if t w older) (keep_if t w left)
    unfolding none_counts keep_if
    above l a s r v t =
        let n : none_counts f ws ≡ true = none_above f w ws l a in
        let e : Fell (walk k es left) (walk k ds older) = v.same (rw (lt-leb w.stamp f l) n) in
        go n e t
      where
        go : none_counts f ws ≡ true → Fell (walk k es left) (walk k ds older) → (t : Bool) → Alike ws (keep_if t w older) (keep_if t w left)
        go n e true = record { same = λ q. both w older left s r e; none_yet = λ q. absurd (true≢false (sym n ∙ q)) }
        go n e false = record { same = λ q. e; none_yet = λ q. absurd (true≢false (sym n ∙ q)) }

    -- at or below it: the last that counts stays, if it is a Put
    below : w.stamp ≤ f → sound_record w ≡ true → (record_stays f ws w ≡ true → w.kind ≡ Put → row_of k w.start es ≡ row_of k w.start ds) → Alike (w ∷ ws) older left
        → Alike ws (w ∷ older) (keep_if (record_stays f ws w) w left)
    unfolding none_counts keep_if walk one_record
    below l s r v = rw (le-ltb f w.stamp l) (go w.kind (none_counts f ws) refl refl)
      where
        low : leb w.stamp f ≡ true
        low = le-leb w.stamp f l

        -- what was said before it, by its kind
        before_same : none_counts f ws ≡ true → eq_kind w.kind Rollback ≡ true → Fell (walk k es left) (walk k ds older)
        before_same n e = v.same (rw (low, e) n)

        before-none : eq_kind w.kind Rollback ≡ false → left ≡ []
        before-none e = v.none_yet (rw (low, e))

        over_none : none_counts f ws ≡ false → eq_kind w.kind Rollback ≡ true → left ≡ []
        over_none n e = v.none_yet (rw (low, e) n)

        go : (kind : Kind) (n : Bool) → w.kind ≡ kind → none_counts f ws ≡ n → Alike ws (w ∷ older) (keep_if (eq_kind kind Put && n) w left)
        go Put true e n = record {
          same = λ q. rw (s, e) (record { reply = ap show_row (r (rw (le-ltb f w.stamp l, e, n)) e); count = omega arith });
          none_yet = λ q. absurd (true≢false (sym n ∙ q));
        }
        go Put false e n = record { same = λ q. absurd (true≢false (sym q ∙ n)); none_yet = λ q. before-none (rw e) }
        go Delete n e p = record { same = λ q. deleted w older left s e (before-none (rw e)); none_yet = λ q. before-none (rw e) }
        go Rollback n e p = record { same = λ q. passed w older left s e (before_same q (rw e)); none_yet = λ q. over_none q (rw e) }

  -- what is left to walk over says the same on both
  abbrev Goes : List Record → Type 0
  Goes ws = (older left : List Record) → Alike ws older left → Fell (walk k es (reverse_aux (at_or_below m (kept_records f ws)) left)) (walk k ds (reverse_aux (at_or_below m ws) older))

  module _ (w : Record) (ws : List Record) (first : all_after stamp_before w ws ≡ true) (here : sound_record w ≡ true) (r : RowsStay (w ∷ ws)) (rest : Goes ws) where
    own : record_stays f ws w ≡ true → w.kind ≡ Put → row_of k w.start es ≡ row_of k w.start ds
    unfolding kept_records keep_if
    own q p = r w (rw q (inl refl)) p

    -- what is put on a list that is turned round
    turned : (t : Bool) (xs ys : List Record) → reverse_aux (keep_if t w xs) ys ≡ reverse_aux xs (keep_if t w ys)
    unfolding keep_if
    turned true xs ys = refl
    turned false xs ys = refl

    low : (t : Bool) (left : List Record) → leb w.stamp m ≡ true → reverse_aux (at_or_below m (keep_if t w (kept_records f ws))) left ≡ reverse_aux (at_or_below m (kept_records f ws)) (keep_if t w left)
    unfolding keep_if at_or_below
    low true left q = rw q
    low false left q = refl

    goes_on : Goes (w ∷ ws)
    unfolding kept_records at_or_below keep_if
    goes_on older left v = go (ltb f w.stamp) refl
      where
        go : (t : Bool) → ltb f w.stamp ≡ t
            → Fell (walk k es (reverse_aux (at_or_below m (keep_if (record_stays f ws w) w (kept_records f ws))) left)) (walk k ds (reverse_aux (keep_if (leb w.stamp m) w (at_or_below m ws)) older))
        go true e =
            let l : f < w.stamp = ltb-true f w.stamp e in
            let q : record_stays f ws w ≡ true = rw e in
            rw (q, turned (leb w.stamp m) (at_or_below m (kept_records f ws)) left, turned (leb w.stamp m) (at_or_below m ws) older)
            (rest (keep_if (leb w.stamp m) w older) (keep_if (leb w.stamp m) w left) (above w ws older left l first here (own q) v (leb w.stamp m)))
        go false e =
            let l : w.stamp ≤ f = ltb-false f w.stamp e in
            let q : leb w.stamp m ≡ true = le-leb w.stamp m (omega arith) in
            rw (low (record_stays f ws w) left q, q) (rest (w ∷ older) (keep_if (record_stays f ws w) w left) (below w ws older left l here own v))

  walks-on : (ws : List Record) → ordered stamp_before ws ≡ true → all_sound ws ≡ true → RowsStay ws → Goes ws
  unfolding none_counts all_sound kept_records at_or_below
  walks-on [] o s r = λ older left v. v.same refl
  walks-on (w ∷ ws) o s r =
      goes_on w ws (ordered-first stamp_before w ws o) (and_left _ _ s) r (walks-on ws (ordered-rest stamp_before w ws o) (and_right (sound_record w) _ s) (rows-rest w ws r))

  -- at a moment at or above the floor
  pub walk_kept : (ws : List Record) → ordered stamp_before ws ≡ true → all_sound ws ≡ true → RowsStay ws
      → Fell (walk k es (newest_first m (kept_records f ws))) (walk k ds (newest_first m ws))
  unfolding newest_first walk
  walk_kept ws o s r = walks-on ws o s r [] [] (record { same = λ q. record { reply = refl; count = omega arith }; none_yet = λ q. refl })
