-- A record comes in the place of the own lock, if one stands: what commit, rollback and one-step do to the lines of pairs.
-- Assumes nothing.
use Prim.Native.Nat.{ℕ}
use mathlib.Core.Path.{◌≡◌, refl, ap, ◌∙◌, subst}
use mathlib.Core.Bool.{false, ◌&&◌}
use mathlib.Core.List.{List, [], ◌∷◌}
use mathlib.Core.Option.{Option, none, some}
use lib.Dec.{eqb}
use Rattle.forms.specs.Key.{Key}
use Rattle.forms.specs.Bytes.{eq_bytes}
use Rattle.rules.specs.declared.records.Kind.{Kind}
use Rattle.rules.specs.declared.records.Record.{Record}
use Rattle.rules.specs.Box.{Box, Lock, Line, Standing, Finished, KeyLine, records_of, lock_of, insert_line, drop_lock}
use Rattle.rules.specs.Calls.{record_for}
use Rattle.rules.specs.Commit.{with_start}
use Rattle.laws.proofs.Sorted.{In}
use Rattle.laws.proofs.KeyLaws.{drop_lock-none}
use Rattle.ledger.specs.Ledger.{Named, of_key, last_row, or_older, lines_at, rows_at, kind_in, RowFits, present, Holds}
use Rattle.ledger.proofs.PairLineLaws.{lock-in, record-in, drop-other, drop-same, no_lines}
use Rattle.ledger.proofs.PairRowLaws.{self}
use Rattle.ledger.proofs.PairLaws.{extend, has_one}
use Rattle.ledger.proofs.PrewriteHolds.{lines_other, lines_new}

module _ (b : Box) (k : Key) (s : ℕ) (log : List Named) where
  pub lock-at : (l : Lock) → lock_of k b.lines ≡ some l → l.start ≡ s → In (Standing l) (lines_at k s b.lines)
  lock-at l h p = subst (λ (q : ℕ). In (Standing l) (lines_at k q b.lines)) p (lock-in k b.lines l h)

  pub record-at : (w : Record) → In w (records_of k b.lines) → w.start ≡ s → In (Finished w) (lines_at k s b.lines)
  record-at w h p = subst (λ (q : ℕ). In (Finished w) (lines_at k q b.lines)) p (record-in k b.lines w h)

  -- the one line of a pair, and its row
  pub one_line : (z : Line) → Holds b log → In z (lines_at k s b.lines) → (lines_at k s b.lines ≡ z ∷ []) × RowFits (kind_in z) (last_row k s log) (rows_at k s b.defaults)
  one_line z hs h = has_one b k s _ _ z (hs k s) h

  -- a key whose pair has a line already, and that carries no row: nothing changes
  pub unchanged : (z : Line) → Holds b log → In z (lines_at k s b.lines) → Holds b (of_key s k ∷ log)
  unfolding or_older
  unchanged z hs h = extend b b (of_key s k) log hs (λ i q e. (refl, refl)) (present z (one_line z hs h).0 (one_line z hs h).1)

-- the lock, if there is one, has this start
abbrev pub OfStart : ℕ → Option Lock → Type 0
OfStart s none = Unit {0}
OfStart s (some l) = l.start ≡ s

module _ (b : Box) (k : Key) (s commit : ℕ) (kind : Kind) where
  abbrev pub closing : KeyLine
  closing = record { key = k; line = Finished (record_for s commit kind) }

  -- another pair keeps its lines
  pub closed-other : (o : Option Lock) (i : Key) (q : ℕ) → lock_of k b.lines ≡ o → OfStart s o → eq_bytes i k && eqb q s ≡ false
      → lines_at i q (insert_line closing (drop_lock k b.lines)) ≡ lines_at i q b.lines
  closed-other none i q there p e = lines_other i q closing (drop_lock k b.lines) e ∙ ap (lines_at i q) (drop_lock-none k b.lines there)
  closed-other (some l) i q there p e = lines_other i q closing (drop_lock k b.lines) e ∙ drop-other k i q l (rw p e) b.lines there

  -- its own has the record alone
  pub closed_same : (log : List Named) (o : Option Lock) → Holds b log → lock_of k b.lines ≡ o → OfStart s o → (o ≡ none → with_start s (records_of k b.lines) ≡ none)
      → lines_at k s (insert_line closing (drop_lock k b.lines)) ≡ Finished (record_for s commit kind) ∷ []
  closed_same log none hs there p n =
      lines_new k s closing (drop_lock k b.lines) (self k s) (ap (lines_at k s) (drop_lock-none k b.lines there) ∙ no_lines k s b.lines there (n refl))
  closed_same log (some l) hs there p n =
      lines_new k s closing (drop_lock k b.lines) (self k s)
      (subst (λ (q : ℕ). lines_at k q b.lines ≡ Standing l ∷ [] → lines_at k q (drop_lock k b.lines) ≡ []) p (drop-same k l (Standing l) b.lines there)
      (one_line b k s log (Standing l) hs (lock-at b k s log l there p)).0)
