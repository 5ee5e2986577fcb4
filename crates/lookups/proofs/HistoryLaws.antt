-- One record more: what a history says then, and what a key has in two lists of lines, one after the other.
-- Assumes nothing.
use Rattle.std.specs.Prelude.{None, Some}
use Prim.Native.Nat.{ℕ, ◌+◌, ◌≤◌}
use native.Mathlib.Omega.{arith}
use mathlib.Core.Path.{◌≡◌, refl, sym, ap, ◌∙◌}
use mathlib.Core.Bool.{Bool, true, false, ◌&&◌, not, and-true, and_assoc}
use mathlib.Core.List.{List, [], ◌∷◌, ◌++◌, reverse, reverse-append}
use mathlib.Core.Option.{Option, none, some}
use lib.Dec.{ltb, leb, eqb}
use Rattle.forms.specs.Bytes.{Bytes, eq_bytes}
use Rattle.forms.specs.Key.{Key}
use Rattle.rules.specs.declared.records.Kind.TheVariants.{Rollback}
use Rattle.rules.specs.declared.records.Record.{Record}
use Rattle.rules.specs.Box as box
use Rattle.rules.specs.Calls.{all_below, stamped_at, found_if}
use Rattle.rules.specs.Commit.{with_start}
use Rattle.rules.specs.Read.{newest_first, at_or_below, keep_if}
use Rattle.store.specs.declared.views.RecordView.{RecordView}
use Rattle.lookups.specs.declared.lookup.History.{History}
use Rattle.store.specs.Views.{record_in, RowThere}
use Rattle.lookups.specs.KeyStates.{Found, said, is_if, first_found, examined_if, no_history, history_after, not_rolled, examined_in, FoundThere, HistoryAt}

-- a test of each
module _ (t : Record → Bool) (all : List Record → Bool) (nil : all [] ≡ true) (cons : (w : Record) (ws : List Record) → all (w ∷ ws) ≡ t w && all ws) where
  each_snoc : (ws : List Record) (w : Record) → all (ws ++ w ∷ []) ≡ all ws && t w
  each_snoc [] w = cons w [] ∙ ap (λ (b : Bool). t w && b) nil ∙ and-true (t w) ∙ ap (λ (b : Bool). b && t w) (sym nil)
  each_snoc (v ∷ ws) w =
      cons v (ws ++ w ∷ []) ∙ ap (λ (b : Bool). t v && b) (each_snoc ws w) ∙ sym (and_assoc (t v) (all ws) (t w)) ∙ ap (λ (b : Bool). b && t w) (sym (cons v ws))

abbrev or_some : Option Record → Bool → Record → Option Record
or_some (some v) hit w = some v
or_some none hit w = found_if hit w none

-- the first that passes a test
module _ (t : Record → Bool) (first : List Record → Option Record) (nil : first [] ≡ none) (cons : (w : Record) (ws : List Record) → first (w ∷ ws) ≡ found_if (t w) w (first ws)) where
  first-snoc : (ws : List Record) (w : Record) → first (ws ++ w ∷ []) ≡ or_some (first ws) (t w) w
  unfolding found_if
  first-snoc [] w = cons w [] ∙ ap (found_if (t w) w) nil ∙ ap (λ (o : Option Record). or_some o (t w) w) (sym nil)
  first-snoc (v ∷ ws) w = cons v (ws ++ w ∷ []) ∙ go (t v) (first-snoc ws w) ∙ ap (λ (o : Option Record). or_some o (t w) w) (sym (cons v ws))
    where
      go : (b : Bool) → first (ws ++ w ∷ []) ≡ or_some (first ws) (t w) w → found_if b v (first (ws ++ w ∷ [])) ≡ or_some (found_if b v (first ws)) (t w) w
      go true h = refl
      go false h = h

kept-snoc : (m : ℕ) (ws : List Record) (w : Record) → at_or_below m (ws ++ w ∷ []) ≡ at_or_below m ws ++ keep_if (leb w.stamp m) w []
unfolding at_or_below keep_if
kept-snoc m [] w = refl
kept-snoc m (v ∷ ws) w = go (leb v.stamp m) (kept-snoc m ws w)
  where
    go : (b : Bool) → at_or_below m (ws ++ w ∷ []) ≡ at_or_below m ws ++ keep_if (leb w.stamp m) w [] → keep_if b v (at_or_below m (ws ++ w ∷ [])) ≡ keep_if b v (at_or_below m ws) ++ keep_if (leb w.stamp m) w []
    go true h = ap (λ (l : List Record). v ∷ l) h
    go false h = h

-- one record more stands in front of the others, where it is at or below the moment
pub first_more : (m : ℕ) (ws : List Record) (w : Record) → newest_first m (ws ++ w ∷ []) ≡ keep_if (leb w.stamp m) w (newest_first m ws)
unfolding newest_first keep_if
first_more m ws w = ap reverse (kept-snoc m ws w) ∙ reverse-append (at_or_below m ws) (keep_if (leb w.stamp m) w []) ∙ go (leb w.stamp m)
  where
    go : (b : Bool) → reverse (keep_if b w []) ++ reverse (at_or_below m ws) ≡ keep_if b w (reverse (at_or_below m ws))
    go true = refl
    go false = refl

newest-snoc : (m : ℕ) (ws : List Record) (w : Record) → not_rolled (newest_first m (ws ++ w ∷ [])) ≡ found_if (leb w.stamp m && not (box.eq_kind w.kind Rollback)) w (not_rolled (newest_first m ws))
unfolding keep_if not_rolled found_if
newest-snoc m ws w = ap not_rolled (first_more m ws w) ∙ go (leb w.stamp m)
  where
    go : (b : Bool) → not_rolled (keep_if b w (newest_first m ws)) ≡ found_if (b && not (box.eq_kind w.kind Rollback)) w (not_rolled (newest_first m ws))
    go true = refl
    go false = refl

examined-snoc : (m : ℕ) (ws : List Record) (w : Record) → examined_in (newest_first m (ws ++ w ∷ [])) ≡ examined_if (leb w.stamp m) (box.eq_kind w.kind Rollback) (examined_in (newest_first m ws))
unfolding keep_if examined_in
examined-snoc m ws w = ap examined_in (first_more m ws w) ∙ go (leb w.stamp m)
  where
    go : (b : Bool) → examined_in (keep_if b w (newest_first m ws)) ≡ examined_if b (box.eq_kind w.kind Rollback) (examined_in (newest_first m ws))
    go true = refl
    go false = refl

said_or : (f : Found) (hit : Bool) (w : RecordView) → said (first_found f hit w) ≡ or_some (said f) hit (record_in w)
unfolding found_if
said_or (Some v) hit w = refl
said_or None true w = refl
said_or None false w = refl

said-if : (hit : Bool) (w : RecordView) (old : Found) → said (is_if hit w old) ≡ found_if hit (record_in w) (said old)
unfolding found_if
said-if true w old = refl
said-if false w old = refl

module _ {top : ℕ} {area : Bytes} {ds : List box.Default} {key : Key} where
  pub history-none : {start stamp : ℕ} → HistoryAt top area ds key start stamp [] no_history
  unfolding all_below with_start stamped_at newest_first at_or_below not_rolled examined_in
  history-none = record { below = refl; above = refl; started = refl; stamped = refl; visible = refl; examined = refl; started_row = tt; stamped_row = tt; visible_row = tt }

  module _ (w : RecordView) (r : RowThere top area ds key w.start w.kind w.rowat w.rowlen) where
    if-there : (hit : Bool) (old : Found) → FoundThere top area ds key old → FoundThere top area ds key (is_if hit w old)
    if-there true old f = r
    if-there false old f = f

    or-there : (f : Found) (hit : Bool) → FoundThere top area ds key f → FoundThere top area ds key (first_found f hit w)
    or-there (Some v) hit f = f
    or-there None hit f = if-there hit None f

    pub history-more : {start stamp : ℕ} {ws : List Record} {h : History} → HistoryAt top area ds key start stamp ws h → HistoryAt top area ds key start stamp (ws ++ record_in w ∷ []) (history_after start stamp h w)
    history-more {start} {stamp} {ws} {h} v = record {
      below = ap (λ (b : Bool). b && ltb w.stamp start) v.below ∙ sym (each_snoc (λ (u : Record). ltb u.stamp start) (all_below start) (unfold all_below in refl) (λ u us. unfold all_below in refl) ws (record_in w));
      above = ap (λ (b : Bool). b && ltb w.stamp stamp) v.above ∙ sym (each_snoc (λ (u : Record). ltb u.stamp stamp) (all_below stamp) (unfold all_below in refl) (λ u us. unfold all_below in refl) ws (record_in w));
      started =
          said_or h.started (eqb start w.start) w ∙ ap (λ (o : Option Record). or_some o (eqb start w.start) (record_in w)) v.started
          ∙ sym (first-snoc (λ (u : Record). eqb start u.start) (with_start start) (unfold with_start in refl) (λ u us. unfold with_start in refl) ws (record_in w));
      stamped =
          said_or h.stamped (eqb stamp w.stamp) w ∙ ap (λ (o : Option Record). or_some o (eqb stamp w.stamp) (record_in w)) v.stamped
          ∙ sym (first-snoc (λ (u : Record). eqb stamp u.stamp) (stamped_at stamp) (unfold stamped_at in refl) (λ u us. unfold stamped_at in refl) ws (record_in w));
      visible =
          said-if (leb w.stamp stamp && not (box.eq_kind w.kind Rollback)) w h.visible ∙ ap (found_if (leb w.stamp stamp && not (box.eq_kind w.kind Rollback)) (record_in w)) v.visible
          ∙ sym (newest-snoc stamp ws (record_in w));
      examined = ap (examined_if (leb w.stamp stamp) (box.eq_kind w.kind Rollback)) v.examined ∙ sym (examined-snoc stamp ws (record_in w));
      started_row = or-there h.started (eqb start w.start) v.started_row;
      stamped_row = or-there h.stamped (eqb stamp w.stamp) v.stamped_row;
      visible_row = if-there (leb w.stamp stamp && not (box.eq_kind w.kind Rollback)) h.visible v.visible_row;
    }

-- one more at most
pub examined-few : (t r : Bool) (old : ℕ) → examined_if t r old ≤ old + 1
examined-few true true old = omega arith
examined-few true false old = omega arith
examined-few false r old = omega arith

-- ---- two lists of lines, one after the other

pub records-append : (k : Key) (xs ys : List box.KeyLine) → box.records_of k (xs ++ ys) ≡ box.records_of k xs ++ box.records_of k ys
unfolding box.records_of box.add_record
records-append k [] ys = refl
records-append k (e ∷ xs) ys = go (eq_bytes k e.key) e.line (records-append k xs ys)
  where
    go : (t : Bool) (x : box.Line) → box.records_of k (xs ++ ys) ≡ box.records_of k xs ++ box.records_of k ys
        → box.add_record t x (box.records_of k (xs ++ ys)) ≡ box.add_record t x (box.records_of k xs) ++ box.records_of k ys
    go true (box.Standing l) h = h
    go true (box.Finished w) h = ap (λ (l : List Record). w ∷ l) h
    go false x h = h

abbrev pub or_lock : Option box.Lock → Option box.Lock → Option box.Lock
or_lock none o = o
or_lock (some l) o = some l

pub lock-append : (k : Key) (xs ys : List box.KeyLine) → box.lock_of k (xs ++ ys) ≡ or_lock (box.lock_of k xs) (box.lock_of k ys)
unfolding box.lock_of box.add_lock
lock-append k [] ys = refl
lock-append k (e ∷ xs) ys = go (eq_bytes k e.key) e.line (lock-append k xs ys)
  where
    go : (t : Bool) (x : box.Line) → box.lock_of k (xs ++ ys) ≡ or_lock (box.lock_of k xs) (box.lock_of k ys)
        → box.add_lock t x (box.lock_of k (xs ++ ys)) ≡ or_lock (box.add_lock t x (box.lock_of k xs)) (box.lock_of k ys)
    go true (box.Standing l) h = refl
    go true (box.Finished w) h = h
    go false x h = h
