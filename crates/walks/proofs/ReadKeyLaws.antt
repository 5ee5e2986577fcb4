-- A key is read line by line: what its lines so far say to a read at a moment. With the last one it is the definition's read, and the key takes
-- its turn on a page of rows.
-- Assumes nothing.
use Prim.Native.Nat.{ℕ, ◌+◌}
use mathlib.Core.Path.{◌≡◌, refl, sym, ap, ◌∙◌, ap₂}
use mathlib.Core.Logic.{inl, inr}
use mathlib.Core.Bool.{Bool, true, false, not, false≢true}
use mathlib.Core.List.{List, [], ◌∷◌, ◌++◌, append-nil}
use mathlib.Core.Option.{Option, none, some}
use lib.Dec.{leb}
use Rattle.forms.specs.Bytes.{Bytes, eq_bytes, lt_bytes}
use Rattle.forms.specs.Key.{Key, key_form}
use Rattle.forms.specs.Row.{Row}
use Rattle.forms.proofs.Orders.{eq_bytes-refl, lt_bytes-not-eq', lt_bytes-le-lt, eq_bytes-true}
use Rattle.rules.specs.declared.records.Kind.{Kind}
use Rattle.rules.specs.declared.records.Kind.TheVariants.{Put, Delete, Rollback}
use Rattle.rules.specs.declared.records.Record.{Record}
use Rattle.rules.specs.Answers.{Answer, Accepted, No, Held, Reply, nothing, shown, need, if_passed}
use Rattle.rules.specs.Box as box
use Rattle.rules.specs.Sound.{sound_record}
use Rattle.rules.specs.Read.{lock_lets, keep_if, at_or_below, newest_first, show_row, one_record, walk}
use Rattle.rules.specs.Page.{row_cost, Bounds, Limits, Page, KeyRow, in_bounds, is_first, keys_of, keys_within, on_judged, page_walk, with_key, read_key}
use Rattle.rules.specs.Written.{key_row_bytes}
use Rattle.laws.proofs.Sorted.{In, ordered-first, ordered-rest, after-in}
use Rattle.laws.proofs.BoxOrder.{before-not-above}
use Rattle.store.specs.declared.table.Slot.{Slot}
use Rattle.store.specs.declared.views.LockView.{LockView}
use Rattle.store.specs.declared.views.RecordView.{RecordView}
use Rattle.store.specs.declared.views.LineView.TheVariants as view
use Rattle.store.specs.View.{key_of, row_in}
use Rattle.store.specs.Views.{lock_in, record_in}
use Rattle.store.proofs.MemberLaws.{lock-shown}
use Rattle.lookups.proofs.HistoryLaws.{first_more, records-append, or_lock, lock-append}
use Rattle.std.specs.Prelude as std
use Rattle.turns.specs.Dues.{Due, no_due, list_if, see_row}
use Rattle.walks.proofs.ListedLineLaws.{Lists, row_on, shown-turn, shown-good}
use Rattle.rules.specs.Box.{Box, KeyLine}
use Rattle.reads.proofs.ReadLaws.{read-steps}
use Rattle.walks.specs.Walked.{page_on, turn_to}
use Rattle.turns.specs.Turns.{turn_due, cost_of}
use Rattle.walks.proofs.WalkLaws.{TurnGood, Stepped}

-- ---- lines of other keys

none_of : (k : Key) (e : box.KeyLine) (es : List box.KeyLine) → eq_bytes k e.key ≡ false → (box.lock_of k es ≡ none) × (box.records_of k es ≡ []) → (box.lock_of k (e ∷ es) ≡ none) × (box.records_of k (e ∷ es) ≡ [])
unfolding box.lock_of box.records_of box.add_lock box.add_record
none_of k e es n p = (rw n p.0, rw n p.1)

-- up to a line below the key there is none of its own
pub none_before : (k : Key) (xs : List box.KeyLine) (f : box.KeyLine) → box.ordered box.before (xs ++ f ∷ []) ≡ true → lt_bytes f.key k ≡ true → (box.lock_of k (xs ++ f ∷ []) ≡ none) × (box.records_of k (xs ++ f ∷ []) ≡ [])
unfolding box.lock_of box.records_of
none_before k [] f o h = none_of k f [] (lt_bytes-not-eq' f.key k h) (refl, refl)
none_before k (e ∷ xs) f o h =
    none_of k e (xs ++ f ∷ [])
    (lt_bytes-not-eq' e.key k (lt_bytes-le-lt e.key f.key k (before-not-above e f (after-in box.before e (xs ++ f ∷ []) f (ordered-first box.before e (xs ++ f ∷ []) o) (in-last f xs))) h))
    (none_before k xs f (ordered-rest box.before e (xs ++ f ∷ []) o) h)
  where
    in-last : (f : box.KeyLine) (xs : List box.KeyLine) → In f (xs ++ f ∷ [])
    in-last f [] = inl refl
    in-last f (x ∷ xs) = inr (in-last f xs)

-- ---- what is due

abbrev pub line_row : Bytes → std.Option Slot → Reply Row
line_row area std.None = nothing
line_row area (std.Some s) = shown (row_in area s)

-- the line that is listed is one of the key
pub record RowLine (area : Bytes) (k : Key) (s : Slot) : Type 0 where
  pub key_is : key_of area s ≡ k
  pub lists : Lists area key_row_bytes row_cost 2 s (row_on area s)

abbrev pub LineGood : Bytes → Key → std.Option Slot → Type 0
LineGood area k std.None = Unit {0}
LineGood area k (std.Some s) = RowLine area k s

-- of the lines `pre` of a key
pub record DueRow (area : Bytes) (m : ℕ) (ds : List box.Default) (k : Key) (pre : List box.KeyLine) (d : Due) : Type 0 where
  pub lets : d.lets ≡ lock_lets m (box.lock_of k pre)
  pub row : line_row area d.line ≡ (walk k ds (newest_first m (box.records_of k pre))).reply
  pub line : LineGood area k d.line

or-none : (o : Option box.Lock) → or_lock o none ≡ o
or-none none = refl
or-none (some l) = refl

module _ {area : Bytes} {m : ℕ} {ds : List box.Default} {k : Key} {pre : List box.KeyLine} where
  pub due-none : (box.lock_of k pre ≡ none) × (box.records_of k pre ≡ []) → DueRow area m ds k pre no_due
  unfolding lock_lets newest_first at_or_below walk
  due-none p = record { lets = sym (ap (lock_lets m) p.0); row = sym (ap (λ (ws : List Record). (walk k ds (newest_first m ws)).reply) p.1); line = tt }

  -- what comes after says nothing of the key
  pub due-end : {d : Due} (post : List box.KeyLine) → DueRow area m ds k pre d → (box.lock_of k post ≡ none) × (box.records_of k post ≡ []) → DueRow area m ds k (pre ++ post) d
  due-end post v p = record {
    lets = v.lets ∙ ap (lock_lets m) (sym (lock-append k pre post ∙ ap (or_lock (box.lock_of k pre)) p.0 ∙ or-none (box.lock_of k pre)));
    row = v.row ∙ ap (λ (ws : List Record). (walk k ds (newest_first m ws)).reply) (sym (records-append k pre post ∙ ap (λ (ws : List Record). box.records_of k pre ++ ws) p.1 ∙ append-nil (box.records_of k pre)));
    line = v.line;
  }

  module _ {d : Due} (v : DueRow area m ds k pre d) (s : Slot) where
    -- "lock with start at or below the moment, 7"
    pub due-lock : (i : LockView) → box.ordered box.before (pre ++ record { key = k; line = box.Standing (lock_in area i) } ∷ []) ≡ true
        → DueRow area m ds k (pre ++ record { key = k; line = box.Standing (lock_in area i) } ∷ []) (see_row m d s (view.Standing i))
    unfolding lock_lets box.records_of box.add_record
    due-lock i o = record {
      lets = ap (lock_lets m) (sym (lock-shown k (pre ++ e ∷ []) (lock_in area i) o (in-last pre)));
      row = v.row ∙ ap (λ (ws : List Record). (walk k ds (newest_first m ws)).reply) (sym (records-append k pre (e ∷ []) ∙ rw (eq_bytes-refl k) (append-nil (box.records_of k pre))));
      line = v.line;
    }
      where
        e : box.KeyLine
        e = record { key = k; line = box.Standing (lock_in area i) }

        in-last : (xs : List box.KeyLine) → In e (xs ++ e ∷ [])
        in-last [] = inl refl
        in-last (x ∷ xs) = inr (in-last xs)

    -- "records from the newest at or below the moment downward: Rollback, go on; Delete, nothing; Put, its default, shown"
    pub due-record : (w : RecordView) → sound_record (record_in w) ≡ true → (w.kind ≡ Put → show_row (box.row_of k w.start ds) ≡ shown (row_in area s)) → (w.kind ≡ Put → RowLine area k s)
        → DueRow area m ds k (pre ++ record { key = k; line = box.Finished (record_in w) } ∷ []) (see_row m d s (view.Finished w))
    unfolding box.lock_of box.add_lock box.records_of box.add_record walk one_record keep_if
    due-record w sound there good = record {
      lets = v.lets ∙ ap (lock_lets m) (sym (lock-append k pre (e ∷ []) ∙ rw (eq_bytes-refl k) (or-none (box.lock_of k pre))));
      row = rows (leb w.stamp m) w.kind refl ∙ sym (ap (λ (ws : List Record). (walk k ds (newest_first m ws)).reply) (records-append k pre (e ∷ []) ∙ rw (eq_bytes-refl k)) ∙ ap (λ (ws : List Record). (walk k ds ws).reply) (first_more m (box.records_of k pre) (record_in w)));
      line = lines (leb w.stamp m) w.kind refl;
    }
      where
        e : box.KeyLine
        e = record { key = k; line = box.Finished (record_in w) }

        rows : (t : Bool) (n : Kind) → w.kind ≡ n → line_row area (list_if t n s d.line) ≡ (walk k ds (keep_if t (record_in w) (newest_first m (box.records_of k pre)))).reply
        rows false n q = v.row
        rows true Put q = sym (rw (sound, q) (there q))
        rows true Delete q = sym (rw (sound, q))
        rows true Rollback q = v.row ∙ sym (rw (sound, q))

        lines : (t : Bool) (n : Kind) → w.kind ≡ n → LineGood area k (list_if t n s d.line)
        lines false n q = v.line
        lines true Put q = good q
        lines true Delete q = tt
        lines true Rollback q = v.line

-- ---- "each once, as the lines stand in order"

-- the first key is that of the first line
first_key : (k : Key) (e : KeyLine) (es : List KeyLine) → is_first k (keys_of (e ∷ es)) ≡ eq_bytes k e.key
unfolding keys_of keep_if
first_key k e es = go (keys_of es) (is_first e.key (keys_of es)) refl
  where
    go : (ks : List Key) (t : Bool) → is_first e.key ks ≡ t → is_first k (keep_if (not t) e.key ks) ≡ eq_bytes k e.key
    go ks false h = refl
    go [] true h = absurd (false≢true h)
    go (j ∷ js) true h = ap (eq_bytes k) (sym (eq_bytes-true e.key j h))

keys-by : (e : KeyLine) (es : List KeyLine) {t : Bool} → is_first e.key (keys_of es) ≡ t → keys_of (e ∷ es) ≡ keep_if (not t) e.key (keys_of es)
unfolding keys_of
keys-by e es h = ap (λ (t : Bool). keep_if (not t) e.key (keys_of es)) h

-- the next line has the key too
pub keys-shared : (e f : KeyLine) (es : List KeyLine) → eq_bytes e.key f.key ≡ true → keys_of (e ∷ (f ∷ es)) ≡ keys_of (f ∷ es)
unfolding keep_if
keys-shared e f es h = keys-by e (f ∷ es) (first_key e.key f es ∙ h)

pub keys-last : (e f : KeyLine) (es : List KeyLine) → eq_bytes e.key f.key ≡ false → keys_of (e ∷ (f ∷ es)) ≡ e.key ∷ keys_of (f ∷ es)
unfolding keep_if
keys-last e f es h = keys-by e (f ∷ es) (first_key e.key f es ∙ h)

pub keys-end : (e : KeyLine) → keys_of (e ∷ []) ≡ e.key ∷ keys_of []
unfolding keys_of keep_if
keys-end e = refl

-- ---- one key

-- one that is not asked for is passed over, as one that shows nothing
abbrev judged_if : {A : Type 0} → Bool → Reply A → Reply A
judged_if true r = r
judged_if false r = nothing

key-walk : (judge : Key → Reply KeyRow) (m : Limits) (a : Bounds) (k : Key) (ks : List Key) (count sum : ℕ) (t : Bool) → in_bounds a k ≡ t
    → page_walk judge row_cost m (keys_within a (k ∷ ks)) count sum ≡ on_judged m row_cost count sum (λ c s. page_walk judge row_cost m (keys_within a ks) c s) (judged_if t (judge k))
unfolding keys_within keep_if page_walk on_judged
key-walk judge m a k ks count sum true e = rw e
key-walk judge m a k ks count sum false e = rw e

module _ (area : Bytes) (k : Key) (m : Limits) (count sum : ℕ) where
  row-judged : (rest : ℕ → ℕ → Reply (Page KeyRow)) (lets : Answer) (line : std.Option Slot) → LineGood area k line → (t : Bool)
      → page_on key_row_bytes (on_judged m row_cost count sum rest (judged_if t (with_key k (if_passed lets (line_row area line))))) ≡ turn_to area (λ c s. page_on key_row_bytes (rest c s)) count sum (turn_due t (record { lets = lets; line = line }) m.rows m.bytes count sum)
  unfolding on_judged if_passed page_on
  row-judged rest lets line g false = refl
  row-judged rest Accepted std.None g true = refl
  row-judged rest Accepted (std.Some s) g true =
      ap (λ (j : Key). page_on key_row_bytes (on_judged m row_cost count sum rest (shown (record { key = j; row = row_in area s })))) (sym g.key_is) ∙ shown-turn g.lists m count sum rest
  row-judged rest (No n) line g true = refl
  row-judged rest (Held h) line g true = refl

  row-good : (lets : Answer) (line : std.Option Slot) → LineGood area k line → (t : Bool) → TurnGood area 2 (turn_due t (record { lets = lets; line = line }) m.rows m.bytes count sum)
  row-good lets line g false = tt
  row-good Accepted std.None g true = tt
  row-good Accepted (std.Some s) g true = shown-good g.lists m.rows m.bytes count (sum + cost_of s)
  row-good (No n) line g true = tt
  row-good (Held h) line g true = tt

-- what is due of all of the box's lines is the key's read
due-read : (area : Bytes) (k : Key) (moment : ℕ) (b : Box) (d : Due) → key_form k ≡ true → DueRow area moment b.defaults k b.lines d → read_key moment b k ≡ with_key k (if_passed d.lets (line_row area d.line))
unfolding read_key if_passed need
due-read area k moment b d form v =
    ap (with_key k) (read-steps k moment b true form) ∙ ap₂ (λ (l : Answer) (r : Reply Row). with_key k (if_passed l r)) (sym v.lets) (sym v.row)

-- the turn that a key takes
pub row-stepped : {area : Bytes} {moment : ℕ} {b : Box} {k : Key} {d : Due} (m : Limits) (a : Bounds) (ks : List Key) (count sum : ℕ) {t : Bool} → key_form k ≡ true → DueRow area moment b.defaults k b.lines d → in_bounds a k ≡ t
    → Stepped area 2 (λ c s. page_on key_row_bytes (page_walk (read_key moment b) row_cost m (keys_within a (k ∷ ks)) c s)) (λ c s. page_on key_row_bytes (page_walk (read_key moment b) row_cost m (keys_within a ks) c s)) count sum (turn_due t d m.rows m.bytes count sum)
row-stepped {area} {moment} {b} {k} {d} m a ks count sum {t} form v e = record {
  is =
      ap (page_on key_row_bytes) (key-walk (read_key moment b) m a k ks count sum t e)
      ∙ ap (λ (r : Reply KeyRow). page_on key_row_bytes (on_judged m row_cost count sum (λ c s. page_walk (read_key moment b) row_cost m (keys_within a ks) c s) (judged_if t r))) (due-read area k moment b d form v)
      ∙ row-judged area k m count sum (λ c s. page_walk (read_key moment b) row_cost m (keys_within a ks) c s) d.lets d.line v.line t;
  good = row-good area k m count sum d.lets d.line v.line t;
}
