-- A second collection at the same floor changes nothing: what is left stays, every later record is stamped above the floor, and a lock that comes
-- or goes is no record. Assumes nothing.
use Prim.Native.Nat.{ℕ, ◌<◌}
use native.Mathlib.Omega.{arith}
use mathlib.Core.Path.{◌≡◌, refl, ap, ap₂, ◌∙◌}
use mathlib.Core.Bool.{Bool, true, false, ◌&&◌, ◌||◌, not, true≢false}
use mathlib.Core.List.{List, [], ◌∷◌}
use mathlib.Core.Option.{Option, none, some}
use lib.Dec.{ltb}
use borrow.Author.Tests.{lt-ltb, lt-leb, le-leb}
use Rattle.forms.specs.Key.{Key}
use Rattle.forms.specs.Bytes.{eq_bytes}
use Rattle.forms.specs.Batch.{Mutation}
use Rattle.rules.specs.Answers.{Accepted, ◌▸◌, need, need_own}
use Rattle.rules.specs.declared.records.Kind.TheVariants.{Put}
use Rattle.rules.specs.declared.records.Record.{Record}
use Rattle.rules.specs.Box.{Box, Lock, Line, Standing, Finished, KeyLine, Default, fresh, eq_kind, records_of, add_record, lock_of, before, put_in, insert_by, insert_line, unless_lock, drop_lock}
use Rattle.rules.specs.Read.{keep_if}
use Rattle.rules.specs.Calls.{State, settle_state, kind_of}
use Rattle.rules.specs.Prewrite.{PrewriteTerms, lock_for, lock_line, unless_locked, apply_prewrite}
use Rattle.rules.specs.Restore.{all_good, pointed_to}
use Rattle.rules.specs.Collect.{counts_by, none_counts, stays, kept_lines, dropped_lines, row_stays, collected, line_above_step, locks_above_step, collect_steps, collect}
use Rattle.laws.proofs.StepLaws.{by-test, and_left, and_right, and_both}
use Rattle.laws.proofs.Sorted.{Fewer, empty, gone, kept}
use Rattle.laws.proofs.KeyLaws.{records-drop_lock}
use Rattle.laws.proofs.TablePartLaws.{those-all}
use Rattle.laws.proofs.CollectLaws.{records-kept, records-fewer}
use Rattle.ledger.specs.Tidy.{line_above, LocksAbove, Collected}
use Rattle.ledger.proofs.SoundEntries.{RecordSlot, as_before, with_record, commit-ended, rollback-ended, step-ended}
use Rattle.ledger.proofs.Always.{Inductive}

abbrev line_at : Key → Line → KeyLine
line_at k x = record { key = k; line = x }

-- ---- a line comes: a lock, or a record above the floor

abbrev Up : ℕ → Line → Type 0
Up f (Standing l) = Unit {0}
Up f (Finished w) = f < w.stamp

none-add : (f : ℕ) (t : Bool) (x : Line) (ws : List Record) → Up f x → none_counts f (add_record t x ws) ≡ none_counts f ws
unfolding add_record none_counts
none-add f true (Standing l) ws u = refl
none-add f true (Finished w) ws u = rw (lt-leb w.stamp f u)
none-add f false x ws u = refl

none-on : (f : ℕ) (t : Bool) (x : Line) (vs ws : List Record) → none_counts f vs ≡ none_counts f ws → none_counts f (add_record t x vs) ≡ none_counts f (add_record t x ws)
unfolding add_record none_counts
none-on f true (Standing l) vs ws e = e
none-on f true (Finished w) vs ws e = ap (λ (c : Bool). not (counts_by f w) && c) e
none-on f false x vs ws e = e

module _ (f : ℕ) (e : KeyLine) (u : Up f e.line) where
  none-insert : (k : Key) (es : List KeyLine) → none_counts f (records_of k (insert_line e es)) ≡ none_counts f (records_of k es)
  unfolding insert_by put_in records_of
  none-insert k [] = none-add f (eq_bytes k e.key) e.line [] u
  none-insert k (g ∷ es) = go (before e g) (none-insert k es)
    where
      go : (t : Bool) → none_counts f (records_of k (insert_line e es)) ≡ none_counts f (records_of k es) → none_counts f (records_of k (put_in t e g es (insert_line e es))) ≡ none_counts f (records_of k (g ∷ es))
      go true ih = none-add f (eq_bytes k e.key) e.line (records_of k (g ∷ es)) u
      go false ih = none-on f (eq_bytes k g.key) g.line (records_of k (insert_line e es)) (records_of k es) ih

-- a line stays as long as its key's newer records count as before
stays_same : (f : ℕ) (e : KeyLine) (es fs : List KeyLine) → none_counts f (records_of e.key es) ≡ none_counts f (records_of e.key fs) → stays f es e ≡ stays f fs e
stays_same f e es fs q = go e.key e.line q
  where
    go : (j : Key) (x : Line) → none_counts f (records_of j es) ≡ none_counts f (records_of j fs) → stays f es (line_at j x) ≡ stays f fs (line_at j x)
    go j (Standing l) q = refl
    go j (Finished w) q = ap (λ (c : Bool). ltb f w.stamp || (eq_kind w.kind Put && c)) q

up-stays : (f : ℕ) (e : KeyLine) (es : List KeyLine) → Up f e.line → stays f es e ≡ true
up-stays f e es u = go e.key e.line u
  where
    go : (j : Key) (x : Line) → Up f x → stays f es (line_at j x) ≡ true
    go j (Standing l) u = refl
    go j (Finished w) u = rw (lt-ltb f w.stamp u)

-- nothing is dropped: the first line stays, and of the rest nothing is dropped
none_first : (f : ℕ) (e : KeyLine) (es : List KeyLine) → dropped_lines f (e ∷ es) ≡ [] → (stays f es e ≡ true) × (dropped_lines f es ≡ [])
unfolding dropped_lines keep_if
none_first f e es h = go (stays f es e) h
  where
    go : (t : Bool) → keep_if (not t) e (dropped_lines f es) ≡ [] → (t ≡ true) × (dropped_lines f es ≡ [])
    go true h = (refl, h)
    go false h = absurd (true≢false (cc))

none_both : (f : ℕ) (e : KeyLine) (es : List KeyLine) → stays f es e ≡ true → dropped_lines f es ≡ [] → dropped_lines f (e ∷ es) ≡ []
unfolding dropped_lines keep_if
none_both f e es p q = rw p q

dropped-insert : (f : ℕ) (e : KeyLine) → Up f e.line → (es : List KeyLine) → dropped_lines f es ≡ [] → dropped_lines f (insert_line e es) ≡ []
unfolding insert_by put_in
dropped-insert f e u [] h = none_both f e [] (up-stays f e [] u) h
dropped-insert f e u (g ∷ es) h = go (before e g) (dropped-insert f e u es)
  where
    go : (t : Bool) → (dropped_lines f es ≡ [] → dropped_lines f (insert_line e es) ≡ []) → dropped_lines f (put_in t e g es (insert_line e es)) ≡ []
    go true ih = none_both f e (g ∷ es) (up-stays f e (g ∷ es) u) h
    go false ih =
        let q = none_first f g es h in
        none_both f g (insert_line e es) (stays_same f g (insert_line e es) es (none-insert f e u g.key es) ∙ q.0) (ih q.1)

-- ---- a lock goes

dropped-drop_lock : (f : ℕ) (k : Key) (es : List KeyLine) → dropped_lines f es ≡ [] → dropped_lines f (drop_lock k es) ≡ []
unfolding drop_lock unless_lock
dropped-drop_lock f k [] h = h
dropped-drop_lock f k (g ∷ es) h = go (eq_bytes k g.key) g.line (dropped-drop_lock f k es)
  where
    on : (dropped_lines f es ≡ [] → dropped_lines f (drop_lock k es) ≡ []) → dropped_lines f (g ∷ drop_lock k es) ≡ []
    on ih =
        let q = none_first f g es h in
        none_both f g (drop_lock k es) (stays_same f g (drop_lock k es) es (ap (none_counts f) (records-drop_lock g.key k es)) ∙ q.0) (ih q.1)

    go : (t : Bool) (x : Line) → (dropped_lines f es ≡ [] → dropped_lines f (drop_lock k es) ≡ []) → dropped_lines f (unless_lock t g x es (drop_lock k es)) ≡ []
    go true (Standing l) ih = (none_first f g es h).1
    go true (Finished w) ih = on ih
    go false x ih = on ih

-- ---- what is left stays

none-fewer : (f : ℕ) {vs ws : List Record} → Fewer vs ws → none_counts f ws ≡ true → none_counts f vs ≡ true
unfolding none_counts
none-fewer f empty n = refl
none-fewer f (gone {x = w} q) n = none-fewer f q (and_right (not (counts_by f w)) _ n)
none-fewer f (kept {x = w} q) n = and_both (not (counts_by f w)) _ (and_left _ _ n) (none-fewer f q (and_right (not (counts_by f w)) _ n))

stays-left : (f : ℕ) (e : KeyLine) (es : List KeyLine) → stays f es e ≡ true → stays f (kept_lines f es) e ≡ true
stays-left f e es h = go e.key e.line h
  where
    less : (u p n m : Bool) → (n ≡ true → m ≡ true) → u || (p && n) ≡ true → u || (p && m) ≡ true
    less true p n m i h = refl
    less false true n m i h = i h
    less false false n m i h = h

    go : (j : Key) (x : Line) → stays f es (line_at j x) ≡ true → stays f (kept_lines f es) (line_at j x) ≡ true
    go j (Standing l) h = refl
    go j (Finished w) h =
        less (ltb f w.stamp) (eq_kind w.kind Put) (none_counts f (records_of j es)) (none_counts f (records_of j (kept_lines f es)))
        (λ n. ap (none_counts f) (records-kept f j es) ∙ none-fewer f (records-fewer f (records_of j es)) n) h

pub dropped-again : (f : ℕ) (es : List KeyLine) → dropped_lines f (kept_lines f es) ≡ []
unfolding kept_lines keep_if dropped_lines
dropped-again f [] = refl
dropped-again f (e ∷ es) =
    by-test (λ t. stays f es e ≡ t → dropped_lines f (keep_if t e (kept_lines f es)) ≡ []) (stays f es e) (λ q r. none_both f e (kept_lines f es) (stays-left f e es r) (dropped-again f es)) (λ q r. dropped-again f es) refl

-- ---- every call

prewrite-collected : (f : ℕ) (h : PrewriteTerms) (m : Mutation) (b : Box) → Collected f b → Collected f (apply_prewrite h m b)
unfolding apply_prewrite unless_locked lock_line
prewrite-collected f h m b v = go (lock_of m.key b.lines)
  where
    go : (o : Option Lock) → Collected f (unless_locked o (lock_line h m b) b)
    go none = dropped-insert f (line_at m.key (Standing (lock_for h (kind_of m.row)))) tt b.lines v
    go (some l) = v

ended-collected : (f : ℕ) (b c : Box) (k : Key) → RecordSlot f b k c → Collected f b → Collected f c
ended-collected f b c k (as_before e) v = rw e v
ended-collected f b c k (with_record w ds e i s g u) v = rw e (dropped-insert f (line_at k (Finished w)) u (drop_lock k b.lines) (dropped-drop_lock f k b.lines v))

pub collected-kept : Inductive (λ f ds b log. Collected f b)
unfolding fresh dropped_lines collected
collected-kept = record {
  at_first = refl;
  entries = λ f ds. record {
    prewritten = λ h m b log z p. prewrite-collected f h m b;
    committed = λ h k b log z p. ended-collected f b _ k (commit-ended f h k b z p);
    rolled-back = λ txn s k b log z p. ended-collected f b _ k (rollback-ended f txn s k b z p);
    stepped = λ h m b log z e r p. ended-collected f b _ m.key (step-ended f h m b z e r);
    applied_before = λ h m b log z p v. v;
  };
  collects = λ f g ds b log up l v. dropped-again g b.lines;
}

-- ---- where nothing is dropped, nothing changes

kept-all : (f : ℕ) (es : List KeyLine) → dropped_lines f es ≡ [] → kept_lines f es ≡ es
unfolding kept_lines keep_if
kept-all f [] h = refl
kept-all f (e ∷ es) h = let q = none_first f e es h in rw q.0 (ap (λ (fs : List KeyLine). e ∷ fs) (kept-all f es q.1))

rows_all : (p : Default → Bool) → ((d : Default) → p d ≡ true) → (ds : List Default) → all_good p ds ≡ true
unfolding all_good
rows_all p h [] = refl
rows_all p h (d ∷ ds) = and_both _ _ (h d) (rows_all p h ds)

pub collected-same : (f : ℕ) (b : Box) → Collected f b → collected f b ≡ b
unfolding collected pointed_to
collected-same f b h =
    ap₂ (λ (es : List KeyLine) (ds : List Default). record { lines = es; defaults = ds }) (kept-all f b.lines h)
    (those-all (row_stays f b.lines) b.defaults (rows_all _ (λ d. ap (λ (es : List KeyLine). not (pointed_to es d)) h) b.defaults))

pub collected-twice : (f : ℕ) (b : Box) → collected f (collected f b) ≡ collected f b
collected-twice f b = collected-same f (collected f b) (unfold collected in (dropped-again f b.lines))

-- a lock above the floor holds nothing up
above-passes : (f : ℕ) (es : List KeyLine) → all_good (λ (e : KeyLine). line_above f e.line) es ≡ true → locks_above_step f es ≡ Accepted
unfolding locks_above_step all_good need_own ◌▸◌
above-passes f [] a = refl
above-passes f (e ∷ es) a = go e.line (and_left _ _ a) (above-passes f es (and_right (line_above f e.line) _ a))
  where
    go : (x : Line) → line_above f x ≡ true → locks_above_step f es ≡ Accepted → line_above_step f x ▸ locks_above_step f es ≡ Accepted
    go (Standing l) h ih = rw h ih
    go (Finished w) h ih = ih

-- "a second collection at the same floor": accepted, and the state is the same
pub collect-again : (st : State) → LocksAbove st.floor st.box → Collected st.floor st.box → collect st.floor st ≡ record { answer = Accepted; state = st }
unfolding collect collect_steps settle_state need ◌▸◌
collect-again st a v = rw (le-leb st.floor st.floor (omega arith), above-passes st.floor st.box.lines a, collected-same st.floor st.box v)
