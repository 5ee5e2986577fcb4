-- What stands at a key, its records, its lock, its rows, after a line or a default comes or goes: at the same key and at another.
-- Assumes nothing.
use Prim.Native.Nat.{ℕ, ◌<◌}
use native.Mathlib.Omega.{arith}
use mathlib.Core.Path.{◌≡◌, refl, ap, ap₂, sym, ◌∙◌, subst}
use mathlib.Core.Bool.{Bool, true, false, ◌&&◌, false≢true}
use mathlib.Core.List.{List, [], ◌∷◌, ◌++◌}
use mathlib.Core.Option.{Option, none, some}
use lib.Dec.{eqb, ltb}
use borrow.Author.Tests.{eq-eqb, eqb-true, ltb-true, le-ltb}
use Rattle.forms.specs.Key.{Key}
use Rattle.forms.specs.Bytes.{eq_bytes}
use Rattle.forms.proofs.Orders.{eq_bytes-refl, eq_bytes-true}
use Rattle.rules.specs.declared.records.Record.{Record}
use Rattle.rules.specs.Box.{Lock, Line, Standing, Finished, KeyLine, Default, records_of, add_record, lock_of, add_lock, row_of, add_row, at_pair, before, row_before, put_in, insert_by, insert_line, insert_default, unless_lock, drop_lock, unless_row, drop_row, ordered, all_after}
use Rattle.rules.specs.Calls.{all_below}
use Rattle.laws.proofs.StepLaws.{and_left, and_right, and_both}
use Rattle.laws.proofs.Sorted.{ordered-first, ordered-rest, after-down}
use Rattle.laws.proofs.BoxOrder.{before-trans, before_same, row_before-apart}

-- ---- a line comes that says nothing of the key

module _ (i : Key) (e : KeyLine) where
  records-put : ((ws : List Record) → add_record (eq_bytes i e.key) e.line ws ≡ ws) → (b : Bool) (f : KeyLine) (es rest : List KeyLine) → records_of i rest ≡ records_of i es → records_of i (put_in b e f es rest) ≡ records_of i (f ∷ es)
  unfolding put_in records_of
  records-put n true f es rest ih = n _
  records-put n false f es rest ih = rw ih

  records-insert : ((ws : List Record) → add_record (eq_bytes i e.key) e.line ws ≡ ws) → (es : List KeyLine) → records_of i (insert_line e es) ≡ records_of i es
  unfolding insert_by records_of
  records-insert n [] = n []
  records-insert n (f ∷ es) = records-put n (before e f) f es (insert_by before e es) (records-insert n es)

  lock-put : ((o : Option Lock) → add_lock (eq_bytes i e.key) e.line o ≡ o) → (b : Bool) (f : KeyLine) (es rest : List KeyLine) → lock_of i rest ≡ lock_of i es → lock_of i (put_in b e f es rest) ≡ lock_of i (f ∷ es)
  unfolding put_in lock_of
  lock-put n true f es rest ih = n _
  lock-put n false f es rest ih = rw ih

  lock-insert : ((o : Option Lock) → add_lock (eq_bytes i e.key) e.line o ≡ o) → (es : List KeyLine) → lock_of i (insert_line e es) ≡ lock_of i es
  unfolding insert_by lock_of
  lock-insert n [] = n none
  lock-insert n (f ∷ es) = lock-put n (before e f) f es (insert_by before e es) (lock-insert n es)

  -- another key's line
  pub records-other : (es : List KeyLine) → eq_bytes i e.key ≡ false → records_of i (insert_line e es) ≡ records_of i es
  unfolding add_record
  records-other es h = records-insert (λ ws. rw h) es

  pub lock-other : (es : List KeyLine) → eq_bytes i e.key ≡ false → lock_of i (insert_line e es) ≡ lock_of i es
  unfolding add_lock
  lock-other es h = lock-insert (λ o. rw h) es

-- a lock says nothing of records, and a record nothing of locks
pub records-lock : (i k : Key) (l : Lock) (es : List KeyLine) → records_of i (insert_line (record { key = k; line = Standing l }) es) ≡ records_of i es
unfolding add_record
records-lock i k l es = records-insert i (record { key = k; line = Standing l }) (λ ws. go (eq_bytes i k) ws) es
  where
    go : (t : Bool) (ws : List Record) → add_record t (Standing l) ws ≡ ws
    go true ws = refl
    go false ws = refl

pub lock-record : (i k : Key) (w : Record) (es : List KeyLine) → lock_of i (insert_line (record { key = k; line = Finished w }) es) ≡ lock_of i es
unfolding add_lock
lock-record i k w es = lock-insert i (record { key = k; line = Finished w }) (λ o. go (eq_bytes i k) o) es
  where
    go : (t : Bool) (o : Option Lock) → add_lock t (Finished w) o ≡ o
    go true o = refl
    go false o = refl

-- ---- a lock comes where none stands

pub lock_new : (k : Key) (l : Lock) (es : List KeyLine) → lock_of k es ≡ none → lock_of k (insert_line (record { key = k; line = Standing l }) es) ≡ some l
unfolding insert_by put_in lock_of add_lock
lock_new k l [] h = rw (eq_bytes-refl k)
lock_new k l (f ∷ es) h = go (before (record { key = k; line = Standing l }) f) (eq_bytes k f.key) f.line refl h (lock_new k l es)
  where
    deep : (t : Bool) (x : Line) → add_lock t x (lock_of k es) ≡ none → (lock_of k es ≡ none → lock_of k (insert_line (record { key = k; line = Standing l }) es) ≡ some l)
        → add_lock t x (lock_of k (insert_line (record { key = k; line = Standing l }) es)) ≡ some l
    deep true (Standing m) n ih = cc
    deep true (Finished w) n ih = ih n
    deep false x n ih = ih n

    go : (b t : Bool) (x : Line) → add_lock (eq_bytes k f.key) f.line (lock_of k es) ≡ add_lock t x (lock_of k es) → add_lock t x (lock_of k es) ≡ none
        → (lock_of k es ≡ none → lock_of k (insert_line (record { key = k; line = Standing l }) es) ≡ some l)
        → lock_of k (put_in b (record { key = k; line = Standing l }) f es (insert_line (record { key = k; line = Standing l }) es)) ≡ some l
    go true t x e n ih = rw (eq_bytes-refl k)
    go false t x e n ih = deep (eq_bytes k f.key) f.line h ih

-- ---- a record comes: at its place among the key's records

abbrev pub stamp_before : Record → Record → Bool
stamp_before v w = ltb v.stamp w.stamp

-- the lines after a record's: its key's records have greater stamps
pub after-records : (k : Key) (w : Record) (es : List KeyLine) → all_after before (record { key = k; line = Finished w }) es ≡ true → all_after stamp_before w (records_of k es) ≡ true
unfolding all_after records_of add_record
after-records k w [] a = refl
after-records k w (f ∷ es) a = go f.key f.line (eq_bytes k f.key) refl (and_left _ _ a) (after-records k w es (and_right (before (record { key = k; line = Finished w }) f) _ a))
  where
    go : (j : Key) (x : Line) (t : Bool) → eq_bytes k j ≡ t → before (record { key = k; line = Finished w }) (record { key = j; line = x }) ≡ true → all_after stamp_before w (records_of k es) ≡ true
        → all_after stamp_before w (add_record t x (records_of k es)) ≡ true
    go j x false e h r = r
    go j (Standing l) true e h r = r
    go j (Finished v) true e h r = and_both (stamp_before w v) _ (sym (before_same (record { key = k; line = Finished w }) (record { key = j; line = Finished v }) e) ∙ h) r

pub records-ordered : (k : Key) (es : List KeyLine) → ordered before es ≡ true → ordered stamp_before (records_of k es) ≡ true
unfolding records_of add_record ordered
records-ordered k [] o = refl
records-ordered k (f ∷ es) o = go f.key f.line (eq_bytes k f.key) refl (and_left _ _ o) (records-ordered k es (and_right (all_after before f es) _ o))
  where
    go : (j : Key) (x : Line) (t : Bool) → eq_bytes k j ≡ t → all_after before (record { key = j; line = x }) es ≡ true → ordered stamp_before (records_of k es) ≡ true → ordered stamp_before (add_record t x (records_of k es)) ≡ true
    go j x false e h r = r
    go j (Standing l) true e h r = r
    go j (Finished v) true e h r =
        and_both (all_after stamp_before v (records_of k es)) _ (after-records k v es (subst (λ (i : Key). all_after before (record { key = i; line = Finished v }) es ≡ true) (sym (eq_bytes-true k j e)) h)) r

pub insert-first : {A : Type 0} (lt : A → A → Bool) (x : A) (v : List A) → all_after lt x v ≡ true → insert_by lt x v ≡ x ∷ v
unfolding all_after insert_by put_in
insert-first lt x [] a = refl
insert-first lt x (y ∷ ys) a = rw (and_left (lt x y) _ a)

pub records-new : (k : Key) (w : Record) (es : List KeyLine) → ordered before es ≡ true → records_of k (insert_line (record { key = k; line = Finished w }) es) ≡ insert_by stamp_before w (records_of k es)
unfolding insert_by put_in records_of add_record
records-new k w [] o = rw (eq_bytes-refl k)
records-new k w (f ∷ es) o = go (before (record { key = k; line = Finished w }) f) refl (records-new k w es (ordered-rest before f es o))
  where
    deep : (j : Key) (x : Line) (t : Bool) → eq_bytes k j ≡ t → before (record { key = k; line = Finished w }) (record { key = j; line = x }) ≡ false
        → add_record t x (insert_by stamp_before w (records_of k es)) ≡ insert_by stamp_before w (add_record t x (records_of k es))
    deep j x false e h = refl
    deep j (Standing l) true e h = refl
    deep j (Finished v) true e h = rw (sym (before_same (record { key = k; line = Finished w }) (record { key = j; line = Finished v }) e) ∙ h)

    go : (b : Bool) → before (record { key = k; line = Finished w }) f ≡ b → records_of k (insert_line (record { key = k; line = Finished w }) es) ≡ insert_by stamp_before w (records_of k es)
        → records_of k (put_in b (record { key = k; line = Finished w }) f es (insert_line (record { key = k; line = Finished w }) es)) ≡ insert_by stamp_before w (records_of k (f ∷ es))
    go true h ih =
        ap (λ (t : Bool). add_record t (Finished w) (records_of k (f ∷ es))) (eq_bytes-refl k)
        ∙ sym (insert-first stamp_before w (records_of k (f ∷ es)) (after-records k w (f ∷ es) (unfold all_after in (and_both _ _ h (after-down before before-trans (record { key = k; line = Finished w }) f es h (ordered-first before f es o))))))
    go false h ih = ap (add_record (eq_bytes k f.key) f.line) ih ∙ deep f.key f.line (eq_bytes k f.key) refl h

-- a stamp above all others: the record comes last
pub insert-last : (w : Record) (ws : List Record) → all_below w.stamp ws ≡ true → insert_by stamp_before w ws ≡ ws ++ (w ∷ [])
unfolding all_below insert_by put_in
insert-last w [] a = refl
insert-last w (v ∷ ws) a =
    let l : v.stamp < w.stamp = ltb-true v.stamp w.stamp (and_left _ _ a) in
    let n : ltb w.stamp v.stamp ≡ false = le-ltb w.stamp v.stamp (omega arith) in
    rw n (ap (λ (xs : List Record). v ∷ xs) (insert-last w ws (and_right (ltb v.stamp w.stamp) _ a)))

-- ---- a lock goes

pub records-drop_lock : (i k : Key) (es : List KeyLine) → records_of i (drop_lock k es) ≡ records_of i es
unfolding drop_lock unless_lock records_of add_record
records-drop_lock i k [] = refl
records-drop_lock i k (f ∷ es) = go (eq_bytes k f.key) f.line refl (records-drop_lock i k es)
  where
    free : (t : Bool) (l : Lock) → records_of i es ≡ add_record t (Standing l) (records_of i es)
    free true l = refl
    free false l = refl

    go : (t : Bool) (x : Line) → f.line ≡ x → records_of i (drop_lock k es) ≡ records_of i es → records_of i (unless_lock t f x es (drop_lock k es)) ≡ add_record (eq_bytes i f.key) f.line (records_of i es)
    go true (Standing l) e ih = free (eq_bytes i f.key) l ∙ ap (λ (x : Line). add_record (eq_bytes i f.key) x (records_of i es)) (sym e)
    go true (Finished w) e ih = ap (add_record (eq_bytes i f.key) f.line) ih
    go false x e ih = ap (add_record (eq_bytes i f.key) f.line) ih

pub lock-drop_lock : (i k : Key) (es : List KeyLine) → eq_bytes i k ≡ false → lock_of i (drop_lock k es) ≡ lock_of i es
unfolding drop_lock unless_lock lock_of add_lock
lock-drop_lock i k [] h = refl
lock-drop_lock i k (f ∷ es) h = go (eq_bytes k f.key) f.line refl (lock-drop_lock i k es h)
  where
    go : (t : Bool) (x : Line) → eq_bytes k f.key ≡ t → lock_of i (drop_lock k es) ≡ lock_of i es → lock_of i (unless_lock t f x es (drop_lock k es)) ≡ add_lock (eq_bytes i f.key) f.line (lock_of i es)
    go true (Standing l) e ih = sym (ap (λ (t : Bool). add_lock t f.line (lock_of i es)) (ap (eq_bytes i) (sym (eq_bytes-true k f.key e)) ∙ h))
    go true (Finished w) e ih = ap (add_lock (eq_bytes i f.key) f.line) ih
    go false x e ih = ap (add_lock (eq_bytes i f.key) f.line) ih

-- a lock's key has no other lock after it
pub lock-after : (k : Key) (l : Lock) (es : List KeyLine) → all_after before (record { key = k; line = Standing l }) es ≡ true → lock_of k es ≡ none
unfolding all_after lock_of add_lock
lock-after k l [] a = refl
lock-after k l (f ∷ es) a = go f.key f.line (eq_bytes k f.key) refl (and_left _ _ a) (lock-after k l es (and_right (before (record { key = k; line = Standing l }) f) _ a))
  where
    go : (j : Key) (x : Line) (t : Bool) → eq_bytes k j ≡ t → before (record { key = k; line = Standing l }) (record { key = j; line = x }) ≡ true → lock_of k es ≡ none → add_lock t x (lock_of k es) ≡ none
    go j x false e h r = r
    go j (Standing m) true e h r = absurd (false≢true (sym (before_same (record { key = k; line = Standing l }) (record { key = j; line = Standing m }) e) ∙ h))
    go j (Finished w) true e h r = r

-- a key has one lock: where it goes, none is left
pub lock-gone : (k : Key) (es : List KeyLine) → ordered before es ≡ true → lock_of k (drop_lock k es) ≡ none
unfolding drop_lock unless_lock lock_of add_lock
lock-gone k [] o = refl
lock-gone k (f ∷ es) o = go f.key f.line (eq_bytes k f.key) refl (ordered-first before f es o) (lock-gone k es (ordered-rest before f es o))
  where
    go : (j : Key) (x : Line) (t : Bool) → eq_bytes k j ≡ t → all_after before (record { key = j; line = x }) es ≡ true → lock_of k (drop_lock k es) ≡ none → lock_of k (unless_lock t (record { key = j; line = x }) x es (drop_lock k es)) ≡ none
    go j (Standing l) true e a r = lock-after k l es (subst (λ (i : Key). all_after before (record { key = i; line = Standing l }) es ≡ true) (sym (eq_bytes-true k j e)) a)
    go j (Finished w) true e a r = rw e r
    go j x false e a r = rw e r

pub drop_lock-none : (k : Key) (es : List KeyLine) → lock_of k es ≡ none → drop_lock k es ≡ es
unfolding lock_of add_lock drop_lock unless_lock
drop_lock-none k [] h = refl
drop_lock-none k (f ∷ es) h = go (eq_bytes k f.key) f.line h (drop_lock-none k es)
  where
    go : (t : Bool) (x : Line) → add_lock t x (lock_of k es) ≡ none → (lock_of k es ≡ none → drop_lock k es ≡ es) → unless_lock t f x es (drop_lock k es) ≡ f ∷ es
    go true (Standing l) n ih = cc
    go true (Finished w) n ih = ap (λ (z : List KeyLine). f ∷ z) (ih n)
    go false x n ih = ap (λ (z : List KeyLine). f ∷ z) (ih n)

-- ---- defaults

pub row_other : (i : Key) (t : ℕ) (d : Default) (ds : List Default) → at_pair i t d ≡ false → row_of i t (insert_default d ds) ≡ row_of i t ds
unfolding insert_by put_in row_of add_row
row_other i t d [] h = rw h
row_other i t d (e ∷ es) h = go (row_before d e) (row_other i t d es h)
  where
    go : (b : Bool) → row_of i t (insert_default d es) ≡ row_of i t es → row_of i t (put_in b d e es (insert_default d es)) ≡ add_row (at_pair i t e) e.row (row_of i t es)
    go true ih = rw h
    go false ih = rw ih

pub pair-refl : (d : Default) → at_pair d.key d.start d ≡ true
pair-refl d = rw (eq_bytes-refl d.key) (eq-eqb d.start d.start refl)

pub row_new : (d : Default) (ds : List Default) → row_of d.key d.start ds ≡ none → row_of d.key d.start (insert_default d ds) ≡ some d.row
unfolding insert_by put_in row_of add_row
row_new d [] h = rw (pair-refl d)
row_new d (e ∷ es) h = go (row_before d e) (deep (at_pair d.key d.start e) h (row_new d es))
  where
    deep : (t : Bool) → add_row t e.row (row_of d.key d.start es) ≡ none → (row_of d.key d.start es ≡ none → row_of d.key d.start (insert_default d es) ≡ some d.row)
        → add_row t e.row (row_of d.key d.start (insert_default d es)) ≡ some d.row
    deep true n ih = cc
    deep false n ih = ih n

    go : (b : Bool) → add_row (at_pair d.key d.start e) e.row (row_of d.key d.start (insert_default d es)) ≡ some d.row → row_of d.key d.start (put_in b d e es (insert_default d es)) ≡ some d.row
    go true r = ap (λ (t : Bool). add_row t d.row (row_of d.key d.start (e ∷ es))) (pair-refl d)
    go false r = r

pub row-gone : (k : Key) (s : ℕ) (ds : List Default) → row_of k s (drop_row k s ds) ≡ none
unfolding drop_row unless_row row_of add_row
row-gone k s [] = refl
row-gone k s (d ∷ ds) = go (at_pair k s d) refl (row-gone k s ds)
  where
    go : (t : Bool) → at_pair k s d ≡ t → row_of k s (drop_row k s ds) ≡ none → row_of k s (unless_row t d (drop_row k s ds)) ≡ none
    go true e r = r
    go false e r = rw e r

-- another pair's row
pub row-drop_row : (i : Key) (t : ℕ) (k : Key) (s : ℕ) (ds : List Default) → eq_bytes i k && eqb t s ≡ false → row_of i t (drop_row k s ds) ≡ row_of i t ds
unfolding drop_row unless_row row_of add_row
row-drop_row i t k s [] h = refl
row-drop_row i t k s (d ∷ ds) h = go (at_pair k s d) refl (row-drop_row i t k s ds h)
  where
    go : (b : Bool) → at_pair k s d ≡ b → row_of i t (drop_row k s ds) ≡ row_of i t ds → row_of i t (unless_row b d (drop_row k s ds)) ≡ add_row (at_pair i t d) d.row (row_of i t ds)
    go true e ih =
        let p : k ≡ d.key = eq_bytes-true k d.key (and_left _ _ e) in
        let q : s ≡ d.start = eqb-true s d.start (and_right (eq_bytes k d.key) _ e) in
        let n : at_pair i t d ≡ false = ap₂ (λ (j : Key) (u : ℕ). eq_bytes i j && eqb t u) (sym p) (sym q) ∙ h in
        ih ∙ sym (ap (λ (b : Bool). add_row b d.row (row_of i t ds)) n)
    go false e ih = ap (add_row (at_pair i t d) d.row) ih

-- a default's pair has no other row after it
pub row-after : (d : Default) (ds : List Default) → all_after row_before d ds ≡ true → row_of d.key d.start ds ≡ none
unfolding all_after row_of add_row
row-after d [] a = refl
row-after d (e ∷ es) a = rw (row_before-apart d e (and_left _ _ a)) (row-after d es (and_right (row_before d e) _ a))

pub pair-after : (k : Key) (s : ℕ) (d : Default) (ds : List Default) → at_pair k s d ≡ true → all_after row_before d ds ≡ true → row_of k s ds ≡ none
pair-after k s d ds e a = ap₂ (λ (j : Key) (u : ℕ). row_of j u ds) (eq_bytes-true k d.key (and_left _ _ e)) (eqb-true s d.start (and_right (eq_bytes k d.key) _ e)) ∙ row-after d ds a

pub drop_row-none : (k : Key) (s : ℕ) (ds : List Default) → row_of k s ds ≡ none → drop_row k s ds ≡ ds
unfolding drop_row unless_row row_of add_row
drop_row-none k s [] h = refl
drop_row-none k s (d ∷ ds) h = go (at_pair k s d) h (drop_row-none k s ds)
  where
    go : (t : Bool) → add_row t d.row (row_of k s ds) ≡ none → (row_of k s ds ≡ none → drop_row k s ds ≡ ds) → unless_row t d (drop_row k s ds) ≡ d ∷ ds
    go true n ih = cc
    go false n ih = ap (λ (z : List Default). d ∷ z) (ih n)
