-- The lines of a key stand together, its standing intent first and then its records by stamp, from the place `lines_before k es` on. So what a
-- lookup finds there is the key's lock and records, a lock goes from there, and a lock or a record that comes goes in there or past it.
-- Assumes nothing.
use Prim.Native.Nat.{ℕ, zero, suc, ◌+◌, ◌<◌}
use native.Mathlib.Omega.{arith}
use mathlib.Core.Path.{◌≡◌, refl, ap, sym, ◌∙◌, subst}
use mathlib.Core.Bool.{Bool, true, false, false≢true}
use mathlib.Core.List.{List, [], ◌∷◌, ◌++◌, map}
use mathlib.Core.Option.{Option, none, some}
use lib.Dec.{ltb}
use lib.ListN.{length, take, drop, get_or}
use lib.Seq.{get_or-drop}
use Rattle.forms.specs.Key.{Key}
use Rattle.forms.specs.Bytes.{eq_bytes, lt_bytes}
use Rattle.forms.proofs.Orders.{eq_bytes-refl, eq_bytes-true, eq_bytes-sym, eq_bytes-not-lt, lt_bytes-not-eq, lt_bytes-not-eq', lt_bytes-else}
use Rattle.rules.specs.declared.records.Record.{Record}
use Rattle.rules.specs.Box.{Lock, Line, Standing, Finished, KeyLine, records_of, add_record, lock_of, add_lock, line_before, before, insert_line, unless_lock, drop_lock, ordered, all_after}
use Rattle.rules.specs.Read.{keep_if, those}
use Rattle.rules.specs.Restore.{all_good}
use Rattle.laws.specs.Places.{one_more, how_many, lines_before, finished_at, lines_of, lock_first, lock_place}
use Rattle.laws.proofs.StepLaws.{and_left, and_right}
use Rattle.laws.proofs.Sorted.{ordered-first, ordered-rest}
use Rattle.laws.proofs.BoxOrder.{before-trans, before-irrefl, before_same, before-less, before-not-above, clear-lock}
use Rattle.laws.proofs.KeyLaws.{lock-after, stamp_before}
use Rattle.laws.proofs.PlaceLaws.{how_many-ext, those-hold, none_after, at_place, insert-place}
use Rattle.laws.proofs.KeyPlaces.{below-down, from_key, past-key, key_split, lt_bytes-lt-le}

-- a record's key has no lock after it
pub lock-before : (k : Key) (w : Record) (es : List KeyLine) → all_after before (finished_at k w) es ≡ true → lock_of k es ≡ none
unfolding all_after lock_of add_lock
lock-before k w [] a = refl
lock-before k w (f ∷ es) a = go f.key f.line (eq_bytes k f.key) refl (and_left _ _ a) (lock-before k w es (and_right (before (finished_at k w) f) _ a))
  where
    go : (j : Key) (x : Line) (t : Bool) → eq_bytes k j ≡ t → before (finished_at k w) (record { key = j; line = x }) ≡ true → lock_of k es ≡ none → add_lock t x (lock_of k es) ≡ none
    go j x false e h r = r
    go j (Standing m) true e h r = absurd (false≢true (sym (before_same (finished_at k w) (record { key = j; line = Standing m }) e) ∙ h))
    go j (Finished v) true e h r = r

at_key : (k j : Key) (x : Line) (es : List KeyLine) → eq_bytes k j ≡ true → all_after before (record { key = j; line = x }) es ≡ true → all_after before (record { key = k; line = x }) es ≡ true
at_key k j x es e a = subst (λ (i : Key). all_after before (record { key = i; line = x }) es ≡ true) (sym (eq_bytes-true k j e)) a

-- ---- the lines of a key

pub key-lines-of : (k : Key) (es : List KeyLine) → ordered before es ≡ true → those (λ (e : KeyLine). eq_bytes k e.key) es ≡ lines_of k (lock_of k es) (records_of k es)
unfolding those keep_if lock_of records_of add_lock add_record lines_of
key-lines-of k [] o = refl
key-lines-of k (f ∷ es) o = go f.key f.line (eq_bytes k f.key) refl (ordered-first before f es o) (key-lines-of k es (ordered-rest before f es o))
  where
    own : List KeyLine
    own = those (λ e. eq_bytes k e.key) es

    free : lock_of k es ≡ none → own ≡ lines_of k (lock_of k es) (records_of k es) → own ≡ map (finished_at k) (records_of k es)
    free n ih = ih ∙ ap (λ (o : Option Lock). lines_of k o (records_of k es)) n

    first : (j : Key) (x : Line) → eq_bytes k j ≡ true → record { key = j; line = x } ∷ map (finished_at k) (records_of k es) ≡ record { key = k; line = x } ∷ map (finished_at k) (records_of k es)
    first j x e = ap (λ (i : Key). record { key = i; line = x } ∷ map (finished_at k) (records_of k es)) (sym (eq_bytes-true k j e))

    go : (j : Key) (x : Line) (t : Bool) → eq_bytes k j ≡ t → all_after before (record { key = j; line = x }) es ≡ true → own ≡ lines_of k (lock_of k es) (records_of k es)
        → keep_if t (record { key = j; line = x }) own ≡ lines_of k (add_lock t x (lock_of k es)) (add_record t x (records_of k es))
    go j x false e a ih = ih
    go j (Standing l) true e a ih =
        ap (λ (es : List KeyLine). record { key = j; line = Standing l } ∷ es) (free (lock-after k l es (at_key k j (Standing l) es e a)) ih) ∙ first j (Standing l) e
    go j (Finished w) true e a ih =
        let n : lock_of k es ≡ none = lock-before k w es (at_key k j (Finished w) es e a) in
        ap (λ (es : List KeyLine). record { key = j; line = Finished w } ∷ es) (free n ih) ∙ first j (Finished w) e ∙ sym (ap (λ (o : Option Lock). lines_of k o (w ∷ records_of k es)) n)

module _ (k : Key) (es : List KeyLine) (o : ordered before es ≡ true) where
  -- from the key's place on: its lock, its records, and then lines of keys above
  pub lines_from : drop (lines_before k es) es ≡ lines_of k (lock_of k es) (records_of k es) ++ those (λ (e : KeyLine). lt_bytes k e.key) es
  lines_from =
      from_key (λ (e : KeyLine). e.key) before before-not-above k es o
      ∙ ap (λ (l : List KeyLine). l ++ those (λ (e : KeyLine). lt_bytes k e.key) es) (key-lines-of k es o)

  pub lines-past : drop (lines_before k es + length (lines_of k (lock_of k es) (records_of k es))) es ≡ those (λ (e : KeyLine). lt_bytes k e.key) es
  lines-past =
      ap (λ (l : List KeyLine). drop (lines_before k es + length l) es) (sym (key-lines-of k es o))
      ∙ past-key (λ (e : KeyLine). e.key) before before-not-above k es o

  -- the lines are those before the key, its own, and those after it
  pub lines_split : es ≡ take (lines_before k es) es ++ (lines_of k (lock_of k es) (records_of k es) ++ drop (lines_before k es + length (lines_of k (lock_of k es) (records_of k es))) es)
  lines_split =
      subst (λ (l : List KeyLine). es ≡ take (lines_before k es) es ++ (l ++ drop (lines_before k es + length l) es)) (key-lines-of k es o)
      (key_split (λ (e : KeyLine). e.key) before before-not-above k es o)

  -- the test of a search: a line is before the key's place exactly where its key is below
  pub line-below : (i : ℕ) (d : KeyLine) → i < length es → lt_bytes (get_or es i d).key k ≡ ltb i (lines_before k es)
  line-below i d h = at_place before (λ (e : KeyLine). lt_bytes e.key k) (below-down (λ (e : KeyLine). e.key) before before-not-above k) es i d o h

  -- the lock stands at the key's place, and the records follow it
  pub lock-at : (l : Lock) (d : KeyLine) → lock_of k es ≡ some l → get_or es (lines_before k es) d ≡ record { key = k; line = Standing l }
  unfolding lines_of
  lock-at l d e =
      ap (λ (n : ℕ). get_or es n d) (omega arith) ∙ sym (get_or-drop (lines_before k es) es 0 d) ∙ ap (λ (l : List KeyLine). get_or l 0 d) lines_from
      ∙ ap (λ (q : Option Lock). get_or (lines_of k q (records_of k es) ++ those (λ (e : KeyLine). lt_bytes k e.key) es) 0 d) e

pub past-lines : (k : Key) (e : KeyLine) (es : List KeyLine) → ordered before (e ∷ es) ≡ true → lt_bytes k e.key ≡ true → (lock_of k (e ∷ es) ≡ none) × (records_of k (e ∷ es) ≡ [])
unfolding lock_of records_of add_lock add_record
past-lines k e [] o h = (rw (lt_bytes-not-eq k e.key h), rw (lt_bytes-not-eq k e.key h))
past-lines k e (f ∷ es) o h = go (past-lines k f es (ordered-rest before e (f ∷ es) o) (lt_bytes-lt-le k e.key f.key h (before-not-above e f (next (ordered-first before e (f ∷ es) o)))))
  where
    next : all_after before e (f ∷ es) ≡ true → before e f ≡ true
    next a = unfold all_after in and_left (before e f) (all_after before e es) a

    go : (lock_of k (f ∷ es) ≡ none) × (records_of k (f ∷ es) ≡ []) → (add_lock (eq_bytes k e.key) e.line (lock_of k (f ∷ es)) ≡ none) × (add_record (eq_bytes k e.key) e.line (records_of k (f ∷ es)) ≡ [])
    go p = (rw (lt_bytes-not-eq k e.key h) p.0, rw (lt_bytes-not-eq k e.key h) p.1)

-- ---- a lookup

first-lock : (k : Key) (o : Option Lock) (ws : List Record) (rest : List KeyLine) → all_good (λ (e : KeyLine). lt_bytes k e.key) rest ≡ true → o ≡ lock_first k (lines_of k o ws ++ rest)
unfolding lock_first lines_of add_lock all_good
first-lock k none [] [] g = refl
first-lock k none [] (e ∷ es) g = rw (lt_bytes-not-eq k e.key (and_left (lt_bytes k e.key) _ g))
first-lock k none (w ∷ ws) rest g = go (eq_bytes k k)
  where
    go : (t : Bool) → none ≡ add_lock t (Finished w) none
    go true = refl
    go false = refl
first-lock k (some l) ws rest g = rw (eq_bytes-refl k)

-- the line at the key's place tells its lock
pub lock_is : (k : Key) (es : List KeyLine) → ordered before es ≡ true → lock_of k es ≡ lock_first k (drop (lines_before k es) es)
lock_is k es o = first-lock k (lock_of k es) (records_of k es) _ (those-hold (λ (e : KeyLine). lt_bytes k e.key) es) ∙ sym (ap (lock_first k) (lines_from k es o))

record-map : (k : Key) (ws : List Record) (rest : List KeyLine) (j : ℕ) (d : KeyLine) (w : Record) → j < length ws → get_or (map (finished_at k) ws ++ rest) j d ≡ finished_at k (get_or ws j w)
record-map k [] rest j d w h = absurd (omega arith)
record-map k (v ∷ ws) rest zero d w h = refl
record-map k (v ∷ ws) rest (suc j) d w h = record-map k ws rest j d w (omega arith)

record-from : (k : Key) (o : Option Lock) (ws : List Record) (rest : List KeyLine) (j : ℕ) (d : KeyLine) (w : Record) → j < length ws → get_or (lines_of k o ws ++ rest) (lock_place o + j) d ≡ finished_at k (get_or ws j w)
unfolding lines_of
record-from k none ws rest j d w h = let e : 0 + j ≡ j = omega arith in rw e (record-map k ws rest j d w h)
record-from k (some l) ws rest j d w h = let e : 1 + j ≡ suc j = omega arith in rw e (record-map k ws rest j d w h)

-- the key's records, by place
pub record-at : (k : Key) (es : List KeyLine) (j : ℕ) (d : KeyLine) (w : Record) → ordered before es ≡ true → j < length (records_of k es)
    → get_or es (lines_before k es + (lock_place (lock_of k es) + j)) d ≡ finished_at k (get_or (records_of k es) j w)
record-at k es j d w o h =
    sym (get_or-drop (lines_before k es) es (lock_place (lock_of k es) + j) d) ∙ ap (λ (l : List KeyLine). get_or l (lock_place (lock_of k es) + j) d) (lines_from k es o)
    ∙ record-from k (lock_of k es) (records_of k es) _ j d w h

-- ---- changes, by place

-- a lock goes from the key's place
pub drop_lock-place : (k : Key) (l : Lock) (es : List KeyLine) → ordered before es ≡ true → lock_of k es ≡ some l → drop_lock k es ≡ take (lines_before k es) es ++ drop (suc (lines_before k es)) es
unfolding how_many lock_of add_lock drop_lock unless_lock
drop_lock-place k l [] o h = cc
drop_lock-place k l (e ∷ es) o h = go (lt_bytes e.key k) refl (drop_lock-place k l es (ordered-rest before e es o))
  where
    here : (j : Key) (x : Line) (t : Bool) → eq_bytes k j ≡ t → (t ≡ false → lt_bytes k j ≡ true) → all_after before (record { key = j; line = x }) es ≡ true → add_lock t x (lock_of k es) ≡ some l
        → (lt_bytes k j ≡ true → lock_of k es ≡ none) → unless_lock t (record { key = j; line = x }) x es (drop_lock k es) ≡ es
    here j (Standing m) true e f a p q = refl
    here j (Finished w) true e f a p q = let n : lock_of k es ≡ none = lock-before k w es (at_key k j (Finished w) es e a) in cc
    here j x false e f a p q = let n : lock_of k es ≡ none = q (f refl) in cc

    go : (t : Bool) → lt_bytes e.key k ≡ t → (lock_of k es ≡ some l → drop_lock k es ≡ take (lines_before k es) es ++ drop (suc (lines_before k es)) es)
        → unless_lock (eq_bytes k e.key) e e.line es (drop_lock k es) ≡ take (one_more t (lines_before k es)) (e ∷ es) ++ drop (suc (one_more t (lines_before k es))) (e ∷ es)
    go true p ih =
        let n : eq_bytes k e.key ≡ false = lt_bytes-not-eq' e.key k p in
        let q : lock_of k es ≡ some l = rw n at h in
        rw n (ap (λ (x : List KeyLine). e ∷ x) (ih q))
    go false p ih =
        let z : lines_before k es ≡ 0 = none_after before (λ (e : KeyLine). lt_bytes e.key k) (below-down (λ (e : KeyLine). e.key) before before-not-above k) e es p (ordered-first before e es o) in
        here e.key e.line (eq_bytes k e.key) refl (λ n. lt_bytes-else e.key k (eq_bytes-sym e.key k ∙ n) p) (ordered-first before e es o) h above
        ∙ sym (ap (λ (n : ℕ). take n (e ∷ es) ++ drop (suc n) (e ∷ es)) z)
      where
        above : lt_bytes k e.key ≡ true → lock_of k es ≡ none
        above a = ap (λ (t : Bool). add_lock t e.line (lock_of k es)) (sym (lt_bytes-not-eq k e.key a)) ∙ (past-lines k e es o a).0

-- where it goes, the key's place stays
pub lines_before-drop_lock : (k : Key) (es : List KeyLine) → lines_before k (drop_lock k es) ≡ lines_before k es
unfolding how_many drop_lock unless_lock
lines_before-drop_lock k [] = refl
lines_before-drop_lock k (e ∷ es) = go (eq_bytes k e.key) e.line refl (lines_before-drop_lock k es)
  where
    go : (t : Bool) (x : Line) → eq_bytes k e.key ≡ t → lines_before k (drop_lock k es) ≡ lines_before k es → lines_before k (unless_lock t e x es (drop_lock k es)) ≡ one_more (lt_bytes e.key k) (lines_before k es)
    go true (Standing l) p ih = sym (ap (λ (t : Bool). one_more t (lines_before k es)) (eq_bytes-not-lt e.key k (eq_bytes-sym e.key k ∙ p)))
    go true (Finished w) p ih = ap (one_more (lt_bytes e.key k)) ih
    go false x p ih = ap (one_more (lt_bytes e.key k)) ih

-- a line is before a key's lock where its key is below
before-lock : (k : Key) (l : Lock) (e : KeyLine) → before e (record { key = k; line = Standing l }) ≡ lt_bytes e.key k
before-lock k l e = go (lt_bytes e.key k) refl
  where
    never : (x : Line) → line_before x (Standing l) ≡ false
    never (Standing m) = refl
    never (Finished w) = refl

    no : (t : Bool) → before e (record { key = k; line = Standing l }) ≡ t → lt_bytes e.key k ≡ false → t ≡ false
    no true h n = go (eq_bytes e.key k) refl
      where
        go : (t : Bool) → eq_bytes e.key k ≡ t → true ≡ false
        go true q = sym h ∙ before_same e (record { key = k; line = Standing l }) q ∙ never e.line
        go false q = sym (lt_bytes-else e.key k q n) ∙ before-not-above e (record { key = k; line = Standing l }) h
    no false h n = refl

    go : (t : Bool) → lt_bytes e.key k ≡ t → before e (record { key = k; line = Standing l }) ≡ t
    go true h = before-less e (record { key = k; line = Standing l }) h
    go false h = no (before e (record { key = k; line = Standing l })) refl h

-- a lock comes at the key's place
pub lock-comes : (k : Key) (l : Lock) (es : List KeyLine) → ordered before es ≡ true → lock_of k es ≡ none
    → insert_line (record { key = k; line = Standing l }) es ≡ take (lines_before k es) es ++ record { key = k; line = Standing l } ∷ drop (lines_before k es) es
lock-comes k l es o n =
    let x : KeyLine = record { key = k; line = Standing l } in
    insert-place before before-trans before-irrefl x es (clear-lock k l es n) o
    ∙ ap (λ (n : ℕ). take n es ++ x ∷ drop n es) (how_many-ext (λ (y : KeyLine). before y x) (λ (y : KeyLine). lt_bytes y.key k) (before-lock k l) es)

-- how many of a key's records are stamped below
abbrev pub stamps_below : Record → List Record → ℕ
stamps_below w ws = how_many (λ (v : Record). stamp_before v w) ws

-- the place of a record: past the key's lock and the records stamped below
pub record-place : (k : Key) (w : Record) (es : List KeyLine) → ordered before es ≡ true
    → how_many (λ (y : KeyLine). before y (finished_at k w)) es ≡ lines_before k es + (lock_place (lock_of k es) + stamps_below w (records_of k es))
unfolding how_many lock_of records_of add_lock add_record
record-place k w [] o = refl
record-place k w (e ∷ es) o = go e.key e.line (lt_bytes e.key k) (eq_bytes e.key k) refl refl (ordered-first before e es o) (record-place k w es (ordered-rest before e es o))
  where
    go : (j : Key) (x : Line) (p q : Bool) → lt_bytes j k ≡ p → eq_bytes j k ≡ q → all_after before (record { key = j; line = x }) es ≡ true
        → how_many (λ y. before y (finished_at k w)) es ≡ lines_before k es + (lock_place (lock_of k es) + stamps_below w (records_of k es))
        → one_more (before (record { key = j; line = x }) (finished_at k w)) (how_many (λ y. before y (finished_at k w)) es)
        ≡ one_more (lt_bytes j k) (lines_before k es) + (lock_place (add_lock (eq_bytes k j) x (lock_of k es)) + stamps_below w (add_record (eq_bytes k j) x (records_of k es)))
    go j x true q a b f ih =
        rw (before-less (record { key = j; line = x }) (finished_at k w) a, a, lt_bytes-not-eq' j k a) (omega arith)
    go j x false false a b f ih =
        rw (a, eq_bytes-sym k j ∙ b, not_back (before (record { key = j; line = x }) (finished_at k w)) refl) ih
      where
        not_back : (t : Bool) → before (record { key = j; line = x }) (finished_at k w) ≡ t → t ≡ false
        not_back true h = sym (lt_bytes-else j k b a) ∙ before-not-above (record { key = j; line = x }) (finished_at k w) h
        not_back false h = refl
    go j (Standing l) false true a b f ih =
        let n : lock_of k es ≡ none = lock-after k l es (at_key k j (Standing l) es (eq_bytes-sym k j ∙ b) f) in
        let z : lock_place (lock_of k es) ≡ 0 = ap lock_place n in
        rw (a, eq_bytes-sym k j ∙ b, before_same (record { key = j; line = Standing l }) (finished_at k w) b) (omega arith)
    go j (Finished v) false true a b f ih =
        rw (a, eq_bytes-sym k j ∙ b, before_same (record { key = j; line = Finished v }) (finished_at k w) b) (more (stamp_before v w))
      where
        more : (t : Bool) → one_more t (how_many (λ y. before y (finished_at k w)) es) ≡ lines_before k es + (lock_place (lock_of k es) + one_more t (stamps_below w (records_of k es)))
        more true = omega arith
        more false = ih
