-- The order of a box: `before` and `row_before` are transitive and irreflexive, and of two lines (or defaults) that do not share a place one
-- is before the other. A lock where none stands, a record at a stamp where none stands, and a default where none is stored come in order;
-- what goes leaves the others in order. Two boxes in order with the same entries are equal. Assumes nothing.
use Prim.Native.Nat.{ℕ, ◌<◌}
use native.Mathlib.Omega.{arith}
use mathlib.Core.Path.{◌≡◌, refl, ap, ap₂, sym, ◌∙◌}
use mathlib.Core.Bool.{Bool, true, false, ◌&&◌, not, true≢false, false≢true}
use mathlib.Core.List.{List, [], ◌∷◌}
use mathlib.Core.Option.{Option, none}
use lib.Dec.{eqb, ltb}
use borrow.Author.Tests.{ltb-true, ltb-false, lt-ltb, le-ltb, eqb-true, eqb-false, eq-eqb, ne_eqb}
use Rattle.forms.specs.Key.{Key}
use Rattle.forms.specs.Bytes.{cmp, eq_bytes, lt_bytes, is_equal, is_less}
use Rattle.std.specs.declared.cmp.Ordering.{Ordering}
use Rattle.std.specs.declared.cmp.Ordering.TheVariants.{Less, Equal, Greater}
use Rattle.forms.proofs.Orders.{cmp-trans, cmp-equal, cmp-refl, cmp-flip, flip, lt_bytes-less, eq_bytes-sym}
use Rattle.rules.specs.declared.records.Record.{Record}
use Rattle.rules.specs.Box.{Box, Lock, Line, Standing, Finished, KeyLine, Default, records_of, add_record, lock_of, add_lock, row_of, add_row, at_pair, by_order, line_before, before, row_before, insert_line, insert_default, unless_lock, drop_lock, unless_row, drop_row, ordered, in_order}
use Rattle.rules.specs.Calls.{stamped_at, found_if}
use Rattle.rules.specs.Restore.{none_like}
use Rattle.laws.proofs.StepLaws.{and_left, and_right, and_both, not-true}
use Rattle.laws.proofs.Sorted.{In, Fewer, empty, gone, kept, fewer-all, Clear, ordered-fewer, ordered-insert, ordered_same}

-- ---- by key, and then by something else

module _ (i j k : Key) (p q r : Bool) (inner : p ≡ true → q ≡ true → r ≡ true) where
  keyed-trans : by_order (cmp i j) p ≡ true → by_order (cmp j k) q ≡ true → by_order (cmp i k) r ≡ true
  keyed-trans a b = go (cmp i j) (cmp j k) refl refl a b
    where
      go : (x y : Ordering) → cmp i j ≡ x → cmp j k ≡ y → by_order x p ≡ true → by_order y q ≡ true → by_order (cmp i k) r ≡ true
      go Less Less e f a b = ap (λ (o : Ordering). by_order o r) (cmp-trans i j k e f)
      go Less Equal e f a b = ap (λ (o : Ordering). by_order o r) (ap (cmp i) (sym (cmp-equal j k f)) ∙ e)
      go Equal Less e f a b = ap (λ (o : Ordering). by_order o r) (ap (λ (z : Key). cmp z k) (cmp-equal i j e) ∙ f)
      go Equal Equal e f a b = ap (λ (o : Ordering). by_order o r) (ap (λ (z : Key). cmp z k) (cmp-equal i j e) ∙ f) ∙ inner a b
      go Greater y e f a b = absurd (false≢true a)
      go Less Greater e f a b = absurd (false≢true b)
      go Equal Greater e f a b = absurd (false≢true b)

-- one of the two is before the other, where they differ
keyed-else : (i k : Key) (p q t : Bool) → (t ≡ false → p ≡ false → q ≡ true) → eq_bytes i k && t ≡ false → by_order (cmp i k) p ≡ false → by_order (cmp k i) q ≡ true
unfolding eq_bytes
keyed-else i k p q t inner n a = ap (λ (o : Ordering). by_order o q) (cmp-flip i k) ∙ go (cmp i k) n a
  where
    go : (x : Ordering) → is_equal x && t ≡ false → by_order x p ≡ false → by_order (flip x) q ≡ true
    go Less n a = absurd (true≢false a)
    go Equal n a = inner n a
    go Greater n a = refl

keyed-apart : (i k : Key) (p t : Bool) → (p ≡ true → t ≡ false) → by_order (cmp i k) p ≡ true → eq_bytes i k && t ≡ false
unfolding eq_bytes
keyed-apart i k p t inner a = go (cmp i k) a
  where
    go : (x : Ordering) → by_order x p ≡ true → is_equal x && t ≡ false
    go Less a = refl
    go Equal a = inner a
    go Greater a = refl

keyed-irrefl : (k : Key) (p : Bool) → p ≡ false → by_order (cmp k k) p ≡ false
keyed-irrefl k p h = ap (λ (o : Ordering). by_order o p) (cmp-refl k) ∙ h

keyed-same : (i k : Key) (p : Bool) → eq_bytes i k ≡ true → by_order (cmp i k) p ≡ p
unfolding eq_bytes
keyed-same i k p e = go (cmp i k) e
  where
    go : (x : Ordering) → is_equal x ≡ true → by_order x p ≡ p
    go Less e = absurd (false≢true e)
    go Equal e = refl
    go Greater e = absurd (false≢true e)

keyed-less : (i k : Key) (p : Bool) → lt_bytes i k ≡ true → by_order (cmp i k) p ≡ true
keyed-less i k p e = ap (λ (o : Ordering). by_order o p) (lt_bytes-less i k e)

keyed-not-above : (i k : Key) (p : Bool) → by_order (cmp i k) p ≡ true → lt_bytes k i ≡ false
unfolding lt_bytes
keyed-not-above i k p a = ap is_less (cmp-flip i k) ∙ go (cmp i k) a
  where
    go : (x : Ordering) → by_order x p ≡ true → is_less (flip x) ≡ false
    go Less a = refl
    go Equal a = refl
    go Greater a = absurd (false≢true a)

less-trans : (a b c : ℕ) → ltb a b ≡ true → ltb b c ≡ true → ltb a c ≡ true
less-trans a b c p q = lt-ltb a c (omega (arith, ltb-true a b p, ltb-true b c q))

less-else : (a b : ℕ) → eqb a b ≡ false → ltb a b ≡ false → ltb b a ≡ true
less-else a b n h = lt-ltb b a (omega (arith, ltb-false a b h, eqb-false a b n))

less-apart : (a b : ℕ) → ltb a b ≡ true → eqb a b ≡ false
less-apart a b h = let l : a < b = ltb-true a b h in ne_eqb a b (λ e. omega arith)

pub eqb-sym : (a b : ℕ) → eqb a b ≡ eqb b a
eqb-sym a b = go (eqb b a) refl
  where
    go : (t : Bool) → eqb b a ≡ t → eqb a b ≡ t
    go true e = eq-eqb a b (sym (eqb-true b a e))
    go false e = ne_eqb a b (λ q. eqb-false b a e (sym q))

-- ---- lines

-- both locks, or two records of one stamp
abbrev pub same_line : Line → Line → Bool
same_line (Standing l) (Standing m) = true
same_line (Standing l) (Finished w) = false
same_line (Finished w) (Standing l) = false
same_line (Finished v) (Finished w) = eqb v.stamp w.stamp

-- two lines for one place
unfoldable pub same_place : KeyLine → KeyLine → Bool
same_place d e = eq_bytes d.key e.key && same_line d.line e.line

line-trans : (x y z : Line) → line_before x y ≡ true → line_before y z ≡ true → line_before x z ≡ true
line-trans (Standing k) (Standing l) z a b = absurd (false≢true a)
line-trans (Standing k) (Finished v) (Standing m) a b = b
line-trans (Standing k) (Finished v) (Finished w) a b = refl
line-trans (Finished u) (Standing l) z a b = absurd (false≢true a)
line-trans (Finished u) (Finished v) (Standing m) a b = b
line-trans (Finished u) (Finished v) (Finished w) a b = less-trans u.stamp v.stamp w.stamp a b

line-irrefl : (x : Line) → line_before x x ≡ false
line-irrefl (Standing l) = refl
line-irrefl (Finished w) = le-ltb w.stamp w.stamp (omega arith)

line-else : (x y : Line) → same_line x y ≡ false → line_before x y ≡ false → line_before y x ≡ true
line-else (Standing l) (Standing m) n a = absurd (true≢false n)
line-else (Standing l) (Finished w) n a = absurd (true≢false a)
line-else (Finished w) (Standing l) n a = refl
line-else (Finished v) (Finished w) n a = less-else v.stamp w.stamp n a

line-apart : (x y : Line) → line_before x y ≡ true → same_line x y ≡ false
line-apart (Standing l) (Standing m) a = absurd (false≢true a)
line-apart (Standing l) (Finished w) a = refl
line-apart (Finished w) (Standing l) a = refl
line-apart (Finished v) (Finished w) a = less-apart v.stamp w.stamp a

line-sym : (x y : Line) → same_line x y ≡ same_line y x
line-sym (Standing l) (Standing m) = refl
line-sym (Standing l) (Finished w) = refl
line-sym (Finished w) (Standing l) = refl
line-sym (Finished v) (Finished w) = eqb-sym v.stamp w.stamp

pub before-trans : (d e f : KeyLine) → before d e ≡ true → before e f ≡ true → before d f ≡ true
unfolding before
before-trans d e f = keyed-trans d.key e.key f.key (line_before d.line e.line) (line_before e.line f.line) (line_before d.line f.line) (line-trans d.line e.line f.line)

pub before-irrefl : (e : KeyLine) → before e e ≡ false
unfolding before
before-irrefl e = keyed-irrefl e.key (line_before e.line e.line) (line-irrefl e.line)

pub before-else : (d e : KeyLine) → same_place d e ≡ false → before d e ≡ false → before e d ≡ true
unfolding before same_place
before-else d e = keyed-else d.key e.key (line_before d.line e.line) (line_before e.line d.line) (same_line d.line e.line) (line-else d.line e.line)

pub before-apart : (d e : KeyLine) → before d e ≡ true → same_place d e ≡ false
unfolding before same_place
before-apart d e = keyed-apart d.key e.key (line_before d.line e.line) (same_line d.line e.line) (line-apart d.line e.line)

-- the same, where the later is named first
pub before-apart' : (d e : KeyLine) → before d e ≡ true → same_place e d ≡ false
unfolding same_place
before-apart' d e h = ap₂ ◌&&◌ (eq_bytes-sym e.key d.key) (line-sym e.line d.line) ∙ before-apart d e h

-- within a key, and between keys
pub before_same : (d e : KeyLine) → eq_bytes d.key e.key ≡ true → before d e ≡ line_before d.line e.line
unfolding before
before_same d e = keyed-same d.key e.key (line_before d.line e.line)

pub before-less : (d e : KeyLine) → lt_bytes d.key e.key ≡ true → before d e ≡ true
unfolding before
before-less d e = keyed-less d.key e.key (line_before d.line e.line)

pub before-not-above : (d e : KeyLine) → before d e ≡ true → lt_bytes e.key d.key ≡ false
unfolding before
before-not-above d e = keyed-not-above d.key e.key (line_before d.line e.line)

-- ---- defaults

pub row_before-less : (d e : Default) → lt_bytes d.key e.key ≡ true → row_before d e ≡ true
unfolding row_before
row_before-less d e = keyed-less d.key e.key (ltb d.start e.start)

pub row_before-not-above : (d e : Default) → row_before d e ≡ true → lt_bytes e.key d.key ≡ false
unfolding row_before
row_before-not-above d e = keyed-not-above d.key e.key (ltb d.start e.start)

pub row_before-trans : (d e f : Default) → row_before d e ≡ true → row_before e f ≡ true → row_before d f ≡ true
unfolding row_before
row_before-trans d e f = keyed-trans d.key e.key f.key (ltb d.start e.start) (ltb e.start f.start) (ltb d.start f.start) (less-trans d.start e.start f.start)

pub row_before-irrefl : (d : Default) → row_before d d ≡ false
unfolding row_before
row_before-irrefl d = keyed-irrefl d.key (ltb d.start d.start) (le-ltb d.start d.start (omega arith))

pub row_before-else : (d e : Default) → at_pair d.key d.start e ≡ false → row_before d e ≡ false → row_before e d ≡ true
unfolding row_before
row_before-else d e = keyed-else d.key e.key (ltb d.start e.start) (ltb e.start d.start) (eqb d.start e.start) (less-else d.start e.start)

pub row_before-apart : (d e : Default) → row_before d e ≡ true → at_pair d.key d.start e ≡ false
unfolding row_before
row_before-apart d e = keyed-apart d.key e.key (ltb d.start e.start) (eqb d.start e.start) (less-apart d.start e.start)

-- the same, where the later is named first
pub row_before-apart' : (d e : Default) → row_before d e ≡ true → at_pair e.key e.start d ≡ false
row_before-apart' d e h = ap₂ ◌&&◌ (eq_bytes-sym e.key d.key) (eqb-sym e.start d.start) ∙ row_before-apart d e h

-- ---- what has no equal

pub clear_none : {A : Type 0} (lt like : A → A → Bool) → ((x y : A) → like x y ≡ false → lt x y ≡ false → lt y x ≡ true) → (x : A) (v : List A) → none_like like x v ≡ true → Clear lt x v
unfolding none_like
clear_none lt like f x [] h = tt
clear_none lt like f x (y ∷ ys) h = (f x y (not-true _ (and_left _ _ h)), clear_none lt like f x ys (and_right (not (like x y)) _ h))

-- a lock where none stands
pub none-lock : (k : Key) (l : Lock) (v : List KeyLine) → lock_of k v ≡ none → none_like same_place (record { key = k; line = Standing l }) v ≡ true
unfolding none_like lock_of add_lock same_place
none-lock k l [] h = refl
none-lock k l (f ∷ fs) h = go (eq_bytes k f.key) f.line h (none-lock k l fs)
  where
    go : (t : Bool) (x : Line) → add_lock t x (lock_of k fs) ≡ none → (lock_of k fs ≡ none → none_like same_place (record { key = k; line = Standing l }) fs ≡ true)
        → not (t && same_line (Standing l) x) && none_like same_place (record { key = k; line = Standing l }) fs ≡ true
    go true (Standing m) n ih = cc
    go true (Finished w) n ih = ih n
    go false x n ih = ih n

pub not_found : (t : Bool) (v : Record) (o : Option Record) → found_if t v o ≡ none → (t ≡ false) × (o ≡ none)
unfolding found_if
not_found true v o h = (cc, cc)
not_found false v o h = (refl, h)

-- a record at a stamp where none stands; a lock may stand at its key
pub none-record : (k : Key) (w : Record) (v : List KeyLine) → stamped_at w.stamp (records_of k v) ≡ none → none_like same_place (record { key = k; line = Finished w }) v ≡ true
unfolding none_like records_of add_record same_place stamped_at
none-record k w [] h = refl
none-record k w (f ∷ fs) h = go (eq_bytes k f.key) f.line h (none-record k w fs)
  where
    go : (t : Bool) (x : Line) → stamped_at w.stamp (add_record t x (records_of k fs)) ≡ none → (stamped_at w.stamp (records_of k fs) ≡ none → none_like same_place (record { key = k; line = Finished w }) fs ≡ true)
        → not (t && same_line (Finished w) x) && none_like same_place (record { key = k; line = Finished w }) fs ≡ true
    go true (Standing m) n ih = ih n
    go true (Finished v) n ih =
        let p : (eqb w.stamp v.stamp ≡ false) × (stamped_at w.stamp (records_of k fs) ≡ none) = not_found _ v _ n in
        rw p.0 (ih p.1)
    go false x n ih = ih n

abbrev pub like_row : Default → Default → Bool
like_row d e = at_pair d.key d.start e

-- a default where none is stored
pub none-default : (d : Default) (ds : List Default) → row_of d.key d.start ds ≡ none → none_like like_row d ds ≡ true
unfolding none_like row_of add_row
none-default d [] h = refl
none-default d (e ∷ es) h = go (at_pair d.key d.start e) h (none-default d es)
  where
    go : (t : Bool) → add_row t e.row (row_of d.key d.start es) ≡ none → (row_of d.key d.start es ≡ none → none_like like_row d es ≡ true) → not t && none_like like_row d es ≡ true
    go true n ih = cc
    go false n ih = ih n

pub clear-lock : (k : Key) (l : Lock) (v : List KeyLine) → lock_of k v ≡ none → Clear before (record { key = k; line = Standing l }) v
clear-lock k l v h = clear_none before same_place before-else (record { key = k; line = Standing l }) v (none-lock k l v h)

pub clear-record : (k : Key) (w : Record) (v : List KeyLine) → stamped_at w.stamp (records_of k v) ≡ none → Clear before (record { key = k; line = Finished w }) v
clear-record k w v h = clear_none before same_place before-else (record { key = k; line = Finished w }) v (none-record k w v h)

pub clear-default : (d : Default) (ds : List Default) → row_of d.key d.start ds ≡ none → Clear row_before d ds
clear-default d ds h = clear_none row_before like_row row_before-else d ds (none-default d ds h)

-- ---- what comes

pub ordered-lock : (k : Key) (l : Lock) (v : List KeyLine) → lock_of k v ≡ none → ordered before v ≡ true → ordered before (insert_line (record { key = k; line = Standing l }) v) ≡ true
ordered-lock k l v h = ordered-insert before before-trans (record { key = k; line = Standing l }) v (clear-lock k l v h)

pub ordered-record : (k : Key) (w : Record) (v : List KeyLine) → stamped_at w.stamp (records_of k v) ≡ none → ordered before v ≡ true → ordered before (insert_line (record { key = k; line = Finished w }) v) ≡ true
ordered-record k w v h = ordered-insert before before-trans (record { key = k; line = Finished w }) v (clear-record k w v h)

pub ordered-default : (d : Default) (ds : List Default) → row_of d.key d.start ds ≡ none → ordered row_before ds ≡ true → ordered row_before (insert_default d ds) ≡ true
ordered-default d ds h = ordered-insert row_before row_before-trans d ds (clear-default d ds h)

-- ---- what goes

pub drop_lock-fewer : (k : Key) (es : List KeyLine) → Fewer (drop_lock k es) es
unfolding drop_lock unless_lock
drop_lock-fewer k [] = empty
drop_lock-fewer k (f ∷ es) = go (eq_bytes k f.key) f.line (drop_lock-fewer k es)
  where
    go : (t : Bool) (x : Line) → Fewer (drop_lock k es) es → Fewer (unless_lock t f x es (drop_lock k es)) (f ∷ es)
    go true (Standing l) p = gone (fewer-all es)
    go true (Finished w) p = kept p
    go false x p = kept p

pub drop_row-fewer : (k : Key) (s : ℕ) (ds : List Default) → Fewer (drop_row k s ds) ds
unfolding drop_row unless_row
drop_row-fewer k s [] = empty
drop_row-fewer k s (d ∷ ds) = go (at_pair k s d) (drop_row-fewer k s ds)
  where
    go : (t : Bool) → Fewer (drop_row k s ds) ds → Fewer (unless_row t d (drop_row k s ds)) (d ∷ ds)
    go true p = gone p
    go false p = kept p

pub ordered-drop_lock : (k : Key) (es : List KeyLine) → ordered before es ≡ true → ordered before (drop_lock k es) ≡ true
ordered-drop_lock k es = ordered-fewer before (drop_lock-fewer k es)

pub ordered-drop_row : (k : Key) (s : ℕ) (ds : List Default) → ordered row_before ds ≡ true → ordered row_before (drop_row k s ds) ≡ true
ordered-drop_row k s ds = ordered-fewer row_before (drop_row-fewer k s ds)

-- ---- the box

pub order-lines : (b : Box) → in_order b ≡ true → ordered before b.lines ≡ true
unfolding in_order
order-lines b o = and_left _ _ o

pub order-defaults : (b : Box) → in_order b ≡ true → ordered row_before b.defaults ≡ true
unfolding in_order
order-defaults b o = and_right (ordered before b.lines) _ o

pub in_order_lem : (es : List KeyLine) (ds : List Default) → ordered before es ≡ true → ordered row_before ds ≡ true → in_order (record { lines = es; defaults = ds }) ≡ true
unfolding in_order
in_order_lem es ds p q = and_both _ _ p q

abbrev mk : List KeyLine → List Default → Box
mk es ds = record { lines = es; defaults = ds }

-- the same entries in order are the same list, and the same box
pub same_lines : (es fs : List KeyLine) → ordered before es ≡ true → ordered before fs ≡ true → ((e : KeyLine) → In e es → In e fs) → ((e : KeyLine) → In e fs → In e es) → es ≡ fs
same_lines = ordered_same before before-trans before-irrefl

pub same-defaults : (ds es : List Default) → ordered row_before ds ≡ true → ordered row_before es ≡ true → ((d : Default) → In d ds → In d es) → ((d : Default) → In d es → In d ds) → ds ≡ es
same-defaults = ordered_same row_before row_before-trans row_before-irrefl
