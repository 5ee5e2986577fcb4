-- The rows that lines carry. Inserting defaults of two pairs commutes, so a line may come or move anywhere among the others: of the rows
-- only the one that it carries matters. The row of a pair is that of the Put line of that key and start.
-- Assumes nothing.
use Prim.Native.Nat.{ℕ, zero, suc, ◌<◌}
use native.Mathlib.Omega.{arith}
use mathlib.Core.Path.{◌≡◌, refl, sym, ap, ap₂, ◌∙◌, subst}
use mathlib.Core.Logic.{inl, inr}
use mathlib.Core.Bool.{Bool, true, false, not, true≢false}
use mathlib.Core.List.{List, [], ◌∷◌, map}
use mathlib.Core.Option.{Option, none, some}
use lib.Dec.{eqb}
use lib.ListN.{length, get_or}
use borrow.Author.Tests.{eqb-true, eq-eqb, ne_eqb, eqb-false}
use Rattle.seqs.specs.Tables.{All, insert_at, remove_at}
use Rattle.seqs.proofs.Tables.{map-remove}
use Rattle.forms.specs.Row.{Row}
use Rattle.forms.proofs.Orders.{eq_bytes-sym}
use Rattle.rules.specs.declared.records.Kind.{Kind}
use Rattle.rules.specs.declared.records.Kind.TheVariants.{Put, Delete, Rollback}
use Rattle.rules.specs.Box as box
use Rattle.rules.specs.Box.{start_of, kind_in}
use Rattle.rules.specs.Restore.{none_like, no_second, like_line}
use Rattle.laws.proofs.StepLaws.{and_left, and_right, and_both, not-true}
use Rattle.laws.proofs.Sorted.{In, Fewer, empty, gone, kept, Clear, clear-insert, ordered-insert, in_insert}
use Rattle.laws.proofs.BoxOrder.{row_before-trans, row_before-irrefl, row_before-else}
use Rattle.laws.proofs.KeyLaws.{row_other, row_new, pair-refl, drop_row-none}
use Rattle.store.specs.View.{if_put, row_if, carries, add_if, stored}

-- ---- two that come one after the other

module _ {A : Type 0} (lt : A → A → Bool) (trans : (a b c : A) → lt a b ≡ true → lt b c ≡ true → lt a c ≡ true) (irrefl : (a : A) → lt a a ≡ false) where
  not-both : (x y z : A) → lt x y ≡ true → lt y z ≡ true → lt x z ≡ false → ⊥
  not-both x y z h g n = true≢false (sym (trans x y z h g) ∙ n)

  -- a test that would lead past a third is false
  no_step : (x y z : A) → lt y z ≡ true → lt x z ≡ false → lt x y ≡ false
  no_step x y z g n = go (lt x y) refl
    where
      go : (t : Bool) → lt x y ≡ t → t ≡ false
      go true h = absurd (not-both x y z h g n)
      go false h = refl

  module _ (x y : A) (apart : lt x y ≡ false → lt y x ≡ true) where
    front : (p q : Bool) (w : List A) → lt x y ≡ p → lt y x ≡ q → box.put_in p x y w (x ∷ w) ≡ box.put_in q y x w (y ∷ w)
    unfolding box.put_in
    front true true w a b = absurd (not-both x y x a b (irrefl x))
    front true false w a b = refl
    front false true w a b = refl
    front false false w a b = absurd (true≢false (sym (apart a) ∙ b))

    pub insert_comm : (v : List A) → box.insert_by lt x (box.insert_by lt y v) ≡ box.insert_by lt y (box.insert_by lt x v)
    unfolding box.insert_by box.put_in
    insert_comm [] = front (lt x y) (lt y x) [] refl refl
    insert_comm (z ∷ zs) = go (lt x z) (lt y z) refl refl (insert_comm zs)
      where
        go : (p q : Bool) → lt x z ≡ p → lt y z ≡ q → box.insert_by lt x (box.insert_by lt y zs) ≡ box.insert_by lt y (box.insert_by lt x zs)
            → box.insert_by lt x (box.put_in q y z zs (box.insert_by lt y zs)) ≡ box.insert_by lt y (box.put_in p x z zs (box.insert_by lt x zs))
        go true true a b ih = rw (a, b) (front (lt x y) (lt y x) (z ∷ zs) refl refl)
        go true false a b ih = rw (a, b, no_step y x z a b)
        go false true a b ih = rw (a, b, no_step x y z b a)
        go false false a b ih = rw (a, b) (ap (λ (l : List A). z ∷ l) ih)

-- ---- the defaults that are there

-- two defaults of different pairs, where both are there
abbrev pub Apart : Option box.Default → Option box.Default → Type 0
Apart none p = Unit {0}
Apart (some d) none = Unit {0}
Apart (some d) (some e) = box.row_before d e ≡ false → box.row_before e d ≡ true

add_comm : (o p : Option box.Default) → Apart o p → (ds : List box.Default) → add_if o (add_if p ds) ≡ add_if p (add_if o ds)
unfolding add_if
add_comm none p a ds = refl
add_comm (some d) none a ds = refl
add_comm (some d) (some e) a ds = insert_comm box.row_before row_before-trans row_before-irrefl d e a ds

-- one more, wherever it comes
pub stored-insert : (i : ℕ) (o : Option box.Default) (os : List (Option box.Default)) → All (Apart o) os → stored (insert_at i o os) ≡ add_if o (stored os)
unfolding All stored insert_at
stored-insert zero o os a = refl
stored-insert (suc i) o [] a = refl
stored-insert (suc i) o (p ∷ os) a = ap (add_if p) (stored-insert i o os a.1) ∙ sym (add_comm o p a.0 (stored os))

stored-clear : (d : box.Default) (os : List (Option box.Default)) → All (Apart (some d)) os → Clear box.row_before d (stored os)
unfolding All stored add_if
stored-clear d [] a = tt
stored-clear d (none ∷ os) a = stored-clear d os a.1
stored-clear d (some e ∷ os) a = clear-insert box.row_before d e (stored os) a.0 (stored-clear d os a.1)

stored-in : (d : box.Default) (os : List (Option box.Default)) → In (some d) os → In d (stored os)
unfolding stored add_if
stored-in d (none ∷ os) (inl e) = absurd (true≢false (cc))
stored-in d (some x ∷ os) (inl e) = in_insert box.row_before x (stored os) d (inl (cc))
stored-in d (none ∷ os) (inr m) = stored-in d os m
stored-in d (some x ∷ os) (inr m) = in_insert box.row_before x (stored os) d (inr (stored-in d os m))
stored-in d [] x' = elim x' [ ]

-- ---- no two lines of one key and start

pub pair-sym : (e f : box.KeyLine) → like_line e f ≡ like_line f e
pair-sym e f = rw (eq_bytes-sym e.key f.key, eqb-sym (start_of e.line) (start_of f.line))
  where
    eqb-sym : (a b : ℕ) → eqb a b ≡ eqb b a
    eqb-sym a b = go (eqb b a) refl
      where
        go : (t : Bool) → eqb b a ≡ t → eqb a b ≡ t
        go true e = eq-eqb a b (sym (eqb-true b a e))
        go false e = ne_eqb a b (λ q. eqb-false b a e (sym q))

module _ {A : Type 0} (like : A → A → Bool) (like-sym : (x y : A) → like x y ≡ like y x) where
  none-insert : (lt : A → A → Bool) (x y : A) (l : List A) → like y x ≡ false → none_like like y l ≡ true → none_like like y (box.insert_by lt x l) ≡ true
  unfolding none_like box.insert_by box.put_in
  none-insert lt x y [] h n = rw h
  none-insert lt x y (z ∷ zs) h n = go (lt x z) (none-insert lt x y zs h (and_right (not (like y z)) _ n))
    where
      go : (b : Bool) → none_like like y (box.insert_by lt x zs) ≡ true → none_like like y (box.put_in b x z zs (box.insert_by lt x zs)) ≡ true
      go true r = rw h n
      go false r = and_both (not (like y z)) _ (and_left _ _ n) r

  pub once-insert : (lt : A → A → Bool) (x : A) (l : List A) → none_like like x l ≡ true → no_second like l ≡ true → no_second like (box.insert_by lt x l) ≡ true
  unfolding none_like no_second box.insert_by box.put_in
  once-insert lt x [] n o = refl
  once-insert lt x (y ∷ ys) n o = go (lt x y) (once-insert lt x ys (and_right (not (like x y)) _ n) (and_right (none_like like y ys) _ o))
    where
      go : (b : Bool) → no_second like (box.insert_by lt x ys) ≡ true → no_second like (box.put_in b x y ys (box.insert_by lt x ys)) ≡ true
      go true r = and_both (none_like like x (y ∷ ys)) _ n o
      go false r = and_both (none_like like y (box.insert_by lt x ys)) _ (none-insert lt x y ys (like-sym y x ∙ not-true _ (and_left _ _ n)) (and_left _ _ o)) r

  none-fewer : (x : A) {ys xs : List A} → Fewer ys xs → none_like like x xs ≡ true → none_like like x ys ≡ true
  unfolding none_like
  none-fewer x empty n = refl
  none-fewer x (gone {x = y} {xs = xs} p) n = none-fewer x p (and_right (not (like x y)) (none_like like x xs) n)
  none-fewer x (kept {x = y} {xs = xs} p) n = and_both (not (like x y)) _ (and_left _ (none_like like x xs) n) (none-fewer x p (and_right (not (like x y)) (none_like like x xs) n))

  pub once-fewer : {ys xs : List A} → Fewer ys xs → no_second like xs ≡ true → no_second like ys ≡ true
  unfolding no_second
  once-fewer empty o = refl
  once-fewer (gone {x = x} {xs = xs} p) o = once-fewer p (and_right (none_like like x xs) (no_second like xs) o)
  once-fewer (kept {x = x} {xs = xs} p) o = and_both _ _ (none-fewer x p (and_left _ (no_second like xs) o)) (once-fewer p (and_right (none_like like x xs) (no_second like xs) o))

  none-at : (x : A) (l : List A) (i : ℕ) (d : A) → i < length l → none_like like x l ≡ true → like x (get_or l i d) ≡ false
  unfolding none_like
  none-at x [] i d h n = absurd (omega arith)
  none-at x (y ∷ ys) zero d h n = not-true _ (and_left _ _ n)
  none-at x (y ∷ ys) (suc i) d h n = none-at x ys i d (omega arith) (and_right (not (like x y)) _ n)

  -- one of them is like none of the others
  pub once-others : (l : List A) (i : ℕ) (d : A) → i < length l → no_second like l ≡ true → none_like like (get_or l i d) (remove_at i l) ≡ true
  unfolding none_like no_second remove_at
  once-others [] i d h o = absurd (omega arith)
  once-others (x ∷ xs) zero d h o = and_left _ _ o
  once-others (x ∷ xs) (suc i) d h o =
      let n : like (get_or xs i d) x ≡ false = like-sym (get_or xs i d) x ∙ none-at x xs i d (omega arith) (and_left _ _ o) in
      rw n (once-others xs i d (omega arith) (and_right (none_like like x xs) _ o))

pub none-ext : {A : Type 0} (like : A → A → Bool) (x y : A) → ((z : A) → like x z ≡ like y z) → (l : List A) → none_like like x l ≡ none_like like y l
unfolding none_like
none-ext like x y e [] = refl
none-ext like x y e (z ∷ zs) = rw (e z, none-ext like x y e zs)

-- ---- what goes out and comes back

pub insert-back : {A : Type 0} (i : ℕ) (d : A) (l : List A) → i < length l → insert_at i (get_or l i d) (remove_at i l) ≡ l
unfolding insert_at remove_at
insert-back i d [] h = absurd (omega arith)
insert-back zero d (x ∷ xs) h = refl
insert-back (suc i) d (x ∷ xs) h = ap (λ (v : List _). x ∷ v) (insert-back i d xs (omega arith))

map_at : {A B : Type 0} (f : A → B) (l : List A) (i : ℕ) (d : A) → i < length l → get_or (map f l) i (f d) ≡ f (get_or l i d)
map_at f [] i d h = absurd (omega arith)
map_at f (x ∷ xs) zero d h = refl
map_at f (x ∷ xs) (suc i) d h = map_at f xs i d (omega arith)

length-map : {A B : Type 0} (f : A → B) (l : List A) → length (map f l) ≡ length l
length-map f [] = refl
length-map f (x ∷ xs) = ap suc (length-map f xs)

-- a row that came goes again
drop-new : (d : box.Default) (ds : List box.Default) → box.row_of d.key d.start ds ≡ none → box.drop_row d.key d.start (box.insert_default d ds) ≡ ds
unfolding box.insert_by box.put_in box.drop_row box.unless_row box.row_of box.add_row
drop-new d [] n = ap (λ (t : Bool). box.unless_row t d []) (pair-refl d)
drop-new d (y ∷ ys) n = go (box.row_before d y) (box.at_pair d.key d.start y) refl n (drop-new d ys)
  where
    go : (p t : Bool) → box.at_pair d.key d.start y ≡ t → box.add_row t y.row (box.row_of d.key d.start ys) ≡ none
        → (box.row_of d.key d.start ys ≡ none → box.drop_row d.key d.start (box.insert_default d ys) ≡ ys)
        → box.drop_row d.key d.start (box.put_in p d y ys (box.insert_default d ys)) ≡ y ∷ ys
    go p true e n ih = let z : ◌≡◌ {A = ℕ} 0 1 = cc in absurd (omega arith)
    go true false e n ih = rw (pair-refl d, e, drop_row-none d.key d.start ys n)
    go false false e n ih = rw (e, ih n)

-- ---- lines, and the rows that they carry

pub carries-apart : (e f : box.KeyLine) (r q : Row) → like_line e f ≡ false → Apart (carries e r) (carries f q)
carries-apart e f r q n = go (kind_in e.line) (kind_in f.line)
  where
    d : box.Default
    d = record { key = e.key; start = start_of e.line; row = r }

    c : box.Default
    c = record { key = f.key; start = start_of f.line; row = q }

    go : (a b : Kind) → Apart (if_put a d) (if_put b c)
    go Put Put = row_before-else d c n
    go Put Delete = tt
    go Put Rollback = tt
    go Delete b = tt
    go Rollback b = tt

module _ {A : Type 0} (line : A → box.KeyLine) (row : A → Row) where
  abbrev rows : List A → List (Option box.Default)
  rows xs = map (λ (x : A). carries (line x) (row x)) xs

  pub rows_apart : (e : box.KeyLine) (r : Row) (xs : List A) → none_like like_line e (map line xs) ≡ true → All (Apart (carries e r)) (rows xs)
  unfolding All none_like
  rows_apart e r [] n = tt
  rows_apart e r (x ∷ xs) n = (carries-apart e (line x) r (row x) (not-true _ (and_left _ _ n)), rows_apart e r xs (and_right (not (like_line e (line x))) _ n))

  pub stored-order : (xs : List A) → no_second like_line (map line xs) ≡ true → box.ordered box.row_before (stored (rows xs)) ≡ true
  unfolding no_second stored add_if box.ordered
  stored-order [] o = refl
  stored-order (x ∷ xs) o = go (carries (line x) (row x)) (rows_apart (line x) (row x) xs (and_left _ _ o)) (stored-order xs (and_right (none_like like_line (line x) (map line xs)) _ o))
    where
      go : (p : Option box.Default) → All (Apart p) (rows xs) → box.ordered box.row_before (stored (rows xs)) ≡ true → box.ordered box.row_before (add_if p (stored (rows xs))) ≡ true
      go none a ih = ih
      go (some d) a ih = ordered-insert box.row_before row_before-trans d (stored (rows xs)) (stored-clear d (rows xs) a) ih

  -- no line of a pair: no row
  pub row-none : (e : box.KeyLine) (xs : List A) → none_like like_line e (map line xs) ≡ true → box.row_of e.key (start_of e.line) (stored (rows xs)) ≡ none
  unfolding none_like stored add_if box.row_of
  row-none e [] n = refl
  row-none e (x ∷ xs) n = go (kind_in (line x).line) (not-true _ (and_left _ _ n)) (row-none e xs (and_right (not (like_line e (line x))) _ n))
    where
      d : box.Default
      d = record { key = (line x).key; start = start_of (line x).line; row = row x }

      go : (a : Kind) → like_line e (line x) ≡ false → box.row_of e.key (start_of e.line) (stored (rows xs)) ≡ none
          → box.row_of e.key (start_of e.line) (add_if (if_put a d) (stored (rows xs))) ≡ none
      go Put h ih = row_other e.key (start_of e.line) d (stored (rows xs)) h ∙ ih
      go Delete h ih = ih
      go Rollback h ih = ih

  module _ (xs : List A) (i : ℕ) (d : A) (h : i < length xs) (o : no_second like_line (map line xs) ≡ true) where
    abbrev e : box.KeyLine
    e = line (get_or xs i d)

    -- its pair is no other's
    others : none_like like_line e (map line (remove_at i xs)) ≡ true
    others =
        ap (none_like like_line e) (map-remove line i xs)
        ∙ subst (λ (f : box.KeyLine). none_like like_line f (remove_at i (map line xs)) ≡ true) (map_at line xs i d h)
        (once-others like_line pair-sym (map line xs) i (line d) (omega (arith, length-map line xs)) o)

    -- one that goes, wherever it stood
    stored-out : stored (rows xs) ≡ add_if (carries e (row (get_or xs i d))) (stored (rows (remove_at i xs)))
    stored-out =
        ap stored (sym (insert-back i (carries (line d) (row d)) (rows xs) (omega (arith, length-map (λ (x : A). carries (line x) (row x)) xs))))
        ∙ ap₂ (λ (p : Option box.Default) (os : List (Option box.Default)). stored (insert_at i p os)) (map_at (λ (x : A). carries (line x) (row x)) xs i d h) (sym (map-remove (λ (x : A). carries (line x) (row x)) i xs))
        ∙ stored-insert i (carries e (row (get_or xs i d))) (rows (remove_at i xs)) (rows_apart e (row (get_or xs i d)) (remove_at i xs) others)

    -- the row of a pair is that of its line, if that is a Put
    pub row-held : box.row_of (line (get_or xs i d)).key (start_of (line (get_or xs i d)).line) (stored (rows xs)) ≡ row_if (kind_in (line (get_or xs i d)).line) (row (get_or xs i d))
    unfolding add_if
    row-held = ap (box.row_of e.key (start_of e.line)) stored-out ∙ go (kind_in e.line) (row-none e (remove_at i xs) others)
      where
        go : (a : Kind) → box.row_of e.key (start_of e.line) (stored (rows (remove_at i xs))) ≡ none
            → box.row_of e.key (start_of e.line) (add_if (if_put a (record { key = e.key; start = start_of e.line; row = row (get_or xs i d) })) (stored (rows (remove_at i xs)))) ≡ row_if a (row (get_or xs i d))
        go Put n = row_new (record { key = e.key; start = start_of e.line; row = row (get_or xs i d) }) (stored (rows (remove_at i xs))) n
        go Delete n = n
        go Rollback n = n

    -- and goes with it
    pub row_out : box.drop_row (line (get_or xs i d)).key (start_of (line (get_or xs i d)).line) (stored (rows xs)) ≡ stored (rows (remove_at i xs))
    unfolding add_if
    row_out = ap (box.drop_row e.key (start_of e.line)) stored-out ∙ go (kind_in e.line) (row-none e (remove_at i xs) others)
      where
        go : (a : Kind) → box.row_of e.key (start_of e.line) (stored (rows (remove_at i xs))) ≡ none
            → box.drop_row e.key (start_of e.line) (add_if (if_put a (record { key = e.key; start = start_of e.line; row = row (get_or xs i d) })) (stored (rows (remove_at i xs)))) ≡ stored (rows (remove_at i xs))
        go Put n = drop-new (record { key = e.key; start = start_of e.line; row = row (get_or xs i d) }) (stored (rows (remove_at i xs))) n
        go Delete n = drop_row-none e.key (start_of e.line) _ n
        go Rollback n = drop_row-none e.key (start_of e.line) _ n
