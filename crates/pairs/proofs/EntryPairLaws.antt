-- Lines and defaults by key and start, each pair once: the Puts' pairs and the defaults' are the same, in the same turn, where each Put has its
-- default and to each default a Put points. And both are so in whatever turn the image has its entries.
-- Assumes nothing.
use Prim.Native.Nat.{ℕ}
use mathlib.Core.Path.{◌≡◌, refl, sym, ◌∙◌, ap, ap₂}
use mathlib.Core.Bool.{Bool, true, false, not, ◌&&◌, ◌||◌, and-false, and_assoc}
use mathlib.Core.List.{List, [], ◌∷◌, ◌++◌, map}
use lib.Dec.{ltb}
use borrow.Author.Tests.{eqb-true, eq-eqb}
use Rattle.seqs.proofs.Tests.{and_left, and_right, and_both}
use Rattle.forms.specs.Bytes.{cmp, eq_bytes}
use Rattle.forms.specs.Key.{Key}
use Rattle.forms.specs.Readers.{is_some}
use Rattle.forms.proofs.Orders.{eq_bytes-true, eq_bytes-refl}
use Rattle.rules.specs.declared.records.Kind.{Kind}
use Rattle.rules.specs.declared.records.Kind.TheVariants.{Put, Delete, Rollback}
use Rattle.rules.specs.Box.{KeyLine, Default, start_of, kind_in, eq_kind, line_is, at_pair, row_of, add_row, by_order, row_before, all_after, ordered}
use Rattle.rules.specs.Page.{KeyLock}
use Rattle.rules.specs.Image.{KeyRecord}
use Rattle.rules.specs.Restore.{all_good, like_default, kind_has_default, has_default, lock_line, write_line, lock_has_default, points_to, pointed_to}
use Rattle.laws.proofs.Sorted.{Fewer, empty, gone, kept, ordered-first, ordered-rest, ordered-fewer, after-down}
use Rattle.laws.proofs.BoxOrder.{row_before-trans, row_before-else, row_before-apart'}
use Rattle.orders.specs.Sorts.{sorted}
use Rattle.pairs.specs.Puts.{line_pair, put_on, puts_of, same_pairs}
use Rattle.pairs.proofs.SortedLaws.{sorted-good, none-good, none_after}
use Rattle.pairs.proofs.SortedPlaceLaws.{likes-rows, pair_before}

-- ---- one of them

abbrev pub any_of : {A : Type 0} → (A → Bool) → List A → Bool
any_of p l = not (all_good (λ x. not (p x)) l)

pub any-sorted : {A : Type 0} (lt : A → A → Bool) (p : A → Bool) (l : List A) → any_of p (sorted lt l) ≡ any_of p l
any-sorted lt p l = ap not (sorted-good lt (λ x. not (p x)) l)

pub good-same : {A : Type 0} (p q : A → Bool) → ((x : A) → p x ≡ q x) → (l : List A) → all_good p l ≡ all_good q l
unfolding all_good
good-same p q e [] = refl
good-same p q e (x ∷ xs) = ap₂ ◌&&◌ (e x) (good-same p q e xs)

good-map : {A B : Type 0} (p : B → Bool) (f : A → B) (l : List A) → all_good p (map f l) ≡ all_good (λ x. p (f x)) l
unfolding all_good
good-map p f [] = refl
good-map p f (x ∷ xs) = ap (λ (b : Bool). p (f x) && b) (good-map p f xs)

good-append : {A : Type 0} (p : A → Bool) (l m : List A) → all_good p (l ++ m) ≡ all_good p l && all_good p m
unfolding all_good
good-append p [] m = refl
good-append p (x ∷ xs) m = ap (λ (b : Bool). p x && b) (good-append p xs m) ∙ sym (and_assoc (p x) (all_good p xs) (all_good p m))

-- ---- pairs in order

-- its like is one of them
abbrev has : List Default → Default → Bool
has ds d = any_of (like_default d) ds

module _ (x y : Default) (e : like_default x y ≡ true) where
  same_key : x.key ≡ y.key
  same_key = eq_bytes-true x.key y.key (and_left _ _ e)

  same_start : x.start ≡ y.start
  same_start = eqb-true x.start y.start (and_right (eq_bytes x.key y.key) _ e)

  like-back : like_default y x ≡ true
  like-back =
      and_both (eq_bytes y.key x.key) _ (ap (eq_bytes y.key) same_key ∙ eq_bytes-refl y.key) (eq-eqb y.start x.start (sym same_start))

  after-like : (l : List Default) → all_after row_before x l ≡ true → all_after row_before y l ≡ true
  unfolding all_after row_before
  after-like [] h = refl
  after-like (z ∷ zs) h =
      and_both (row_before y z) _ (sym (ap₂ (λ (k : Key) (n : ℕ). by_order (cmp k z.key) (ltb n z.start)) same_key same_start) ∙ and_left _ _ h) (after-like zs (and_right (row_before x z) _ h))

-- one that is before all of them is the like of none
not-needed : (y : Default) (ys l : List Default) → all_after row_before y l ≡ true → all_good (has (y ∷ ys)) l ≡ all_good (has ys) l
unfolding all_after all_good
not-needed y ys [] h = refl
not-needed y ys (x ∷ xs) h =
    ap₂ (λ (a b : Bool). not (not a && all_good (λ z. not (like_default x z)) ys) && b) (row_before-apart' y x (and_left _ _ h)) (not-needed y ys xs (and_right (row_before y x) _ h))

same-pairs : (xs ys : List Default) → ordered row_before xs ≡ true → ordered row_before ys ≡ true → same_pairs xs ys ≡ all_good (has ys) xs && all_good (has xs) ys
unfolding same_pairs all_good all_after
same-pairs [] [] o q = refl
same-pairs [] (y ∷ ys) o q = refl
same-pairs (x ∷ xs) [] o q = refl
same-pairs (x ∷ xs) (y ∷ ys) o q = go (like_default x y) (row_before x y) refl refl (same-pairs xs ys (ordered-rest row_before x xs o) (ordered-rest row_before y ys q))
  where
    before : (u v : Default) (l : List Default) → row_before u v ≡ true → ordered row_before (v ∷ l) ≡ true → has (v ∷ l) u ≡ false
    before u v l h p = ap not (sym (none-good like_default u (v ∷ l)) ∙ none_after likes-rows u (v ∷ l) (and_both _ _ h (after-down row_before row_before-trans u v l h (ordered-first row_before v l p))))

    found : (u v : Default) (l : List Default) → like_default u v ≡ true → has (v ∷ l) u ≡ true
    found u v l h = ap (λ (b : Bool). not (not b && all_good (λ z. not (like_default u z)) l)) h

    go : (b c : Bool) → like_default x y ≡ b → row_before x y ≡ c → same_pairs xs ys ≡ all_good (has ys) xs && all_good (has xs) ys
        → b && same_pairs xs ys ≡ (has (y ∷ ys) x && all_good (has (y ∷ ys)) xs) && (has (x ∷ xs) y && all_good (has (x ∷ xs)) ys)
    go true c h g r =
        r
        ∙ sym
        (ap₂ ◌&&◌ (ap₂ ◌&&◌ (found x y ys h) (not-needed y ys xs (after-like x y h xs (ordered-first row_before x xs o))))
        (ap₂ ◌&&◌ (found y x xs (like-back x y h)) (not-needed x xs ys (after-like y x (like-back x y h) ys (ordered-first row_before y ys q)))))
    go false true h g r = sym (ap (λ (b : Bool). (b && all_good (has (y ∷ ys)) xs) && (has (x ∷ xs) y && all_good (has (x ∷ xs)) ys)) (before x y ys g q))
    go false false h g r =
        sym
        (ap (λ (b : Bool). (has (y ∷ ys) x && all_good (has (y ∷ ys)) xs) && (b && all_good (has (x ∷ xs)) ys)) (before y x xs (row_before-else x y h g) o)
        ∙ and-false (has (y ∷ ys) x && all_good (has (y ∷ ys)) xs))

-- ---- lines and defaults

-- a line that is a Put has its default
abbrev pub line_has : List Default → KeyLine → Bool
line_has ds e = kind_has_default (kind_in e.line) (is_some (row_of e.key (start_of e.line) ds))

pub row-found : (k : Key) (n : ℕ) (ds : List Default) → is_some (row_of k n ds) ≡ any_of (at_pair k n) ds
unfolding row_of add_row all_good
row-found k n [] = refl
row-found k n (d ∷ ds) = go (at_pair k n d) (row-found k n ds)
  where
    go : (b : Bool) → is_some (row_of k n ds) ≡ any_of (at_pair k n) ds → is_some (add_row b d.row (row_of k n ds)) ≡ not (not b && all_good (λ x. not (at_pair k n x)) ds)
    go true h = refl
    go false h = h

pub points : (es : List KeyLine) (d : Default) → pointed_to es d ≡ any_of (points_to d) es
unfolding pointed_to all_good
points [] d = refl
points (e ∷ es) d = go (points_to d e) (points es d)
  where
    go : (b : Bool) → pointed_to es d ≡ any_of (points_to d) es → b || pointed_to es d ≡ not (not b && all_good (λ x. not (points_to d x)) es)
    go true h = refl
    go false h = h

puts-have : (ds : List Default) (es : List KeyLine) → all_good (has ds) (puts_of es) ≡ all_good (line_has ds) es
unfolding puts_of all_good
puts-have ds [] = refl
puts-have ds (e ∷ es) = go (kind_in e.line) (puts-have ds es)
  where
    go : (k : Kind) → all_good (has ds) (puts_of es) ≡ all_good (line_has ds) es → all_good (has ds) (put_on k (line_pair e) (puts_of es)) ≡ kind_has_default k (is_some (row_of e.key (start_of e.line) ds)) && all_good (line_has ds) es
    go Put h = ap₂ ◌&&◌ (sym (row-found e.key (start_of e.line) ds)) h
    go Delete h = h
    go Rollback h = h

puts-point : (es : List KeyLine) (d : Default) → has (puts_of es) d ≡ pointed_to es d
unfolding puts_of all_good pointed_to
puts-point [] d = refl
puts-point (e ∷ es) d = go (kind_in e.line) (line_is d.key d.start e) refl (puts-point es d)
  where
    go : (k : Kind) (b : Bool) → line_is d.key d.start e ≡ b → has (puts_of es) d ≡ pointed_to es d → has (put_on k (line_pair e) (puts_of es)) d ≡ (b && eq_kind k Put) || pointed_to es d
    go Put true q h = ap (λ (b : Bool). not (not b && all_good (λ x. not (like_default d x)) (puts_of es))) q
    go Put false q h = ap (λ (b : Bool). not (not b && all_good (λ x. not (like_default d x)) (puts_of es))) q ∙ h
    go Delete true q h = h
    go Delete false q h = h
    go Rollback true q h = h
    go Rollback false q h = h

puts-fewer : (es : List KeyLine) → Fewer (puts_of es) (map line_pair es)
unfolding puts_of
puts-fewer [] = empty
puts-fewer (e ∷ es) = go (kind_in e.line) (puts-fewer es)
  where
    go : (k : Kind) → Fewer (puts_of es) (map line_pair es) → Fewer (put_on k (line_pair e) (puts_of es)) (line_pair e ∷ map line_pair es)
    go Put h = kept h
    go Delete h = gone h
    go Rollback h = gone h

module _ (es : List KeyLine) (ds : List Default) where
  abbrev lines : List KeyLine
  lines = sorted pair_before es

  abbrev rows : List Default
  rows = sorted row_before ds

  lines-pairs : (l : List KeyLine) → ordered pair_before l ≡ ordered row_before (map line_pair l)
  unfolding ordered all_after
  lines-pairs [] = refl
  lines-pairs (x ∷ xs) = ap₂ ◌&&◌ (go xs) (lines-pairs xs)
    where
      go : (l : List KeyLine) → all_after pair_before x l ≡ all_after row_before (line_pair x) (map line_pair l)
      go [] = refl
      go (y ∷ ys) = ap (λ (b : Bool). pair_before x y && b) (go ys)

  pub pairs-match : ordered pair_before lines ≡ true → ordered row_before rows ≡ true → same_pairs (puts_of lines) rows ≡ all_good (line_has ds) es && all_good (pointed_to es) ds
  pairs-match o q =
      same-pairs (puts_of lines) rows (ordered-fewer row_before (puts-fewer lines) (sym (lines-pairs lines) ∙ o)) q
      ∙ ap₂ ◌&&◌
      (puts-have rows lines ∙ sorted-good pair_before (line_has rows) es
      ∙ good-same (line_has rows) (line_has ds) (λ e. ap (kind_has_default (kind_in e.line)) (row-found _ _ rows ∙ any-sorted row_before (at_pair e.key (start_of e.line)) ds ∙ sym (row-found _ _ ds))) es)
      (good-same (has (puts_of lines)) (pointed_to es) (λ d. puts-point lines d ∙ points lines d ∙ any-sorted pair_before (points_to d) es ∙ sym (points es d)) rows ∙ sorted-good row_before (pointed_to es) ds)

pub lines-have : (ds : List Default) (xs : List KeyLock) (ys : List KeyRecord) → all_good (line_has ds) (map lock_line xs ++ map write_line ys) ≡ all_good (lock_has_default ds) xs && all_good (has_default ds) ys
lines-have ds xs ys = good-append (line_has ds) (map lock_line xs) (map write_line ys) ∙ ap₂ ◌&&◌ (good-map (line_has ds) lock_line xs) (good-map (line_has ds) write_line ys)
