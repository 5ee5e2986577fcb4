-- Loads: what a line or a default adds when it comes and frees when it goes; that a load that is less fits; and the load of the box that a
-- whole batch leaves, from the box before the call, over every check and apply.
-- Assumes nothing.
use Prim.Native.Nat.{ℕ, ◌+◌, ◌≤◌}
use native.Mathlib.Omega.{arith}
use mathlib.Core.Path.{◌≡◌, refl, sym, ap, ap₂, ◌∙◌}
use mathlib.Core.Bool.{Bool, true, false}
use mathlib.Core.List.{List, [], ◌∷◌}
use mathlib.Core.Option.{none}
use lib.ListN.{length}
use borrow.Author.Tests.{eqb-true}
use Rattle.forms.specs.Key.{Key}
use Rattle.forms.specs.Bytes.{eq_bytes}
use Rattle.forms.specs.Batch.{ascend}
use Rattle.forms.proofs.Orders.{eq_bytes-true}
use Rattle.rules.specs.Answers.{Answer, Accepted}
use Rattle.rules.specs.declared.room.Load.{Load}
use Rattle.rules.specs.Box.{Box, Line, Standing, Finished, KeyLine, Default, lock_of, add_lock, row_of, add_row, at_pair, before, row_before, insert_line, insert_default, drop_lock, unless_lock, drop_row, unless_row, ordered}
use Rattle.rules.specs.Room.{load_of, sum_of, one_lock, line_bytes, fits}
use Rattle.rules.proofs.RoomLaws.{fits_out, fits_in}
use Rattle.laws.specs.Adds.{no_load, plus, minus, sum_loads, lock_load, row_load, line_load, of_lock, of_row, lines_load, defaults_load}
use Rattle.laws.proofs.StepLaws.{and_left, and_right, then-left}
use Rattle.laws.proofs.Sorted.{length-insert, sum-insert, ordered-first, ordered-rest}
use Rattle.laws.proofs.KeyLaws.{drop_row-none, row-after}
use Rattle.laws.proofs.FrameLaws.{Same, Apart, ascend-apart, ascend-rest}
use Rattle.laws.proofs.BatchLaws.{check_all, apply_all, Depends, Only, still-pass}

-- ---- equal loads, and loads at most another, by their four counts

pub record EqLoad (a b : Load) : Type 0 where
  pub lines : a.lines ≡ b.lines
  pub locks : a.locks ≡ b.locks
  pub defaults : a.defaults ≡ b.defaults
  pub bytes : a.bytes ≡ b.bytes

pub load-eq : (a b : Load) → EqLoad a b → a ≡ b
load-eq a b e = λ i. record { lines = e.lines i; locks = e.locks i; defaults = e.defaults i; bytes = e.bytes i }

pub load_fields : {a b : Load} → a ≡ b → EqLoad a b
load_fields e = record { lines = ap (λ (l : Load). l.lines) e; locks = ap (λ (l : Load). l.locks) e; defaults = ap (λ (l : Load). l.defaults) e; bytes = ap (λ (l : Load). l.bytes) e }

pub plus_none : (a : Load) → plus a no_load ≡ a
plus_none a = load-eq (plus a no_load) a (omega arith)

pub none-plus : (a : Load) → plus no_load a ≡ a
none-plus a = load-eq (plus no_load a) a (omega arith)

pub plus_assoc : (a b c : Load) → plus (plus a b) c ≡ plus a (plus b c)
plus_assoc a b c = load-eq (plus (plus a b) c) (plus a (plus b c)) (omega arith)

-- what is left where a part is freed
pub load-left : (a b f c : Load) → plus a b ≡ plus f c → c ≡ minus (plus a b) f
load-left a b f c e = let p = load_fields e in load-eq c (minus (plus a b) f) (omega arith)

-- one load is at most another
pub record AtMost (a b : Load) : Type 0 where
  pub lines : a.lines ≤ b.lines
  pub locks : a.locks ≤ b.locks
  pub defaults : a.defaults ≤ b.defaults
  pub bytes : a.bytes ≤ b.bytes

pub at-most-refl : (a : Load) → AtMost a a
at-most-refl a = omega arith

pub at-most-trans : {a b c : Load} → AtMost a b → AtMost b c → AtMost a c
at-most-trans p q = omega arith

pub at-most-plus : (a b c : Load) → c ≡ plus a b → AtMost a c
at-most-plus a b c e = let p = load_fields e in omega arith

-- what was freed was there
pub freed-at-most : (a b f c : Load) → plus a b ≡ plus f c → AtMost f (plus a b)
freed-at-most a b f c e = let p = load_fields e in omega arith

-- where nothing more is added than was freed
pub at-most-freed : (a b f c : Load) → plus a b ≡ plus f c → AtMost b f → AtMost c a
at-most-freed a b f c e m = let p = load_fields e in omega arith

pub fits-less : (a b : Load) → AtMost a b → fits b ≡ true → fits a ≡ true
fits-less a b m h = let f = fits_out b h in fits_in a (omega arith)

-- ---- a box's load is that of its lines and that of its defaults

abbrev mk : List KeyLine → List Default → Box
mk es ds = record { lines = es; defaults = ds }

pub load-parts : (es : List KeyLine) (ds : List Default) → load_of (mk es ds) ≡ plus (lines_load es) (defaults_load ds)
unfolding load_of
load-parts es ds = load-eq (load_of (mk es ds)) (plus (lines_load es) (defaults_load ds)) (omega arith)

-- ---- what comes

pub lines-insert : (e : KeyLine) (es : List KeyLine) → lines_load (insert_line e es) ≡ plus (line_load e) (lines_load es)
lines-insert e es =
    let p = length-insert before e es in
    let q = sum-insert before e (λ (e : KeyLine). one_lock e.line) es in
    let r = sum-insert before e (λ (e : KeyLine). line_bytes e.key e.line) es in
    load-eq (lines_load (insert_line e es)) (plus (line_load e) (lines_load es)) (omega arith)

pub defaults-insert : (d : Default) (ds : List Default) → defaults_load (insert_default d ds) ≡ plus (row_load d.key d.row) (defaults_load ds)
defaults-insert d ds =
    let p = length-insert row_before d ds in
    let r = sum-insert row_before d (λ (d : Default). length d.key + length d.row) ds in
    load-eq (defaults_load (insert_default d ds)) (plus (row_load d.key d.row) (defaults_load ds)) (omega arith)

-- ---- what goes

lines_cons : (e : KeyLine) (es : List KeyLine) → lines_load (e ∷ es) ≡ plus (line_load e) (lines_load es)
unfolding sum_of
lines_cons e es = load-eq (lines_load (e ∷ es)) (plus (line_load e) (lines_load es)) (omega arith)

defaults-cons : (d : Default) (ds : List Default) → defaults_load (d ∷ ds) ≡ plus (row_load d.key d.row) (defaults_load ds)
unfolding sum_of
defaults-cons d ds = load-eq (defaults_load (d ∷ ds)) (plus (row_load d.key d.row) (defaults_load ds)) (omega arith)

pub lines-drop_lock : (k : Key) (es : List KeyLine) → plus (of_lock k (lock_of k es)) (lines_load (drop_lock k es)) ≡ lines_load es
unfolding drop_lock unless_lock lock_of add_lock of_lock
lines-drop_lock k [] = none-plus (lines_load [])
lines-drop_lock k (f ∷ es) = go f.key f.line (eq_bytes k f.key) refl (lines-drop_lock k es)
  where
    later : (f : KeyLine) → plus (of_lock k (lock_of k es)) (lines_load (drop_lock k es)) ≡ lines_load es → plus (of_lock k (lock_of k es)) (lines_load (f ∷ drop_lock k es)) ≡ lines_load (f ∷ es)
    later f ih =
        let p = load_fields ih in
        let q = load_fields (lines_cons f (drop_lock k es)) in
        let r = load_fields (lines_cons f es) in
        load-eq (plus (of_lock k (lock_of k es)) (lines_load (f ∷ drop_lock k es))) (lines_load (f ∷ es)) (omega arith)

    go : (j : Key) (x : Line) (t : Bool) → eq_bytes k j ≡ t → plus (of_lock k (lock_of k es)) (lines_load (drop_lock k es)) ≡ lines_load es
        → plus (of_lock k (add_lock t x (lock_of k es))) (lines_load (unless_lock t (record { key = j; line = x }) x es (drop_lock k es))) ≡ lines_load (record { key = j; line = x } ∷ es)
    go j (Standing l) true e ih =
        let r = load_fields (lines_cons (record { key = j; line = Standing l }) es) in
        let n : length k ≡ length j = ap length (eq_bytes-true k j e) in
        load-eq (plus (lock_load k l.primary) (lines_load es)) (lines_load (record { key = j; line = Standing l } ∷ es)) (omega arith)
    go j (Finished w) true e ih = later (record { key = j; line = Finished w }) ih
    go j x false e ih = later (record { key = j; line = x }) ih

pub defaults-drop_row : (k : Key) (s : ℕ) (ds : List Default) → ordered row_before ds ≡ true → plus (of_row k (row_of k s ds)) (defaults_load (drop_row k s ds)) ≡ defaults_load ds
unfolding drop_row unless_row row_of add_row of_row
defaults-drop_row k s [] o = none-plus (defaults_load [])
defaults-drop_row k s (d ∷ ds) o = go (at_pair k s d) refl (defaults-drop_row k s ds (ordered-rest row_before d ds o))
  where
    go : (t : Bool) → at_pair k s d ≡ t → plus (of_row k (row_of k s ds)) (defaults_load (drop_row k s ds)) ≡ defaults_load ds
        → plus (of_row k (add_row t d.row (row_of k s ds))) (defaults_load (unless_row t d (drop_row k s ds))) ≡ defaults_load (d ∷ ds)
    go true e ih =
        let p : k ≡ d.key = eq_bytes-true k d.key (and_left _ _ e) in
        let q : s ≡ d.start = eqb-true s d.start (and_right (eq_bytes k d.key) _ e) in
        let n : length k ≡ length d.key = ap length p in
        let none_left : row_of k s ds ≡ none = ap₂ (λ (j : Key) (u : ℕ). row_of j u ds) p q ∙ row-after d ds (ordered-first row_before d ds o) in
        let r = load_fields (defaults-cons d ds) in
        let g = load_fields (ap defaults_load (drop_row-none k s ds none_left)) in
        load-eq (plus (row_load k d.row) (defaults_load (drop_row k s ds))) (defaults_load (d ∷ ds)) (omega arith)
    go false e ih =
        let p = load_fields ih in
        let q = load_fields (defaults-cons d (drop_row k s ds)) in
        let r = load_fields (defaults-cons d ds) in
        load-eq (plus (of_row k (row_of k s ds)) (defaults_load (d ∷ drop_row k s ds))) (defaults_load (d ∷ ds)) (omega arith)

-- ---- the same of a box

module _ (b : Box) where
  parts : EqLoad (load_of b) (plus (lines_load b.lines) (defaults_load b.defaults))
  parts = load_fields (load-parts b.lines b.defaults)

  pub load_line : (e : KeyLine) → load_of (mk (insert_line e b.lines) b.defaults) ≡ plus (load_of b) (line_load e)
  load_line e =
      let p = parts in
      let q = load_fields (load-parts (insert_line e b.lines) b.defaults) in
      let r = load_fields (lines-insert e b.lines) in
      load-eq (load_of (mk (insert_line e b.lines) b.defaults)) (plus (load_of b) (line_load e)) (omega arith)

  pub load-default : (d : Default) → load_of (mk b.lines (insert_default d b.defaults)) ≡ plus (load_of b) (row_load d.key d.row)
  load-default d =
      let p = parts in
      let q = load_fields (load-parts b.lines (insert_default d b.defaults)) in
      let r = load_fields (defaults-insert d b.defaults) in
      load-eq (load_of (mk b.lines (insert_default d b.defaults))) (plus (load_of b) (row_load d.key d.row)) (omega arith)

  pub load-drop_lock : (k : Key) → plus (of_lock k (lock_of k b.lines)) (load_of (mk (drop_lock k b.lines) b.defaults)) ≡ load_of b
  load-drop_lock k =
      let p = parts in
      let q = load_fields (load-parts (drop_lock k b.lines) b.defaults) in
      let r = load_fields (lines-drop_lock k b.lines) in
      load-eq (plus (of_lock k (lock_of k b.lines)) (load_of (mk (drop_lock k b.lines) b.defaults))) (load_of b) (omega arith)

  pub load-drop_row : (k : Key) (s : ℕ) → ordered row_before b.defaults ≡ true → plus (of_row k (row_of k s b.defaults)) (load_of (mk b.lines (drop_row k s b.defaults))) ≡ load_of b
  load-drop_row k s o =
      let p = parts in
      let q = load_fields (load-parts b.lines (drop_row k s b.defaults)) in
      let r = load_fields (defaults-drop_row k s b.defaults o) in
      load-eq (plus (of_row k (row_of k s b.defaults)) (load_of (mk b.lines (drop_row k s b.defaults)))) (load_of b) (omega arith)

-- ---- the whole batch, from the box before the call

pub sums_same : {A : Type 0} (key : A → Key) (s : ℕ) (f : Box → A → Load) → ((b c : Box) (x : A) → Same b c (key x) s → f c x ≡ f b x)
    → (k : Key) (xs : List A) (b c : Box) → Apart key k xs → ((i : Key) → eq_bytes i k ≡ false → Same b c i s) → sum_loads (f c) xs ≡ sum_loads (f b) xs
unfolding sum_loads
sums_same key s f d k [] b c a v = refl
sums_same key s f d k (x ∷ xs) b c a v = rw (d b c x (v (key x) a.0), sums_same key s f d k xs b c a.1 v)

module _ {A : Type 0} (key : A → Key) (s : ℕ) (check : Box → A → Answer) (depends : Depends key s check) (apply : A → Box → Box) (only : Only key s apply)
    (adds frees : Box → A → Load) (Adds-same : (b c : Box) (x : A) → Same b c (key x) s → adds c x ≡ adds b x) (frees-same : (b c : Box) (x : A) → Same b c (key x) s → frees c x ≡ frees b x)
    (Inv : Box → Type 0) (keeps : (x : A) (b : Box) → check b x ≡ Accepted → Inv b → Inv (apply x b))
    (one : (x : A) (b : Box) → check b x ≡ Accepted → Inv b → plus (load_of b) (adds b x) ≡ plus (frees b x) (load_of (apply x b))) where
  pub batch-load : (xs : List A) (b : Box) → ascend key xs ≡ true → check_all check b xs ≡ Accepted → Inv b
      → plus (load_of b) (sum_loads (adds b) xs) ≡ plus (sum_loads (frees b) xs) (load_of (apply_all apply xs b))
  unfolding check_all apply_all sum_loads
  batch-load [] b a p v = plus_none (load_of b) ∙ sym (none-plus (load_of b))
  batch-load (x ∷ xs) b a p v =
      let ih = load_fields (batch-load xs (apply x b) (ascend-rest key x xs a) (still-pass key s check depends apply only x xs b a p) (keeps x b (then-left _ _ p) v)) in
      let e = load_fields (one x b (then-left _ _ p) v) in
      let f = load_fields (sums_same key s adds Adds-same (key x) xs b (apply x b) (ascend-apart key x xs a) (only x b)) in
      let g = load_fields (sums_same key s frees frees-same (key x) xs b (apply x b) (ascend-apart key x xs a) (only x b)) in
      load-eq (plus (load_of b) (plus (adds b x) (sum_loads (adds b) xs))) (plus (plus (frees b x) (sum_loads (frees b) xs)) (load_of (apply_all apply xs (apply x b)))) (omega arith)
