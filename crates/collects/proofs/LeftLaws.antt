-- What is left of lines and of the rows that they carry: the lines and rows of the collected box, and its tallies.
-- Assumes nothing.
use Prim.Native.Nat.{ℕ, zero, suc}
use native.Mathlib.Omega.{arith}
use mathlib.Core.Path.{◌≡◌, refl, sym, ap, ◌∙◌}
use mathlib.Core.Bool.{Bool, true, false, ◌||◌, not, true≢false}
use mathlib.Core.List.{List, [], ◌∷◌, map}
use mathlib.Core.Option.{Option, none}
use lib.ListN.{drop}
use borrow.Author.Tests.{eq-eqb}
use Rattle.forms.specs.Row.{Row}
use Rattle.forms.proofs.Orders.{eq_bytes-refl}
use Rattle.rules.specs.declared.records.Kind.{Kind}
use Rattle.rules.specs.declared.records.Kind.TheVariants.{Put, Delete, Rollback}
use Rattle.rules.specs.declared.room.Load.{Load}
use Rattle.rules.specs.Box.{Box, Finished, KeyLine, Default, start_of, kind_in, eq_kind, line_is, at_pair, row_of, add_row, row_before, all_after, ordered, put_in, insert_by}
use Rattle.rules.specs.Room.{sum_of, load_of}
use Rattle.rules.specs.Read.{keep_if, those}
use Rattle.rules.specs.Calls.{record_for}
use Rattle.rules.specs.Restore.{none_like, no_second, like_line, points_to, pointed_to}
use Rattle.rules.specs.Collect.{stays, kept_lines, dropped_lines, row_stays}
use Rattle.laws.specs.Adds.{no_load, plus, line_load, of_row, defaults_load}
use Rattle.laws.proofs.StepLaws.{by-test, and_left, and_right, and_both, and-false-right, not-true}
use Rattle.laws.proofs.Sorted.{Fewer, empty, gone, kept, ordered-first, ordered-rest, after_fewer, after-down}
use Rattle.laws.proofs.BoxOrder.{row_before-trans}
use Rattle.laws.proofs.KeyLaws.{insert-first}
use Rattle.laws.proofs.PlaceLaws.{those-fewer, those-ext}
use Rattle.laws.proofs.LoadLaws.{AtMost, at-most-refl, load-eq, load_fields, load-parts, none-plus, defaults-insert}
use Rattle.laws.proofs.CollectLaws.{dropped-fewer}
use Rattle.store.specs.View.{if_put, row_if, carries, add_if, stored}
use Rattle.store.proofs.StoredLaws.{pair-sym, once-fewer, stored-order, row-none}

-- ---- those that stay

unfoldable pub left_of : {A : Type 0} → (A → KeyLine) → ℕ → List A → List A
left_of line f [] = []
left_of line f (x ∷ xs) = keep_if (stays f (map line xs) (line x)) x (left_of line f xs)

module _ {A : Type 0} (line : A → KeyLine) (f : ℕ) where
  pub left-lines : (xs : List A) → map line (left_of line f xs) ≡ kept_lines f (map line xs)
  unfolding left_of kept_lines keep_if
  left-lines [] = refl
  left-lines (x ∷ xs) =
      by-test (λ t. map line (keep_if t x (left_of line f xs)) ≡ keep_if t (line x) (kept_lines f (map line xs))) (stays f (map line xs) (line x))
      (λ q. ap (λ (es : List KeyLine). line x ∷ es) (left-lines xs)) (λ q. left-lines xs)

  pub left-fewer : (xs : List A) → Fewer (left_of line f xs) xs
  unfolding left_of keep_if
  left-fewer [] = empty
  left-fewer (x ∷ xs) = by-test (λ t. Fewer (keep_if t x (left_of line f xs)) (x ∷ xs)) (stays f (map line xs) (line x)) (λ q. kept (left-fewer xs)) (λ q. gone (left-fewer xs))

-- ---- one that comes at its place, and those of which a test holds

module _ {A : Type 0} (lt : A → A → Bool) (p : A → Bool) (x : A) where
  those-in : ((a b c : A) → lt a b ≡ true → lt b c ≡ true → lt a c ≡ true) → p x ≡ true → (v : List A) → ordered lt v ≡ true → those p (insert_by lt x v) ≡ insert_by lt x (those p v)
  unfolding those keep_if insert_by put_in all_after
  those-in trans h [] o = rw h
  those-in trans h (y ∷ ys) o = go (lt x y) refl (those-in trans h ys (ordered-rest lt y ys o))
    where
      go : (b : Bool) → lt x y ≡ b → those p (insert_by lt x ys) ≡ insert_by lt x (those p ys) → those p (put_in b x y ys (insert_by lt x ys)) ≡ insert_by lt x (keep_if (p y) y (those p ys))
      go true q ih = rw h (sym (insert-first lt x (those p (y ∷ ys)) (after_fewer lt x (those-fewer p (y ∷ ys)) (and_both (lt x y) _ q (after-down lt trans x y ys q (ordered-first lt y ys o))))))
      go false q ih =
          by-test (λ t. keep_if t y (those p (insert_by lt x ys)) ≡ insert_by lt x (keep_if t y (those p ys))) (p y) (λ r. rw q (ap (λ (l : List A). y ∷ l) ih)) (λ r. ih)

  those-out : p x ≡ false → (v : List A) → those p (insert_by lt x v) ≡ those p v
  unfolding those keep_if insert_by put_in
  those-out h [] = rw h
  those-out h (y ∷ ys) = go (lt x y) (those-out h ys)
    where
      go : (b : Bool) → those p (insert_by lt x ys) ≡ those p ys → those p (put_in b x y ys (insert_by lt x ys)) ≡ keep_if (p y) y (those p ys)
      go true ih = rw h
      go false ih = ap (keep_if (p y) y) ih

-- ---- the row of a line

module _ (e : KeyLine) (r : Row) where
  -- no other line points to it
  pointed-no : (es : List KeyLine) → none_like like_line e es ≡ true → pointed_to es (record { key = e.key; start = start_of e.line; row = r }) ≡ false
  unfolding none_like pointed_to
  pointed-no [] n = refl
  pointed-no (x ∷ es) n = rw (not-true (like_line e x) (and_left _ _ n)) (pointed-no es (and_right (not (like_line e x)) _ n))

  -- and its line points to no other
  those-without : (fs : List KeyLine) (ds : List Default) → row_of e.key (start_of e.line) ds ≡ none → those (λ (c : Default). not (pointed_to (e ∷ fs) c)) ds ≡ those (λ (c : Default). not (pointed_to fs c)) ds
  unfolding those pointed_to row_of add_row
  those-without fs [] n = refl
  those-without fs (c ∷ ds) n = go (at_pair e.key (start_of e.line) c) refl n (those-without fs ds)
    where
      other : at_pair e.key (start_of e.line) c ≡ false → line_is c.key c.start e ≡ false
      other q = pair-sym (record { key = c.key; line = Finished (record_for c.start 0 Put) }) e ∙ q

      go : (t : Bool) → at_pair e.key (start_of e.line) c ≡ t → add_row t c.row (row_of e.key (start_of e.line) ds) ≡ none
          → (row_of e.key (start_of e.line) ds ≡ none → those (λ (c : Default). not (pointed_to (e ∷ fs) c)) ds ≡ those (λ (c : Default). not (pointed_to fs c)) ds)
          → keep_if (not (points_to c e || pointed_to fs c)) c (those (λ (c : Default). not (pointed_to (e ∷ fs) c)) ds) ≡ keep_if (not (pointed_to fs c)) c (those (λ (c : Default). not (pointed_to fs c)) ds)
      go true q n ih = absurd (true≢false (cc))
      go false q n ih = rw (other q) (ap (keep_if (not (pointed_to fs c)) c) (ih n))

  -- of a Put it points to its own; no other kind points to any
  points-own : kind_in e.line ≡ Put → points_to (record { key = e.key; start = start_of e.line; row = r }) e ≡ true
  points-own q = rw (eq_bytes-refl e.key, eq-eqb (start_of e.line) (start_of e.line) refl, q)

  points_none : eq_kind (kind_in e.line) Put ≡ false → (fs : List KeyLine) (c : Default) → not (pointed_to fs c) ≡ not (pointed_to (e ∷ fs) c)
  unfolding pointed_to
  points_none q fs c = rw (and-false-right (line_is c.key c.start e) (eq_kind (kind_in e.line) Put) q)

-- ---- "drop the rest with their rows"

module _ {A : Type 0} (line : A → KeyLine) (row : A → Row) (f : ℕ) where
  abbrev rows : List A → List (Option Default)
  rows xs = map (λ (x : A). carries (line x) (row x)) xs

  -- one line more
  row_one : (x : A) (xs : List A) → no_second like_line (line x ∷ map line xs) ≡ true → stored (rows (left_of line f xs)) ≡ those (row_stays f (map line xs)) (stored (rows xs))
      → stored (rows (left_of line f (x ∷ xs))) ≡ those (row_stays f (line x ∷ map line xs)) (stored (rows (x ∷ xs)))
  unfolding left_of stored add_if no_second keep_if dropped_lines pointed_to
  row_one x xs o ih =
      by-test (λ t. stored (rows (keep_if t x (left_of line f xs))) ≡ those (λ (c : Default). not (pointed_to (keep_if (not t) e (dropped_lines f es)) c)) (add_if (carries e r) ds)) (stays f es e)
      (λ q. ap (add_if (carries e r)) ih ∙ comes (kind_in e.line)) (λ q. ih ∙ goes (kind_in e.line) refl)
    where
      e : KeyLine
      e = line x

      r : Row
      r = row x

      es : List KeyLine
      es = map line xs

      ds : List Default
      ds = stored (rows xs)

      own : Default
      own = record { key = e.key; start = start_of e.line; row = r }

      none_dropped : none_like like_line e (dropped_lines f es) ≡ true
      none_dropped = and_left _ _ (once-fewer like_line pair-sym (kept {x = e} (dropped-fewer f es)) o)

      comes : (k : Kind) → add_if (if_put k own) (those (row_stays f es) ds) ≡ those (row_stays f es) (add_if (if_put k own) ds)
      comes Put =
          sym (those-in row_before (row_stays f es) own row_before-trans (ap not (pointed-no e r (dropped_lines f es) none_dropped)) ds (stored-order line row xs (and_right (none_like like_line e es) _ o)))
      comes Delete = refl
      comes Rollback = refl

      goes : (k : Kind) → kind_in e.line ≡ k → those (row_stays f es) ds ≡ those (λ (c : Default). not (pointed_to (e ∷ dropped_lines f es) c)) (add_if (if_put k own) ds)
      goes Put q = sym (those-out row_before (λ (c : Default). not (pointed_to (e ∷ dropped_lines f es) c)) own (rw (points-own e r q)) ds ∙ those-without e r (dropped_lines f es) ds (row-none line row e xs (and_left _ _ o)))
      goes Delete q = those-ext (row_stays f es) (λ (c : Default). not (pointed_to (e ∷ dropped_lines f es) c)) (points_none e r (ap (λ (k : Kind). eq_kind k Put) q) (dropped_lines f es)) ds
      goes Rollback q = those-ext (row_stays f es) (λ (c : Default). not (pointed_to (e ∷ dropped_lines f es) c)) (points_none e r (ap (λ (k : Kind). eq_kind k Put) q) (dropped_lines f es)) ds

  pub left-rows : (xs : List A) → no_second like_line (map line xs) ≡ true
      → stored (map (λ (x : A). carries (line x) (row x)) (left_of line f xs)) ≡ those (row_stays f (map line xs)) (stored (map (λ (x : A). carries (line x) (row x)) xs))
  unfolding left_of stored no_second those
  left-rows [] o = refl
  left-rows (x ∷ xs) o = row_one x xs o (left-rows xs (and_right (none_like like_line (line x) (map line xs)) _ o))

-- ---- the tallies

-- the box of some lines, and what one of them has in its tallies
abbrev pub box_from : {A : Type 0} → (A → KeyLine) → (A → Row) → List A → Box
box_from line row xs = record { lines = map line xs; defaults = stored (map (λ x. carries (line x) (row x)) xs) }

abbrev pub load_in : {A : Type 0} → (A → KeyLine) → (A → Row) → A → Load
load_in line row x = plus (line_load (line x)) (of_row (line x).key (row_if (kind_in (line x).line) (row x)))

abbrev pub freed_if : Bool → Load → Load → Load
freed_if true a l = a
freed_if false a l = plus a l

-- what those that go have in them
unfoldable pub freed_of : {A : Type 0} → (A → KeyLine) → (A → Load) → ℕ → List A → Load
freed_of line load f [] = no_load
freed_of line load f (x ∷ xs) = freed_if (stays f (map line xs) (line x)) (freed_of line load f xs) (load x)

come : (k : Kind) (d : Default) (ds : List Default) → defaults_load (add_if (if_put k d) ds) ≡ plus (of_row d.key (row_if k d.row)) (defaults_load ds)
unfolding add_if of_row
come Put d ds = defaults-insert d ds
come Delete d ds = sym (none-plus (defaults_load ds))
come Rollback d ds = sym (none-plus (defaults_load ds))

module _ {A : Type 0} (line : A → KeyLine) (row : A → Row) where
  load-more : (x : A) (xs : List A) → load_of (box_from line row (x ∷ xs)) ≡ plus (load_in line row x) (load_of (box_from line row xs))
  unfolding stored sum_of
  load-more x xs =
      let es : List KeyLine = map line xs in
      let ds : List Default = stored (map (λ (x : A). carries (line x) (row x)) xs) in
      let p = load_fields (load-parts (line x ∷ es) (add_if (carries (line x) (row x)) ds)) in
      let q = load_fields (load-parts es ds) in
      let c = load_fields (come (kind_in (line x).line) (record { key = (line x).key; start = start_of (line x).line; row = row x }) ds) in
      load-eq _ _ (omega arith)

  pub load-left : (f : ℕ) (xs : List A) → plus (freed_of line (load_in line row) f xs) (load_of (box_from line row (left_of line f xs))) ≡ load_of (box_from line row xs)
  unfolding left_of keep_if freed_of
  load-left f [] = none-plus _
  load-left f (x ∷ xs) =
      let i = load_fields (load-left f xs) in
      let m = load_fields (load-more x xs) in
      let l = load_fields (load-more x (left_of line f xs)) in
      by-test (λ t. plus (freed_if t (freed_of line (load_in line row) f xs) (load_in line row x)) (load_of (box_from line row (keep_if t x (left_of line f xs)))) ≡ load_of (box_from line row (x ∷ xs))) (stays f (map line xs) (line x))
      (λ q. load-eq _ _ (omega arith)) (λ q. load-eq _ _ (omega arith))

  -- of the last of them it is no more than of all
  pub load-drop : (i : ℕ) (xs : List A) → AtMost (load_of (box_from line row (drop i xs))) (load_of (box_from line row xs))
  load-drop zero xs = at-most-refl _
  load-drop (suc i) [] = at-most-refl _
  load-drop (suc i) (x ∷ xs) = let q = load_fields (load-more x xs) in let m = load-drop i xs in omega arith
