-- An image's places in order are its entries in order: sorted by what stands at them they are the lists of its box, and they ascend where no
-- entry has a second of its like.
-- Assumes nothing.
use Prim.Native.Nat.{ℕ}
use mathlib.Core.Path.{◌≡◌, refl, sym, ◌∙◌, ap, ap₂}
use mathlib.Core.Bool.{Bool, not, ◌&&◌, and-true, and-false, and_assoc}
use mathlib.Core.List.{List, [], ◌∷◌, ◌++◌, map, map-map, map-append}
use borrow.Author.Tests.{le-ltb, lt-ltb}
use Rattle.seqs.specs.Tables.{All}
use Rattle.seqs.proofs.Alls.{all_append, all-weaken, map_same}
use Rattle.forms.specs.Bytes.{Bytes, cmp, eq_bytes}
use Rattle.forms.specs.Row.{Row}
use Rattle.rules.specs.Box as box
use Rattle.rules.specs.Box.{Line, Standing, Finished, KeyLine, by_order, line_before, before, row_before, insert_by, ordered}
use Rattle.rules.specs.Page.{KeyLock}
use Rattle.rules.specs.Image.{KeyRecord}
use Rattle.rules.specs.Restore.{none_like, no_second, like_default, like_lock, like_write, lock_line, write_line, like_line, place_defaults, place_locks, place_writes}
use Rattle.laws.proofs.BoxOrder.{same_place, before-trans, before-else, before-apart, before-apart', row_before-trans, row_before-else, row_before-apart, row_before-apart'}
use Rattle.images.specs.Entries.{Raw, raw_at}
use Rattle.images.specs.declared.entries.Section.TheVariants.{Default, Lock, Write}
use Rattle.images.specs.Good.{default_of, key_lock_of, key_record_of}
use Rattle.images.specs.Sections.{Stands, row_at, line_if, line_at}
use Rattle.orders.specs.Marks.{before_at}
use Rattle.orders.specs.Sorts.{sorted}
use Rattle.orders.specs.declared.marks.By.TheVariants.{Rows, Pairs, Lines}
use Rattle.pairs.specs.Puts.{line_pair}
use Rattle.pairs.proofs.SortedLaws.{Likes, sorted-map, map-once}
use Rattle.pairs.proofs.MarkPlaces.{rank, Marked, mark-default, mark-lock, mark-write, mark-pair}

-- ---- defaults

pub rows-sorted : (xs : List box.Default) → sorted row_before xs ≡ place_defaults xs
unfolding sorted place_defaults
rows-sorted [] = refl
rows-sorted (x ∷ xs) = ap (insert_by row_before x) (rows-sorted xs)

pub likes-rows : Likes row_before like_default
likes-rows = record { trans = row_before-trans; other = row_before-else; apart = row_before-apart; apart' = row_before-apart' }

module _ (form : Row → Bool) (t : ℕ) (s : Bytes) (a b : ℕ) (ds : List ℕ) (h : All (Stands form Default t s a b) ds) where
  row_same : (p q : ℕ) → Stands form Default t s a b p → Stands form Default t s a b q → before_at Rows s p q ≡ row_before (row_at s p) (row_at s q)
  unfolding before row_before
  row_same p q u v = ap₂ before (mark-default u) (mark-default v)

  abbrev rows : List box.Default
  rows = map default_of (map (raw_at Default s) ds)

  rows_are : map (row_at s) ds ≡ rows
  rows_are = sym (map-map default_of (raw_at Default s) ds)

  pub rows-in-order : map (row_at s) (sorted (before_at Rows s) ds) ≡ sorted row_before rows
  rows-in-order = sorted-map (before_at Rows s) row_before (row_at s) (Stands form Default t s a b) row_same ds h ∙ ap (sorted row_before) rows_are

  pub rows-placed : map (row_at s) (sorted (before_at Rows s) ds) ≡ place_defaults rows
  rows-placed = rows-in-order ∙ rows-sorted rows

  pub rows-once : ordered (before_at Rows s) (sorted (before_at Rows s) ds) ≡ no_second like_default rows
  rows-once = map-once (before_at Rows s) row_before (row_at s) (Stands form Default t s a b) row_same likes-rows ds h ∙ ap (no_second like_default) rows_are

-- ---- locks and writes

pub lines-sorted : (xs : List KeyLock) (ys : List KeyRecord) → sorted before (map lock_line xs ++ map write_line ys) ≡ place_locks xs (place_writes ys)
unfolding sorted place_locks place_writes
lines-sorted [] [] = refl
lines-sorted [] (y ∷ ys) = ap (insert_by before (write_line y)) (lines-sorted [] ys)
lines-sorted (x ∷ xs) ys = ap (insert_by before (lock_line x)) (lines-sorted xs ys)

-- a lock and a write never share a place
none_alike : (x : KeyLock) (xs : List KeyLock) (ys : List KeyRecord) → none_like same_place (lock_line x) (map lock_line xs ++ map write_line ys) ≡ none_like like_lock x xs
unfolding none_like same_place
none_alike x [] [] = refl
none_alike x [] (y ∷ ys) = ap₂ (λ (a b : Bool). not a && b) (and-false (eq_bytes x.key y.key)) (none_alike x [] ys)
none_alike x (y ∷ ys) zs = ap₂ (λ (a b : Bool). not a && b) (and-true (eq_bytes x.key y.key)) (none_alike x ys zs)

no_write : (y : KeyRecord) (ys : List KeyRecord) → none_like same_place (write_line y) (map write_line ys) ≡ none_like like_write y ys
unfolding none_like same_place
no_write y [] = refl
no_write y (z ∷ zs) = ap (λ (b : Bool). not (like_write y z) && b) (no_write y zs)

each-once : (xs : List KeyLock) (ys : List KeyRecord) → no_second same_place (map lock_line xs ++ map write_line ys) ≡ no_second like_lock xs && no_second like_write ys
unfolding no_second
each-once [] [] = refl
each-once [] (y ∷ ys) = ap₂ ◌&&◌ (no_write y ys) (each-once [] ys)
each-once (x ∷ xs) ys = ap₂ ◌&&◌ (none_alike x xs ys) (each-once xs ys) ∙ sym (and_assoc (none_like like_lock x xs) (no_second like_lock xs) (no_second like_write ys))

likes-lines : Likes before same_place
likes-lines = record { trans = before-trans; other = before-else; apart = before-apart; apart' = before-apart' }

abbrev pub pair_before : KeyLine → KeyLine → Bool
pair_before x y = row_before (line_pair x) (line_pair y)

pub likes-pairs : Likes pair_before like_line
likes-pairs = record {
  trans = λ x y z. row_before-trans (line_pair x) (line_pair y) (line_pair z);
  other = λ x y. row_before-else (line_pair x) (line_pair y);
  apart = λ x y. row_before-apart (line_pair x) (line_pair y);
  apart' = λ x y. row_before-apart' (line_pair x) (line_pair y);
}

module _ (form : Row → Bool) (t : ℕ) (s : Bytes) (a w b : ℕ) (ls ws : List ℕ) (h : All (Stands form Lock t s a w) ls) (g : All (Stands form Write t s w b) ws) where
  abbrev locks : List KeyLock
  locks = map key_lock_of (map (raw_at Lock s) ls)

  abbrev writes : List KeyRecord
  writes = map key_record_of (map (raw_at Write s) ws)

  marked : All (Marked w s) (ls ++ ws)
  marked = all_append (Marked w s) ls ws (all-weaken (Stands form Lock t s a w) (Marked w s) ls (λ p v. mark-lock v) h) (all-weaken (Stands form Write t s w b) (Marked w s) ws (λ p v. mark-write v) g)

  thrice : {A : Type 0} (f : A → KeyLine) (e : Raw → A) (r : ℕ → Raw) (l : List ℕ) → map (λ (p : ℕ). f (e (r p))) l ≡ map f (map e (map r l))
  thrice f e r l = sym (ap (map f) (map-map e r l) ∙ map-map f (λ (p : ℕ). e (r p)) l)

  lines_are : map (line_at s w) (ls ++ ws) ≡ map lock_line locks ++ map write_line writes
  lines_are =
      map-append (line_at s w) ls ws
      ∙ ap₂ ◌++◌
      (map_same (line_at s w) (λ (p : ℕ). lock_line (key_lock_of (raw_at Lock s p))) (Stands form Lock t s a w) (λ p v. ap (λ (b : Bool). line_if b s p) (lt-ltb p w v.high)) ls h ∙ thrice lock_line key_lock_of (raw_at Lock s) ls)
      (map_same (line_at s w) (λ (p : ℕ). write_line (key_record_of (raw_at Write s p))) (Stands form Write t s w b) (λ p v. ap (λ (b : Bool). line_if b s p) (le-ltb p w v.low)) ws g ∙ thrice write_line key_record_of (raw_at Write s) ws)

  line_same : (p q : ℕ) → Marked w s p → Marked w s q → before_at (Lines w) s p q ≡ before (line_at s w p) (line_at s w q)
  unfolding before
  line_same p q u v = ap₂ before u v ∙ ap (by_order (cmp (line_at s w p).key (line_at s w q).key)) (go (line_at s w p).line (line_at s w q).line)
    where
      go : (x y : Line) → line_before (rank x) (rank y) ≡ line_before x y
      go (Standing l) (Standing m) = refl
      go (Standing l) (Finished w) = refl
      go (Finished v) (Standing m) = refl
      go (Finished v) (Finished w) = refl

  pair_same : (p q : ℕ) → Marked w s p → Marked w s q → before_at (Pairs w) s p q ≡ pair_before (line_at s w p) (line_at s w q)
  unfolding before row_before
  pair_same p q u v = ap₂ before (mark-pair w s p) (mark-pair w s q)

  pub lines-placed : map (line_at s w) (sorted (before_at (Lines w) s) (ls ++ ws)) ≡ place_locks locks (place_writes writes)
  lines-placed = sorted-map (before_at (Lines w) s) before (line_at s w) (Marked w s) line_same (ls ++ ws) marked ∙ ap (sorted before) lines_are ∙ lines-sorted locks writes

  pub lines_once : ordered (before_at (Lines w) s) (sorted (before_at (Lines w) s) (ls ++ ws)) ≡ no_second like_lock locks && no_second like_write writes
  lines_once = map-once (before_at (Lines w) s) before (line_at s w) (Marked w s) line_same likes-lines (ls ++ ws) marked ∙ ap (no_second same_place) lines_are ∙ each-once locks writes

  pub pairs-in-order : map (line_at s w) (sorted (before_at (Pairs w) s) (ls ++ ws)) ≡ sorted pair_before (map lock_line locks ++ map write_line writes)
  pairs-in-order = sorted-map (before_at (Pairs w) s) pair_before (line_at s w) (Marked w s) pair_same (ls ++ ws) marked ∙ ap (sorted pair_before) lines_are

  pub pairs-once : ordered (before_at (Pairs w) s) (sorted (before_at (Pairs w) s) (ls ++ ws)) ≡ no_second like_line (map lock_line locks ++ map write_line writes)
  pairs-once = map-once (before_at (Pairs w) s) pair_before (line_at s w) (Marked w s) pair_same likes-pairs (ls ++ ws) marked ∙ ap (no_second like_line) lines_are
