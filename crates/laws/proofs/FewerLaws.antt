-- A box of which some entries have gone, whichever: it keeps the order, the limits and whatever holds of every entry. A table's part is such a
-- box, and so is what a collection leaves. Assumes nothing.
use Prim.Native.Nat.{ℕ, ◌+◌, ◌≤◌}
use native.Mathlib.Omega.{arith}
use mathlib.Core.Path.{◌≡◌, refl, ap}
use mathlib.Core.Logic.{inl, inr}
use mathlib.Core.Bool.{true}
use mathlib.Core.List.{List, ◌∷◌}
use lib.ListN.{length}
use Rattle.seqs.specs.Tables.{All}
use Rattle.rules.specs.Box.{Box, KeyLine, Default, in_order}
use Rattle.rules.specs.Room.{sum_of, one_lock, line_bytes, load_of, room_for}
use Rattle.rules.specs.Capture.{Words}
use Rattle.laws.proofs.Sorted.{In, Fewer, empty, gone, kept, ordered-fewer}
use Rattle.laws.proofs.LoadLaws.{AtMost, fits-less}
use Rattle.laws.proofs.BoxOrder.{order-lines, order-defaults, in_order_lem}

pub fewer-sum : {A : Type 0} (f : A → ℕ) {ys xs : List A} → Fewer ys xs → sum_of f ys ≤ sum_of f xs
unfolding sum_of
fewer-sum f empty = omega arith
fewer-sum f (gone q) = omega (arith, fewer-sum f q)
fewer-sum f (kept q) = omega (arith, fewer-sum f q)

pub fewer-length : {A : Type 0} {ys xs : List A} → Fewer ys xs → length ys ≤ length xs
fewer-length empty = omega arith
fewer-length (gone q) = omega (arith, fewer-length q)
fewer-length (kept q) = omega (arith, fewer-length q)

-- where there are as many as before, none has gone
pub fewer-same : {A : Type 0} {ys xs : List A} → Fewer ys xs → length ys ≡ length xs → ys ≡ xs
fewer-same empty e = refl
fewer-same (gone q) e = absurd (omega (arith, fewer-length q))
fewer-same {A} (kept {x = x} q) e = ap (λ (l : List A). x ∷ l) (fewer-same q (omega arith))

pub fewer-each : {A : Type 0} (P : A → Type 0) {ys xs : List A} → Fewer ys xs → All P xs → All P ys
unfolding All
fewer-each P empty a = tt
fewer-each P (gone q) a = fewer-each P q a.1
fewer-each P (kept q) a = (a.0, fewer-each P q a.1)

pub fewer-in : {A : Type 0} (z : A) {ys xs : List A} → Fewer ys xs → In z ys → In z xs
fewer-in z empty m = m
fewer-in z (gone q) m = inr (fewer-in z q m)
fewer-in z (kept q) (inl e) = inl e
fewer-in z (kept q) (inr m) = inr (fewer-in z q m)

-- ---- the box

pub record FewerBox (c b : Box) : Type 0 where
  pub lines : Fewer c.lines b.lines
  pub defaults : Fewer c.defaults b.defaults

module _ {c b : Box} (v : FewerBox c b) where
  pub fewer-order : in_order b ≡ true → in_order c ≡ true
  fewer-order o = in_order_lem _ _ (ordered-fewer _ v.lines (order-lines b o)) (ordered-fewer _ v.defaults (order-defaults b o))

  pub fewer-words : Words b → Words c
  fewer-words w = record { lines = fewer-each _ v.lines w.lines; defaults = fewer-each _ v.defaults w.defaults }

  -- its load has only fallen
  pub fewer-load : AtMost (load_of c) (load_of b)
  unfolding load_of
  fewer-load = record {
    lines = fewer-length v.lines;
    locks = fewer-sum (λ (e : KeyLine). one_lock e.line) v.lines;
    defaults = fewer-length v.defaults;
    bytes = omega (arith, fewer-sum (λ (e : KeyLine). line_bytes e.key e.line) v.lines, fewer-sum (λ (d : Default). length d.key + length d.row) v.defaults);
  }

  pub fewer-room : room_for b ≡ true → room_for c ≡ true
  unfolding room_for
  fewer-room r = fits-less (load_of c) (load_of b) fewer-load r
