-- A walk down a table, from its last element that counts to its first: after each step the state is the fold of what has been passed.
-- Assumes nothing.
use Prim.Native.Nat.{ℕ, suc, ◌-◌, ◌≤◌, ◌<◌}
use native.Mathlib.Omega.{arith}
use mathlib.Core.Path.{◌≡◌, sym, ap, ◌∙◌}
use mathlib.Core.List.{List, [], ◌∷◌}
use lib.ListN.{get_or, drop}
use Rattle.seqs.specs.Tables.{Table, shown}
use Rattle.seqs.proofs.Tables.{shown-drop, shown-past}

-- of the n elements of v those from i on have been passed
pub record Down {B S : Type 0} (fold : List B → S) (v : List B) (n i : ℕ) (s : S) : Type 0 where
  pub low : i ≤ n
  pub is : s ≡ fold (drop i v)

module _ {A B S : Type 0} {P : A → Type 0} {empty : A} {size n : ℕ} {l : List A} (t : Table P empty size n l) (f : A → B) (fold : List B → S) where
  pub down-start : {s : S} → s ≡ fold [] → Down fold (shown f n l) n n s
  down-start e = record { low = omega arith; is = e ∙ sym (ap fold (shown-past t f n (omega arith))) }

  pub down-more : (step : B → S → S) → ((x : B) (xs : List B) → fold (x ∷ xs) ≡ step x (fold xs)) → {i : ℕ} {s r : S} → Down fold (shown f n l) n i s → 0 < i
      → r ≡ step (f (get_or l (i - 1) empty)) s → Down fold (shown f n l) n (i - 1) r
  down-more step cons {i} {s} {r} v h e =
      let next : suc (i - 1) ≡ i = omega arith in
      record {
        low = omega (arith, v.low);
        is =
            e ∙ ap (step (f (get_or l (i - 1) empty))) (v.is ∙ ap (λ (m : ℕ). fold (drop m (shown f n l))) (sym next))
            ∙ sym (ap fold (shown-drop t f (i - 1) (omega (arith, v.low))) ∙ cons (f (get_or l (i - 1) empty)) (drop (suc (i - 1)) (shown f n l)));
      }

pub down-end : {B S : Type 0} {fold : List B → S} {v : List B} {n i : ℕ} {s : S} → Down fold v n i s → i ≤ 0 → s ≡ fold v
down-end {fold = fold} {v = v} {i = i} w h = let e : i ≡ 0 = omega arith in w.is ∙ ap (λ (m : ℕ). fold (drop m v)) e
