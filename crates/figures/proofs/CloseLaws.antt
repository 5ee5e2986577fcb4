-- A run ends: the class that it falls in, and the figures after it.
-- Assumes nothing.
use Prim.Native.Nat.{ℕ, zero, suc, ◌+◌, ◌≤◌, max}
use native.Mathlib.Omega.{arith}
use native.Mathlib.Numerals.{add-one}
use mathlib.Core.Path.{◌≡◌, refl, sym, ap}
use mathlib.Core.Bool.{Bool, true, false, ◌&&◌, not}
use lib.Dec.{leb, ltb, eqb}
use mir.Val.{bool_byte}
use Rattle.std.proofs.lemmas.Bool.Decides.{nat_tests}
use Rattle.rules.specs.declared.figures.Figures.{Figures}
use Rattle.rules.specs.Figures.{suc_if}
use Rattle.figures.specs.Walks.{one_chain, ended}

-- ---- the classes: one more, where the run is of the class

counted : (b : Bool) (n : ℕ) → n + bool_byte b ≡ suc_if b n
unfolding suc_if
counted true n = add-one n
counted false n = omega arith

single : (n : ℕ) → eqb n 1 ≡ leb 1 n && leb n 1
single n = grind (arith, nat_tests)

over : (n : ℕ) → ltb 16 n ≡ not (leb n 16)
over n = grind (arith, nat_tests)

-- ---- a run ends

pub end_none : (n : ℕ) (f : Figures) → n ≡ 0 → f ≡ ended n f
unfolding ended
end_none zero f h = refl
end_none (suc n) f h = absurd (omega arith)

pub end-parts : (n : ℕ) (f : Figures) {o u s a l : ℕ} → (n ≡ 0 → ⊥) → o ≡ bool_byte (eqb n 1) → u ≡ bool_byte (leb 2 n && leb n 4) → s ≡ bool_byte (leb 5 n && leb n 16) → a ≡ bool_byte (ltb 16 n)
    → l ≡ max n f.longest → record { keys = f.keys + 1; all = n + f.all; one = f.one + o; four = f.four + u; sixteen = f.sixteen + s; above = f.above + a; longest = l } ≡ ended n f
unfolding one_chain ended
end-parts zero f h p q r t w = absurd (h refl)
end-parts (suc n) f h p q r t w =
    rw (p, q, r, t, w, add-one, single (suc n), over (suc n), counted (leb 1 (suc n) && leb (suc n) 1) f.one, counted (leb 2 (suc n) && leb (suc n) 4) f.four, counted (leb 5 (suc n) && leb (suc n) 16) f.sixteen, counted (not (leb (suc n) 16)) f.above)

-- one of them is one more, the others are as they were
module _ (n : ℕ) (f : Figures) {l : ℕ} (w : l ≡ max n f.longest) where
  chain_of : {a b c d : Bool} {x y z v : ℕ} → (n ≡ 0 → ⊥) → eqb n 1 ≡ a → leb 2 n && leb n 4 ≡ b → leb 5 n && leb n 16 ≡ c → ltb 16 n ≡ d → x ≡ f.one + bool_byte a → y ≡ f.four + bool_byte b → z ≡ f.sixteen + bool_byte c
      → v ≡ f.above + bool_byte d → record { keys = f.keys + 1; all = n + f.all; one = x; four = y; sixteen = z; above = v; longest = l } ≡ ended n f
  chain_of h p q r t i j k m = rw (i, j, k, m) (end-parts n f h (ap bool_byte (sym p)) (ap bool_byte (sym q)) (ap bool_byte (sym r)) (ap bool_byte (sym t)) w)

  pub chain_one : n ≡ 1 → record { keys = f.keys + 1; all = n + f.all; one = f.one + 1; four = f.four; sixteen = f.sixteen; above = f.above; longest = l } ≡ ended n f
  chain_one h = chain_of {a = true} {b = false} {c = false} {d = false} (omega arith) (grind (arith, nat_tests)) (grind (arith, nat_tests)) (grind (arith, nat_tests)) (grind (arith, nat_tests)) (omega arith) (omega arith) (omega arith) (omega arith)

  pub chain_four : 2 ≤ n → n ≤ 4 → record { keys = f.keys + 1; all = n + f.all; one = f.one; four = f.four + 1; sixteen = f.sixteen; above = f.above; longest = l } ≡ ended n f
  chain_four h g = chain_of {a = false} {b = true} {c = false} {d = false} (omega arith) (grind (arith, nat_tests)) (grind (arith, nat_tests)) (grind (arith, nat_tests)) (grind (arith, nat_tests)) (omega arith) (omega arith) (omega arith) (omega arith)

  pub chain_sixteen : 5 ≤ n → n ≤ 16 → record { keys = f.keys + 1; all = n + f.all; one = f.one; four = f.four; sixteen = f.sixteen + 1; above = f.above; longest = l } ≡ ended n f
  chain_sixteen h g = chain_of {a = false} {b = false} {c = true} {d = false} (omega arith) (grind (arith, nat_tests)) (grind (arith, nat_tests)) (grind (arith, nat_tests)) (grind (arith, nat_tests)) (omega arith) (omega arith) (omega arith) (omega arith)

  pub chain_above : 17 ≤ n → record { keys = f.keys + 1; all = n + f.all; one = f.one; four = f.four; sixteen = f.sixteen; above = f.above + 1; longest = l } ≡ ended n f
  chain_above h = chain_of {a = false} {b = false} {c = false} {d = true} (omega arith) (grind (arith, nat_tests)) (grind (arith, nat_tests)) (grind (arith, nat_tests)) (grind (arith, nat_tests)) (omega arith) (omega arith) (omega arith) (omega arith)
