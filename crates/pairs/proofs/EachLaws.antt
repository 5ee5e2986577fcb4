-- A test of each place of a list is the test of all that stands there.
-- Assumes nothing.
use Prim.Native.Nat.{ℕ}
use mathlib.Core.Path.{◌≡◌, refl, ap}
use mathlib.Core.Bool.{Bool, ◌&&◌}
use mathlib.Core.List.{List, [], ◌∷◌, map}
use Rattle.std.specs.List.{list_all}
use Rattle.rules.specs.Restore.{all_good}

pub all-each : {A : Type 0} (p : A → Bool) (f : ℕ → A) (l : List ℕ) → list_all (λ x. p (f x)) l ≡ all_good p (map f l)
unfolding all_good
all-each p f [] = refl
all-each p f (x ∷ l) = ap (λ (b : Bool). p (f x) && b) (all-each p f l)
