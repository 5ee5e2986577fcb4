-- One entry of an image: `of_table` by the tests that a program makes of it.
-- Assumes nothing.
use Prim.Native.Nat.{ℕ}
use native.Mathlib.Omega.{arith}
use mathlib.Core.Path.{◌≡◌, sym, ◌∙◌, ap}
use mathlib.Core.Bool.{true, ◌&&◌}
use lib.Dec.{eqb}
use Rattle.std.specs.Prelude.{Option, Some, None}
use Rattle.std.specs.Option.{option_eq}
use Rattle.forms.specs.Key.{Key, table_of, key_form}
use Rattle.forms.specs.Places.{NumberAt}
use Rattle.forms.proofs.KeyFormLaws.{key-bounds}
use Rattle.forms.proofs.NumberLaws.{number-value, number_short}
use Rattle.rules.specs.Restore.{of_table}

-- "key of this table": a key in form has a table number
pub table_is : (t : ℕ) (k : Key) (o : Option ℕ) → NumberAt 4 k 0 o → key_form k ≡ true → option_eq eqb o (Some t) ≡ of_table t k
unfolding table_of
table_is t k None v f = absurd (omega (arith, number_short 4 k 0 v, (key-bounds k f).length_is))
table_is t k (Some n) v f = ap (λ (m : ℕ). eqb m t) (number-value v) ∙ sym (ap (λ b. b && eqb (table_of k) t) f)
