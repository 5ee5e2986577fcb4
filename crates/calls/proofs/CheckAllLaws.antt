-- The checking pass over the entries of a batch, for every check: what is left to check, one entry more, and each way out; and beside it what
-- the entries that passed add, for every load.
-- Assumes nothing.
use Prim.Native.Nat.{ℕ, ◌+◌, ◌*◌, ◌≤◌}
use native.Mathlib.Omega.{arith}
use native.Mathlib.Nat.{mul-le-mul_right, suc-mul}
use mathlib.Core.Path.{◌≡◌, refl, sym, ap, ◌∙◌}
use mathlib.Core.List.{List, [], ◌∷◌}
use lib.ListN.{length}
use Rattle.rules.specs.Answers.{Answer, Accepted, ◌▸◌}
use Rattle.rules.specs.declared.room.Load.{Load}
use Rattle.rules.specs.Box.{Box}
use Rattle.laws.specs.Adds.{no_load, plus, sum_loads}
use Rattle.laws.proofs.LoadLaws.{load_fields, plus_none, none-plus, plus_assoc}
use Rattle.laws.proofs.BatchLaws.{check_all}
use Rattle.changes.specs.Loads.{Small}
use Rattle.calls.specs.Weights.{AddedBy}
use Rattle.calls.proofs.SettledLaws.{then-refused}

-- ---- the steps that are left

pub record Walking {A : Type 0} (check : Box → A → Answer) (b : Box) (all rest : List A) : Type 0 where
  pub steps : check_all check b all ≡ check_all check b rest

pub walking_start : {A : Type 0} (check : Box → A → Answer) (b : Box) (all : List A) → Walking check b all all
walking_start check b all = record { steps = refl }

module _ {A : Type 0} {check : Box → A → Answer} {b : Box} {all : List A} where
  module _ {x : A} {rest : List A} (v : Walking check b all (x ∷ rest)) {a : Answer} (e : a ≡ check b x) where
    next : check_all check b all ≡ a ▸ check_all check b rest
    unfolding check_all
    next = v.steps ∙ ap (λ (y : Answer). y ▸ check_all check b rest) (sym e)

    pub walking-more : a ≡ Accepted → Walking check b all rest
    unfolding ◌▸◌
    walking-more h = record { steps = next ∙ ap (λ (y : Answer). y ▸ check_all check b rest) h }

    -- the first refusal is the answer
    pub walking-out : (a ≡ Accepted → ⊥) → a ≡ check_all check b all
    walking-out n = then-refused a _ n ∙ sym next

  pub walking-end : Walking check b all [] → Accepted ≡ check_all check b all
  unfolding check_all
  walking-end v = sym v.steps

pub added_small : {cap : ℕ} {y : Load} → cap ≤ 65887 → AddedBy 1 cap y → Small y
added_small low a = omega (arith, a.bytes)

-- ---- a sum of loads: what is left of it, and that it stays small

pub record Summing {A : Type 0} (f : A → Load) (cap : ℕ) (all rest : List A) (sum : Load) : Type 0 where
  pub is : sum_loads f all ≡ plus sum (sum_loads f rest)
  pub lines : sum.lines + length rest ≤ 32
  pub locks : sum.locks + length rest ≤ 32
  pub defaults : sum.defaults + length rest ≤ 32
  pub bytes : sum.bytes + length rest * cap ≤ 32 * cap

pub summing_start : {A : Type 0} (f : A → Load) (cap : ℕ) (all : List A) → length all ≤ 32 → {z : Load} → z ≡ no_load → Summing f cap all all z
summing_start f cap all count_fits e =
    let z = load_fields e in
    record {
      is = sym (none-plus _) ∙ ap (λ (l : Load). plus l (sum_loads f all)) (sym e);
      lines = omega arith;
      locks = omega arith;
      defaults = omega arith;
      bytes = omega (arith, mul-le-mul_right cap count_fits);
    }

module _ {A : Type 0} {f : A → Load} {cap : ℕ} {all : List A} where
  pub summing-more : {x : A} {rest : List A} {sum : Load} → Summing f cap all (x ∷ rest) sum → {y t : Load} → y ≡ f x → AddedBy 1 cap y → t ≡ plus sum y → Summing f cap all rest t
  unfolding sum_loads
  summing-more {x} {rest} {sum} v {y} {t} e small g =
      let z = load_fields g in
      record {
        is =
            v.is ∙ sym (plus_assoc sum (f x) (sum_loads f rest)) ∙ ap (λ (l : Load). plus (plus sum l) (sum_loads f rest)) (sym e)
            ∙ ap (λ (l : Load). plus l (sum_loads f rest)) (sym g);
        lines = omega arith;
        locks = omega arith;
        defaults = omega arith;
        bytes = omega (arith, v.bytes, suc-mul (length rest) cap);
      }

  pub summing-small : {rest : List A} {sum : Load} → Summing f cap all rest sum → cap ≤ 65887 → Small sum
  summing-small v low = omega (arith, v.bytes)

  pub summing-few : {rest : List A} {sum : Load} → Summing f cap all rest sum → AddedBy 32 cap sum
  summing-few v = omega (arith, v.bytes)

  pub summing-end : {sum : Load} → Summing f cap all [] sum → sum ≡ sum_loads f all
  unfolding sum_loads
  summing-end {sum} v = sym (v.is ∙ plus_none sum)
