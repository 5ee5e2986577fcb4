-- A batch in two passes: every entry is checked on the box before the call, and then each is applied in its turn. Said once, over a check that
-- depends only on what stands at the entry's key, and an apply that changes nothing at another key: what was allowed on the box before the call
-- is allowed in its turn, and what one entry keeps the whole batch keeps. Assumes nothing.
use Prim.Native.Nat.{ℕ}
use mathlib.Core.Path.{◌≡◌, refl, ◌∙◌}
use mathlib.Core.Bool.{true, false}
use mathlib.Core.List.{List, [], ◌∷◌}
use Rattle.forms.specs.Key.{Key}
use Rattle.forms.specs.Bytes.{eq_bytes}
use Rattle.forms.specs.Batch.{ascend}
use Rattle.forms.proofs.Orders.{eq_bytes-sym}
use Rattle.rules.specs.Answers.{Answer, Accepted, ◌▸◌}
use Rattle.rules.specs.Box.{Box}
use Rattle.laws.proofs.StepLaws.{then-left, then-right}
use Rattle.laws.proofs.FrameLaws.{Same, same_refl, same-trans, Apart, ascend-apart, ascend-rest}

-- every entry on the box before the call
unfoldable pub check_all : {A : Type 0} → (Box → A → Answer) → Box → List A → Answer
check_all check b [] = Accepted
check_all check b (x ∷ xs) = check b x ▸ check_all check b xs

-- where nothing is asked, all pass
pub check_all-free : {A : Type 0} (xs : List A) (b : Box) → check_all (λ (b : Box) (x : A). Accepted) b xs ≡ Accepted
unfolding check_all ◌▸◌
check_all-free [] b = refl
check_all-free (x ∷ xs) b = check_all-free xs b

-- each entry in its turn
unfoldable pub apply_all : {A : Type 0} → (A → Box → Box) → List A → Box → Box
apply_all apply [] b = b
apply_all apply (x ∷ xs) b = apply_all apply xs (apply x b)

-- the entries that were applied, the last one first
unfoldable pub onto : {A : Type 0} → List A → List A → List A
onto [] done = done
onto (x ∷ xs) done = onto xs (x ∷ done)

-- a check depends only on what stands at the entry's key
abbrev pub Depends : {A : Type 0} → (A → Key) → ℕ → (Box → A → Answer) → Type 0
Depends {A = A} key s check = (b c : Box) (x : A) → Same b c (key x) s → check c x ≡ check b x

-- an apply changes nothing at another key
abbrev pub Only : {A : Type 0} → (A → Key) → ℕ → (A → Box → Box) → Type 0
Only {A = A} key s apply = (x : A) (b : Box) (i : Key) → eq_bytes i (key x) ≡ false → Same b (apply x b) i s

module _ {A : Type 0} (key : A → Key) (s : ℕ) (check : Box → A → Answer) (depends : Depends key s check) where
  pub check_all-same : (k : Key) (xs : List A) (b c : Box) → Apart key k xs → ((i : Key) → eq_bytes i k ≡ false → Same b c i s) → check_all check c xs ≡ check_all check b xs
  unfolding check_all
  check_all-same k [] b c f v = refl
  check_all-same k (x ∷ xs) b c f v = rw (depends b c x (v (key x) f.0), check_all-same k xs b c f.1 v)

  module _ (apply : A → Box → Box) (only : Only key s apply) where
    pub still-pass : (x : A) (xs : List A) (b : Box) → ascend key (x ∷ xs) ≡ true → check_all check b (x ∷ xs) ≡ Accepted → check_all check (apply x b) xs ≡ Accepted
    unfolding check_all
    still-pass x xs b a p = check_all-same (key x) xs b (apply x b) (ascend-apart key x xs a) (only x b) ∙ then-right _ _ p

    -- what one entry keeps the batch keeps, with the entries that were applied
    pub batch-log : (P : Box → List A → Type 0) → ((x : A) (b : Box) (done : List A) → check b x ≡ Accepted → P b done → P (apply x b) (x ∷ done))
        → (xs : List A) (b : Box) (done : List A) → ascend key xs ≡ true → check_all check b xs ≡ Accepted → P b done → P (apply_all apply xs b) (onto xs done)
    unfolding check_all apply_all onto
    batch-log P step [] b done a p h = h
    batch-log P step (x ∷ xs) b done a p h =
        batch-log P step xs (apply x b) (x ∷ done) (ascend-rest key x xs a) (still-pass x xs b a p) (step x b done (then-left _ _ p) h)

    pub batch-keeps : (P : Box → Type 0) → ((x : A) (b : Box) → check b x ≡ Accepted → P b → P (apply x b))
        → (xs : List A) (b : Box) → ascend key xs ≡ true → check_all check b xs ≡ Accepted → P b → P (apply_all apply xs b)
    batch-keeps P step xs b a p h = batch-log (λ c done. P c) (λ x c done. step x c) xs b [] a p h

-- a key that is not in the batch keeps what stands there
pub batch-other : {A : Type 0} (key : A → Key) (s : ℕ) (apply : A → Box → Box) → Only key s apply → (i : Key) (xs : List A) (b : Box) → Apart key i xs → Same b (apply_all apply xs b) i s
unfolding apply_all
batch-other key s apply only i [] b f = same_refl b i s
batch-other key s apply only i (x ∷ xs) b f =
    same-trans b (apply x b) (apply_all apply xs (apply x b)) i s (only x b i (eq_bytes-sym i (key x) ∙ f.0)) (batch-other key s apply only i xs (apply x b) f.1)
