-- The loop that closes a table up: the elements that stay come to its front one after the other, and the places that they leave are empty.
-- `left i` are those of the elements from i on that stay. On any list.
-- Assumes nothing.
use Prim.Native.Nat.{ℕ, zero, suc, ◌+◌, ◌-◌, ◌≤◌, ◌<◌}
use native.Mathlib.Omega.{arith}
use native.Mathlib.Numerals.{add-one}
use mathlib.Core.Path.{◌≡◌, refl, sym, ap, ◌∙◌}
use mathlib.Core.List.{List, [], ◌∷◌, ◌++◌, append-nil}
use lib.ListN.{length, get_or, take, drop, set, replicate, length-set, length-replicate, replicate-append-replicate}
use lib.Seq.{drop-cons, append_snoc, drop-drop, drop-set-add, drop-set-lt, take-set-le, take-suc-set, set_at, get_or_at, get_or-drop, length-take-le}
use Rattle.seqs.specs.Tables.{All, Table}

module _ {A : Type 0} where
  again : (n : ℕ) (x : A) (l : List A) → replicate n x ++ x ∷ l ≡ replicate (suc n) x ++ l
  again zero x l = refl
  again (suc n) x l = ap (λ (v : List A). x ∷ v) (again n x l)

  -- the first i elements have been looked at, and k of them stay
  pub record Packed (hole : A) (old : List A) (left : ℕ → List A) (i k : ℕ) (cur : List A) : Type 0 where
    pub low : k ≤ i
    pub long : length cur ≡ length old
    pub front : take k cur ++ left i ≡ left 0
    pub rest : drop k cur ≡ replicate (i - k) hole ++ drop i old

  pub pack-start : (hole : A) (old : List A) (left : ℕ → List A) → Packed hole old left 0 0 old
  pack-start hole old left = record { low = omega arith; long = refl; front = refl; rest = refl }

  module _ {hole : A} {old : List A} {left : ℕ → List A} {i k : ℕ} {cur : List A} (w : Packed hole old left i k cur) where
    at_i : k + (i - k) ≡ i
    at_i = omega (arith, w.low)

    next : i < length old → drop k cur ≡ replicate (i - k) hole ++ get_or old i hole ∷ drop (suc i) old
    next h = w.rest ∙ ap (λ (l : List A). replicate (i - k) hole ++ l) (drop-cons old i hole h)

    -- what is read is what stood there
    pub pack-read : i < length old → get_or cur i hole ≡ get_or old i hole
    pack-read h =
        ap (λ (n : ℕ). get_or cur n hole) (sym at_i) ∙ sym (get_or-drop k cur (i - k) hole) ∙ ap (λ (l : List A). get_or l (i - k) hole) (next h)
        ∙ get_or_at (replicate (i - k) hole) (get_or old i hole) (drop (suc i) old) hole (i - k) (length-replicate (i - k) hole)

    -- its place is empty
    cleared : i < length old → drop k (set cur i hole) ≡ replicate (suc (i - k)) hole ++ drop (suc i) old
    cleared h =
        ap (λ (n : ℕ). drop k (set cur n hole)) (sym at_i) ∙ drop-set-add k cur (i - k) hole ∙ ap (λ (l : List A). set l (i - k) hole) (next h)
        ∙ set_at (replicate (i - k) hole) (get_or old i hole) (drop (suc i) old) hole (i - k) (length-replicate (i - k) hole)
        ∙ again (i - k) hole (drop (suc i) old)

    pub pack-goes : i < length old → left i ≡ left (i + 1) → Packed hole old left (i + 1) k (set cur i hole)
    pack-goes h e =
        let n : suc (i - k) ≡ suc i - k = omega (arith, w.low) in
        rw add-one (record {
          low = omega (arith, w.low);
          long = length-set cur i hole ∙ w.long;
          front = rw add-one at (ap (λ (l : List A). l ++ left (i + 1)) (take-set-le k cur i hole w.low) ∙ ap (λ (l : List A). take k cur ++ l) (sym e) ∙ w.front);
          rest = cleared h ∙ ap (λ (m : ℕ). replicate m hole ++ drop (suc i) old) n;
        })

    pub pack-stays : i < length old → {x : A} → left i ≡ x ∷ left (i + 1) → Packed hole old left (i + 1) (k + 1) (set (set cur i hole) k x)
    pack-stays h {x} e =
        let g : k < length (set cur i hole) = omega (arith, w.low, w.long, length-set cur i hole) in
        let n : i - k ≡ suc i - suc k = omega (arith, w.low) in
        rw (add-one i, add-one k) (record {
          low = omega (arith, w.low);
          long = length-set (set cur i hole) k x ∙ length-set cur i hole ∙ w.long;
          front =
              ap (λ (l : List A). l ++ left (suc i)) (take-suc-set (set cur i hole) k x g ∙ ap (λ (l : List A). l ++ (x ∷ [])) (take-set-le k cur i hole w.low))
              ∙ append_snoc (take k cur) x (left (suc i)) ∙ ap (λ (l : List A). take k cur ++ l) (sym (rw add-one at e)) ∙ w.front;
          rest =
              drop-set-lt (suc k) (set cur i hole) k x (omega arith) ∙ ap (λ (m : ℕ). drop m (set cur i hole)) (sym (add-one k)) ∙ sym (drop-drop 1 k (set cur i hole)) ∙ ap (drop 1) (cleared h)
              ∙ ap (λ (m : ℕ). replicate m hole ++ drop (suc i) old) n;
        })

    -- all have been looked at
    pub pack-end : {P : A → Type 0} {size n : ℕ} → Table P hole size n old → n ≤ i → i ≤ n → left i ≡ [] → All P (left 0) → (k ≡ length (left 0)) × (take k cur ≡ left 0) × Table P hole size k cur
    pack-end {P} {size} {n} t h g e a = (many, is, record { length_is = w.long ∙ t.length_is; count_fits = omega (arith, w.low, t.count_fits); holds = rw is a; rest = others })
      where
        is : take k cur ≡ left 0
        is = sym (append-nil (take k cur)) ∙ ap (λ (l : List A). take k cur ++ l) (sym e) ∙ w.front

        many : k ≡ length (left 0)
        many = sym (length-take-le k cur (omega (arith, w.low, w.long, t.length_is, t.count_fits))) ∙ ap length is

        others : drop k cur ≡ replicate (size - k) hole
        others =
            let m : i ≡ n = omega arith in
            let z : (i - k) + (size - n) ≡ size - k = omega (arith, w.low, t.count_fits) in
            w.rest ∙ ap (λ (j : ℕ). replicate (i - k) hole ++ drop j old) m ∙ ap (λ (l : List A). replicate (i - k) hole ++ l) t.rest
            ∙ replicate-append-replicate (i - k) (size - n) hole ∙ ap (λ (j : ℕ). replicate j hole) z
