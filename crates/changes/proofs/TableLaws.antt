-- A slot comes to its place: what the copy that makes place for it leaves, and the one that closes up where another goes.
-- Assumes nothing.
use Prim.Native.Nat.{ℕ, suc, ◌+◌, ◌-◌, ◌≤◌, ◌<◌}
use native.Mathlib.Omega.{arith}
use mathlib.Core.Path.{◌≡◌, refl, sym, ap, ap₂, ◌∙◌, subst}
use mathlib.Core.List.{List, [], ◌∷◌, ◌++◌, append_assoc}
use native.Mathlib.Numerals.{add-one}
use lib.ListN.{length, length-append, get_or, take, drop, set}
use lib.Seq.{paste, slice, set_at, take-suc, drop-cons, length-take-le, length-slice}
use Rattle.std.proofs.lemmas.List.{drop-take}
use Rattle.seqs.specs.Tables.{inserted, move_to}
use Rattle.store.specs.declared.table.Slot.{Slot}
use Rattle.store.specs.declared.table.Store.{Store}
use Rattle.changes.specs.declared.change.NewSlot.{NewSlot}
use Rattle.changes.specs.declared.change.Change.{Change}
use Rattle.changes.specs.declared.change.Change.TheVariants.{Stays, Inserts, Replaces}
use Rattle.changes.specs.Changes.{InsertAsks, ReplaceAsks, ChangeAsks, changed}

-- a change leaves the floor
pub changed-floor : (st : Store) (c : Change) → (changed st c).floor ≡ st.floor
changed-floor st Stays = refl
changed-floor st (Inserts n) = refl
changed-floor st (Replaces i n) = refl

-- those from place i on have moved by one, and x stands there
copied-in : {A : Type 0} (l : List A) (i n : ℕ) (x : A) → i ≤ n → n < length l → set (paste l (i + 1) (drop i l) (n - i)) i x ≡ inserted i n x l
unfolding inserted
copied-in l i n x h g =
    let tail : List _ = take (n - i) (drop i l) ++ drop (i + 1 + (n - i)) l in
    let a : i < length l = omega arith in
    let b : i ≤ length l = omega arith in
    let e : i + (n - i) ≡ n = omega arith in
    let f : i + 1 + (n - i) ≡ suc n = omega arith in
    ap (λ (v : List _). set v i x) (append_assoc (take (i + 1) l) (take (n - i) (drop i l)) (drop (i + 1 + (n - i)) l))
    ∙ ap (λ (v : List _). set (v ++ tail) i x) (ap (λ (m : ℕ). take m l) (add-one i) ∙ take-suc l i x a)
    ∙ ap (λ (v : List _). set v i x) (append_assoc (take i l) (get_or l i x ∷ []) tail)
    ∙ set_at (take i l) (get_or l i x) tail x i (length-take-le i l b)
    ∙ ap₂ (λ (v w : List _). take i l ++ x ∷ (v ++ w)) (sym (drop-take i (n - i) l) ∙ ap (λ (m : ℕ). drop i (take m l)) e) (ap (λ (m : ℕ). drop m l) f)

-- those between the places i and j have closed up, and x stands before place j
copied-over : {A : Type 0} (l : List A) (i j : ℕ) (x : A) → i < j → j ≤ length l → set (paste l i (drop (i + 1) l) (j - (i + 1))) (j - 1) x ≡ move_to i j x l
unfolding move_to
copied-over l i j x h g =
    let a : j - 1 < length l = omega arith in
    let b : i ≤ length l = omega arith in
    let e : i + (j - (i + 1)) ≡ j - 1 = omega arith in
    let f : i + 1 + (j - (i + 1)) ≡ j = omega arith in
    let k : suc (j - 1) ≡ j = omega arith in
    let between : take (j - (i + 1)) (drop (i + 1) l) ≡ slice (suc i) j l = sym (drop-take (i + 1) (j - (i + 1)) l) ∙ ap₂ (λ (m t : ℕ). drop m (take t l)) (add-one i) f in
    let len : length (take i l ++ slice (suc i) j l) ≡ j - 1 = omega (arith, length-append (take i l) (slice (suc i) j l), length-take-le i l b, length-slice (suc i) j l g) in
    ap (λ (v : List _). set (take i l ++ v ++ drop (i + (j - (i + 1))) l) (j - 1) x) between
    ∙ ap (λ (v : List _). set (take i l ++ slice (suc i) j l ++ v) (j - 1) x) (ap (λ (m : ℕ). drop m l) e ∙ drop-cons l (j - 1) x a ∙ ap (λ (m : ℕ). get_or l (j - 1) x ∷ drop m l) k)
    ∙ set_at (take i l ++ slice (suc i) j l) (get_or l (j - 1) x) (drop j l) x (j - 1) len

pub inserts : {st : Store} {c : Change} {n : NewSlot} → c ≡ Inserts n → ChangeAsks st c → InsertAsks st n.to
inserts {st} p asks = subst (ChangeAsks st) p asks

pub replaces : {st : Store} {c : Change} {i : ℕ} {n : NewSlot} → c ≡ Replaces i n → ChangeAsks st c → ReplaceAsks st i n.to
replaces {st} p asks = subst (ChangeAsks st) p asks

-- the change that it makes of the table
module _ (st : Store) {c : Change} {n : NewSlot} where
  pub inserted-is : c ≡ Inserts n → ChangeAsks st c → {v : List Slot} → v ≡ paste st.lines (n.to + 1) (drop n.to st.lines) (st.load.lines - n.to)
      → ◌≡◌ {A = Store} (record { lines = set v n.to n.slot; load = n.load; top = n.top; floor = st.floor }) (changed st c)
  inserted-is p asks e =
      let a = inserts p asks in
      ap (λ (l : List Slot). record { lines = l; load = n.load; top = n.top; floor = st.floor }) (ap (λ (l : List Slot). set l n.to n.slot) e ∙ copied-in st.lines n.to st.load.lines n.slot a.low (omega (arith, a.room, a.length_is)))
      ∙ sym (ap (changed st) p)

  pub replaced-is : {i : ℕ} → c ≡ Replaces i n → ChangeAsks st c → {v : List Slot} → v ≡ paste st.lines i (drop (i + 1) st.lines) (n.to - (i + 1))
      → ◌≡◌ {A = Store} (record { lines = set v (n.to - 1) n.slot; load = n.load; top = n.top; floor = st.floor }) (changed st c)
  replaced-is {i} p asks e =
      let a = replaces p asks in
      ap (λ (l : List Slot). record { lines = l; load = n.load; top = n.top; floor = st.floor }) (ap (λ (l : List Slot). set l (n.to - 1) n.slot) e ∙ copied-over st.lines i n.to n.slot a.before (omega (arith, a.low, a.length_is)))
      ∙ sym (ap (changed st) p)
