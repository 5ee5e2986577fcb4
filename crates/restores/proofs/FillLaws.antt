-- The table, filled in place from its beginning over what stood there: the slots so far, one more, and the whole at its end.
-- Assumes nothing.
use Prim.Native.Nat.{ℕ, suc, ◌+◌, ◌-◌, ◌≤◌, ◌<◌, min}
use native.Mathlib.Omega.{arith}
use native.Mathlib.Numerals.{add-one}
use mathlib.Core.Path.{◌≡◌, refl, sym, ap, ap₂, ◌∙◌, subst}
use mathlib.Core.List.{List, [], ◌∷◌, ◌++◌, map}
use mathlib.Core.Option.{Option}
use lib.ListN.{length, get_or, take, drop, set, replicate, length-set, length-map, length-replicate, get_or-map, take-append-drop, replicate-append-replicate, drop_of_length-le}
use lib.Seq.{length-take-le, get_or-take, take_all, take-suc, drop-cons, drop-drop, drop_at, drop-set-lt, set_at, append_snoc, take-suc-set}
use Rattle.seqs.specs.Tables.{Table, shown}
use Rattle.seqs.proofs.Tables.{table_empty, table-wider, table-added, shown-same, shown-added}
use Rattle.forms.specs.Bytes.{Bytes}
use Rattle.rules.specs.Box as box
use Rattle.rules.specs.Room.{sum_of}
use Rattle.store.specs.declared.table.Slot.{Slot}
use Rattle.store.specs.View.{no_slot}
use Rattle.store.specs.Made.{SlotBelow}
use Rattle.changes.specs.Writes.{Past}
use Rattle.changes.proofs.StretchLaws.{slot_kept, default-kept}
use Rattle.restores.specs.Fills.{Laid, laid_in, size_of, Comes, Stays}

-- ---- the first k slots, and empty ones after them

abbrev blank : ℕ → List Slot → List Slot
blank k t = take k t ++ replicate (1024 - k) no_slot

module _ (k : ℕ) (t : List Slot) (length_is : length t ≡ 1024) (h : k < 1024) where
  one_less : replicate (1024 - k) no_slot ≡ no_slot ∷ replicate (1024 - (k + 1)) no_slot
  one_less = let e : 1024 - k ≡ suc (1024 - (k + 1)) = omega arith in ap (λ (n : ℕ). replicate n no_slot) e

  blank-next : (x : Slot) → blank (k + 1) (set t k x) ≡ take k t ++ x ∷ replicate (1024 - (k + 1)) no_slot
  blank-next x =
      let l : k < length t = omega arith in
      ap (λ (n : ℕ). take n (set t k x) ++ replicate (1024 - (k + 1)) no_slot) (add-one k)
      ∙ ap (λ (f : List Slot). f ++ replicate (1024 - (k + 1)) no_slot) (take-suc-set t k x l)
      ∙ append_snoc (take k t) x (replicate (1024 - (k + 1)) no_slot)

  blank-past : blank (k + 1) (set t k no_slot) ≡ blank k t
  blank-past = blank-next no_slot ∙ ap (λ (r : List Slot). take k t ++ r) (sym one_less)

  blank-put : (x : Slot) → blank (k + 1) (set t k x) ≡ set (blank k t) k x
  blank-put x =
      let l : k ≤ length t = omega arith in
      blank-next x ∙ sym (ap (λ (r : List Slot). set (take k t ++ r) k x) one_less ∙ set_at (take k t) no_slot (replicate (1024 - (k + 1)) no_slot) x k (length-take-le k t l))

-- past the slots of a table all are empty
rest-empty : {P : Slot → Type 0} {m k : ℕ} {old : List Slot} → Table P no_slot 1024 m old → m ≤ k → k ≤ 1024 → drop k old ≡ replicate (1024 - k) no_slot
rest-empty {m = m} {k = k} {old = old} t h l =
    let e : k ≡ m + (k - m) = omega arith in
    let f : 1024 - m ≡ (k - m) + (1024 - k) = omega arith in
    ap (λ (n : ℕ). drop n old) e ∙ sym (drop-drop (k - m) m old)
    ∙ ap (drop (k - m)) (t.rest ∙ ap (λ (n : ℕ). replicate n no_slot) f ∙ sym (replicate-append-replicate (k - m) (1024 - k) no_slot))
    ∙ drop_at (replicate (k - m) no_slot) (replicate (1024 - k) no_slot) (k - m) (length-replicate (k - m) no_slot)

-- ---- a table that shows a list

pub record Seen (top : ℕ) (area : Bytes) (n : ℕ) (t : List Slot) (all : List Laid) : Type 0 where
  pub table : Table (SlotBelow top) no_slot 1024 n t
  pub shows : shown (laid_in area) n t ≡ all

module _ {top n : ℕ} {area : Bytes} {t : List Slot} {all : List Laid} (v : Seen top area n t all) where
  seen_as : {m : ℕ} {u : List Slot} {more : List Laid} → n ≡ m → t ≡ u → all ≡ more → Seen top area m u more
  seen_as {m} {u} e f g =
      subst (λ (x : List Laid). Seen top area m u x) g (subst (λ (x : List Slot). Seen top area m x all) f (subst (λ (x : ℕ). Seen top area x t all) e v))

  seen_more : n < 1024 → {x : Slot} {y : Laid} → laid_in area x ≡ y → SlotBelow top x → Seen top area (n + 1) (set t n x) (all ++ (y ∷ []))
  seen_more l {x} e p = record {
    table = table-added v.table x p l;
    shows = shown-added (laid_in area) t n x (omega (arith, v.table.length_is)) ∙ ap₂ (λ (r : List Laid) (y : Laid). r ++ (y ∷ [])) v.shows e;
  }

  -- other bytes come past the top
  seen-kept : {end : ℕ} {area' : Bytes} → Past area top area' → top ≤ end → Seen end area' n t all
  seen-kept {end} {area'} p up = record {
    table = table-wider v.table (SlotBelow end) (λ s h. record { below = omega (arith, h.below); lean = h.lean; in_use = h.in_use });
    shows =
        shown-same (laid_in area') (laid_in area) (SlotBelow top)
        (λ s h. ap₂ (λ (x : box.KeyLine) (d : Option box.Default). record { line = x; default = d }) (slot_kept area area' top p.kept s h) (default-kept area area' top p.kept s h)) n t v.table.holds
        ∙ v.shows;
  }

-- ---- the slots so far

-- the first k slots of t show the first k of `all`, or all of them and are empty from there on; past k is what stood there
pub record Half (old : List Slot) (all : List Laid) (k top : ℕ) (area : Bytes) (t : List Slot) : Type 0 where
  pub low : k ≤ 1024
  pub length_is : length t ≡ 1024
  pub seen : Seen top area (min k (length all)) (blank k t) (take k all)
  pub rest : drop k t ≡ drop k old

pub half-start : (old : List Slot) (all : List Laid) (top : ℕ) (area : Bytes) → length old ≡ 1024 → Half old all 0 top area old
unfolding shown
half-start old all top area h = record {
  low = omega arith;
  length_is = h;
  seen = seen_as (record { table = table_empty (SlotBelow top) no_slot 1024; shows = refl }) (omega arith) refl refl;
  rest = refl;
}

module _ {old : List Slot} {all : List Laid} {k top : ℕ} {area : Bytes} {t : List Slot} (h : Half old all k top area t) where
  half-next : k < 1024 → (x : Slot) {end : ℕ} {area' : Bytes} → Seen end area' (min (k + 1) (length all)) (blank (k + 1) (set t k x)) (take (k + 1) all) → Half old all (k + 1) end area' (set t k x)
  half-next l x v = record {
    low = omega arith;
    length_is = length-set t k x ∙ h.length_is;
    seen = v;
    rest = drop-set-lt (k + 1) t k x (omega arith) ∙ sym (drop-drop 1 k t) ∙ ap (drop 1) h.rest ∙ drop-drop 1 k old;
  }

  pub half-more : k < 1024 → k < length all → (z : Laid) {x : Slot} {end : ℕ} {area' : Bytes} → Comes (get_or all k z) area top x end area' → Half old all (k + 1) end area' (set t k x)
  half-more l g z {x} c =
      half-next l x
      (seen_as (seen_more (seen_as (seen-kept h.seen c.past (omega (arith, c.end_low))) (omega arith) refl refl) l c.shows c.below) (omega arith) (sym (blank-put k t h.length_is l x))
      (sym (take-suc all k z g) ∙ ap (λ (n : ℕ). take n all) (sym (add-one k))))

  pub half-past : k < 1024 → length all ≤ k → Half old all (k + 1) top area (set t k no_slot)
  half-past l g = half-next l no_slot (seen_as h.seen (omega arith) (sym (blank-past k t h.length_is l)) (take_all k all g ∙ sym (take_all (k + 1) all (omega arith))))

  -- all are there
  pub half-end : {P : Slot → Type 0} {m : ℕ} → Table P no_slot 1024 m old → m ≤ k → length all ≤ k → Seen top area (length all) t all
  half-end o q g =
      seen_as h.seen (omega arith) (ap (λ (r : List Slot). take k t ++ r) (sym (h.rest ∙ rest-empty o q h.low)) ∙ take-append-drop k t) (take_all k all g)

-- ---- the lines that a list of places tells

abbrev pub entries : (ℕ → Laid) → List ℕ → ℕ → List Laid
entries at places n = map at (take n places)

pub record LineView (at : ℕ → Laid) (places : List ℕ) (n : ℕ) : Type 0 where
  pub count_fits : n ≤ length places

module _ {at : ℕ → Laid} {places : List ℕ} {n : ℕ} (w : LineView at places n) where
  pub told-long : length (entries at places n) ≡ n
  told-long = length-map (take n places) at ∙ length-take-le n places w.count_fits

  told_at : {k : ℕ} → k < n → get_or (entries at places n) k (at 0) ≡ at (get_or places k 0)
  told_at {k} l = get_or-map at (take n places) k 0 ∙ ap at (get_or-take n places k 0 l)

  -- the bytes of those from k on are the next one's and the others'
  pub told-next : {k : ℕ} → k < n → sum_of size_of (drop k (entries at places n)) ≡ size_of (at (get_or places k 0)) + sum_of size_of (drop (k + 1) (entries at places n))
  unfolding sum_of
  told-next {k} l =
      let g : k < length (entries at places n) = omega (arith, told-long) in
      ap (sum_of size_of) (drop-cons (entries at places n) k (at 0) g) ∙ ap₂ (λ (x : Laid) (m : ℕ). size_of x + sum_of size_of (drop m (entries at places n))) (told_at l) (sym (add-one k))

  pub told-past : {k : ℕ} → n ≤ k → sum_of size_of (drop (k + 1) (entries at places n)) ≡ 0
  unfolding sum_of
  told-past {k} l = let m : length (entries at places n) ≤ k + 1 = omega (arith, told-long) in ap (sum_of size_of) (drop_of_length-le (entries at places n) m)

  pub half-line : {old t : List Slot} {k top : ℕ} {area : Bytes} → Half old (entries at places n) k top area t → k < 1024 → k < n → (x : Slot) (end : ℕ) (area' : Bytes)
      → Comes (at (get_or places k 0)) area top x end area' → Half old (entries at places n) (k + 1) end area' (set t k x)
  half-line {k = k} {top = top} {area = area} h l g x end area' c = half-more h l (omega (arith, told-long)) (at 0) (subst (λ (y : Laid). Comes y area top x end area') (sym (told_at g)) c)

  pub half-none : {old t : List Slot} {k top : ℕ} {area : Bytes} → Half old (entries at places n) k top area t → k < 1024 → n ≤ k → (x : Slot) (end : ℕ) (area' : Bytes)
      → Stays area top x end area' → Half old (entries at places n) (k + 1) end area' (set t k x)
  half-none {old} {t} {k} {top} {area} h l g x end area' c =
      subst (λ (p : Slot × ℕ × Bytes). Half old (entries at places n) (k + 1) p.1 p.2 (set t k p.0)) (λ i. (sym c.none i, sym c.end_is i, sym c.area_is i)) (half-past h l (omega (arith, told-long)))
