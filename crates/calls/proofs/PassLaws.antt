-- A pass over the entries of a batch, for every state of it: P tells of the entries that are left and of the state.
-- Assumes nothing.
use Prim.Native.Nat.{ℕ, ◌+◌, ◌≤◌, ◌<◌}
use native.Mathlib.Numerals.{add-one}
use mathlib.Core.Path.{sym, ap, ◌∙◌, subst}
use mathlib.Core.List.{List, [], ◌∷◌, map}
use lib.ListN.{length, get_or, drop, drop_of_length-le}
use lib.Seq.{drop-cons}
use Rattle.seqs.proofs.Alls.{all-at}
use Rattle.forms.specs.Bytes.{Bytes}
use Rattle.forms.specs.Places.{EntryIn, Listed}
use Rattle.forms.specs.declared.batch.Entry.{Entry}

pub record Pass {A S : Type 0} (P : List A → S → Type 0) (item : Entry → A) (s : Bytes) (es : List Entry) (i : ℕ) (q : S) : Type 0 where
  pub listed : Listed s es
  pub left : P (map item (drop i es)) q

module _ {A S : Type 0} (P : List A → S → Type 0) (item : Entry → A) {s : Bytes} {es : List Entry} where
  pub pass-start : Listed s es → {q : S} → P (map item es) q → Pass P item s es 0 q
  pass-start a p = record { listed = a; left = p }

module _ {A S : Type 0} {P : List A → S → Type 0} {item : Entry → A} {s : Bytes} {es : List Entry} {i : ℕ} {q : S} (v : Pass P item s es i q) where
  module _ (d : Entry) (more : i < length es) where
    -- the entry lies in the bytes
    pub pass-in : EntryIn s (get_or es i d)
    pass-in = all-at (EntryIn s) d es i v.listed.inside more

    pub pass-here : P (item (get_or es i d) ∷ map item (drop (i + 1) es)) q
    pass-here = subst (λ (l : List Entry). P (map item l) q) (drop-cons es i d more ∙ ap (λ (m : ℕ). get_or es i d ∷ drop m es) (sym (add-one i))) v.left

    -- one entry more
    pub pass-more : {t : S} → (P (item (get_or es i d) ∷ map item (drop (i + 1) es)) q → P (map item (drop (i + 1) es)) t) → Pass P item s es (i + 1) t
    pass-more f = record { listed = v.listed; left = f pass-here }

  pub pass-end : length es ≤ i → P [] q
  pass-end z = subst (λ (l : List Entry). P (map item l) q) (drop_of_length-le es z) v.left
