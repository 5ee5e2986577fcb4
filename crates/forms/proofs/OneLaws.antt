-- A batch of one: its bytes say its one entry, and how they are written. What fits a length byte stays as it is, and a longer one becomes
-- empty, which is neither a key nor a row. Assumes nothing.
use Prim.Native.Nat.{ℕ, ◌+◌, ◌≤◌, ◌<◌}
use native.Mathlib.Omega.{arith}
use mathlib.Core.Path.{◌≡◌, refl, sym, ap, ◌∙◌}
use mathlib.Core.Bool.{Bool, true, false, true≢false, false≢true}
use mathlib.Core.List.{[], ◌∷◌, ◌++◌, append-nil}
use mathlib.Core.Option.{Option, none, some}
use lib.ListN.{length, length-append}
use lib.Seq.{take_at, drop_at}
use lib.Dec.{leb, eqb}
use borrow.Author.Tests.{le-leb, lt-leb, leb-true}
use Rattle.forms.specs.Bytes.{Bytes, piece_bytes}
use Rattle.forms.specs.Key.{Key}
use Rattle.forms.specs.Row.{Row}
use Rattle.forms.specs.Readers.{Reader, read_on, ◌>>=◌, just, when, byte, stretch, piece, times, ended, whole}
use Rattle.forms.specs.Numbers.{number_from, digits}
use Rattle.forms.specs.Batch.{Mutation, key_inside, of_kind, mutation, above, ascend, if_ascend, batch_of, mutations, keys}
use Rattle.forms.specs.Places.{entries}
use Rattle.forms.specs.Ones.{or_empty, fitted, fitted_row, fitted_entry, kind_bytes, one_mutation, one_key}
use Rattle.forms.specs.Writers.{Laid, PieceAsks}
use Rattle.forms.proofs.ReaderLaws.{after}
use Rattle.forms.proofs.ReadAllLaws.{entries-more}
use Rattle.forms.proofs.DecodeLaws.{batch-few}
use Rattle.forms.proofs.WriterLaws.{laid_as, laid_then}

-- ---- what fits

pub fits-stays : (s : Bytes) → leb (length s) 255 ≡ true → fitted s ≡ s
unfolding fitted
fits-stays s h = ap (λ (b : Bool). or_empty b s) h

pub long-empty : (s : Bytes) → leb (length s) 255 ≡ false → fitted s ≡ []
unfolding fitted
long-empty s h = ap (λ (b : Bool). or_empty b s) h

fitted_short : (s : Bytes) → length (fitted s) ≤ 255
unfolding fitted
fitted_short s = go (leb (length s) 255) refl
  where
    go : (b : Bool) → leb (length s) 255 ≡ b → length (or_empty b s) ≤ 255
    go true e = leb-true _ _ e
    go false e = omega arith

-- ---- what the bytes say

piece-front : (s t : Bytes) → piece (piece_bytes s ++ t) ≡ some (record { got = s; rest = t })
unfolding piece ◌>>=◌ read_on byte stretch
piece-front s t =
    let fits : leb (length s) (length (s ++ t)) ≡ true = le-leb (length s) (length (s ++ t)) (omega (arith, length-append s t)) in
    rw (fits, take_at s t (length s) refl, drop_at s t (length s) refl)

entry-front : (m : Mutation) → mutation (piece_bytes (fitted m.key) ++ kind_bytes m.row) ≡ some (record { got = fitted_entry m; rest = [] })
unfolding mutation ◌>>=◌ read_on byte of_kind just
entry-front m = after (λ k. byte >>= (λ b. of_kind (eqb b 1) (eqb b 2) k)) (piece-front (fitted m.key) (kind_bytes m.row)) ∙ go m.row
  where
    go : (o : Option Row) → (byte >>= (λ b. of_kind (eqb b 1) (eqb b 2) (fitted m.key))) (kind_bytes o) ≡ some (record { got = record { key = fitted m.key; row = fitted_row o }; rest = [] })
    go none = refl
    go (some r) = after (λ x. just (record { key = fitted m.key; row = some x })) (ap piece (sym (append-nil (piece_bytes (fitted r)))) ∙ piece-front (fitted r) [])

one : {A : Type 0} (key : A → Key) (r : Reader A) (s : Bytes) (x : A) → r s ≡ some (record { got = x; rest = [] }) → batch_of key r (0 ∷ 1 ∷ s) ≡ some (x ∷ [])
unfolding number_from if_ascend ascend above entries whole times just ended
one key r s x e = batch-few key r (0 ∷ 1 ∷ s) (omega arith) (omega arith) ∙ ap (if_ascend key) (entries-more r 0 s e)

-- "is a batch of one"
pub one-mutation : (m : Mutation) → mutations (one_mutation m) ≡ some (fitted_entry m ∷ [])
unfolding mutations one_mutation
one-mutation m = one key_inside mutation _ (fitted_entry m) (entry-front m)

pub one_key_lem : (k : Key) → keys (one_key k) ≡ some (fitted k ∷ [])
unfolding keys one_key
one_key_lem k = one (λ j. j) piece _ (fitted k) (ap piece (sym (append-nil (piece_bytes (fitted k)))) ∙ piece-front (fitted k) [])

-- ---- how they are written

pub fitting_none : (s : Bytes) → 255 < length s → [] ≡ fitted s
fitting_none s h = sym (long-empty s (lt-leb (length s) 255 h))

pub fitting_all : (s : Bytes) → length s ≤ 255 → s ≡ fitted s
fitting_all s h = sym (fits-stays s (le-leb (length s) 255 h))

pub piece_asks : (s : Bytes) {at : ℕ} {out : Bytes} → at + 256 ≤ length out → PieceAsks (fitted s) (length (fitted s) + 1) at out
piece_asks s h = record { short = fitted_short s; room = omega (arith, fitted_short s) }

module _ (k : Key) {s t u : Bytes} {a b : ℕ} (one : Laid 0 2 (digits 2 1) s a t) (two : Laid a (length (fitted k) + 1) (piece_bytes (fitted k)) t b u) where
  pub key_laid : Laid 0 (length (one_key k)) (one_key k) s b u
  unfolding one_key digits
  key_laid = laid_as (laid_then one two) refl

  pub key-room : 515 ≤ length s → b + 257 ≤ length u
  key-room h = omega (arith, fitted_short k)

  pub delete-laid : (put : Bool) (r : Row) {d : ℕ} {w : Bytes} → put ≡ false → Laid b 1 (2 ∷ []) u d w → Laid 0 (length (one_mutation (record { key = k; row = when put r }))) (one_mutation (record { key = k; row = when put r })) s d w
  unfolding one_mutation digits
  delete-laid true r h three = absurd (true≢false h)
  delete-laid false r h three = laid_as (laid_then one (laid_then two three)) refl

  pub put-laid : (put : Bool) (r : Row) {c d : ℕ} {w x : Bytes} → put ≡ true → Laid b 1 (1 ∷ []) u c w → Laid c (length (fitted r) + 1) (piece_bytes (fitted r)) w d x
      → Laid 0 (length (one_mutation (record { key = k; row = when put r }))) (one_mutation (record { key = k; row = when put r })) s d x
  unfolding one_mutation digits
  put-laid true r h three four = laid_as (laid_then one (laid_then two (laid_then three four))) refl
  put-laid false r h three four = absurd (false≢true h)
