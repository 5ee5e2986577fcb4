-- An entry of a batch at a place: what each way out of a mutation's `step_at` says.
-- Assumes nothing.
use Prim.Native.Nat.{ℕ, ◌+◌, ◌≤◌, ◌<◌}
use native.Mathlib.Omega.{arith}
use mathlib.Core.Path.{◌≡◌, ◌∙◌}
use mathlib.Core.Option.{none, some}
use lib.ListN.{length, get_or, drop}
use lib.Dec.{eqb}
use borrow.Author.Tests.{eq-eqb, ne_eqb}
use Rattle.std.specs.Prelude.{None, Some}
use Rattle.forms.specs.Bytes.{Bytes}
use Rattle.forms.specs.Key.{Key}
use Rattle.forms.specs.Readers.{Reader, read_on, ◌>>=◌, just, byte, piece}
use Rattle.forms.specs.Batch.{Mutation, of_kind, mutation}
use Rattle.forms.specs.Places.{part_of, IsPart, mutation_of, IsStep}
use Rattle.forms.specs.declared.part.Part.{Part}
use Rattle.forms.proofs.ReaderLaws.{after, byte-none, byte_at}

abbrev kind_of : Key → Reader Mutation
kind_of k = byte >>= (λ b. of_kind (eqb b 1) (eqb b 2) k)

pub no_key : (s : Bytes) (at : ℕ) → piece (drop at s) ≡ none → mutation (drop at s) ≡ none
unfolding mutation ◌>>=◌ read_on
no_key s at e = after kind_of e

module _ {s : Bytes} {at : ℕ} {k : Part} (p : IsPart s at k) where
  abbrev key : Key
  key = part_of s k

  begin : mutation (drop at s) ≡ kind_of key (drop (k.at + k.len) s)
  unfolding mutation ◌>>=◌ read_on
  begin = after kind_of p.read.is

  pub no_kind : length s ≤ k.at + k.len → mutation (drop at s) ≡ none
  unfolding ◌>>=◌ read_on
  no_kind l = begin ∙ after (λ b. of_kind (eqb b 1) (eqb b 2) key) (byte-none s (k.at + k.len) l)

  module _ (l : k.at + k.len < length s) where
    kind : mutation (drop at s) ≡ of_kind (eqb (get_or s (k.at + k.len) 0) 1) (eqb (get_or s (k.at + k.len) 0) 2) key (drop (k.at + k.len + 1) s)
    unfolding ◌>>=◌ read_on
    kind = begin ∙ after (λ b. of_kind (eqb b 1) (eqb b 2) key) (byte_at s (k.at + k.len) l)

    pub other-kind : (get_or s (k.at + k.len) 0 ≡ 1 → ⊥) → (get_or s (k.at + k.len) 0 ≡ 2 → ⊥) → mutation (drop at s) ≡ none
    unfolding of_kind
    other-kind n m = kind ∙ rw (ne_eqb _ _ n, ne_eqb _ _ m)

    pub is-delete : get_or s (k.at + k.len) 0 ≡ 2 → IsStep mutation (mutation_of s) s at (record { entry = record { key = k; row = None }; next = k.at + k.len + 1 })
    unfolding of_kind just
    is-delete m =
        let n : get_or s (k.at + k.len) 0 ≡ 1 → ⊥ = λ e. omega arith in
        record { read = record { is = kind ∙ rw (ne_eqb _ _ n, eq-eqb _ _ m); within = omega arith }; inside = record { key_in = p.inside; row-in = tt } }

    module _ (one : get_or s (k.at + k.len) 0 ≡ 1) where
      abbrev put_of : Bytes → Reader Mutation
      put_of t = just (record { key = key; row = some t })

      row : mutation (drop at s) ≡ read_on (piece (drop (k.at + k.len + 1) s)) put_of
      unfolding of_kind ◌>>=◌
      row = kind ∙ rw (eq-eqb _ _ one)

      pub no_row : piece (drop (k.at + k.len + 1) s) ≡ none → mutation (drop at s) ≡ none
      unfolding read_on
      no_row e = row ∙ after put_of e

      pub is-put : {r : Part} → IsPart s (k.at + k.len + 1) r → IsStep mutation (mutation_of s) s at (record { entry = record { key = k; row = Some r }; next = r.at + r.len })
      unfolding read_on just
      is-put q = record { read = record { is = row ∙ after put_of q.read.is; within = q.read.within }; inside = record { key_in = p.inside; row-in = q.inside } }
