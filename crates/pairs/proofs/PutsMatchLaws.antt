-- The walk over lines and defaults by key and start: what is left after each step, and each way out.
-- Assumes nothing.
use Prim.Native.Nat.{ℕ, ◌+◌, ◌≤◌, ◌<◌}
use native.Mathlib.Numerals.{add-one}
use mathlib.Core.Path.{◌≡◌, refl, sym, ◌∙◌, ap}
use mathlib.Core.Bool.{Bool, true, false, not, ◌&&◌, true≢false, false≢true}
use mathlib.Core.List.{List, [], ◌∷◌, map}
use lib.Dec.{ltb, leb}
use Rattle.std.specs.Prelude.{Result, Ok, Err}
use lib.ListN.{length, get_or, drop, drop_of_length-le}
use lib.Seq.{drop-cons}
use borrow.Author.Tests.{not-true, not-false, leb-true, leb-false}
use Rattle.forms.specs.Bytes.{Bytes}
use Rattle.rules.specs.declared.records.Kind.{Kind}
use Rattle.rules.specs.declared.records.Kind.TheVariants.{Put, Delete, Rollback}
use Rattle.rules.specs.Box.{Default}
use Rattle.rules.specs.Restore.{like_default}
use Rattle.images.specs.Entries.{Raw, is_put, raw_at, raw_of, Stood}
use Rattle.images.specs.declared.entries.ImageEntry.{ImageEntry}
use Rattle.orders.specs.Marks.{section_if}
use Rattle.images.specs.Good.{kind_of}
use Rattle.images.specs.Sections.{row_at, line_if, line_at}
use Rattle.pairs.specs.Puts.{raw_pair, put_on, puts_of, same_pairs, puts_match}

next : (l : List ℕ) (i : ℕ) → i < length l → drop i l ≡ get_or l i 0 ∷ drop (i + 1) l
next l i h = rw add-one (drop-cons l i 0 h)

-- the lines from i on and the defaults from j on are left
pub record Matching (s : Bytes) (w : ℕ) (ds ps : List ℕ) (i j : ℕ) : Type 0 where
  pub is : puts_match s w ds ps ≡ puts_match s w (drop j ds) (drop i ps)

pub match-end : {s : Bytes} {w : ℕ} {ds ps : List ℕ} {i j : ℕ} → Matching s w ds ps i j → length ps ≤ i → leb (length ds) j ≡ puts_match s w ds ps
unfolding puts_of same_pairs
match-end {s} {w} {ds} {ps} {i} {j} v h = go (leb (length ds) j) refl ∙ sym (v.is ∙ ap (puts_match s w (drop j ds)) (drop_of_length-le ps h))
  where
    go : (b : Bool) → leb (length ds) j ≡ b → b ≡ same_pairs [] (map (row_at s) (drop j ds))
    go true e = sym (ap (λ (l : List ℕ). same_pairs [] (map (row_at s) l)) (drop_of_length-le ds (leb-true (length ds) j e)))
    go false e = sym (ap (λ (l : List ℕ). same_pairs [] (map (row_at s) l)) (next ds j (leb-false (length ds) j e)))

module _ {s : Bytes} {w : ℕ} {ds ps : List ℕ} {i j : ℕ} (v : Matching s w ds ps i j) (more : i < length ps) {e : ImageEntry} (r : Stood (section_if (ltb (get_or ps i 0) w)) s (get_or ps i 0) e) where
  abbrev rest : List Default
  rest = puts_of (map (line_at s w) (drop (i + 1) ps))

  abbrev rows : List Default
  rows = map (row_at s) (drop j ds)

  here : puts_match s w ds ps ≡ same_pairs (put_on (kind_of e.kind) (raw_pair (raw_of s e)) rest) rows
  unfolding puts_of
  here =
      v.is
      ∙ ap (λ (l : List ℕ). same_pairs (puts_of (map (line_at s w) l)) rows) (next ps i more)
      ∙ ap (λ (l : List Default). same_pairs l rows) (go (ltb (get_or ps i 0) w))
      ∙ ap (λ (x : Raw). same_pairs (put_on (kind_of x.kind) (raw_pair x) rest) rows) (sym r.raw)
    where
      go : (b : Bool) → puts_of (line_if b s (get_or ps i 0) ∷ map (line_at s w) (drop (i + 1) ps)) ≡ put_on (kind_of (raw_at (section_if b) s (get_or ps i 0)).kind) (raw_pair (raw_at (section_if b) s (get_or ps i 0))) rest
      go true = refl
      go false = refl

  pub match-other : is_put e.kind ≡ false → Matching s w ds ps (i + 1) j
  match-other h = record { is = here ∙ ap (λ (l : List Default). same_pairs l rows) (go e.kind h) }
    where
      go : (k : Result Kind ℕ) → is_put k ≡ false → put_on (kind_of k) (raw_pair (raw_of s e)) rest ≡ rest
      go (Err n) q = refl
      go (Ok Put) q = absurd (true≢false q)
      go (Ok Delete) q = refl
      go (Ok Rollback) q = refl

  module _ (put : is_put e.kind ≡ true) where
    a-put : puts_match s w ds ps ≡ same_pairs (raw_pair (raw_of s e) ∷ rest) rows
    a-put = here ∙ ap (λ (l : List Default). same_pairs l rows) (go e.kind put)
      where
        go : (k : Result Kind ℕ) → is_put k ≡ true → put_on (kind_of k) (raw_pair (raw_of s e)) rest ≡ raw_pair (raw_of s e) ∷ rest
        go (Err n) q = absurd (false≢true q)
        go (Ok Put) q = refl
        go (Ok Delete) q = absurd (false≢true q)
        go (Ok Rollback) q = absurd (false≢true q)

    pub match_none : length ds ≤ j → false ≡ puts_match s w ds ps
    unfolding same_pairs
    match_none h = sym (a-put ∙ ap (λ (l : List ℕ). same_pairs (raw_pair (raw_of s e) ∷ rest) (map (row_at s) l)) (drop_of_length-le ds h))

    module _ (some : j < length ds) {b : Bool} (q : b ≡ like_default (raw_pair (raw_of s e)) (row_at s (get_or ds j 0))) where
      both : puts_match s w ds ps ≡ b && same_pairs rest (map (row_at s) (drop (j + 1) ds))
      unfolding same_pairs
      both =
          a-put ∙ ap (λ (l : List ℕ). same_pairs (raw_pair (raw_of s e) ∷ rest) (map (row_at s) l)) (next ds j some)
          ∙ ap (λ (c : Bool). c && same_pairs rest (map (row_at s) (drop (j + 1) ds))) (sym q)

      pub match-wrong : not b ≡ true → false ≡ puts_match s w ds ps
      match-wrong h = sym (both ∙ ap (λ (c : Bool). c && same_pairs rest (map (row_at s) (drop (j + 1) ds))) (not-true b h))

      pub match-next : not b ≡ false → Matching s w ds ps (i + 1) (j + 1)
      match-next h = record { is = both ∙ ap (λ (c : Bool). c && same_pairs rest (map (row_at s) (drop (j + 1) ds))) (not-false b h) }
