-- A row of document 01 with a zero count added is a row: what a reader read, it reads with more bytes after it too.
-- Assumes nothing.
use Prim.Native.Nat.{ℕ, zero, suc, ◌+◌, ◌*◌, ◌≤◌}
use native.Mathlib.Omega.{arith}
use mathlib.Core.Path.{◌≡◌, refl, sym, ap, ap₂, ◌∙◌}
use mathlib.Core.Bool.{Bool, true, false, ◌&&◌, false≢true}
use mathlib.Core.List.{[], ◌∷◌, ◌++◌, append_assoc}
use mathlib.Core.Option.{Option, none, some}
use lib.ListN.{length, take, drop, length-append, take-append-drop}
use lib.Seq.{length-take-le, take_at, drop_at}
use lib.Dec.{leb}
use borrow.Author.Tests.{le-leb, leb-true}
use Rattle.seqs.proofs.Tests.{and_left, and_right, and_both}
use Rattle.forms.specs.Bytes.{Bytes}
use Rattle.forms.specs.Readers.{Read, Reader, read_on, ◌>>=◌, just, only, when, byte, stretch, piece, up_to, times, section, ended, whole, is_some}
use Rattle.forms.specs.Row.{Row, integers, texts, fields, old_row_form, mask_bytes, none_set, spares_zero, Bones, bones, row_from, row_form}
use Rattle.laws.proofs.ImageBackLaws.{then-reads}
use Rattle.converts.proofs.ReadApartLaws.{apart, all_read, stretch-read}

-- what is read is read with more bytes after it
abbrev Grows : {A : Type 0} → Reader A → Type 0
Grows {A} r = (s t : Bytes) (q : Read A) → r s ≡ some q → r (s ++ t) ≡ some (record { got = q.got; rest = q.rest ++ t })

abbrev more : {A : Type 0} → Bytes → Option (Read A) → Option (Read A)
more t none = none
more t (some q) = some (record { got = q.got; rest = q.rest ++ t })

byte-grows : Grows byte
unfolding byte
byte-grows [] t q e = absurd (false≢true (ap is_some e))
byte-grows (x ∷ s) t q e = ap (more t) e

stretch-grows : (n : ℕ) → Grows (stretch n)
unfolding stretch
stretch-grows n s t q e =
    let b = stretch-read n s q e in
    let k : length (take n s) ≡ n = length-take-le n s b.0 in
    let l : n ≤ length (s ++ t) = omega (arith, b.0, length-append s t) in
    let j : s ++ t ≡ take n s ++ (drop n s ++ t) = ap (λ (u : Bytes). u ++ t) (sym (take-append-drop n s)) ∙ append_assoc (take n s) (drop n s) t in
    ap (λ (c : Bool). when c (record { got = take n (s ++ t); rest = drop n (s ++ t) })) (le-leb n (length (s ++ t)) l)
    ∙ ap₂ (λ (g r : Bytes). some (record { got = g; rest = r })) (ap (take n) j ∙ take_at (take n s) (drop n s ++ t) n k ∙ b.1)
    (ap (drop n) j ∙ drop_at (take n s) (drop n s ++ t) n k ∙ ap (λ (u : Bytes). u ++ t) b.2)

then_grows : {A B : Type 0} (r : Reader A) (f : A → Reader B) → Grows r → ((x : A) → Grows (f x)) → Grows (r >>= f)
then_grows r f g h s t q e = let a = apart r f s q e in then-reads r f (s ++ t) (g s t a.0 a.1) (h a.0.got a.0.rest t q a.2)

just-grows : {A : Type 0} (x : A) → Grows (just x)
unfolding just
just-grows x s t q e = ap (more t) e

only-grows : {A : Type 0} (b : Bool) (x : A) → Grows (only b x)
unfolding only
only-grows true x s t q e = ap (more t) e
only-grows false x s t q e = absurd (false≢true (ap is_some e))

count-grows : (m : ℕ) → Grows (up_to m byte)
unfolding up_to
count-grows m = then_grows byte (λ n. only (leb n m) n) byte-grows (λ n. only-grows (leb n m) n)

piece-grows : Grows piece
unfolding piece
piece-grows = then_grows byte stretch byte-grows stretch-grows

times-grows : (n : ℕ) → Grows (times n piece)
unfolding times
times-grows zero = just-grows []
times-grows (suc n) = then_grows piece (λ x. times n piece >>= (λ xs. just (x ∷ xs))) piece-grows (λ x. then_grows (times n piece) (λ xs. just (x ∷ xs)) (times-grows n) (λ xs. just-grows (x ∷ xs)))

fields-grow : Grows fields
unfolding fields integers texts section
fields-grow =
    then_grows (up_to 8 byte >>= (λ n. stretch (8 * n))) (λ _. up_to 8 byte >>= (λ n. times n piece)) (then_grows (up_to 8 byte) (λ n. stretch (8 * n)) (count-grows 8) (λ n. stretch-grows (8 * n)))
    (λ x. then_grows (up_to 8 byte) (λ n. times n piece) (count-grows 8) times-grows)

-- "adds a zero count": a section without bones
no-bones : bones (0 ∷ []) ≡ some (record { got = record { count = 0; mask = [] }; rest = [] })
unfolding bones up_to byte only stretch mask_bytes spares_zero none_set ◌>>=◌ read_on
no-bones = refl

some-all : {A : Type 0} (r : Reader A) (s : Bytes) → is_some (whole r s) ≡ true → (x : A) × (r s ≡ some (record { got = x; rest = [] }))
unfolding whole
some-all {A} r s h = go (ended (r s)) refl h
  where
    go : (o : Option A) → ended (r s) ≡ o → is_some o ≡ true → (x : A) × (r s ≡ some (record { got = x; rest = [] }))
    go none e q = absurd (false≢true q)
    go (some x) e q = (x, all_read (r s) x e)

pub row-gains : (r : Row) → old_row_form r ≡ true → length r ≤ 254 → row_form (r ++ (0 ∷ [])) ≡ true
unfolding old_row_form row_form whole ended row_from
row-gains r h l =
    let f = some-all fields r (and_right (leb 2 (length r) && leb (length r) 255) _ h) in
    let g : fields (r ++ (0 ∷ [])) ≡ some (record { got = f.0; rest = 0 ∷ [] }) = fields-grow r (0 ∷ []) (record { got = f.0; rest = [] }) f.1 in
    let n : 2 ≤ length r = leb-true 2 (length r) (and_left _ _ (and_left _ _ h)) in
    let a : 3 ≤ length (r ++ (0 ∷ [])) = omega (arith, length-append r (0 ∷ [])) in
    let b : length (r ++ (0 ∷ [])) ≤ 255 = omega (arith, length-append r (0 ∷ [])) in
    and_both _ _ (and_both _ _ (le-leb 3 (length (r ++ (0 ∷ []))) a) (le-leb (length (r ++ (0 ∷ []))) 255 b))
    (ap (λ (o : Option (Read Bones)). is_some (ended o)) (then-reads fields (λ _. bones) (r ++ (0 ∷ [])) g no-bones))
