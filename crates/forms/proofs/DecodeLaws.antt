-- A batch: its count, what each way out of `decode` says of it, and what a call takes from a batch that was decoded.
-- Assumes nothing.
use Prim.Native.Nat.{ℕ, ◌-◌, ◌≤◌, ◌<◌}
use native.Mathlib.Omega.{arith}
use mathlib.Core.Path.{◌≡◌, refl, sym, ◌∙◌, ap, subst}
use mathlib.Core.Bool.{Bool, true, false, ◌&&◌}
use mathlib.Core.List.{List, [], ◌∷◌, map}
use mathlib.Core.Option.{Option, none, some}
use lib.ListN.{length, take, drop}
use borrow.Author.Tests.{le-leb, lt-leb}
use Rattle.std.specs.Prelude.{Option as Maybe}
use Rattle.forms.specs.Bytes.{Bytes, lt_bytes}
use Rattle.forms.specs.Key.{Key}
use Rattle.forms.specs.Readers.{Read, Reader, read_on, ◌>>=◌, when, up_to, times, section, ended, whole}
use Rattle.forms.specs.Numbers.{number, number_of}
use Rattle.forms.specs.Batch.{key_inside, above, ascend, if_ascend, batch_of, mutations, keys}
use Rattle.forms.specs.Places.{IsNumber, key_at, mutation_of, entries, AreEntries, Decoded, InForm}
use Rattle.forms.specs.declared.batch.Entry.{Entry}
use Rattle.forms.specs.declared.entries.Entries.{Entries}
use Rattle.forms.proofs.ReaderLaws.{up_to-none, up_to-many, up_to-good}
use Rattle.forms.proofs.NumberLaws.{number_is, number-value, number_short}

-- ---- the count

abbrev count_of : Bytes → ℕ
count_of s = number (take 2 s)

module _ {A : Type 0} (key : A → Key) (r : Reader A) (s : Bytes) where
  counted : {o : Option (Read ℕ)} → up_to 32 (number_of 2) s ≡ o → batch_of key r s ≡ if_ascend key (ended (read_on o (λ n. times n r)))
  unfolding batch_of whole section ◌>>=◌
  counted e = ap (λ (o : Option (Read ℕ)). if_ascend key (ended (read_on o (λ n. times n r)))) e

  two : 2 ≤ length s → number_of 2 s ≡ some (record { got = count_of s; rest = drop 2 s })
  two h = number_is 2 s 0 ∙ rw (le-leb 2 (length s - 0) (omega arith))

  batch-short : length s < 2 → batch_of key r s ≡ none
  unfolding if_ascend read_on ended
  batch-short h = counted (up_to-none 32 (number_of 2) s (number_is 2 s 0 ∙ rw (lt-leb 2 (length s - 0) (omega arith))))

  batch-many : 2 ≤ length s → 32 < count_of s → batch_of key r s ≡ none
  unfolding if_ascend read_on ended
  batch-many h l = counted (up_to-many 32 (number_of 2) s (two h) l)

  pub batch-few : 2 ≤ length s → count_of s ≤ 32 → batch_of key r s ≡ if_ascend key (entries r (count_of s) (drop 2 s))
  unfolding read_on entries whole
  batch-few h l = counted (up_to-good 32 (number_of 2) s (two h) l)

-- ---- the ways out of `decode`

module _ {A : Type 0} (key : A → Key) (r : Reader A) (s : Bytes) where
  pub decode_short : number_of 2 s ≡ none → batch_of key r s ≡ none
  decode_short e = batch-short key r s (omega (arith, number_short 2 s 0 e))

  module _ {n : ℕ} (v : IsNumber 2 s 0 n) where
    pub decode-long : 2 ≤ length s
    decode-long = v.read.within

    pub decode_many : 32 < n → batch_of key r s ≡ none
    decode_many h = batch-many key r s decode-long (omega (arith, number-value v))

    pub decode_few : n ≤ 32 → batch_of key r s ≡ if_ascend key (entries r n (drop 2 s))
    decode_few h = batch-few key r s decode-long (omega (arith, number-value v)) ∙ sym (ap (λ (m : ℕ). if_ascend key (entries r m (drop 2 s))) (number-value v))

-- the same entries, said otherwise
pub decoded_as : {A : Type 0} (item : Entry → A) (s : Bytes) {o o' : Option (List A)} (r : Maybe Entries) → o ≡ o' → Decoded item s o' r → Decoded item s o r
decoded_as {A} item s r e d = subst (λ (o : Option (List A)). Decoded item s o r) (sym e) d

-- "Keys strictly ascend"
asc-some : {A : Type 0} (key : A → Key) (o : Option (List A)) (xs : List A) → if_ascend key o ≡ some xs → ascend key xs ≡ true
unfolding if_ascend
asc-some key none xs e = cc
asc-some {A = A} key (some ys) xs e = go (ascend key ys) refl e
  where
    go : (b : Bool) → ascend key ys ≡ b → when b ys ≡ some xs → ascend key xs ≡ true
    go true p q =
        let same : ys ≡ xs = cc in
        ap (ascend key) (sym same) ∙ p
    go false p q = cc

-- of the entries' keys
module _ {A : Type 0} (key : A → Key) where
  above_map : (k : Key) (xs : List A) → above (λ (k : Key). k) k (map key xs) ≡ above key k xs
  unfolding above
  above_map k [] = refl
  above_map k (x ∷ xs) = ap (λ (b : Bool). lt_bytes k (key x) && b) (above_map (key x) xs)

  pub ascend-map : (xs : List A) → ascend (λ (k : Key). k) (map key xs) ≡ ascend key xs
  unfolding ascend
  ascend-map [] = refl
  ascend-map (x ∷ xs) = above_map (key x) xs

-- the mutations ascend where their keys do
pub mutations-by-keys : (s : Bytes) (es : List Entry) → ascend key_inside (map (mutation_of s) es) ≡ ascend (λ (k : Key). k) (map (key_at s) es)
mutations-by-keys s es = sym (ascend-map key_inside (map (mutation_of s) es)) ∙ ap (ascend (λ (k : Key). k)) (go es)
  where
    go : (l : List Entry) → map key_inside (map (mutation_of s) l) ≡ map (key_at s) l
    go [] = refl
    go (e ∷ l) = ap (λ (ks : List Key). key_at s e ∷ ks) (go l)

-- the entries of a batch in form
module _ {s : Bytes} {es : List Entry} where
  pub keys-in-form : AreEntries (key_at s) s (keys s) es → InForm s es
  unfolding keys batch_of
  keys-in-form d = record { listed = d.listed; ascends = asc-some (λ k. k) _ _ d.is }

  pub mutations-in-form : AreEntries (mutation_of s) s (mutations s) es → InForm s es
  unfolding mutations batch_of
  mutations-in-form d = record { listed = d.listed; ascends = sym (mutations-by-keys s es) ∙ asc-some key_inside _ _ d.is }
