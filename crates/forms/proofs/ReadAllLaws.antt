-- The walk over a batch that judges and decodes it: what was read, what is still to be read, one entry more, and each way out.
-- Assumes nothing.
use Prim.Native.Nat.{ℕ, suc, ◌+◌, ◌-◌, ◌≤◌, ◌<◌}
use native.Mathlib.Omega.{arith}
use native.Mathlib.Nat.{sub-zero}
use mathlib.Core.Path.{◌≡◌, refl, sym, ◌∙◌, ap, ap₂}
use mathlib.Core.Bool.{Bool, true, false, ◌&&◌}
use mathlib.Core.List.{List, [], ◌∷◌, ◌++◌, map, append-nil}
use mathlib.Core.Option.{Option, none, some}
use lib.ListN.{length, drop, length-append}
use lib.Seq.{append_snoc}
use lib.Dec.{eqb}
use borrow.Author.Tests.{eq-eqb, ne_eqb}
use Rattle.std.specs.Prelude.{None, Some}
use Rattle.std.specs.Prelude.{Option as Maybe}
use Rattle.std.proofs.lemmas.List.{map-append}
use Rattle.seqs.specs.Tables.{All}
use Rattle.seqs.proofs.Alls.{all_none, all_cons, all_append}
use Rattle.forms.specs.Bytes.{Bytes, lt_bytes}
use Rattle.forms.specs.Key.{Key}
use Rattle.forms.specs.Readers.{Read, Reader, just, when, times, ended, whole}
use Rattle.forms.specs.Batch.{above, ascend, if_ascend}
use Rattle.forms.specs.Places.{part_of, given_part, GivenIn, key_at, EntryIn, IsStep, Item, item_at, item_key, item_of, entries, AreEntries, above_head, above_all}
use Rattle.forms.specs.declared.part.Part.{Part}
use Rattle.forms.specs.declared.batch.Entry.{Entry}
use Rattle.forms.specs.declared.batch.Step.{Step}
use Rattle.forms.proofs.ReaderLaws.{ended_at, read_more, times-bad, times_more}

-- ---- one entry more

abbrev pub with_head : {A : Type 0} → A → Option (List A) → Option (List A)
with_head x none = none
with_head x (some xs) = some (x ∷ xs)

module _ {A : Type 0} (r : Reader A) (n : ℕ) (s : Bytes) where
  pub entries-bad : r s ≡ none → entries r (suc n) s ≡ none
  unfolding entries whole ended
  entries-bad e = ap ended (times-bad r n s e)

  pub entries-more : {x : A} {t : Bytes} → r s ≡ some (record { got = x; rest = t }) → entries r (suc n) s ≡ with_head x (entries r n t)
  unfolding entries whole ended
  entries-more {x} {t} e = ap ended (times_more r n s e) ∙ go (times n r t)
    where
      close : (xs : List A) (l : Bytes) → ended (some (record { got = x ∷ xs; rest = l })) ≡ with_head x (ended (some (record { got = xs; rest = l })))
      close xs [] = refl
      close xs (y ∷ l) = refl

      go : (o : Option (Read (List A))) → ended (read_more x o) ≡ with_head x (ended o)
      go none = refl
      go (some q) = close q.got q.rest

-- what was read, and what is still to be read, after the key before
abbrev pub onto : {A : Type 0} → (A → Key) → List A → Option Key → Option (List A) → Option (List A)
onto key done p none = none
onto key done p (some xs) = when (above_all key p xs) (done ++ xs)

abbrev only_if : {A : Type 0} → Bool → Option A → Option A
only_if true o = o
only_if false o = none

onto-with : {A : Type 0} (key : A → Key) (done : List A) (p : Option Key) (x : A) (o : Option (List A)) → onto key done p (with_head x o) ≡ only_if (above_head p (key x)) (onto key (done ++ (x ∷ [])) (some (key x)) o)
unfolding ascend above
onto-with key done none x none = refl
onto-with {A = A} key done none x (some xs) = ap (λ (l : List A). when (above key (key x) xs) l) (sym (append_snoc done x xs))
onto-with {A = A} key done (some k) x none = go (lt_bytes k (key x))
  where
    go : (b : Bool) → ◌≡◌ {A = Option (List A)} none (only_if b none)
    go true = refl
    go false = refl
onto-with {A = A} key done (some k) x (some xs) = go (lt_bytes k (key x))
  where
    go : (b : Bool) → when (b && above key (key x) xs) (done ++ x ∷ xs) ≡ only_if b (when (above key (key x) xs) ((done ++ (x ∷ [])) ++ xs))
    go true = ap (λ (l : List A). when (above key (key x) xs) l) (sym (append_snoc done x xs))
    go false = refl

onto-none : {A : Type 0} (key : A → Key) (o : Option (List A)) → onto key [] none o ≡ if_ascend key o
unfolding if_ascend
onto-none key none = refl
onto-none key (some xs) = refl

-- ---- the loop of `read_all`: i entries were read, and the others are still to be read from `at` on, after the key in `last`

item-key : (rows : Bool) (s : Bytes) (e : Entry) → item_key rows (item_of rows s e) ≡ key_at s e
item-key true s e = refl
item-key false s e = refl

pub record Reading (rows : Bool) (s : Bytes) (count at i : ℕ) (last : Maybe Part) (es : List Entry) : Type 0 where
  pub within : at ≤ length s
  pub low : i ≤ count
  pub long : length es ≡ i
  pub count_fits : count ≤ 32
  pub last_in : GivenIn s last
  pub inside : All (EntryIn s) es
  pub is : if_ascend (item_key rows) (entries (item_at rows) count (drop 2 s)) ≡ onto (item_key rows) (map (item_of rows s) es) (given_part s last) (entries (item_at rows) (count - i) (drop at s))

module _ (rows : Bool) (s : Bytes) (count : ℕ) where
  abbrev whole_is : Option (List (Item rows))
  whole_is = if_ascend (item_key rows) (entries (item_at rows) count (drop 2 s))

  pub reading-start : 2 ≤ length s → count ≤ 32 → Reading rows s count 2 0 None []
  reading-start h l = record {
    within = h;
    low = omega arith;
    long = refl;
    count_fits = l;
    last_in = tt;
    inside = all_none (EntryIn s);
    is = sym (onto-none (item_key rows) (entries (item_at rows) count (drop 2 s))) ∙ ap (λ (n : ℕ). onto (item_key rows) [] none (entries (item_at rows) n (drop 2 s))) (sym (sub-zero count));
  }

  module _ {at i : ℕ} {last : Maybe Part} {es : List Entry} (v : Reading rows s count at i last es) where
    abbrev done : List (Item rows)
    done = map (item_of rows s) es

    module _ (more : i < count) where
      here : whole_is ≡ onto (item_key rows) done (given_part s last) (entries (item_at rows) (suc (count - (i + 1))) (drop at s))
      here =
          let e : count - i ≡ suc (count - (i + 1)) = omega arith in
          v.is ∙ ap (λ (n : ℕ). onto (item_key rows) done (given_part s last) (entries (item_at rows) n (drop at s))) e

      pub reading-bad : item_at rows (drop at s) ≡ none → whole_is ≡ none
      reading-bad h = here ∙ ap (onto (item_key rows) done (given_part s last)) (entries-bad (item_at rows) (count - (i + 1)) (drop at s) h)

      module _ {t : Step} (q : IsStep (item_at rows) (item_of rows s) s at t) {f : Bool} (above : f ≡ above_head (given_part s last) (part_of s t.entry.key)) where
        abbrev x : Item rows
        x = item_of rows s t.entry

        rest : Option (List (Item rows))
        rest = onto (item_key rows) (done ++ (x ∷ [])) (some (item_key rows x)) (entries (item_at rows) (count - (i + 1)) (drop t.next s))

        walk : whole_is ≡ only_if f rest
        unfolding rest
        walk =
            here ∙ ap (onto (item_key rows) done (given_part s last)) (entries-more (item_at rows) (count - (i + 1)) (drop at s) q.read.is)
            ∙ onto-with (item_key rows) done (given_part s last) x (entries (item_at rows) (count - (i + 1)) (drop t.next s))
            ∙ ap (λ (b : Bool). only_if b rest) (ap (above_head (given_part s last)) (item-key rows s t.entry) ∙ sym above)

        pub reading-low : f ≡ false → whole_is ≡ none
        reading-low h = walk ∙ ap (λ (b : Bool). only_if b rest) h

        pub reading-more : f ≡ true → Reading rows s count t.next (i + 1) (Some t.entry.key) (es ++ (t.entry ∷ []))
        unfolding rest
        reading-more h = record {
          within = q.read.within;
          low = omega arith;
          long = length-append es (t.entry ∷ []) ∙ ap (λ (n : ℕ). n + 1) v.long;
          count_fits = v.count_fits;
          last_in = q.inside.key_in;
          inside = all_append (EntryIn s) es (t.entry ∷ []) v.inside (all_cons (EntryIn s) t.entry [] q.inside (all_none (EntryIn s)));
          is =
              walk ∙ ap (λ (b : Bool). only_if b rest) h
              ∙ ap₂ (λ (l : List (Item rows)) (k : Key). onto (item_key rows) l (some k) (entries (item_at rows) (count - (i + 1)) (drop t.next s))) (sym (map-append (item_of rows s) es (t.entry ∷ []))) (item-key rows s t.entry);
        }

    module _ (over : count ≤ i) where
      all_read : whole_is ≡ when (eqb at (length s)) done
      unfolding entries whole times just ascend above
      all_read =
          let z : count - i ≡ 0 = omega arith in
          v.is ∙ ap (λ (n : ℕ). onto (item_key rows) done (given_part s last) (entries (item_at rows) n (drop at s))) z
          ∙ ap (onto (item_key rows) done (given_part s last)) (ended_at [] s at v.within) ∙ go (eqb at (length s)) (given_part s last)
        where
          go : (b : Bool) (p : Option Key) → onto (item_key rows) done p (when b []) ≡ when b done
          go true none = ap some (append-nil done)
          go true (some k) = ap some (append-nil done)
          go false p = refl

      pub reading-over : (at ≡ length s → ⊥) → whole_is ≡ none
      reading-over n = all_read ∙ ap (λ (b : Bool). when b done) (ne_eqb at (length s) n)

      pub reading-end : at ≡ length s → AreEntries (item_of rows s) s (if_ascend (item_key rows) (entries (item_at rows) count (drop 2 s))) es
      reading-end e = record {
        is = all_read ∙ ap (λ (b : Bool). when b done) (eq-eqb at (length s) e);
        listed = record { short = omega (arith, v.long, v.low, v.count_fits); inside = v.inside };
      }
