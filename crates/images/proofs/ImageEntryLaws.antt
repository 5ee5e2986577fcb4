-- An entry of an image at a place: what each way out of its readers says.
-- Assumes nothing.
use Prim.Native.Nat.{ℕ, ◌+◌, ◌-◌, ◌≤◌, ◌<◌}
use native.Mathlib.Omega.{arith}
use mathlib.Core.Path.{◌≡◌, refl, sym, ◌∙◌, ap}
use mathlib.Core.Bool.{Bool, true, false, false≢true}
use mathlib.Core.List.{[]}
use mathlib.Core.Option.{none, some}
use mathlib.Core.Option as maths
use Rattle.std.specs.Prelude.{Option, Some, None, Result, Err}
use Rattle.std.specs.Option.{unwrap_or}
use lib.ListN.{length, get_or, drop, length-drop}
use lib.Seq.{length-take-le}
use lib.Dec.{ltb, leb}
use borrow.Author.Tests.{ltb-true, ltb-false, leb-true}
use Rattle.forms.specs.Bytes.{Bytes, bytes_at}
use Rattle.forms.specs.Key.{Key}
use Rattle.forms.specs.Readers.{Read, Reader, when, read_on, ◌>>=◌, just, byte, stretch, piece, is_some}
use Rattle.forms.specs.Numbers.{number_of}
use Rattle.forms.proofs.ReaderLaws.{after, byte-none, byte_at, stretch-at}
use Rattle.rules.specs.declared.records.Kind.{Kind}
use Rattle.forms.specs.Places.{Found, IsNumber, PartIn, IsPart, PartAt, part_of}
use Rattle.forms.specs.declared.part.Part.{Part}
use Rattle.images.specs.Entries.{Raw, End, kind_from, has_piece, has_tail, or_else, tail_from, no_end, entry_from, raw_or, raw_at, PieceIs, PieceAt, TailIs, TailAt, raw_of, EntryIs, EntryAt, Stood}
use Rattle.images.specs.declared.entries.Section.{Section}
use Rattle.images.specs.declared.entries.Tail.{Tail}
use Rattle.images.specs.declared.entries.ImageEntry.{ImageEntry}

-- ---- one reader, then another that knows what was read

module _ {A B : Type 0} (r : Reader A) (f : A → Reader B) {t : Bytes} where
  pub on_none : r t ≡ none → (r >>= f) t ≡ none
  unfolding ◌>>=◌ read_on
  on_none e = after f e

  pub on_some : {x : A} {u : Bytes} → r t ≡ some (record { got = x; rest = u }) → (r >>= f) t ≡ f x u
  unfolding ◌>>=◌ read_on
  on_some e = after f e

-- ---- a piece begins after its length byte

abbrev got_in : maths.Option (Read Bytes) → Bytes
got_in none = []
got_in (some q) = q.got

abbrev rest_in : maths.Option (Read Bytes) → Bytes
rest_in none = []
rest_in (some q) = q.rest

pub part-from : {s : Bytes} {at : ℕ} {k : Part} → IsPart s at k → k.at ≡ at + 1
unfolding piece
part-from {s} {at} {k} v = go (ltb at (length s)) refl
  where
    read : piece (drop at s) ≡ some (record { got = bytes_at s k.at k.len; rest = drop (k.at + k.len) s })
    read = v.read.is

    length_is : length (bytes_at s k.at k.len) ≡ k.len
    length_is = length-take-le k.len (drop k.at s) (omega (arith, length-drop k.at s, v.inside.within))

    same : at < length s → (n : ℕ) (b : Bool) → leb n (length s - (at + 1)) ≡ b → when {A = Read Bytes} b (record { got = bytes_at s (at + 1) n; rest = drop (at + 1 + n) s }) ≡ some (record { got = bytes_at s k.at k.len; rest = drop (k.at + k.len) s }) → k.at ≡ at + 1
    same l n true h e =
        let p : bytes_at s (at + 1) n ≡ bytes_at s k.at k.len = ap got_in e in
        let q : drop (at + 1 + n) s ≡ drop (k.at + k.len) s = ap rest_in e in
        let m : n ≤ length s - (at + 1) = leb-true n (length s - (at + 1)) h in
        let a : n ≤ length (drop (at + 1) s) = omega (arith, length-drop (at + 1) s) in
        omega (arith, length-take-le n (drop (at + 1) s) a, ap length p, length_is, ap length q, length-drop (at + 1 + n) s, length-drop (k.at + k.len) s, v.inside.within)
    same l n false h e = let z : ◌≡◌ {A = ℕ} 0 1 = cc in absurd (omega arith)

    go : (b : Bool) → ltb at (length s) ≡ b → k.at ≡ at + 1
    go true l = same (ltb-true at (length s) l) (get_or s at 0) _ refl (sym (stretch-at s (at + 1) (get_or s at 0)) ∙ sym (on_some byte stretch (byte_at s at (ltb-true at (length s) l))) ∙ read)
    go false l =
        let e : piece (drop at s) ≡ none = on_none byte stretch (byte-none s at (ltb-false at (length s) l)) in
        absurd (false≢true (ap is_some (sym e ∙ read)))

-- ---- the piece of a section

module _ (section : Section) (s : Bytes) (at : ℕ) where
  pub piece-has : (o : Option Part) → has_piece section ≡ true → PartAt s at o → PieceAt section s at o
  piece-has None e v = ap (λ (b : Bool). or_else b piece [] (drop at s)) e ∙ v
  piece-has (Some k) e v = let f : k.at ≡ at + 1 = part-from v in record {
    read = record { is = ap (λ (b : Bool). or_else b piece [] (drop at s)) e ∙ v.read.is; within = v.read.within };
    inside = v.inside;
    low = omega arith;
    high = omega arith;
  }

  pub piece-none : has_piece section ≡ false → at ≤ length s → PieceAt section s at (Some (record { at = at; len = 0 }))
  unfolding just
  piece-none e h = let z : at ≡ at + 0 = omega arith in record {
    read = record { is = ap (λ (b : Bool). or_else b piece [] (drop at s)) e ∙ ap (λ (n : ℕ). some (record { got = []; rest = drop n s })) z; within = omega arith };
    inside = record { within = omega arith; small = omega arith };
    low = omega arith;
    high = omega arith;
  }

-- ---- the end of a section

abbrev kind_on : ℕ → ℕ → ℕ → Reader End
kind_on b c n = just (record { second = b; third = c; kind = kind_from n })

abbrev third_on : ℕ → ℕ → Reader End
third_on b c = byte >>= kind_on b c

abbrev second_on : ℕ → Reader End
second_on b = number_of 8 >>= third_on b

module _ (s : Bytes) (at : ℕ) where
  pub tail_none : at ≤ length s → TailAt false s at (Some (record { second = 0; third = 0; kind = Err 0; next = at }))
  unfolding just
  tail_none h = record { read = record { is = refl; within = h }; low = omega arith; high = omega arith }

  pub tail-no-two : number_of 8 (drop at s) ≡ none → TailAt true s at None
  unfolding tail_from
  tail-no-two e = on_none (number_of 8) second_on e

  module _ {b : ℕ} (bv : IsNumber 8 s at b) where
    begun : tail_from (drop at s) ≡ second_on b (drop (at + 8) s)
    unfolding tail_from
    begun = on_some (number_of 8) second_on bv.read.is

    pub tail-no-three : number_of 8 (drop (at + 8) s) ≡ none → TailAt true s at None
    tail-no-three e = begun ∙ on_none (number_of 8) (third_on b) e

    module _ {c : ℕ} (cv : IsNumber 8 s (at + 8) c) where
      goes : tail_from (drop at s) ≡ third_on b c (drop (at + 16) s)
      goes =
          let e : at + 8 + 8 ≡ at + 16 = omega arith in
          begun ∙ on_some (number_of 8) (third_on b) cv.read.is ∙ ap (λ (i : ℕ). third_on b c (drop i s)) e

      pub tail-no-kind : length s ≤ at + 16 → TailAt true s at None
      tail-no-kind h = goes ∙ on_none byte (kind_on b c) (byte-none s (at + 16) h)

      pub tail-good : {k : Result Kind ℕ} → k ≡ kind_from (get_or s (at + 16) 0) → at + 16 < length s → TailAt true s at (Some (record { second = b; third = c; kind = k; next = at + 16 + 1 }))
      unfolding just
      tail-good q h = record {
        read = record {
          is = goes ∙ on_some byte (kind_on b c) (byte_at s (at + 16) h) ∙ ap (λ (i : Result Kind ℕ). some (record { got = record { second = b; third = c; kind = i }; rest = drop (at + 16 + 1) s })) (sym q);
          within = omega arith;
        };
        low = omega arith;
        high = omega arith;
      }

-- ---- the entry

abbrev end_on : Key → ℕ → Bytes → End → Reader Raw
end_on k n p t = just (record { key = k; first = n; piece = p; second = t.second; third = t.third; kind = t.kind })

abbrev pub empty : ImageEntry
empty = record { key = record { at = 0; len = 0 }; first = 0; piece = record { at = 0; len = 0 }; second = 0; third = 0; kind = Err 0; next = 0 }

nowhere : (s : Bytes) → PartIn s (record { at = 0; len = 0 })
nowhere s = record { within = omega arith; small = omega arith }

module _ (section : Section) where
  abbrev piece_on : Key → ℕ → Bytes → Reader Raw
  piece_on k n p = or_else (has_tail section) tail_from no_end >>= end_on k n p

  abbrev one_on : Key → ℕ → Reader Raw
  one_on k n = or_else (has_piece section) piece [] >>= piece_on k n

  abbrev key_on : Key → Reader Raw
  key_on k = number_of 8 >>= one_on k

  module _ (s : Bytes) (at : ℕ) where
    pub entry-no-key : piece (drop at s) ≡ none → EntryAt section s at None
    unfolding entry_from
    entry-no-key e = on_none piece key_on e

    module _ {k : Part} (kv : IsPart s at k) where
      abbrev key : Key
      key = part_of s k

      keyed : entry_from section (drop at s) ≡ key_on key (drop (k.at + k.len) s)
      unfolding entry_from
      keyed = on_some piece key_on kv.read.is

      pub entry-no-one : number_of 8 (drop (k.at + k.len) s) ≡ none → EntryAt section s at None
      entry-no-one e = keyed ∙ on_none (number_of 8) (one_on key) e

      module _ {n : ℕ} (nv : IsNumber 8 s (k.at + k.len) n) where
        numbered : entry_from section (drop at s) ≡ one_on key n (drop (k.at + k.len + 8) s)
        numbered = keyed ∙ on_some (number_of 8) (one_on key) nv.read.is

        pub entry-no-piece : or_else (has_piece section) piece [] (drop (k.at + k.len + 8) s) ≡ none → EntryAt section s at None
        entry-no-piece e = numbered ∙ on_none (or_else (has_piece section) piece []) (piece_on key n) e

        module _ {p : Part} (pv : PieceIs section s (k.at + k.len + 8) p) where
          pieced : entry_from section (drop at s) ≡ piece_on key n (part_of s p) (drop (p.at + p.len) s)
          pieced = numbered ∙ on_some (or_else (has_piece section) piece []) (piece_on key n) pv.read.is

          pub entry-no-tail : or_else (has_tail section) tail_from no_end (drop (p.at + p.len) s) ≡ none → EntryAt section s at None
          entry-no-tail e = pieced ∙ on_none (or_else (has_tail section) tail_from no_end) (end_on key n (part_of s p)) e

          module _ {t : Tail} (tv : TailIs (has_tail section) s (p.at + p.len) t) where
            abbrev whole : ImageEntry
            whole = record { key = k; first = n; piece = p; second = t.second; third = t.third; kind = t.kind; next = t.next }

            pub entry-good : EntryAt section s at (Some whole)
            unfolding raw_at just
            entry-good =
                let e : entry_from section (drop at s) ≡ some (record { got = raw_of s whole; rest = drop t.next s }) = pieced ∙ on_some (or_else (has_tail section) tail_from no_end) (end_on key n (part_of s p)) tv.read.is in
                let f : k.at ≡ at + 1 = part-from kv in
                record {
                  read = record { is = e; within = tv.read.within };
                  raw = sym (ap raw_or e);
                  lies = record { key = kv.inside; piece = pv.inside };
                  low = omega (arith, pv.low, tv.low);
                  high = omega (arith, pv.high, tv.high);
                }

    -- any place has an entry
    pub stood-by : (o : Option ImageEntry) → EntryAt section s at o → Stood section s at (unwrap_or o empty)
    unfolding raw_at
    stood-by None v = record { raw = sym (ap raw_or v); lies = record { key = nowhere s; piece = nowhere s } }
    stood-by (Some e) v = record { raw = v.raw; lies = v.lies }
