-- The walk over a section: what is listed and what is left to come, one entry more, and each way out.
-- Assumes nothing.
use Prim.Native.Nat.{ℕ, suc, ◌+◌, ◌-◌, ◌*◌, ◌≤◌, ◌<◌}
use native.Mathlib.Omega.{arith}
use native.Mathlib.Numerals.{add-one}
use mathlib.Core.Path.{◌≡◌, refl, sym, ◌∙◌, ap}
use mathlib.Core.Logic.{inl, inr}
use mathlib.Core.Bool.{Bool, true, false, not}
use mathlib.Core.List.{List, [], ◌∷◌, ◌++◌, map, map-append, append-nil}
use mathlib.Core.Option.{Option, none, some}
use Rattle.std.specs.Prelude.{Some, None}
use lib.ListN.{length, take, drop, set, length-set, length-drop}
use lib.Seq.{length-take-le, take-suc-set, append_snoc}
use Rattle.seqs.specs.Tables.{All}
use Rattle.seqs.proofs.Alls.{all_none, all_cons, all_append, all-weaken}
use Rattle.forms.specs.Bytes.{Bytes}
use Rattle.forms.specs.Row.{Row}
use Rattle.forms.specs.Readers as readers
use Rattle.forms.specs.Numbers.{number_of}
use Rattle.forms.specs.Places.{Found, IsNumber, PartIn, part_of}
use Rattle.forms.specs.declared.part.Part.{Part}
use Rattle.forms.proofs.ReaderLaws.{read_more, times-bad, times_more}
use Rattle.rules.specs.Room.{sum_of}
use Rattle.images.specs.Entries.{Raw, raw_of, raw_at}
use Rattle.images.specs.declared.entries.Section.{Section}
use Rattle.images.specs.declared.entries.ImageEntry.{ImageEntry}
use Rattle.images.proofs.ImageEntryLaws.{on_none, on_some}
use Rattle.images.specs.Good.{good_from, GoodIs}
use Rattle.images.specs.Sections.{Enough, Stands, raw_bytes, SpanAt}

-- the entries listed stand before those to come
abbrev pub before : {A : Type 0} → List A → Option (readers.Read (List A)) → Option (readers.Read (List A))
before l none = none
before l (some q) = some (record { got = l ++ q.got; rest = q.rest })

before_more : {A : Type 0} (l : List A) (x : A) (o : Option (readers.Read (List A))) → before l (read_more x o) ≡ before (l ++ (x ∷ [])) o
before_more l x none = refl
before_more {A = A} l x (some q) = ap (λ (g : List A). some (record { got = g; rest = q.rest })) (sym (append_snoc l x q.got))

sum-append : {A : Type 0} (f : A → ℕ) (xs ys : List A) → sum_of f (xs ++ ys) ≡ sum_of f xs + sum_of f ys
unfolding sum_of
sum-append f [] ys = omega arith
sum-append f (x ∷ xs) ys = omega (arith, sum-append f xs ys)

part_length : (s : Bytes) (p : Part) → PartIn s p → length (part_of s p) ≡ p.len
part_length s p h = length-take-le p.len (drop p.at s) (omega (arith, length-drop p.at s, h.within))

module _ (form : Row → Bool) (section : Section) (t : ℕ) where
  abbrev good : readers.Reader Raw
  good = good_from form section t

  abbrev raws : Bytes → ℕ → List ℕ → List Raw
  raws s k places = map (raw_at section s) (take k places)

  pub record Listing (s : Bytes) (first count end k bytes : ℕ) (old places : List ℕ) : Type 0 where
    pub low : k ≤ count
    pub count_fits : count ≤ 65535
    pub is : readers.times count good (drop first s) ≡ before (raws s k places) (readers.times (count - k) good (drop end s))
    pub each : All (Stands form section t s first end) (take k places)
    pub length_is : length places ≡ length old
    pub fit : k ≤ length places
    pub bytes_is : bytes ≡ sum_of raw_bytes (raws s k places)
    pub bytes_few : bytes ≤ 510 * k
    pub end_in : end ≤ length s
    pub end-far : first + 9 * k ≤ end
    pub end_near : end ≤ first + 537 * k

  before-none : (o : Option (readers.Read (List Raw))) → o ≡ before [] o
  before-none none = refl
  before-none (some q) = refl

  abbrev entries_of : ℕ → readers.Reader (List Raw)
  entries_of n = readers.times n good

  pub span-no-count : (s : Bytes) (at : ℕ) (places : List ℕ) → number_of 2 (drop at s) ≡ none → SpanAt form section t s at None places
  unfolding readers.section
  span-no-count s at places h = on_none (number_of 2) entries_of h

  module _ {s : Bytes} {at n : ℕ} (v : IsNumber 2 s at n) where
    counted : readers.section (number_of 2) good (drop at s) ≡ readers.times n good (drop (at + 2) s)
    unfolding readers.section
    counted = on_some (number_of 2) entries_of v.read.is

    pub listing_start : (old : List ℕ) → Listing s (at + 2) n (at + 2) 0 0 old old
    unfolding sum_of
    listing_start old =
        let z : n ≡ n - 0 = omega arith in
        record {
          low = omega arith;
          count_fits = omega (arith, v.small);
          is = ap (λ (m : ℕ). readers.times m good (drop (at + 2) s)) z ∙ before-none (readers.times (n - 0) good (drop (at + 2) s));
          each = all_none _;
          length_is = refl;
          fit = omega arith;
          bytes_is = refl;
          bytes_few = omega arith;
          end_in = v.read.within;
          end-far = omega arith;
          end_near = omega arith;
        }

    module _ {end k bytes : ℕ} {old places : List ℕ} (w : Listing s (at + 2) n end k bytes old places) where
      ahead : k < n → n - k ≡ suc (n - (k + 1))
      ahead more = omega arith

      pub listing-bad : (now : List ℕ) → k < n → good (drop end s) ≡ none → SpanAt form section t s at None now
      listing-bad now more h =
          counted ∙ w.is
          ∙ ap (before (raws s k places)) (ap (λ (m : ℕ). readers.times m good (drop end s)) (ahead more) ∙ times-bad good (n - (k + 1)) (drop end s) h)

      module _ {e : ImageEntry} (q : GoodIs form section t s end e) (more : k < n) where
        grown : end + 9 ≤ e.next
        grown = omega (arith, q.entry.low)

        pub listing-room : Enough s (length old) → k < length places
        listing-room (inl h) = omega (arith, w.length_is, grown, q.read.within, w.end-far)
        listing-room (inr h) = omega (arith, w.length_is, w.count_fits)

        module _ (room : k < length places) where
          listed : raws s (k + 1) (set places k end) ≡ raws s k places ++ (raw_of s e ∷ [])
          listed =
              rw add-one
              (ap (map (raw_at section s)) (take-suc-set places k end room) ∙ map-append (raw_at section s) (take k places) (end ∷ []) ∙ ap (λ (x : Raw). raws s k places ++ (x ∷ [])) (sym q.entry.raw))

          size : raw_bytes (raw_of s e) ≡ e.key.len + e.piece.len
          size = omega (arith, part_length s e.key q.entry.lies.key, part_length s e.piece q.entry.lies.piece)

          wider : (p : ℕ) → Stands form section t s (at + 2) end p → Stands form section t s (at + 2) e.next p
          wider p h = let g = grown in record { next = h.next; read = h.read; low = h.low; high = omega (arith, h.high) }

          here : Stands form section t s (at + 2) e.next end
          here =
              let g = grown in
              record {
                next = e.next;
                read = record { is = q.read.is ∙ ap (λ (x : Raw). some (record { got = x; rest = drop e.next s })) q.entry.raw; within = q.read.within };
                low = omega (arith, w.end-far);
                high = omega arith;
              }

          pub listing-more : Listing s (at + 2) n e.next (k + 1) (bytes + (e.key.len + e.piece.len)) old (set places k end)
          unfolding sum_of
          listing-more = record {
            low = omega arith;
            count_fits = w.count_fits;
            is =
                w.is ∙ ap (before (raws s k places)) (ap (λ (m : ℕ). readers.times m good (drop end s)) (ahead more) ∙ times_more good (n - (k + 1)) (drop end s) q.read.is)
                ∙ before_more (raws s k places) (raw_of s e) (readers.times (n - (k + 1)) good (drop e.next s))
                ∙ ap (λ (l : List Raw). before l (readers.times (n - (k + 1)) good (drop e.next s))) (sym listed);
            each =
                rw (add-one, take-suc-set places k end room)
                (all_append (Stands form section t s (at + 2) e.next) (take k places) (end ∷ []) (all-weaken (Stands form section t s (at + 2) end) (Stands form section t s (at + 2) e.next) (take k places) wider w.each)
                (all_cons (Stands form section t s (at + 2) e.next) end [] here (all_none _)));
            length_is = length-set places k end ∙ w.length_is;
            fit = omega (arith, length-set places k end);
            bytes_is = omega (arith, w.bytes_is, ap (sum_of raw_bytes) listed, sum-append raw_bytes (raws s k places) (raw_of s e ∷ []), size);
            bytes_few = omega (arith, w.bytes_few, q.entry.lies.key.small, q.entry.lies.piece.small);
            end_in = q.read.within;
            end-far = omega (arith, w.end-far, grown);
            end_near = omega (arith, w.end_near, q.entry.high, q.entry.lies.key.small, q.entry.lies.piece.small);
          }

      pub listing-end : n ≤ k → SpanAt form section t s at (Some (record { count = n; end = end; bytes = bytes })) places
      unfolding readers.times readers.just
      listing-end h =
          let c : k ≡ n = omega (arith, w.low) in
          let z : n - k ≡ 0 = omega arith in
          record {
            read = record {
              is =
                  counted ∙ w.is ∙ ap (λ (m : ℕ). before (raws s k places) (readers.times m good (drop end s))) z
                  ∙ ap (λ (l : List Raw). some (record { got = l; rest = drop end s })) (append-nil (raws s k places))
                  ∙ ap (λ (m : ℕ). some (record { got = raws s m places; rest = drop end s })) c;
              within = w.end_in;
            };
            each = all-weaken (Stands form section t s (at + 2) end) (Stands form section t s at end) (take n places) wider (rw c at w.each);
            count_fits = omega (arith, w.fit);
            bytes_is = w.bytes_is ∙ ap (λ (m : ℕ). sum_of raw_bytes (raws s m places)) c;
            bytes_few = omega (arith, w.bytes_few, w.count_fits);
            end_near = omega (arith, w.end_near, w.count_fits);
          }
        where
          wider : (p : ℕ) → Stands form section t s (at + 2) end p → Stands form section t s at end p
          wider p h = record { next = h.next; read = h.read; low = omega (arith, h.low); high = h.high }
