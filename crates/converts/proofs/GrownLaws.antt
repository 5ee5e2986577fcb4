-- The rows of an old image as they are converted in turn: what is written, how long it is, one row more, and the end.
-- Assumes nothing.
use Prim.Native.Nat.{ℕ, suc, ◌+◌, ◌-◌, ◌≤◌, ◌<◌}
use native.Mathlib.Omega.{arith}
use mathlib.Core.Path.{◌≡◌, refl, sym, ap, ap₂, ◌∙◌, subst}
use mathlib.Core.Bool.{Bool, true, false, not, true≢false, false≢true}
use mathlib.Core.List.{List, [], ◌∷◌, ◌++◌, map, append_assoc}
use mathlib.Core.Option.{Option, none, some}
use lib.ListN.{length, take, drop, length-append, length-map, length-drop}
use lib.Seq.{drop-drop, length-take-le}
use lib.Dec.{eqb}
use borrow.Author.Tests.{eq-eqb}
use Rattle.seqs.proofs.Tests.{and_left, and_right}
use Rattle.forms.specs.Bytes.{Bytes, AllBytes, piece_bytes}
use Rattle.forms.specs.Readers.{Read, just, times, section}
use Rattle.forms.specs.Numbers.{number, digits, number_of}
use Rattle.forms.specs.Places.{part_of}
use Rattle.forms.specs.Writers.{Laid, PieceAsks}
use Rattle.forms.proofs.ReaderLaws.{read_more, times-bad, times_more}
use Rattle.forms.proofs.NumberLaws.{length_digits, digits_number, bytes_take}
use Rattle.forms.proofs.WriterLaws.{bytes-long, laid_as, laid_none, laid_then}
use Rattle.rules.specs.Box.{Default}
use Rattle.rules.specs.Written.{all_bytes}
use Rattle.rules.specs.Image.{Image, default_from}
use Rattle.rules.specs.Restore.{all_good}
use Rattle.rules.specs.Capture.{default_bytes, section_bytes}
use Rattle.rules.specs.Convert.{with_count, front_from, front_bytes, converted_bytes, growing}
use Rattle.laws.proofs.ImageBackLaws.{then-reads}
use Rattle.images.specs.Entries.{entry_from, raw_of, Lies, EntryIs}
use Rattle.images.specs.declared.entries.Section.TheVariants as sections
use Rattle.images.specs.declared.entries.ImageEntry.{ImageEntry}
use Rattle.images.specs.Good.{default_of}
use Rattle.images.proofs.GoodReaderLaws.{map_read, default-same}
use Rattle.converts.specs.Grown.{rows_from, grown, growable, RowAsks, DefaultAsks, RowsAsk, PutAsks}
use Rattle.converts.proofs.ReadApartLaws.{apart, Sectioned, number_read, default-long, times-read}

-- ---- the whole of what is written

pub counts-long : (ds : List Default) → length (all_bytes default_bytes (map with_count ds)) ≡ length (all_bytes default_bytes ds) + length ds
unfolding all_bytes
counts-long [] = refl
counts-long (d ∷ ds) =
    omega (arith, counts-long ds, length-append (default_bytes (with_count d)) (all_bytes default_bytes (map with_count ds)), length-append (default_bytes d) (all_bytes default_bytes ds), default-long d, default-long (with_count d), length-append d.row (0 ∷ []))

module _ {s : Bytes} {i : Image} (v : Sectioned s i) where
  pub converted-is : converted_bytes s ≡ digits 4 i.table ++ (digits 8 0 ++ (section_bytes default_bytes (map with_count i.defaults) ++ v.rest))
  unfolding converted_bytes front_bytes front_from just
  converted-is = ap front_bytes (then-reads _ _ s v.table (then-reads _ _ v.body v.defaults refl))

  pub record Counted : Type 0 where
    pub long : 6 ≤ length s
    pub table : number (take 4 s) ≡ i.table
    pub rows : rows_from s 6 (length i.defaults) ≡ some (record { got = i.defaults; rest = v.rest })
    pub size : length s ≡ 6 + (length (all_bytes default_bytes i.defaults) + length v.rest)

  pub counted : Counted
  unfolding section
  counted =
      let t = number_read 4 s _ v.table in
      let a = apart (number_of 2) (λ (n : ℕ). times n default_from) v.body _ v.defaults in
      let n = number_read 2 v.body a.0 a.1 in
      let q = times-read a.0.got a.0.rest _ a.2 in
      let l : 4 ≤ length s = t.0 in
      let m : 2 ≤ length v.body = n.0 in
      let b : length v.body ≡ length s - 4 = sym (ap length t.2) ∙ length-drop 4 s in
      let r : length a.0.rest ≡ length v.body - 2 = sym (ap length n.2) ∙ length-drop 2 v.body in
      record {
        long = omega arith;
        table = t.1;
        rows =
            ap (λ (k : ℕ). rows_from s 6 k) q.0
            ∙ ap (λ (u : Bytes). times a.0.got default_from u) (sym (drop-drop 2 4 s) ∙ ap (drop 2) t.2 ∙ n.2)
            ∙ a.2;
        size = omega (arith, q.1);
      }

  pub converted-long : length (converted_bytes s) ≡ length s + 8 + length i.defaults
  unfolding section_bytes
  converted-long =
      omega (
        arith,
        ap length converted-is,
        length-append (digits 4 i.table) (digits 8 0 ++ (section_bytes default_bytes (map with_count i.defaults) ++ v.rest)),
        length-append (digits 8 0) (section_bytes default_bytes (map with_count i.defaults) ++ v.rest),
        length-append (section_bytes default_bytes (map with_count i.defaults)) v.rest,
        length-append (digits 2 (length (map with_count i.defaults))) (all_bytes default_bytes (map with_count i.defaults)),
        length_digits 4 i.table,
        length_digits 8 0,
        length_digits 2 (length (map with_count i.defaults)),
        counts-long i.defaults,
        counted.size,
      )

  pub put-asks : (out : Bytes) → all_good growing i.defaults ≡ true → length (converted_bytes s) ≤ length out → PutAsks s (length i.defaults) out
  unfolding section_bytes
  put-asks out g r = record {
    long = counted.long;
    rows = ap growable counted.rows ∙ g;
    is =
        converted-is
        ∙ ap (λ (u : Bytes). digits 4 i.table ++ (digits 8 0 ++ u)) (append_assoc (digits 2 (length (map with_count i.defaults))) (all_bytes default_bytes (map with_count i.defaults)) v.rest)
        ∙ ap (λ (n : ℕ). digits 4 n ++ (digits 8 0 ++ (digits 2 (length (map with_count i.defaults)) ++ (all_bytes default_bytes (map with_count i.defaults) ++ v.rest)))) (sym counted.table)
        ∙ ap (λ (n : ℕ). digits 4 (number (take 4 s)) ++ (digits 8 0 ++ (digits 2 n ++ (all_bytes default_bytes (map with_count i.defaults) ++ v.rest)))) (length-map i.defaults with_count)
        ∙ ap (λ (u : Bytes). digits 4 (number (take 4 s)) ++ (digits 8 0 ++ (digits 2 (length i.defaults) ++ u))) (sym (ap grown counted.rows));
    room = r;
  }

-- ---- one row

-- "adds a zero count to each row"
pub laid-row : {row s t u w : Bytes} {at a b r n : ℕ} → n ≡ length row + 1 → Laid at 1 (n ∷ []) s a t → Laid a (length row) row t b u → Laid b 1 (0 ∷ []) u r w → Laid at (length row + 2) (piece_bytes (row ++ (0 ∷ []))) s r w
laid-row {row} {at = at} {n = n} e x y z =
    let l : length row + 2 ≡ length (piece_bytes (row ++ (0 ∷ []))) = omega (arith, length-append row (0 ∷ [])) in
    let m : n ≡ length (row ++ (0 ∷ [])) = omega (arith, length-append row (0 ∷ [])) in
    rw l (laid_as (laid_then x (laid_then y z)) (ap (λ (k : ℕ). k ∷ (row ++ (0 ∷ []))) m))

module _ (s : Bytes) (e : ImageEntry) where
  abbrev one : Default
  one = with_count (default_of (raw_of s e))

  one-long : Lies s e → length (default_bytes (with_count (default_of (raw_of s e)))) ≡ e.key.len + e.piece.len + 11
  one-long v =
      omega (arith, default-long one, length-append (part_of s e.piece) (0 ∷ []), bytes-long s e.key.at e.key.len v.key.within, bytes-long s e.piece.at e.piece.len v.piece.within)

module _ {s : Bytes} {e : ImageEntry} {at : ℕ} {out : Bytes} (v : DefaultAsks s e at out) {k : Bytes} (ke : k ≡ part_of s e.key) where
  module _ {p : ℕ} {o₁ : Bytes} (x : Laid at (length k + 1) (piece_bytes k) out p o₁) where
    module _ {q : ℕ} {o₂ : Bytes} (y : Laid p 8 (digits 8 e.first) o₁ q o₂) {r : Bytes} (re : r ≡ part_of s e.piece) where
      pub laid-default : {n : ℕ} {o₃ : Bytes} → Laid q (length r + 2) (piece_bytes (r ++ (0 ∷ []))) o₂ n o₃ → Laid at (e.key.len + e.piece.len + 11) (default_bytes (with_count (default_of (raw_of s e)))) out n o₃
      unfolding default_bytes
      laid-default {n} {o₃} z =
          subst (λ (m : ℕ). Laid at m (default_bytes (with_count (default_of (raw_of s e)))) out n o₃) (one-long s e v.lies)
          (laid_as (laid_then x (laid_then y z)) (ap₂ (λ (a b : Bytes). piece_bytes a ++ (digits 8 e.first ++ piece_bytes (b ++ (0 ∷ [])))) ke re))

-- ---- the walk

-- the rows from `from` on are left
pub record Growing (s : Bytes) (count first : ℕ) (old : Bytes) (from at left : ℕ) (out : Bytes) : Type 0 where
  pub done : Bytes
  pub rows : growable (rows_from s from left) ≡ true
  pub is : grown (rows_from s 6 count) ≡ done ++ grown (rows_from s from left)
  pub laid : Laid first (length done) done old at out
  pub from_in : from ≤ length s

pub growing-start : {s old : Bytes} {count first left : ℕ} → count ≡ left → RowsAsk s count first old → Growing s count first old 6 first left old
growing-start {s} {old} {count} {first} e v =
    subst (λ (n : ℕ). Growing s count first old 6 first n old) e (record { done = []; rows = v.rows; is = refl; laid = laid_none old first (omega (arith, v.room)); from_in = v.long })

-- the next of the rows left, and the others
abbrev Next : Bytes → ℕ → ℕ → ImageEntry → Type 0
Next s from left e = (growing (default_of (raw_of s e)) ≡ true) × (growable (rows_from s e.next (left - 1)) ≡ true) × (grown (rows_from s from left) ≡ default_bytes (with_count (default_of (raw_of s e))) ++ grown (rows_from s e.next (left - 1)))

one_more : (d : Default) (o : Option (Read (List Default))) → growable (read_more d o) ≡ true → (growing d ≡ true) × (growable o ≡ true) × (grown (read_more d o) ≡ default_bytes (with_count d) ++ grown o)
unfolding all_good all_bytes
one_more d none h = absurd (false≢true h)
one_more d (some q) h = (and_left _ _ h, and_right (growing d) _ h, append_assoc (default_bytes (with_count d)) (all_bytes default_bytes (map with_count q.got)) q.rest)

module _ (s : Bytes) (from left : ℕ) (m : 0 < left) (g : growable (rows_from s from left) ≡ true) where
  begun : rows_from s from left ≡ times (suc (left - 1)) default_from (drop from s)
  begun = let again : left ≡ suc (left - 1) = omega arith in ap (λ (n : ℕ). times n default_from (drop from s)) again

  next_row : {e : ImageEntry} → EntryIs sections.Default s from e → Next s from left e
  next_row {e} v =
      let r : rows_from s from left ≡ read_more (default_of (raw_of s e)) (rows_from s e.next (left - 1)) = begun ∙ times_more default_from (left - 1) (drop from s) (default-same (drop from s) ∙ ap (map_read default_of) v.read.is) in
      let t = one_more (default_of (raw_of s e)) (rows_from s e.next (left - 1)) (sym (ap growable r) ∙ g) in
      (t.0, t.1, ap grown r ∙ t.2)

  row-stands : entry_from sections.Default (drop from s) ≡ none → ⊥
  row-stands h = false≢true (sym (ap growable (begun ∙ times-bad default_from (left - 1) (drop from s) (default-same (drop from s) ∙ ap (map_read default_of) h))) ∙ g)

module _ {s old out : Bytes} {count first from at left : ℕ} (a : RowsAsk s count first old) (v : Growing s count first old from at left out) where
  pub growing-stands : 0 < left → entry_from sections.Default (drop from s) ≡ none → ⊥
  growing-stands m = row-stands s from left m v.rows

  module _ {e : ImageEntry} (u : EntryIs sections.Default s from e) (m : 0 < left) where
    abbrev nx : Next s from left e
    nx = next_row s from left m v.rows u

    pub growing-asks : DefaultAsks s e at out
    growing-asks =
        let n = nx in
        let k = bytes-long s e.piece.at e.piece.len u.lies.piece.within in
        let w : (e.piece.len ≡ 255 → ⊥) = λ h. true≢false (sym n.0 ∙ ap not (eq-eqb _ 255 (k ∙ h))) in
        let z : length (grown (rows_from s 6 count)) ≡ length v.done + length (grown (rows_from s from left)) = ap length v.is ∙ length-append v.done (grown (rows_from s from left)) in
        let y : length (grown (rows_from s from left)) ≡ length (default_bytes (with_count (default_of (raw_of s e)))) + length (grown (rows_from s e.next (left - 1))) = ap length n.2 ∙ length-append (default_bytes (with_count (default_of (raw_of s e)))) (grown (rows_from s e.next (left - 1))) in
        let x = one-long s e u.lies in
        record {
          lies = u.lies;
          row_small = below e.piece.len u.lies.piece.small w;
          room = omega (arith, a.room, v.laid.next, v.laid.length_is);
        }
      where
        below : (n : ℕ) → n ≤ 255 → (n ≡ 255 → ⊥) → n ≤ 254
        below n h w = omega (arith, w)

    pub growing-more : {next r : ℕ} → left - 1 ≡ next → {out' : Bytes} → Laid at (e.key.len + e.piece.len + 11) (default_bytes (with_count (default_of (raw_of s e)))) out r out' → Growing s count first old e.next r next out'
    growing-more {next} {r} f {out'} l =
        let n = nx in
        subst (λ (m : ℕ). Growing s count first old e.next r m out') f
        (record {
          done = v.done ++ default_bytes (with_count (default_of (raw_of s e)));
          rows = n.1;
          is = v.is ∙ ap (λ (t : Bytes). v.done ++ t) n.2 ∙ sym (append_assoc v.done (default_bytes (with_count (default_of (raw_of s e)))) (grown (rows_from s e.next (left - 1))));
          laid = laid_as (laid_then v.laid l) refl;
          from_in = u.read.within;
        })

  -- the end: what follows is copied as it stands
  module _ (z : left ≤ 0) where
    rest-is : grown (rows_from s from left) ≡ drop from s
    unfolding times just all_bytes
    rest-is = let e : left ≡ 0 = omega arith in ap (λ (n : ℕ). grown (rows_from s from n)) e

    whole_is : grown (rows_from s 6 count) ≡ v.done ++ drop from s
    whole_is = v.is ∙ ap (λ (t : Bytes). v.done ++ t) rest-is

    module _ {b : Bytes} (e : b ≡ drop from s) where
      pub growing-room : at + length b ≤ length out
      growing-room = omega (arith, a.room, ap length e, ap length whole_is, length-append v.done (drop from s), v.laid.next, v.laid.length_is)

      pub growing-end : {r : ℕ} {out' : Bytes} → Laid at (length b) b out r out' → Laid first (length (grown (rows_from s 6 count))) (grown (rows_from s 6 count)) old r out'
      growing-end l = laid_as (laid_then v.laid l) (ap (λ (t : Bytes). v.done ++ t) e ∙ sym whole_is)

-- ---- the whole

module _ {s out : Bytes} {count : ℕ} (v : PutAsks s count out) where
  abbrev rows : Bytes
  rows = grown (rows_from s 6 count)

  parts-long : length (converted_bytes s) ≡ 14 + length (grown (rows_from s 6 count))
  parts-long =
      omega (arith, ap length v.is, length-append (digits 4 (number (take 4 s))) (digits 8 0 ++ (digits 2 count ++ rows)), length-append (digits 8 0) (digits 2 count ++ rows), length-append (digits 2 count) rows, length_digits 4 (number (take 4 s)), length_digits 8 0, length_digits 2 count)

  pub put-room : 14 + length (grown (rows_from s 6 count)) ≤ length out
  put-room = omega (arith, parts-long, v.room)

  pub put-rows-ask : {out' : Bytes} {b : ℕ} → length out' ≡ length out → b ≡ 14 → RowsAsk s count b out'
  put-rows-ask e f = record { long = v.long; rows = v.rows; room = omega (arith, put-room) }

  pub table-long : length (take 4 s) ≡ 4
  table-long = length-take-le 4 s (omega (arith, v.long))

  pub put_all : AllBytes s → {a f b r : ℕ} {o₁ o₂ o₃ o₄ : Bytes} → Laid 0 (length (take 4 s)) (take 4 s) out a o₁ → Laid a 8 (digits 8 0) o₁ f o₂ → Laid f 2 (digits 2 count) o₂ b o₃
      → Laid b (length (grown (rows_from s 6 count))) (grown (rows_from s 6 count)) o₃ r o₄ → Laid 0 (length (converted_bytes s)) (converted_bytes s) out r o₄
  put_all g x w y z = laid_as (laid_then x (laid_then w (laid_then y z))) (ap (λ (t : Bytes). t ++ (digits 8 0 ++ (digits 2 count ++ rows))) table ∙ sym v.is)
    where
      table : take 4 s ≡ digits 4 (number (take 4 s))
      table = sym (ap (λ (n : ℕ). digits n (number (take 4 s))) (sym table-long) ∙ digits_number (take 4 s) (bytes_take 4 s g))
