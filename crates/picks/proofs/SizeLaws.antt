-- The sizes of an image, added up line by line. Assumes nothing.
use Prim.Native.Nat.{ℕ, ◌+◌, ◌*◌, ◌≤◌, ◌<◌}
use native.Mathlib.Numerals.{add-one}
use native.Mathlib.Omega.{arith}
use mathlib.Core.Path.{◌≡◌, refl, sym, ap, ap₂, ◌∙◌}
use mathlib.Core.Bool.{Bool, true, false, ◌&&◌}
use mathlib.Core.List.{List, [], ◌∷◌, map}
use lib.ListN.{length, get_or, take}
use lib.Seq.{take-suc, take_all}
use Rattle.seqs.proofs.Alls.{all-at}
use Rattle.forms.specs.Bytes.{Bytes, AllBytes}
use Rattle.forms.specs.Numbers.{only_if}
use Rattle.rules.specs.Read.{those}
use Rattle.rules.specs.declared.records.Kind.{Kind}
use Rattle.rules.specs.declared.records.Kind.TheVariants.{Put, Delete, Rollback}
use Rattle.rules.specs.Box as box
use Rattle.rules.specs.Box.{eq_kind, kind_in}
use Rattle.rules.specs.Room.{sum_of}
use Rattle.rules.specs.Written.{all_bytes}
use Rattle.rules.specs.Restore.{of_table}
use Rattle.rules.specs.Capture.{row_of_table, default_bytes}
use Rattle.laws.proofs.Sorted.{sum-insert}
use Rattle.store.specs.declared.table.Line.TheVariants.{Standing, Finished}
use Rattle.store.specs.declared.table.LockSlot.{LockSlot}
use Rattle.store.specs.declared.table.RecordSlot.{RecordSlot}
use Rattle.store.specs.declared.table.Slot.{Slot}
use Rattle.store.specs.View.{row_len, key_of, line_of, if_put, default_in, add_if, stored, no_slot}
use Rattle.picks.specs.declared.slots.Section.{Section}
use Rattle.picks.specs.declared.slots.Section.TheVariants.{Locks, Writes}
use Rattle.picks.specs.declared.sizes.Sizes.{Sizes}
use Rattle.picks.specs.Lines.{in_section, belongs, is_put, entry_bytes, row_at, SlotIn, Lined}
use Rattle.picks.specs.Sizes.{Small, LineAdded, RowAsks, RowAdded, CountAsks, LineCounted, SizesAre}
use Rattle.picks.proofs.CaptureLineLaws.{row_short, if-few}
use Rattle.picks.proofs.EntrySizeLaws.{default-long, size-standing, size-finished, entry-small, default-small}
use Rattle.picks.proofs.SumLaws.{those-count, those-bytes, sum-map, sum-snoc}

-- ---- rows: what Put lines carry, in whatever order

module _ (area : Bytes) (t : ℕ) (g : box.Default → ℕ) where
  abbrev of_row : box.Default → ℕ
  of_row d = only_if (row_of_table t d) (g d)

  abbrev of_slot : Slot → ℕ
  of_slot s = only_if (is_put t (line_of area s)) (g (row_at area s))

  row-of : (k : Kind) (s : Slot) (ds : List box.Default) → sum_of of_row (add_if (if_put k (row_at area s)) ds) ≡ only_if (eq_kind k Put && of_table t (key_of area s)) (g (row_at area s)) + sum_of of_row ds
  unfolding add_if
  row-of Put s ds = sum-insert box.row_before (row_at area s) of_row ds
  row-of Delete s ds = omega arith
  row-of Rollback s ds = omega arith

  pub rows-sum : (xs : List Slot) → sum_of of_slot xs ≡ sum_of of_row (stored (map (default_in area) xs))
  unfolding sum_of stored
  rows-sum [] = refl
  rows-sum (s ∷ xs) = ap (λ (n : ℕ). of_slot s + n) (rows-sum xs) ∙ sym (row-of (kind_in (line_of area s).line) s (stored (map (default_in area) xs)))

-- ---- a line is a lock or a write

abbrev line_size : ℕ → box.KeyLine → ℕ
line_size t e = only_if (of_table t e.key) (length (entry_bytes e))

two-sections : (t : ℕ) (e : box.KeyLine) → line_size t e ≡ only_if (belongs Locks t e) (length (entry_bytes e)) + only_if (belongs Writes t e) (length (entry_bytes e))
two-sections t e = go e.line (length (entry_bytes e))
  where
    go : (x : box.Line) (n : ℕ) → only_if (of_table t e.key) n ≡ only_if (in_section Locks x && of_table t e.key) n + only_if (in_section Writes x && of_table t e.key) n
    go (box.Standing l) n = omega arith
    go (box.Finished w) n = omega arith

lines-sum : (t : ℕ) (es : List box.KeyLine) → sum_of (line_size t) es ≡ length (all_bytes entry_bytes (those (belongs Locks t) es)) + length (all_bytes entry_bytes (those (belongs Writes t) es))
unfolding sum_of
lines-sum t es = split es ∙ ap₂ ◌+◌ (those-bytes (belongs Locks t) entry_bytes es) (those-bytes (belongs Writes t) entry_bytes es)
  where
    split : (es : List box.KeyLine) → sum_of (line_size t) es ≡ sum_of (λ (e : box.KeyLine). only_if (belongs Locks t e) (length (entry_bytes e))) es + sum_of (λ (e : box.KeyLine). only_if (belongs Writes t e) (length (entry_bytes e))) es
    split [] = refl
    split (e ∷ es) = omega (arith, two-sections t e, split es)

-- ---- what a line brings

if-and : (c d : Bool) (n : ℕ) → d ≡ true → only_if (c && d) n ≡ only_if c n
if-and true d n e = rw e
if-and false d n e = refl

if-not : (c d : Bool) (n : ℕ) → d ≡ false → only_if (c && d) n ≡ 0
if-not true d n e = rw e
if-not false d n e = refl

module _ {area : Bytes} {s : Slot} (q : SlotIn area s) (z : Sizes) where
  pub lock-added : {l : LockSlot} → s.line ≡ Standing l → LineAdded area z s (record { defaults = z.defaults; locks = z.locks + 1; writes = z.writes; held = z.held + (s.len + l.plen + 27); bytes = z.bytes + (s.len + l.plen + 27) })
  lock-added {l} e =
      let n : s.len + l.plen + 27 ≡ length (entry_bytes (line_of area s)) = omega (arith, size-standing q e) in
      let g : in_section Locks (line_of area s).line ≡ true = rw e in
      let h : in_section Writes (line_of area s).line ≡ false = rw e in
      record { defaults = refl; locks = rw g; writes = rw h (omega arith); held = rw g (ap (λ (k : ℕ). z.held + k) n); bytes = ap (λ (k : ℕ). z.bytes + k) n }

  pub write-added : {w : RecordSlot} → s.line ≡ Finished w → LineAdded area z s (record { defaults = z.defaults; locks = z.locks; writes = z.writes + 1; held = z.held; bytes = z.bytes + s.len + 26 })
  write-added e =
      let g : in_section Locks (line_of area s).line ≡ false = rw e in
      let h : in_section Writes (line_of area s).line ≡ true = rw e in
      record { defaults = refl; locks = rw g (omega arith); writes = rw h; held = rw g (omega arith); bytes = omega (arith, size-finished q e) }

  pub put-added : {kind : Kind} {len : ℕ} → kind ≡ kind_in (line_of area s).line → kind ≡ Put → len ≡ row_len s.line → RowAdded area z s (record { defaults = z.defaults + 1; locks = z.locks; writes = z.writes; held = z.held; bytes = z.bytes + s.len + len + 10 })
  put-added e f g = record { defaults = rw (sym e ∙ f); locks = refl; writes = refl; held = refl; bytes = rw (sym e ∙ f) (omega (arith, default-long q)) }

  pub none-added : {kind : Kind} → kind ≡ kind_in (line_of area s).line → eq_kind kind Put ≡ false → RowAdded area z s z
  none-added e f = let g : eq_kind (kind_in (line_of area s).line) Put ≡ false = ap (λ (k : Kind). eq_kind k Put) (sym e) ∙ f in record { defaults = rw g (omega arith); locks = refl; writes = refl; held = refl; bytes = rw g (omega arith) }

module _ {area : Bytes} {z : Sizes} {s : Slot} (q : CountAsks area z s) where
  pub line_small : Small 4194304 z
  line_small = record { defaults = omega (arith, q.small.defaults); locks = omega (arith, q.small.locks); writes = omega (arith, q.small.writes); held = omega (arith, q.small.held); bytes = omega (arith, q.small.bytes) }

  pub row-asks : {y : Sizes} → LineAdded area z s y → RowAsks y s
  row-asks v =
      let few : (n : ℕ) (what : Section) → only_if (in_section what (line_of area s).line) n ≤ n = λ n what. if-few n (in_section what (line_of area s).line) refl in
      let size = entry-small q.slot in
      record {
        small = record {
          defaults = omega (arith, v.defaults, q.small.defaults);
          locks = omega (arith, v.locks, q.small.locks, few 1 Locks);
          writes = omega (arith, v.writes, q.small.writes, few 1 Writes);
          held = omega (arith, v.held, q.small.held, few (length (entry_bytes (line_of area s))) Locks, size);
          bytes = omega (arith, v.bytes, q.small.bytes, size);
        };
        short = row_short q.slot;
      }

  module _ {t : ℕ} {b : Bool} (e : b ≡ of_table t (key_of area s)) where
    pub counted : b ≡ true → {y r : Sizes} → LineAdded area z s y → RowAdded area y s r → LineCounted area t z s r
    counted f v w =
        let g : of_table t (key_of area s) ≡ true = sym e ∙ f in
        let put = eq_kind (kind_in (line_of area s).line) Put in
        record {
          defaults = omega (arith, v.defaults, w.defaults, if-and put _ 1 g);
          locks = omega (arith, v.locks, w.locks, if-and (in_section Locks (line_of area s).line) _ 1 g);
          writes = omega (arith, v.writes, w.writes, if-and (in_section Writes (line_of area s).line) _ 1 g);
          held = omega (arith, v.held, w.held, if-and (in_section Locks (line_of area s).line) _ (length (entry_bytes (line_of area s))) g);
          bytes = omega (arith, v.bytes, w.bytes, if-and put _ (length (default_bytes (row_at area s))) g, if-and true _ (length (entry_bytes (line_of area s))) g);
        }

    pub passed_over : b ≡ false → LineCounted area t z s z
    passed_over f =
        let g : of_table t (key_of area s) ≡ false = sym e ∙ f in
        let put = eq_kind (kind_in (line_of area s).line) Put in
        record {
          defaults = omega (arith, if-not put _ 1 g);
          locks = omega (arith, if-not (in_section Locks (line_of area s).line) _ 1 g);
          writes = omega (arith, if-not (in_section Writes (line_of area s).line) _ 1 g);
          held = omega (arith, if-not (in_section Locks (line_of area s).line) _ (length (entry_bytes (line_of area s))) g);
          bytes = omega (arith, if-not put _ (length (default_bytes (row_at area s))) g, if-not true _ (length (entry_bytes (line_of area s))) g);
        }

-- ---- the walk

pub record Counting (slots : List Slot) (area : Bytes) (t : ℕ) (z : Sizes) (i : ℕ) : Type 0 where
  pub low : i ≤ length slots
  pub defaults : z.defaults ≡ sum_of (λ (s : Slot). only_if (is_put t (line_of area s)) 1) (take i slots)
  pub locks : z.locks ≡ sum_of (λ (s : Slot). only_if (belongs Locks t (line_of area s)) 1) (take i slots)
  pub writes : z.writes ≡ sum_of (λ (s : Slot). only_if (belongs Writes t (line_of area s)) 1) (take i slots)
  pub held : z.held ≡ sum_of (λ (s : Slot). only_if (belongs Locks t (line_of area s)) (length (entry_bytes (line_of area s)))) (take i slots)
  pub bytes : z.bytes ≡ sum_of (λ (s : Slot). line_size t (line_of area s)) (take i slots) + sum_of (λ (s : Slot). only_if (is_put t (line_of area s)) (length (default_bytes (row_at area s)))) (take i slots)
  pub few : Small (i * 800) z

module _ {slots : List Slot} {area : Bytes} (v : Lined slots area) (t : ℕ) where
  pub counting-start : Counting slots area t (record { defaults = 0; locks = 0; writes = 0; held = 0; bytes = 0 }) 0
  unfolding sum_of
  counting-start = record { low = omega arith; defaults = refl; locks = refl; writes = refl; held = refl; bytes = refl; few = record { defaults = omega arith; locks = omega arith; writes = omega arith; held = omega arith; bytes = omega arith } }

  next-sum : (f : Slot → ℕ) (i : ℕ) → i < length slots → sum_of f (take (i + 1) slots) ≡ sum_of f (take i slots) + f (get_or slots i no_slot)
  next-sum f i h =
      ap (λ (k : ℕ). sum_of f (take k slots)) (add-one i) ∙ ap (sum_of f) (take-suc slots i no_slot h) ∙ sum-snoc f (take i slots) (get_or slots i no_slot)

  module _ {z : Sizes} {i : ℕ} (w : Counting slots area t z i) (h : i < length slots) where
    pub counting-asks : CountAsks area z (get_or slots i no_slot)
    counting-asks = record {
      slot = all-at (SlotIn area) no_slot slots i v.holds h;
      small = record {
        defaults = omega (arith, w.few.defaults, v.few);
        locks = omega (arith, w.few.locks, v.few);
        writes = omega (arith, w.few.writes, v.few);
        held = omega (arith, w.few.held, v.few);
        bytes = omega (arith, w.few.bytes, v.few);
      };
    }

    pub counting_more : {r : Sizes} → LineCounted area t z (get_or slots i no_slot) r → Counting slots area t r (i + 1)
    counting_more {r} c =
        let s = get_or slots i no_slot in
        let a : only_if (is_put t (line_of area s)) 1 ≤ 1 = if-few 1 (is_put t (line_of area s)) refl in
        let b : only_if (belongs Locks t (line_of area s)) 1 ≤ 1 = if-few 1 (belongs Locks t (line_of area s)) refl in
        let d : only_if (belongs Writes t (line_of area s)) 1 ≤ 1 = if-few 1 (belongs Writes t (line_of area s)) refl in
        let g : only_if (belongs Locks t (line_of area s)) (length (entry_bytes (line_of area s))) ≤ length (entry_bytes (line_of area s)) = if-few _ (belongs Locks t (line_of area s)) refl in
        let e : only_if (of_table t (key_of area s)) (length (entry_bytes (line_of area s))) ≤ length (entry_bytes (line_of area s)) = if-few _ (of_table t (key_of area s)) refl in
        let f : only_if (is_put t (line_of area s)) (length (default_bytes (row_at area s))) ≤ length (default_bytes (row_at area s)) = if-few _ (is_put t (line_of area s)) refl in
        record {
          low = omega arith;
          defaults = omega (arith, c.defaults, w.defaults, next-sum (λ (s : Slot). only_if (is_put t (line_of area s)) 1) i h);
          locks = omega (arith, c.locks, w.locks, next-sum (λ (s : Slot). only_if (belongs Locks t (line_of area s)) 1) i h);
          writes = omega (arith, c.writes, w.writes, next-sum (λ (s : Slot). only_if (belongs Writes t (line_of area s)) 1) i h);
          held = omega (arith, c.held, w.held, next-sum (λ (s : Slot). only_if (belongs Locks t (line_of area s)) (length (entry_bytes (line_of area s)))) i h);
          bytes =
              omega (
                arith,
                c.bytes,
                w.bytes,
                next-sum (λ (s : Slot). line_size t (line_of area s)) i h,
                next-sum (λ (s : Slot). only_if (is_put t (line_of area s)) (length (default_bytes (row_at area s)))) i h,
              );
          few = record {
            defaults = omega (arith, c.defaults, w.few.defaults, a);
            locks = omega (arith, c.locks, w.few.locks, b);
            writes = omega (arith, c.writes, w.few.writes, d);
            held = omega (arith, c.held, w.few.held, g, entry-small (all-at (SlotIn area) no_slot slots i v.holds h));
            bytes = omega (arith, c.bytes, w.few.bytes, e, f, entry-small (all-at (SlotIn area) no_slot slots i v.holds h), default-small (all-at (SlotIn area) no_slot slots i v.holds h));
          };
        }

  pub counting-end : {z : Sizes} {i : ℕ} → Counting slots area t z i → length slots ≤ i → AllBytes area → SizesAre slots area t z
  counting-end {z} {i} w h g =
      let es = map (line_of area) slots in
      let at : (f : Slot → ℕ) → sum_of f (take i slots) ≡ sum_of f slots = λ f. ap (sum_of f) (take_all i slots h) in
      record {
        defaults = w.defaults ∙ at _ ∙ rows-sum area t (λ (d : box.Default). 1) slots ∙ those-count (row_of_table t) (stored (map (default_in area) slots));
        locks = w.locks ∙ at _ ∙ sym (sum-map (line_of area) (λ (e : box.KeyLine). only_if (belongs Locks t e) 1) slots) ∙ those-count (belongs Locks t) es;
        writes = w.writes ∙ at _ ∙ sym (sum-map (line_of area) (λ (e : box.KeyLine). only_if (belongs Writes t e) 1) slots) ∙ those-count (belongs Writes t) es;
        held = w.held ∙ at _ ∙ sym (sum-map (line_of area) (λ (e : box.KeyLine). only_if (belongs Locks t e) (length (entry_bytes e))) slots) ∙ those-bytes (belongs Locks t) entry_bytes es;
        bytes =
            w.bytes ∙ ap₂ ◌+◌ (at _ ∙ sym (sum-map (line_of area) (line_size t) slots) ∙ lines-sum t es)
            (at _ ∙ rows-sum area t (λ (d : box.Default). length (default_bytes d)) slots ∙ those-bytes (row_of_table t) default_bytes (stored (map (default_in area) slots)));
        small = omega (arith, w.few.bytes, v.few);
        octets = g;
      }
