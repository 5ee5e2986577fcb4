-- An old image that was read, told apart: its sections in turn, and how long each of them is.
-- Assumes nothing.
use Prim.Native.Nat.{ℕ, zero, suc, ◌+◌, ◌-◌, ◌≤◌}
use native.Mathlib.Omega.{arith}
use mathlib.Core.Path.{◌≡◌, refl, sym, ap, ◌∙◌}
use mathlib.Core.Bool.{Bool, true, false, false≢true}
use mathlib.Core.List.{List, [], ◌∷◌, ◌++◌}
use mathlib.Core.Option.{Option, none, some}
use lib.ListN.{length, take, drop, length-append, length-drop}
use lib.Seq.{length-take-le}
use lib.Dec.{leb}
use borrow.Author.Tests.{leb-true}
use Rattle.forms.specs.Bytes.{Bytes, piece_bytes}
use Rattle.forms.specs.Readers.{Read, Reader, read_on, ◌>>=◌, just, when, byte, stretch, piece, times, section, ended, whole, is_some}
use Rattle.forms.specs.Numbers.{number, digits, number_of}
use Rattle.forms.proofs.NumberLaws.{length_digits}
use Rattle.rules.specs.Box.{Default}
use Rattle.rules.specs.Page.{KeyLock}
use Rattle.rules.specs.Written.{all_bytes}
use Rattle.rules.specs.Image.{Image, KeyRecord, default_from, key_lock_from, write_from, sections_from, old_image_from, old_image}
use Rattle.rules.specs.Capture.{default_bytes}

abbrev pub got_or : {A : Type 0} → A → Option (Read A) → A
got_or d none = d
got_or d (some q) = q.got

abbrev pub rest_or : {A : Type 0} → Option (Read A) → Bytes
rest_or none = []
rest_or (some q) = q.rest

abbrev read_or : {A : Type 0} → Read A → Option (Read A) → Read A
read_or d none = d
read_or d (some q) = q

-- ---- one reader, then another: each read something

pub apart : {A B : Type 0} (r : Reader A) (f : A → Reader B) (s : Bytes) (x : Read B) → (r >>= f) s ≡ some x → (q : Read A) × (r s ≡ some q) × (f q.got q.rest ≡ some x)
unfolding ◌>>=◌ read_on
apart {A} r f s x e = go (r s) refl e
  where
    go : (o : Option (Read A)) → r s ≡ o → read_on o f ≡ some x → (q : Read A) × (r s ≡ some q) × (f q.got q.rest ≡ some x)
    go none p h = absurd (false≢true (ap is_some h))
    go (some q) p h = (q, p, h)

-- "nothing may follow"
pub all_read : {A : Type 0} (o : Option (Read A)) (x : A) → ended o ≡ some x → o ≡ some (record { got = x; rest = [] })
unfolding ended
all_read none x e = absurd (false≢true (ap is_some e))
all_read {A} (some q) x e = go q.got q.rest e
  where
    or_else : A → Option A → A
    or_else d none = d
    or_else d (some y) = y

    go : (g : A) (t : Bytes) → ended (some (record { got = g; rest = t })) ≡ some x → ◌≡◌ {A = Option (Read A)} (some (record { got = g; rest = t })) (some (record { got = x; rest = [] }))
    go g [] h = ap (λ (y : A). some (record { got = y; rest = [] })) (ap (or_else g) h)
    go g (y ∷ t) h = absurd (false≢true (ap is_some h))

-- ---- an image by its sections

pub record Sectioned (s : Bytes) (i : Image) : Type 0 where
  pub body : Bytes
  pub rest : Bytes
  pub tail : Bytes
  pub table : number_of 4 s ≡ some (record { got = i.table; rest = body })
  pub defaults : section (number_of 2) default_from body ≡ some (record { got = i.defaults; rest = rest })
  pub locks : section (number_of 2) key_lock_from rest ≡ some (record { got = i.locks; rest = tail })
  pub writes : section (number_of 2) write_from tail ≡ some (record { got = i.writes; rest = [] })

abbrev image_on : ℕ → List Default → List KeyLock → List KeyRecord → Reader Image
image_on t ds ls ws = just (record { table = t; floor = 0; defaults = ds; locks = ls; writes = ws })

abbrev writes_on : ℕ → List Default → List KeyLock → Reader Image
writes_on t ds ls = section (number_of 2) write_from >>= image_on t ds ls

abbrev locks_on : ℕ → List Default → Reader Image
locks_on t ds = section (number_of 2) key_lock_from >>= writes_on t ds

abbrev table_on : ℕ → Reader Image
table_on t = section (number_of 2) default_from >>= locks_on t

pub sectioned : (s : Bytes) (i : Image) → old_image s ≡ some i → Sectioned s i
unfolding old_image whole old_image_from sections_from just
sectioned s i e =
    let a = apart (number_of 4) table_on s _ (all_read (old_image_from s) i e) in
    let b = apart (section (number_of 2) default_from) (locks_on a.0.got) a.0.rest _ a.2 in
    let c = apart (section (number_of 2) key_lock_from) (writes_on a.0.got b.0.got) b.0.rest _ b.2 in
    let d = apart (section (number_of 2) write_from) (image_on a.0.got b.0.got c.0.got) c.0.rest _ c.2 in
    let w : record { table = a.0.got; floor = 0; defaults = b.0.got; locks = c.0.got; writes = d.0.got } ≡ i = ap (got_or i) d.2 in
    let z : d.0.rest ≡ [] = ap rest_or d.2 in
    record {
      body = a.0.rest;
      rest = b.0.rest;
      tail = c.0.rest;
      table = a.1 ∙ ap (λ (j : Image). some (record { got = j.table; rest = a.0.rest })) w;
      defaults = b.1 ∙ ap (λ (j : Image). some (record { got = j.defaults; rest = b.0.rest })) w;
      locks = c.1 ∙ ap (λ (j : Image). some (record { got = j.locks; rest = c.0.rest })) w;
      writes = d.1 ∙ ap (λ (j : Image). some (record { got = j.writes; rest = d.0.rest })) w ∙ ap (λ (t : Bytes). some (record { got = i.writes; rest = t })) z;
    }

-- ---- how long what was read is

pub told : {A : Type 0} (b : Bool) (x q : Read A) → when b x ≡ some q → (b ≡ true) × (x ≡ q)
told true x q e = (refl, ap (read_or x) e)
told false x q e = absurd (false≢true (ap is_some e))

pub stretch-read : (n : ℕ) (s : Bytes) (q : Read Bytes) → stretch n s ≡ some q → (n ≤ length s) × (take n s ≡ q.got) × (drop n s ≡ q.rest)
unfolding stretch
stretch-read n s q e = let t = told (leb n (length s)) _ q e in (leb-true n (length s) t.0, ap (λ (r : Read Bytes). r.got) t.1, ap (λ (r : Read Bytes). r.rest) t.1)

pub number_read : (w : ℕ) (s : Bytes) (q : Read ℕ) → number_of w s ≡ some q → (w ≤ length s) × (number (take w s) ≡ q.got) × (drop w s ≡ q.rest)
unfolding number_of just
number_read w s q e =
    let a = apart (stretch w) (λ (u : Bytes). just (number u)) s q e in
    let b = stretch-read w s a.0 a.1 in
    (b.0, ap number b.1 ∙ ap (got_or 0) a.2, b.2 ∙ ap rest_or a.2)

byte-read : (s : Bytes) (q : Read ℕ) → byte s ≡ some q → length s ≡ suc (length q.rest)
unfolding byte
byte-read [] q e = absurd (false≢true (ap is_some e))
byte-read (x ∷ s) q e = ap (λ (t : Bytes). suc (length t)) (ap rest_or e)

piece-read : (s : Bytes) (q : Read Bytes) → piece s ≡ some q → length s ≡ suc (length q.got) + length q.rest
unfolding piece
piece-read s q e =
    let a = apart byte stretch s q e in
    let b = stretch-read a.0.got a.0.rest q a.2 in
    let n : a.0.got ≤ length a.0.rest = b.0 in
    omega (arith, byte-read s a.0 a.1, length-take-le a.0.got a.0.rest n, ap length b.1, length-drop a.0.got a.0.rest, ap length b.2)

pub default-long : (d : Default) → length (default_bytes d) ≡ length d.key + length d.row + 10
unfolding default_bytes
default-long d =
    omega (arith, length-append (piece_bytes d.key) (digits 8 d.start ++ piece_bytes d.row), length-append (digits 8 d.start) (piece_bytes d.row), length_digits 8 d.start)

default-read : (s : Bytes) (q : Read Default) → default_from s ≡ some q → length s ≡ length (default_bytes q.got) + length q.rest
unfolding default_from just
default-read s q e =
    let a = apart piece _ s q e in
    let b = apart (number_of 8) _ a.0.rest q a.2 in
    let c = apart piece _ b.0.rest q b.2 in
    let n = number_read 8 a.0.rest b.0 b.1 in
    let w : record { key = a.0.got; start = b.0.got; row = c.0.got } ≡ q.got = ap (got_or q.got) c.2 in
    let l : 8 ≤ length a.0.rest = n.0 in
    omega (
      arith,
      piece-read s a.0 a.1,
      length-drop 8 a.0.rest,
      ap length n.2,
      piece-read b.0.rest c.0 c.1,
      ap length (ap rest_or c.2),
      default-long q.got,
      ap (λ (d : Default). length d.key) w,
      ap (λ (d : Default). length d.row) w,
    )

pub times-read : (n : ℕ) (s : Bytes) (q : Read (List Default)) → times n default_from s ≡ some q → (length q.got ≡ n) × (length s ≡ length (all_bytes default_bytes q.got) + length q.rest)
unfolding times just all_bytes
times-read zero s q e =
    let g : [] ≡ q.got = ap (got_or q.got) e in
    let r : s ≡ q.rest = ap rest_or e in
    (sym (ap length g), omega (arith, ap length r, ap (λ (l : List Default). length (all_bytes default_bytes l)) g))
times-read (suc n) s q e =
    let a = apart default_from _ s q e in
    let b = apart (times n default_from) _ a.0.rest q a.2 in
    let h = times-read n a.0.rest b.0 b.1 in
    let g : a.0.got ∷ b.0.got ≡ q.got = ap (got_or q.got) b.2 in (
      sym (ap length g) ∙ ap suc h.0,
      omega (arith, default-read s a.0 a.1, h.1, length-append (default_bytes a.0.got) (all_bytes default_bytes b.0.got), ap (λ (l : List Default). length (all_bytes default_bytes l)) g, ap length (ap rest_or b.2)),
    )
