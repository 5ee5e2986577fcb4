-- Readers that let only good entries in: what one, many and a section of them read, and that document 01's readers read the same entries.
-- Assumes nothing.
use Prim.Native.Nat.{ℕ, zero, suc}
use mathlib.Core.Path.{◌≡◌, refl, sym, ◌∙◌, ap}
use mathlib.Core.Bool.{Bool, true, false, not, ◌&&◌, true≢false, false≢true}
use mathlib.Core.List.{List, [], ◌∷◌, map}
use mathlib.Core.Option.{none, some}
use mathlib.Core.Option as maths
use Rattle.std.specs.Prelude.{Some, None, Result}
use lib.ListN.{drop}
use lib.Dec.{eqb}
use borrow.Author.Tests.{not-true, not-false}
use Rattle.forms.specs.Bytes.{Bytes}
use Rattle.forms.specs.Row.{Row}
use Rattle.forms.specs.Readers.{Read, Reader, read_on, ◌>>=◌, just, when, byte, piece, times, section, is_some}
use Rattle.forms.specs.Numbers.{number_of}
use Rattle.forms.proofs.ReaderLaws.{read_more, times-bad, times_more}
use Rattle.rules.specs.Box as box
use Rattle.rules.specs.declared.records.Kind.{Kind}
use Rattle.rules.specs.Page.{KeyLock}
use Rattle.rules.specs.Image.{KeyRecord, kind_if, kind_from, default_from, lock_from, key_lock_from, write_from}
use Rattle.rules.specs.Restore.{all_good, good_default_by, good_lock, good_write}
use Rattle.images.specs.Entries as entries
use Rattle.images.specs.Entries.{Raw, End, kind_by, tail_from, entry_from, raw_of, EntryIs}
use Rattle.images.specs.declared.entries.Section.{Section}
use Rattle.images.specs.declared.entries.Section.TheVariants.{Default, Lock, Write}
use Rattle.images.specs.declared.entries.ImageEntry.{ImageEntry}
use Rattle.images.specs.Good.{known, kind_of, default_of, key_lock_of, key_record_of, fits, pass, good_from, GoodAt}

-- ---- `good_at`

module _ (form : Row → Bool) (section : Section) (t : ℕ) (s : Bytes) (at : ℕ) where
  pub good_none : entry_from section (drop at s) ≡ none → GoodAt form section t s at None
  unfolding good_from pass
  good_none e = ap (pass (fits form section t)) e

  module _ {e : ImageEntry} (v : EntryIs section s at e) {b : Bool} (g : b ≡ fits form section t (raw_of s e)) where
    tested : (c : Bool) → b ≡ c → good_from form section t (drop at s) ≡ when c (record { got = raw_of s e; rest = drop e.next s })
    unfolding good_from pass
    tested c h = ap (pass (fits form section t)) v.read.is ∙ ap (λ (d : Bool). when d (record { got = raw_of s e; rest = drop e.next s })) (sym g ∙ h)

    pub good-bad : not b ≡ true → GoodAt form section t s at None
    good-bad h = tested false (not-true b h)

    pub good-good : not b ≡ false → GoodAt form section t s at (Some e)
    good-good h = record { read = record { is = tested true (not-false b h); within = v.read.within }; entry = v }

-- ---- document 01's readers

abbrev pub map_read : {A B : Type 0} → (A → B) → maths.Option (Read A) → maths.Option (Read B)
map_read f none = none
map_read f (some q) = some (record { got = f q.got; rest = q.rest })

-- two chains that begin with the same reader
on_both : {A B C : Type 0} (P : maths.Option (Read B) → maths.Option (Read C) → Type 0) → P none none → (o : maths.Option (Read A)) (f : A → Reader B) (g : A → Reader C) → ((x : A) (u : Bytes) → P (f x u) (g x u)) → P (read_on o f) (read_on o g)
unfolding read_on
on_both P z none f g h = z
on_both P z (some q) f g h = h q.got q.rest

-- "key length, key, 8-byte start, row length, row"
pub default-same : (s : Bytes) → default_from s ≡ map_read default_of (entry_from Default s)
unfolding default_from entry_from ◌>>=◌ read_on just
default-same s =
    on_both (λ a b. a ≡ map_read default_of b) refl (piece s) _ _
    (λ k u. on_both (λ a b. a ≡ map_read default_of b) refl (number_of 8 u) _ _ (λ n v. on_both (λ a b. a ≡ map_read default_of b) refl (piece v) _ _ (λ p w. refl)))

when-map : {A B : Type 0} (f : A → B) (b : Bool) (x : A) (u : Bytes) → when b (record { got = f x; rest = u }) ≡ map_read f (when b (record { got = x; rest = u }))
when-map f true x u = refl
when-map f false x u = refl

abbrev known_raw : Raw → Bool
known_raw x = known x.kind

-- "key length, key, lock": "8-byte transaction, primary length, primary, 8-byte start, 8-byte time to live, kind byte"
module _ (k : Bytes) where
  abbrev locked : box.Lock → Reader KeyLock
  locked l = just (record { key = k; lock = l })

  module _ (n : ℕ) (p : Bytes) (b c : ℕ) where
    abbrev of_kind : Kind → Reader box.Lock
    of_kind i = just (record { txn = n; primary = p; start = b; ttl = c; kind = i })

    abbrev raw : Result Kind ℕ → Raw
    raw z = record { key = k; first = n; piece = p; second = b; third = c; kind = z }

    lock-kind : (z : ℕ) (u : Bytes) → read_on (read_on (kind_if (eqb z 1) (eqb z 2) (eqb z 3) u) of_kind) locked ≡ map_read key_lock_of (pass known_raw (some (record { got = raw (entries.kind_from z); rest = u })))
    unfolding read_on just kind_if pass
    lock-kind z u = go (eqb z 1) (eqb z 2) (eqb z 3)
      where
        go : (a d r : Bool) → read_on (read_on (kind_if a d r u) of_kind) locked ≡ map_read key_lock_of (pass known_raw (some (record { got = raw (kind_by z a d r); rest = u })))
        go true d r = refl
        go false true r = refl
        go false false true = refl
        go false false false = refl

pub lock-same : (s : Bytes) → key_lock_from s ≡ map_read key_lock_of (pass known_raw (entry_from Lock s))
unfolding key_lock_from lock_from kind_from entry_from tail_from ◌>>=◌ just pass read_on
lock-same s =
    on_both (λ a b. a ≡ map_read key_lock_of (pass known_raw b)) refl (piece s) _ _
    (λ k u.
    on_both (λ a b. read_on a (locked k) ≡ map_read key_lock_of (pass known_raw b)) refl (number_of 8 u) _ _
    (λ n v.
    on_both (λ a b. read_on a (locked k) ≡ map_read key_lock_of (pass known_raw b)) refl (piece v) _ _
    (λ p w.
    on_both (λ a b. read_on a (locked k) ≡ map_read key_lock_of (pass known_raw (read_on b (ended k n p)))) refl (number_of 8 w) _ _
    (λ b x.
    on_both (λ a d. read_on a (locked k) ≡ map_read key_lock_of (pass known_raw (read_on d (ended k n p)))) refl (number_of 8 x) _ _
    (λ c y. on_both (λ a d. read_on (read_on a (of_kind k n p b c)) (locked k) ≡ map_read key_lock_of (pass known_raw (read_on d (ended k n p)))) refl (byte y) _ _ (λ z v. lock-kind k n p b c z v))))))
  where
    ended : Bytes → ℕ → Bytes → End → Reader Raw
    ended k n p t = just (record { key = k; first = n; piece = p; second = t.second; third = t.third; kind = t.kind })

-- "key length, key, 8-byte write stamp, start, commit, kind byte"
module _ (k : Bytes) (w b c : ℕ) where
  abbrev write_kind : Kind → Reader KeyRecord
  write_kind i = just (record { key = k; write = record { stamp = w; start = b; commit = c; kind = i } })

  abbrev written : Result Kind ℕ → Raw
  written z = record { key = k; first = w; piece = []; second = b; third = c; kind = z }

  write-kind : (z : ℕ) (u : Bytes) → read_on (kind_if (eqb z 1) (eqb z 2) (eqb z 3) u) write_kind ≡ map_read key_record_of (pass known_raw (some (record { got = written (entries.kind_from z); rest = u })))
  unfolding read_on just kind_if pass
  write-kind z u = go (eqb z 1) (eqb z 2) (eqb z 3)
    where
      go : (a d r : Bool) → read_on (kind_if a d r u) write_kind ≡ map_read key_record_of (pass known_raw (some (record { got = written (kind_by z a d r); rest = u })))
      go true d r = refl
      go false true r = refl
      go false false true = refl
      go false false false = refl

pub write_same : (s : Bytes) → write_from s ≡ map_read key_record_of (pass known_raw (entry_from Write s))
unfolding write_from kind_from entry_from tail_from ◌>>=◌ just pass read_on
write_same s =
    on_both (λ a b. a ≡ map_read key_record_of (pass known_raw b)) refl (piece s) _ _
    (λ k u.
    on_both (λ a b. a ≡ map_read key_record_of (pass known_raw b)) refl (number_of 8 u) _ _
    (λ w v.
    on_both (λ a b. a ≡ map_read key_record_of (pass known_raw (read_on b (ended k w)))) refl (number_of 8 v) _ _
    (λ b x.
    on_both (λ a d. a ≡ map_read key_record_of (pass known_raw (read_on d (ended k w)))) refl (number_of 8 x) _ _
    (λ c y. on_both (λ a d. read_on a (write_kind k w b c) ≡ map_read key_record_of (pass known_raw (read_on d (ended k w)))) refl (byte y) _ _ (λ z v. write-kind k w b c z v)))))
  where
    ended : Bytes → ℕ → End → Reader Raw
    ended k w t = just (record { key = k; first = w; piece = []; second = t.second; third = t.third; kind = t.kind })

-- ---- only the good

pass-map : {A B : Type 0} (f : A → B) (g : B → Bool) (o : maths.Option (Read A)) → pass g (map_read f o) ≡ map_read f (pass (λ (x : A). g (f x)) o)
unfolding pass
pass-map f g none = refl
pass-map f g (some q) = when-map f (g (f q.got)) q.got q.rest

pass-pass : {A : Type 0} (g h : A → Bool) (o : maths.Option (Read A)) → pass g (pass h o) ≡ pass (λ (x : A). h x && g x) o
unfolding pass
pass-pass g h none = refl
pass-pass g h (some q) = go (h q.got)
  where
    go : (b : Bool) → pass g (when b q) ≡ when (b && g q.got) q
    go true = refl
    go false = refl

-- each section's good entries are document 01's
module _ (form : Row → Bool) where
  pub good_defaults : (t : ℕ) (s : Bytes) → pass (good_default_by form t) (default_from s) ≡ map_read default_of (good_from form Default t s)
  unfolding good_from fits
  good_defaults t s = ap (pass (good_default_by form t)) (default-same s) ∙ pass-map default_of (good_default_by form t) (entry_from Default s)

  pub good_locks : (t : ℕ) (s : Bytes) → pass (good_lock t) (key_lock_from s) ≡ map_read key_lock_of (good_from form Lock t s)
  unfolding good_from fits
  good_locks t s =
      ap (pass (good_lock t)) (lock-same s) ∙ pass-map key_lock_of (good_lock t) (pass known_raw (entry_from Lock s)) ∙ ap (map_read key_lock_of) (pass-pass (λ (x : Raw). good_lock t (key_lock_of x)) known_raw (entry_from Lock s))

  pub good_writes : (t : ℕ) (s : Bytes) → pass (good_write t) (write_from s) ≡ map_read key_record_of (good_from form Write t s)
  unfolding good_from fits
  good_writes t s =
      ap (pass (good_write t)) (write_same s) ∙ pass-map key_record_of (good_write t) (pass known_raw (entry_from Write s)) ∙ ap (map_read key_record_of) (pass-pass (λ (x : Raw). good_write t (key_record_of x)) known_raw (entry_from Write s))

-- ---- many of them

module _ {A B : Type 0} (g : A → Bool) (r : Reader A) (f : B → A) (q : Reader B) (same : (s : Bytes) → pass g (r s) ≡ map_read f (q s)) where
  bad_more : (x : A) → g x ≡ false → (o : maths.Option (Read (List A))) → pass (all_good g) (read_more x o) ≡ none
  unfolding pass all_good
  bad_more x e none = refl
  bad_more x e (some l) = ap (λ (b : Bool). when (b && all_good g l.got) (record { got = x ∷ l.got; rest = l.rest })) e

  kept_more : (x : A) → g x ≡ true → (o : maths.Option (Read (List A))) → pass (all_good g) (read_more x o) ≡ read_more x (pass (all_good g) o)
  unfolding pass all_good
  kept_more x e none = refl
  kept_more x e (some l) = ap (λ (b : Bool). when (b && all_good g l.got) (record { got = x ∷ l.got; rest = l.rest })) e ∙ go (all_good g l.got)
    where
      go : (c : Bool) → when c (record { got = x ∷ l.got; rest = l.rest }) ≡ read_more x (when c l)
      go true = refl
      go false = refl

  map_more : (y : B) (p : maths.Option (Read (List B))) → read_more (f y) (map_read (map f) p) ≡ map_read (map f) (read_more y p)
  map_more y none = refl
  map_more y (some m) = refl

  abbrev or_read : Read A → maths.Option (Read A) → Read A
  or_read d none = d
  or_read d (some v) = v

  step : (n : ℕ) → ((s : Bytes) → pass (all_good g) (times n r s) ≡ map_read (map f) (times n q s)) → (s : Bytes) (o : maths.Option (Read A)) (p : maths.Option (Read B)) → r s ≡ o → q s ≡ p → pass g o ≡ map_read f p
      → pass (all_good g) (times (suc n) r s) ≡ map_read (map f) (times (suc n) q s)
  unfolding pass
  step n ih s none none e h k = ap (pass (all_good g)) (times-bad r n s e) ∙ sym (ap (map_read (map f)) (times-bad q n s h))
  step n ih s none (some y) e h k = absurd (false≢true (ap is_some k))
  step n ih s (some x) p e h k = go (g x.got) refl p h k
    where
      go : (b : Bool) → g x.got ≡ b → (p : maths.Option (Read B)) → q s ≡ p → when b x ≡ map_read f p → pass (all_good g) (times (suc n) r s) ≡ map_read (map f) (times (suc n) q s)
      go true a none h k = absurd (true≢false (ap is_some k))
      go true a (some y) h k =
          let z : x ≡ record { got = f y.got; rest = y.rest } = ap (or_read x) k in
          ap (pass (all_good g)) (times_more r n s (e ∙ ap some z)) ∙ kept_more (f y.got) (sym (ap (λ (v : Read A). g v.got) z) ∙ a) (times n r y.rest) ∙ ap (read_more (f y.got)) (ih y.rest)
          ∙ map_more y.got (times n q y.rest) ∙ sym (ap (map_read (map f)) (times_more q n s h))
      go false a none h k = ap (pass (all_good g)) (times_more r n s e) ∙ bad_more x.got a (times n r x.rest) ∙ sym (ap (map_read (map f)) (times-bad q n s h))
      go false a (some y) h k = absurd (false≢true (ap is_some k))

  pass-times : (n : ℕ) (s : Bytes) → pass (all_good g) (times n r s) ≡ map_read (map f) (times n q s)
  unfolding times just pass all_good
  pass-times zero s = refl
  pass-times (suc n) s = step n (λ u. pass-times n u) s (r s) (q s) refl refl (same s)

  pub pass-section : (s : Bytes) → pass (all_good g) (section (number_of 2) r s) ≡ map_read (map f) (section (number_of 2) q s)
  unfolding section ◌>>=◌ pass
  pass-section s = on_both (λ a b. pass (all_good g) a ≡ map_read (map f) b) refl (number_of 2 s) _ _ (λ n u. pass-times n u)
