-- The image by its sections: each way out of `head_at` and of `sections_of`.
-- Assumes nothing.
use Prim.Native.Nat.{ℕ, ◌+◌}
use native.Mathlib.Omega.{arith}
use mathlib.Core.Path.{◌≡◌, refl, sym, ◌∙◌, ap, subst}
use mathlib.Core.Bool.{Bool, true, false, not, ◌&&◌, true≢false, false≢true}
use mathlib.Core.List.{List, [], ◌∷◌, map}
use mathlib.Core.Option.{Option, none, some}
use Rattle.std.specs.Prelude.{Some, None}
use lib.ListN.{length, take, drop}
use lib.Dec.{eqb}
use borrow.Author.Tests.{eq-eqb, ne_eqb, not-true, not-false}
use Rattle.forms.specs.Bytes.{Bytes}
use Rattle.forms.specs.Row.{Row}
use Rattle.forms.specs.Readers.{Read, Reader, read_on, ◌>>=◌, just, when, ended, whole, is_some}
use Rattle.forms.specs.Readers as readers
use Rattle.forms.specs.Numbers.{number_of}
use Rattle.forms.specs.Places.{Found, IsNumber}
use Rattle.forms.proofs.ReaderLaws.{ended_at}
use Rattle.rules.specs.Box as box
use Rattle.rules.specs.Page.{KeyLock}
use Rattle.rules.specs.Image.{Image, KeyRecord, image, old_image, image_from, old_image_from, sections_from, default_from, key_lock_from, write_from}
use Rattle.rules.specs.Restore.{all_good, good_default_by, good_lock, good_write, no_second, like_default, like_lock, like_write, has_default, good_image_by}
use Rattle.images.specs.Entries.{Raw, raw_at}
use Rattle.images.specs.declared.entries.Section.{Section}
use Rattle.images.specs.declared.entries.Section.TheVariants.{Default, Lock, Write}
use Rattle.images.proofs.ImageEntryLaws.{on_none, on_some}
use Rattle.images.specs.declared.checks.Form.{Form}
use Rattle.images.specs.declared.checks.Form.TheVariants.{Old, New}
use Rattle.images.specs.Good.{default_of, key_lock_of, key_record_of, form_of, good_from, pass}
use Rattle.images.specs.Sections.{SpanIs, image_in, is_good, HeadIs, HeadAt, image_of, SectionsAt}
use Rattle.images.specs.declared.sections.Span.{Span}
use Rattle.images.specs.declared.sections.Head.{Head}
use Rattle.images.proofs.TestLaws.{and-out, and_last}
use Rattle.images.proofs.GoodReaderLaws.{map_read, good_defaults, good_locks, good_writes, pass-section}

-- ---- a fault of a section is a fault of the image

module _ (form : Row → Bool) (i : Image) where
  abbrev b1 : Bool
  b1 = not (eqb i.table 0)

  abbrev b2 : Bool
  b2 = all_good (good_default_by form i.table) i.defaults

  abbrev b3 : Bool
  b3 = all_good (good_lock i.table) i.locks

  abbrev b4 : Bool
  b4 = all_good (good_write i.table) i.writes

  later : b1 && b2 && b3 && b4 ≡ false → good_image_by form i ≡ false
  later e = and-out _ (all_good (has_default i.defaults) i.writes) (and-out _ (no_second like_write i.writes) (and-out _ (no_second like_lock i.locks) (and-out _ (no_second like_default i.defaults) e)))

  zero-table : i.table ≡ 0 → good_image_by form i ≡ false
  zero-table e = later (and-out _ b4 (and-out _ b3 (and-out b1 b2 (ap not (eq-eqb i.table 0 e)))))

  bad-defaults : b2 ≡ false → good_image_by form i ≡ false
  bad-defaults e = later (and-out _ b4 (and-out _ b3 (and_last b1 b2 e)))

  bad-locks : b3 ≡ false → good_image_by form i ≡ false
  bad-locks e = later (and-out _ b4 (and_last (b1 && b2) b3 e))

  bad-writes : b4 ≡ false → good_image_by form i ≡ false
  bad-writes e = later (and_last (b1 && b2 && b3) b4 e)

-- ---- whatever follows

on-all : (form : Row → Bool) {A : Type 0} (o : Option (Read A)) (f : A → Reader Image) → ((x : A) (u : Bytes) → is_good form (ended (f x u)) ≡ false) → is_good form (ended (read_on o f)) ≡ false
unfolding read_on ended
on-all form none f h = refl
on-all form (some q) f h = h q.got q.rest

on-bad : (form : Row → Bool) {A : Type 0} (g : A → Bool) (o : Option (Read A)) (f : A → Reader Image) → pass g o ≡ none → ((x : A) (u : Bytes) → g x ≡ false → is_good form (ended (f x u)) ≡ false) → is_good form (ended (read_on o f)) ≡ false
unfolding read_on ended pass
on-bad form g none f e h = refl
on-bad form g (some q) f e h = h q.got q.rest (go (g q.got) e)
  where
    go : (b : Bool) → when b q ≡ none → b ≡ false
    go true e = absurd (true≢false (ap is_some e))
    go false e = refl

last : (form : Row → Bool) (i : Image) (u : Bytes) → good_image_by form i ≡ false → is_good form (ended (just i u)) ≡ false
unfolding just ended
last form i [] e = e
last form i (x ∷ u) e = refl

record Kept {A : Type 0} (g : A → Bool) (o : Option (Read A)) (y : Read A) : Type 0 where
  is : o ≡ some y
  good : g y.got ≡ true

pass-some : {A : Type 0} (g : A → Bool) (o : Option (Read A)) (y : Read A) → pass g o ≡ some y → Kept g o y
unfolding pass
pass-some g none y e = absurd (false≢true (ap is_some e))
pass-some {A} g (some q) y e = go (g q.got) refl e
  where
    or_read : Read A → Option (Read A) → Read A
    or_read d none = d
    or_read d (some v) = v

    go : (b : Bool) → g q.got ≡ b → when b q ≡ some y → Kept g (some q) y
    go true h k = let z : q ≡ y = ap (or_read q) k in record { is = ap some z; good = sym (ap (λ (v : Read A). g v.got) z) ∙ h }
    go false h k = absurd (false≢true (ap is_some k))

-- ---- a section of document 01, by what the walk over it found

module _ (form : Row → Bool) {A : Type 0} (section : Section) (t : ℕ) (g : A → Bool) (r : Reader A) (f : Raw → A) (same : (s : Bytes) → pass g (r s) ≡ map_read f (good_from form section t s)) where
  span-bad : (s : Bytes) (at : ℕ) → readers.section (number_of 2) (good_from form section t) (drop at s) ≡ none → pass (all_good g) (readers.section (number_of 2) r (drop at s)) ≡ none
  span-bad s at h = pass-section g r f (good_from form section t) same (drop at s) ∙ ap (map_read (map f)) h

  span-good : {s : Bytes} {at : ℕ} {p : Span} {places : List ℕ} → SpanIs form section t s at p places
      → Kept (all_good g) (readers.section (number_of 2) r (drop at s)) (record { got = map f (map (raw_at section s) (take p.count places)); rest = drop p.end s })
  span-good {s} {at} v = pass-some (all_good g) (readers.section (number_of 2) r (drop at s)) _ (pass-section g r f (good_from form section t) same (drop at s) ∙ ap (map_read (map f)) v.read.is)

-- ---- the ways out of `head_at`

abbrev floor_on : ℕ → Reader Image
floor_on n = number_of 8 >>= sections_from n

module _ (s : Bytes) where
  pub head-no-table : (form : Form) → number_of 4 s ≡ none → HeadAt form s None
  unfolding old_image whole old_image_from image image_from ended
  head-no-table Old e = ap ended (on_none (number_of 4) (λ (n : ℕ). sections_from n 0) e)
  head-no-table New e = ap ended (on_none (number_of 4) floor_on e)

  module _ {t : ℕ} (tv : IsNumber 4 s 0 t) where
    old-head : HeadIs Old s (record { table = t; floor = 0; end = 4 })
    unfolding old_image whole old_image_from ended
    old-head = record { is = ap ended (on_some (number_of 4) (λ (n : ℕ). sections_from n 0) tv.read.is); near = omega arith }

    pub head-old : {form : Form} → form ≡ Old → HeadIs form s (record { table = t; floor = 0; end = 4 })
    head-old e = subst (λ (x : Form). HeadIs x s (record { table = t; floor = 0; end = 4 })) (sym e) old-head

    pub head-no-floor : {form : Form} → form ≡ New → number_of 8 (drop 4 s) ≡ none → HeadAt form s None
    unfolding image whole image_from ended
    head-no-floor e h = subst (λ (x : Form). HeadAt x s None) (sym e) (ap ended (on_some (number_of 4) floor_on tv.read.is ∙ on_none (number_of 8) (sections_from t) h))

    pub head-new : {f : ℕ} {form : Form} → form ≡ New → IsNumber 8 s 4 f → HeadIs form s (record { table = t; floor = f; end = 12 })
    unfolding image whole image_from ended
    head-new {f} e v = subst (λ (x : Form). HeadIs x s (record { table = t; floor = f; end = 12 })) (sym e)
        (record { is = ap ended (on_some (number_of 4) floor_on tv.read.is ∙ on_some (number_of 8) (sections_from t) v.read.is); near = omega arith })

-- ---- the ways out of `sections_of`

abbrev image_with : ℕ → ℕ → List box.Default → List KeyLock → List KeyRecord → Image
image_with t f ds ls ws = record { table = t; floor = f; defaults = ds; locks = ls; writes = ws }

abbrev writes_on : ℕ → ℕ → List box.Default → List KeyLock → List KeyRecord → Reader Image
writes_on t f ds ls ws = just (image_with t f ds ls ws)

abbrev locks_on : ℕ → ℕ → List box.Default → List KeyLock → Reader Image
locks_on t f ds ls = readers.section (number_of 2) write_from >>= writes_on t f ds ls

abbrev defaults_on : ℕ → ℕ → List box.Default → Reader Image
defaults_on t f ds = readers.section (number_of 2) key_lock_from >>= locks_on t f ds

abbrev head_on : ℕ → ℕ → Reader Image
head_on t f = readers.section (number_of 2) default_from >>= defaults_on t f

abbrev Bad : Form → Bytes → Type 0
Bad form s = is_good (form_of form) (image_in form s) ≡ false

module _ (form : Form) {s : Bytes} where
  module _ {h : Head} (hv : HeadIs form s h) where
    headed : image_in form s ≡ ended (head_on h.table h.floor (drop h.end s))
    unfolding sections_from
    headed = hv.is

    fault : {o : Option (Read Image)} → head_on h.table h.floor (drop h.end s) ≡ o → is_good (form_of form) (ended o) ≡ false → Bad form s
    fault e g = ap (is_good (form_of form)) (headed ∙ ap ended e) ∙ g

    pub sections-zero : h.table ≡ 0 → Bad form s
    unfolding ◌>>=◌
    sections-zero e =
        fault refl
        (on-all (form_of form) (readers.section (number_of 2) default_from (drop h.end s)) (defaults_on h.table h.floor)
        (λ a u. on-all (form_of form) (readers.section (number_of 2) key_lock_from u) (locks_on h.table h.floor a) (λ b v. on-all (form_of form) (readers.section (number_of 2) write_from v) (writes_on h.table h.floor a b) (λ c w. last (form_of form) (image_with h.table h.floor a b c) w (zero-table (form_of form) (image_with h.table h.floor a b c) e)))))

    pub sections-no-defaults : readers.section (number_of 2) (good_from (form_of form) Default h.table) (drop h.end s) ≡ none → Bad form s
    unfolding ◌>>=◌
    sections-no-defaults e =
        fault refl
        (on-bad (form_of form) (all_good (good_default_by (form_of form) h.table)) (readers.section (number_of 2) default_from (drop h.end s)) (defaults_on h.table h.floor)
        (span-bad (form_of form) Default h.table (good_default_by (form_of form) h.table) default_from default_of (good_defaults (form_of form) h.table) s h.end e)
        (λ a u g. on-all (form_of form) (readers.section (number_of 2) key_lock_from u) (locks_on h.table h.floor a) (λ b v. on-all (form_of form) (readers.section (number_of 2) write_from v) (writes_on h.table h.floor a b) (λ c w. last (form_of form) (image_with h.table h.floor a b c) w (bad-defaults (form_of form) (image_with h.table h.floor a b c) g)))))

    module _ {ds : List ℕ} {d : Span} (dv : SpanIs (form_of form) Default h.table s h.end d ds) where
      abbrev rows : List box.Default
      rows = map default_of (map (raw_at Default s) (take d.count ds))

      kept-defaults : Kept (all_good (good_default_by (form_of form) h.table)) (readers.section (number_of 2) default_from (drop h.end s)) (record { got = rows; rest = drop d.end s })
      kept-defaults = span-good (form_of form) Default h.table (good_default_by (form_of form) h.table) default_from default_of (good_defaults (form_of form) h.table) dv

      stored : head_on h.table h.floor (drop h.end s) ≡ defaults_on h.table h.floor rows (drop d.end s)
      stored = on_some (readers.section (number_of 2) default_from) (defaults_on h.table h.floor) kept-defaults.is

      pub sections-no-locks : readers.section (number_of 2) (good_from (form_of form) Lock h.table) (drop d.end s) ≡ none → Bad form s
      unfolding ◌>>=◌
      sections-no-locks e =
          fault stored
          (on-bad (form_of form) (all_good (good_lock h.table)) (readers.section (number_of 2) key_lock_from (drop d.end s)) (locks_on h.table h.floor rows)
          (span-bad (form_of form) Lock h.table (good_lock h.table) key_lock_from key_lock_of (good_locks (form_of form) h.table) s d.end e)
          (λ b u g. on-all (form_of form) (readers.section (number_of 2) write_from u) (writes_on h.table h.floor rows b) (λ c w. last (form_of form) (image_with h.table h.floor rows b c) w (bad-locks (form_of form) (image_with h.table h.floor rows b c) g))))

      module _ {ls : List ℕ} {l : Span} (lv : SpanIs (form_of form) Lock h.table s d.end l ls) where
        abbrev bs : List KeyLock
        bs = map key_lock_of (map (raw_at Lock s) (take l.count ls))

        kept-locks : Kept (all_good (good_lock h.table)) (readers.section (number_of 2) key_lock_from (drop d.end s)) (record { got = bs; rest = drop l.end s })
        kept-locks = span-good (form_of form) Lock h.table (good_lock h.table) key_lock_from key_lock_of (good_locks (form_of form) h.table) lv

        locked : head_on h.table h.floor (drop h.end s) ≡ locks_on h.table h.floor rows bs (drop l.end s)
        locked = stored ∙ on_some (readers.section (number_of 2) key_lock_from) (locks_on h.table h.floor rows) kept-locks.is

        pub sections-no-writes : readers.section (number_of 2) (good_from (form_of form) Write h.table) (drop l.end s) ≡ none → Bad form s
        unfolding ◌>>=◌
        sections-no-writes e =
            fault locked
            (on-bad (form_of form) (all_good (good_write h.table)) (readers.section (number_of 2) write_from (drop l.end s)) (writes_on h.table h.floor rows bs)
            (span-bad (form_of form) Write h.table (good_write h.table) write_from key_record_of (good_writes (form_of form) h.table) s l.end e) (λ c u g. last (form_of form) (image_with h.table h.floor rows bs c) u (bad-writes (form_of form) (image_with h.table h.floor rows bs c) g)))

        module _ {ws : List ℕ} {w : Span} (wv : SpanIs (form_of form) Write h.table s l.end w ws) where
          kept-writes : Kept (all_good (good_write h.table)) (readers.section (number_of 2) write_from (drop l.end s)) (record { got = map key_record_of (map (raw_at Write s) (take w.count ws)); rest = drop w.end s })
          kept-writes = span-good (form_of form) Write h.table (good_write h.table) write_from key_record_of (good_writes (form_of form) h.table) wv

          abbrev all : Image
          all = image_of s h.table h.floor (take d.count ds) (take l.count ls) (take w.count ws)

          written : head_on h.table h.floor (drop h.end s) ≡ some (record { got = all; rest = drop w.end s })
          unfolding just
          written = locked ∙ on_some (readers.section (number_of 2) write_from) (writes_on h.table h.floor rows bs) kept-writes.is

          at-end : image_in form s ≡ when (eqb w.end (length s)) all
          at-end = headed ∙ ap ended written ∙ ended_at all s w.end wv.read.within

          pub sections-tail : (w.end ≡ length s → ⊥) → Bad form s
          sections-tail n = ap (is_good (form_of form)) (at-end ∙ ap (λ (b : Bool). when b all) (ne_eqb w.end (length s) n))

          pub sections-good : (h.table ≡ 0 → ⊥) → w.end ≡ length s
              → SectionsAt form s (Some (record { floor = h.floor; defaults = d.count; locks = l.count; writes = w.count; writesat = l.end; bytes = d.bytes + l.bytes + w.bytes })) ds ls ws
          sections-good z e = record {
            listed = record {
              table = h.table;
              begin = h.end;
              lat = d.end;
              some_table = z;
              is = at-end ∙ ap (λ (b : Bool). when b all) (eq-eqb w.end (length s) e);
              good_defaults = kept-defaults.good;
              good_locks = kept-locks.good;
              good_writes = kept-writes.good;
              defaults = dv.each;
              locks = lv.each;
              writes = rw (sym e) wv.each;
              bytes_is = omega (arith, dv.bytes_is, lv.bytes_is, wv.bytes_is);
            };
            few_defaults = dv.count_fits;
            few_locks = lv.count_fits;
            few_writes = wv.count_fits;
          }
