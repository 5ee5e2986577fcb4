-- What is written is read back: the bytes of an image whose numbers fit their widths are read as that image, and as nothing else.
-- Assumes nothing.
use Prim.Native.Nat.{ℕ, ◌^◌, ◌<◌, ◌≤◌}
use native.Mathlib.Omega.{arith}
use mathlib.Core.Path.{◌≡◌, refl, sym, ap, ◌∙◌}
use mathlib.Core.List.{List, [], ◌∷◌, ◌++◌, append_assoc, append-nil}
use mathlib.Core.Option.{Option, some}
use lib.ListN.{length, length-append}
use lib.Seq.{take_at, drop_at}
use borrow.Author.Tests.{le-leb}
use Rattle.seqs.specs.Tables.{All}
use Rattle.forms.specs.Bytes.{Bytes, piece_bytes}
use Rattle.forms.specs.Readers.{Read, Reader, read_on, ◌>>=◌, just, byte, stretch, piece, times, section, ended, whole}
use Rattle.forms.specs.Numbers.{digits, number_of}
use Rattle.forms.proofs.ReaderLaws.{after}
use Rattle.forms.proofs.NumberLaws.{length_digits, number_digits}
use Rattle.rules.specs.declared.records.Kind.{Kind}
use Rattle.rules.specs.declared.records.Kind.TheVariants.{Put, Delete, Rollback}
use Rattle.rules.specs.Box.{Lock, Default, kind_byte}
use Rattle.rules.specs.Page.{KeyLock}
use Rattle.rules.specs.Written.{lock_bytes, key_lock_bytes, all_bytes}
use Rattle.rules.specs.Image.{Image, KeyRecord, kind_if, kind_from, default_from, lock_from, key_lock_from, write_from, sections_from, image_from, image}
use Rattle.rules.specs.Capture.{default_bytes, record_bytes, write_bytes, section_bytes, image_bytes, Word, LockWords, RecordWords, Few, ImageWords}

abbrev read_as : {A : Type 0} → A → Bytes → Option (Read A)
read_as x t = some (record { got = x; rest = t })

-- one reader, then another
pub then-reads : {A B : Type 0} (r : Reader A) (f : A → Reader B) (s : Bytes) {t : Bytes} {x : A} {q : Option (Read B)} → r s ≡ read_as x t → f x t ≡ q → (r >>= f) s ≡ q
unfolding ◌>>=◌ read_on
then-reads r f s e g = after f e ∙ g

-- ---- pieces and numbers

pub stretch-back : (n : ℕ) (s t : Bytes) → length s ≡ n → stretch n (s ++ t) ≡ read_as s t
unfolding stretch
stretch-back n s t e =
    let l : n ≤ length (s ++ t) = omega (arith, length-append s t) in
    rw (le-leb n (length (s ++ t)) l, take_at s t n e, drop_at s t n e)

piece_back : (s t : Bytes) → piece (piece_bytes s ++ t) ≡ read_as s t
unfolding piece byte
piece_back s t = then-reads _ _ _ refl (stretch-back (length s) s t refl)

pub number-back : (w v : ℕ) (t : Bytes) → v < 256 ^ w → number_of w (digits w v ++ t) ≡ read_as v t
unfolding number_of just
number-back w v t h = then-reads _ _ _ (stretch-back w (digits w v) t (length_digits w v)) (ap (λ (n : ℕ). read_as n t) (number_digits w v h))

kind-back : (k : Kind) (t : Bytes) → kind_from (kind_byte k ∷ t) ≡ read_as k t
unfolding kind_from byte kind_if just
kind-back Put t = then-reads _ _ _ refl refl
kind-back Delete t = then-reads _ _ _ refl refl
kind-back Rollback t = then-reads _ _ _ refl refl

-- ---- entries

pub default-back : (d : Default) (t : Bytes) → Word d.start → default_from (default_bytes d ++ t) ≡ read_as d t
unfolding default_from default_bytes just
default-back d t h = simp append_assoc (then-reads _ _ _ (piece_back d.key _) (then-reads _ _ _ (number-back 8 d.start _ h) (then-reads _ _ _ (piece_back d.row t) refl)))

lock-back : (l : Lock) (t : Bytes) → LockWords l → lock_from (lock_bytes l ++ t) ≡ read_as l t
unfolding lock_from lock_bytes just
lock-back l t h =
    simp append_assoc (then-reads _ _ _ (number-back 8 l.txn _ h.0) (then-reads _ _ _ (piece_back l.primary _) (then-reads _ _ _ (number-back 8 l.start _ h.1) (then-reads _ _ _ (number-back 8 l.ttl _ h.2)
    (then-reads _ _ _ (kind-back l.kind t) refl)))))

key_lock-back : (x : KeyLock) (t : Bytes) → LockWords x.lock → key_lock_from (key_lock_bytes x ++ t) ≡ read_as x t
unfolding key_lock_from key_lock_bytes just
key_lock-back x t h = simp append_assoc (then-reads _ _ _ (piece_back x.key _) (then-reads _ _ _ (lock-back x.lock t h) refl))

write-back : (x : KeyRecord) (t : Bytes) → RecordWords x.write → write_from (write_bytes x ++ t) ≡ read_as x t
unfolding write_from write_bytes record_bytes just
write-back x t h =
    simp append_assoc (then-reads _ _ _ (piece_back x.key _) (then-reads _ _ _ (number-back 8 x.write.stamp _ h.0) (then-reads _ _ _ (number-back 8 x.write.start _ h.1) (then-reads _ _ _ (number-back 8 x.write.commit _ h.2)
    (then-reads _ _ _ (kind-back x.write.kind t) refl)))))

-- ---- sections

module _ {A : Type 0} (r : Reader A) (f : A → Bytes) (P : A → Type 0) (back : (x : A) (t : Bytes) → P x → r (f x ++ t) ≡ read_as x t) where
  times-back : (xs : List A) (t : Bytes) → All P xs → times (length xs) r (all_bytes f xs ++ t) ≡ read_as xs t
  unfolding times all_bytes All just
  times-back [] t a = refl
  times-back (x ∷ xs) t a = simp append_assoc (then-reads _ _ _ (back x _ a.0) (then-reads _ _ _ (times-back xs t a.1) refl))

  pub section-back : (xs : List A) (t : Bytes) → Few P xs → section (number_of 2) r (section_bytes f xs ++ t) ≡ read_as xs t
  unfolding section section_bytes
  section-back xs t v = simp append_assoc (then-reads _ _ _ (number-back 2 (length xs) _ v.count) (times-back xs t v.words))

-- ---- the image

image-reads : (i : Image) (t : Bytes) → ImageWords i → image_from (image_bytes i ++ t) ≡ read_as i t
unfolding image_from sections_from image_bytes just
image-reads i t v =
    simp append_assoc (then-reads _ _ _ (number-back 4 i.table _ v.table)
    (then-reads _ _ _ (number-back 8 i.floor _ v.floor)
    (then-reads _ _ _ (section-back default_from default_bytes _ default-back i.defaults _ v.defaults)
    (then-reads _ _ _ (section-back key_lock_from key_lock_bytes _ key_lock-back i.locks _ v.locks)
    (then-reads _ _ _ (section-back write_from write_bytes _ write-back i.writes t v.writes) refl)))))

pub image-back : (i : Image) → ImageWords i → image (image_bytes i) ≡ some i
unfolding image whole ended
image-back i v = ap ended (sym (ap image_from (append-nil (image_bytes i))) ∙ image-reads i [] v)
