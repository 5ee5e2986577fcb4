-- The load of an image told by the places of its entries: how many there are of each section, and the bytes of their keys and pieces.
-- Assumes nothing.
use Prim.Native.Nat.{ℕ, ◌+◌, ◌*◌}
use native.Mathlib.Omega.{arith}
use native.Mathlib.Nat.{mul-suc}
use mathlib.Core.Path.{◌≡◌, refl, ap}
use mathlib.Core.List.{List, [], ◌∷◌, map}
use mathlib.Core.Option.{Option, none, some}
use lib.ListN.{length, drop}
use Rattle.forms.specs.Bytes.{Bytes}
use Rattle.forms.specs.Readers.{Read, Reader, read_on, ◌>>=◌, just, piece}
use Rattle.forms.specs.Numbers.{number_of}
use Rattle.rules.specs.declared.room.Load.{Load}
use Rattle.rules.specs.Room.{sum_of, load_of}
use Rattle.rules.specs.Restore.{box_of}
use Rattle.laws.specs.Adds.{sum_loads}
use Rattle.laws.proofs.LoadLaws.{load-eq, load_fields}
use Rattle.laws.proofs.ImageBoxLaws.{key_lock_load, key_record_load, default_load, box_of-load}
use Rattle.images.specs.Entries.{Raw, tail_from, entry_from, raw_or, raw_at}
use Rattle.images.specs.declared.entries.Section.{Section}
use Rattle.images.specs.declared.entries.Section.TheVariants.{Default, Lock, Write}
use Rattle.images.specs.Good.{default_of, key_lock_of, key_record_of}
use Rattle.images.specs.Sections.{raw_bytes, image_of}

-- ---- "a record, key": a write has no piece

on-any : {A : Type 0} (o : Option (Read A)) (f : A → Reader Raw) → ((x : A) (u : Bytes) → (raw_or (f x u)).piece ≡ []) → (raw_or (read_on o f)).piece ≡ []
unfolding read_on
on-any none f h = refl
on-any (some q) f h = h q.got q.rest

pub no-piece : (s : Bytes) (p : ℕ) → (raw_at Write s p).piece ≡ []
unfolding raw_at entry_from ◌>>=◌ read_on just
no-piece s p = on-any (piece (drop p s)) _ (λ k u. on-any (number_of 8 u) _ (λ n v. on-any (tail_from v) _ (λ t w. refl)))

-- ---- the entries of a section

abbrev count_by : ℕ → ℕ → ℕ → Bytes → Section → List ℕ → Load
count_by a b c s section ps = record { lines = a * length ps; locks = b * length ps; defaults = c * length ps; bytes = sum_of raw_bytes (map (raw_at section s) ps) }

module _ {A : Type 0} (f : A → Load) (g : Raw → A) (s : Bytes) (section : Section) (a b c : ℕ)
    (each : (p : ℕ) → f (g (raw_at section s p)) ≡ record { lines = a; locks = b; defaults = c; bytes = raw_bytes (raw_at section s p) }) where
  count_is : (ps : List ℕ) → sum_loads f (map g (map (raw_at section s) ps)) ≡ count_by a b c s section ps
  unfolding sum_loads sum_of
  count_is [] = load-eq _ (count_by a b c s section []) (omega arith)
  count_is (p ∷ ps) =
      let e = load_fields (each p) in
      let h = load_fields (count_is ps) in
      load-eq (sum_loads f (map g (map (raw_at section s) (p ∷ ps)))) (count_by a b c s section (p ∷ ps)) (omega (arith, mul-suc a (length ps), mul-suc b (length ps), mul-suc c (length ps)))

pub load_at : (s : Bytes) (t f : ℕ) (ds ls ws : List ℕ)
    → record { lines = length ls + length ws; locks = length ls; defaults = length ds; bytes = sum_of raw_bytes (map (raw_at Default s) ds) + sum_of raw_bytes (map (raw_at Lock s) ls) + sum_of raw_bytes (map (raw_at Write s) ws) } ≡ load_of (box_of (image_of s t f ds ls ws))
load_at s t f ds ls ws =
    let all = load_fields (box_of-load (image_of s t f ds ls ws)) in
    let d = load_fields (count_is default_load default_of s Default 0 0 1 (λ p. refl) ds) in
    let l = load_fields (count_is key_lock_load key_lock_of s Lock 1 1 0 (λ p. refl) ls) in
    let w = load_fields (count_is key_record_load key_record_of s Write 1 0 0 one-write ws) in
    load-eq _ (load_of (box_of (image_of s t f ds ls ws))) (omega arith)
  where
    one-write : (p : ℕ) → key_record_load (key_record_of (raw_at Write s p)) ≡ record { lines = 1; locks = 0; defaults = 0; bytes = raw_bytes (raw_at Write s p) }
    one-write p = let n : length (raw_at Write s p).piece ≡ 0 = ap length (no-piece s p) in load-eq _ (record { lines = 1; locks = 0; defaults = 0; bytes = raw_bytes (raw_at Write s p) }) (omega arith)
