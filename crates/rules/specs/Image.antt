-- Document 01: "Image: 4-byte table number; 2-byte count of defaults (key length, key, 8-byte start, row length, row); 2-byte count of locks
-- (key length, key, lock); 2-byte count of writes (key length, key, 8-byte write stamp, start, commit, kind byte). Lock: 8-byte transaction,
-- primary length, primary, 8-byte start, 8-byte time to live, kind byte. Kinds: 1 Put, 2 Delete, 3 Rollback."
-- Document 02, CR 7: "The floor .. stands in the image, 8 bytes, after the table number".
-- Assumes nothing.
use Rattle.std.specs.Prelude.{ℕ, Bool, true, false, List, eqb}
use Rattle.std.proofs.Math.Option.{Option, none}
use Rattle.forms.specs.Bytes.{Bytes}
use Rattle.forms.specs.Readers.{Reader, ◌>>=◌, just, byte, piece, section, whole}
use Rattle.forms.specs.Numbers.{number_of}
use Rattle.forms.specs.Key.{Key}
use Rattle.rules.specs.declared.records.Kind.{Kind}
use Rattle.rules.specs.declared.records.Kind.TheVariants.{Put, Delete, Rollback}
use Rattle.rules.specs.declared.records.Record.{Record}
use Rattle.rules.specs.Box.{Lock, Default}
use Rattle.rules.specs.Page.{KeyLock}

pub record KeyRecord : Type 0 where
  pub key : Key
  pub write : Record

pub record Image : Type 0 where
  pub table : ℕ
  pub floor : ℕ
  pub defaults : List Default
  pub locks : List KeyLock
  pub writes : List KeyRecord

unfoldable pub kind_if : Bool → Bool → Bool → Reader Kind
kind_if true d r = just Put
kind_if false true r = just Delete
kind_if false false true = just Rollback
kind_if false false false = λ s. none

-- "Kinds: 1 Put, 2 Delete, 3 Rollback"
unfoldable pub kind_from : Reader Kind
kind_from = do
  b ← byte
  kind_if (eqb b 1) (eqb b 2) (eqb b 3)

-- "key length, key, 8-byte start, row length, row"
unfoldable pub default_from : Reader Default
default_from = do
  k ← piece
  s ← number_of 8
  r ← piece
  just (record { key = k; start = s; row = r })

-- "Lock: 8-byte transaction, primary length, primary, 8-byte start, 8-byte time to live, kind byte"
unfoldable pub lock_from : Reader Lock
lock_from = do
  t ← number_of 8
  p ← piece
  s ← number_of 8
  l ← number_of 8
  n ← kind_from
  just (record { txn = t; primary = p; start = s; ttl = l; kind = n })

-- "key length, key, lock"
unfoldable pub key_lock_from : Reader KeyLock
key_lock_from = do
  k ← piece
  l ← lock_from
  just (record { key = k; lock = l })

-- "key length, key, 8-byte write stamp, start, commit, kind byte"
unfoldable pub write_from : Reader KeyRecord
write_from = do
  k ← piece
  w ← number_of 8
  s ← number_of 8
  c ← number_of 8
  n ← kind_from
  just (record { key = k; write = record { stamp = w; start = s; commit = c; kind = n } })

-- "2-byte count of defaults ..; 2-byte count of locks ..; 2-byte count of writes", after what stands before them
unfoldable pub sections_from : ℕ → ℕ → Reader Image
sections_from t f = do
  ds ← section (number_of 2) default_from
  ls ← section (number_of 2) key_lock_from
  ws ← section (number_of 2) write_from
  just (record { table = t; floor = f; defaults = ds; locks = ls; writes = ws })

-- "4-byte table number"; "The floor .., 8 bytes, after the table number"
unfoldable pub image_from : Reader Image
image_from = do
  t ← number_of 4
  f ← number_of 8
  sections_from t f

-- 01's own image, without a floor: CR 4's converter reads it
unfoldable pub old_image_from : Reader Image
old_image_from = do
  t ← number_of 4
  sections_from t 0

unfoldable pub image : Bytes → Option Image
image s = whole image_from s

unfoldable pub old_image : Bytes → Option Image
old_image s = whole old_image_from s
