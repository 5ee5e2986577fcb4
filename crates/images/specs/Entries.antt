-- Document 01: "defaults (key length, key, 8-byte start, row length, row) .. locks (key length, key, lock) .. writes (key length, key, 8-byte
-- write stamp, start, commit, kind byte). Lock: 8-byte transaction, primary length, primary, 8-byte start, 8-byte time to live, kind byte."
-- One form for the entries of the three sections: a key and a number; a piece, where the section has one; two numbers and a kind, where it
-- has them.
-- Assumes nothing.
use Rattle.std.specs.Prelude.{ℕ, ◌+◌, ◌≤◌, ◌≡◌, Bool, true, false, [], length, drop, eqb, Option, Some, None, Result, Ok, Err}
use Rattle.std.proofs.Math.Option.{none, some}
use Rattle.std.proofs.Math.Option as maths
use Rattle.forms.specs.Bytes.{Bytes}
use Rattle.forms.specs.Readers.{Read, Reader, ◌>>=◌, just, byte, piece}
use Rattle.forms.specs.Numbers.{number_of}
use Rattle.forms.specs.Key.{Key}
use Rattle.forms.specs.Places.{Found, PartIn, part_of}
use Rattle.forms.specs.declared.part.Part.{Part}
use Rattle.rules.specs.declared.records.Kind.{Kind}
use Rattle.rules.specs.declared.records.Kind.TheVariants.{Put, Delete, Rollback}
use Rattle.images.specs.declared.entries.Section.{Section}
use Rattle.images.specs.declared.entries.Section.TheVariants.{Default, Lock, Write}
use Rattle.images.specs.declared.entries.Tail.{Tail}
use Rattle.images.specs.declared.entries.ImageEntry.{ImageEntry}

-- an entry as it stands; of another number than a kind's there is the number
pub record Raw : Type 0 where
  pub key : Key
  pub first : ℕ
  pub piece : Bytes
  pub second : ℕ
  pub third : ℕ
  pub kind : Result Kind ℕ

pub record End : Type 0 where
  pub second : ℕ
  pub third : ℕ
  pub kind : Result Kind ℕ

-- "Kinds: 1 Put, 2 Delete, 3 Rollback", and else the number itself
abbrev pub kind_by : ℕ → Bool → Bool → Bool → Result Kind ℕ
kind_by n true d r = Ok Put
kind_by n false true r = Ok Delete
kind_by n false false true = Ok Rollback
kind_by n false false false = Err n

abbrev pub kind_from : ℕ → Result Kind ℕ
kind_from n = kind_by n (eqb n 1) (eqb n 2) (eqb n 3)

abbrev pub is_put : Result Kind ℕ → Bool
is_put (Err n) = false
is_put (Ok Put) = true
is_put (Ok Delete) = false
is_put (Ok Rollback) = false

abbrev pub has_piece : Section → Bool
has_piece Default = true
has_piece Lock = true
has_piece Write = false

abbrev pub has_tail : Section → Bool
has_tail Default = false
has_tail Lock = true
has_tail Write = true

-- what is read where the section has it, and else what stands for it
abbrev pub or_else : {A : Type 0} → Bool → Reader A → A → Reader A
or_else true r x = r
or_else false r x = just x

unfoldable pub tail_from : Reader End
tail_from = do
  b ← number_of 8
  c ← number_of 8
  n ← byte
  just (record { second = b; third = c; kind = kind_from n })

abbrev pub no_end : End
no_end = record { second = 0; third = 0; kind = Err 0 }

unfoldable pub entry_from : Section → Reader Raw
entry_from section = do
  k ← piece
  n ← number_of 8
  p ← or_else (has_piece section) piece []
  t ← or_else (has_tail section) tail_from no_end
  just (record { key = k; first = n; piece = p; second = t.second; third = t.third; kind = t.kind })

abbrev pub no_raw : Raw
no_raw = record { key = []; first = 0; piece = []; second = 0; third = 0; kind = Err 0 }

abbrev pub raw_or : maths.Option (Read Raw) → Raw
raw_or none = no_raw
raw_or (some q) = q.got

-- the entry of a section at a place
unfoldable pub raw_at : Section → Bytes → ℕ → Raw
raw_at section s at = raw_or (entry_from section (drop at s))

-- ---- what the readers of the code find at a place

pub record PieceIs (section : Section) (s : Bytes) (at : ℕ) (r : Part) : Type 0 where
  pub read : Found (or_else (has_piece section) piece []) s at (part_of s r) (r.at + r.len)
  pub inside : PartIn s r
  pub low : at ≤ r.at
  pub high : r.at ≤ at + 1

abbrev pub PieceAt : Section → Bytes → ℕ → Option Part → Type 0
PieceAt section s at None = or_else (has_piece section) piece [] (drop at s) ≡ none
PieceAt section s at (Some r) = PieceIs section s at r

abbrev pub end_of : Tail → End
end_of t = record { second = t.second; third = t.third; kind = t.kind }

pub record TailIs (has : Bool) (s : Bytes) (at : ℕ) (r : Tail) : Type 0 where
  pub read : Found (or_else has tail_from no_end) s at (end_of r) r.next
  pub low : at ≤ r.next
  pub high : r.next ≤ at + 17

abbrev pub TailAt : Bool → Bytes → ℕ → Option Tail → Type 0
TailAt has s at None = or_else has tail_from no_end (drop at s) ≡ none
TailAt has s at (Some r) = TailIs has s at r

abbrev pub raw_of : Bytes → ImageEntry → Raw
raw_of s e = record {
  key = part_of s e.key;
  first = e.first;
  piece = part_of s e.piece;
  second = e.second;
  third = e.third;
  kind = e.kind;
}

-- key and piece lie in the image
pub record Lies (s : Bytes) (e : ImageEntry) : Type 0 where
  pub key : PartIn s e.key
  pub piece : PartIn s e.piece

pub record EntryIs (section : Section) (s : Bytes) (at : ℕ) (e : ImageEntry) : Type 0 where
  pub read : Found (entry_from section) s at (raw_of s e) e.next
  pub raw : raw_of s e ≡ raw_at section s at
  pub lies : Lies s e
  pub low : at + (e.key.len + e.piece.len) + 9 ≤ e.next
  pub high : e.next ≤ at + (e.key.len + e.piece.len) + 27

abbrev pub EntryAt : Section → Bytes → ℕ → Option ImageEntry → Type 0
EntryAt section s at None = entry_from section (drop at s) ≡ none
EntryAt section s at (Some e) = EntryIs section s at e

-- what `raw_at` says of a place: where no entry stands, the empty one
pub record Stood (section : Section) (s : Bytes) (at : ℕ) (e : ImageEntry) : Type 0 where
  pub raw : raw_of s e ≡ raw_at section s at
  pub lies : Lies s e
