-- Entries of an image as document 01's defaults, locks and writes, and which of them are good.
-- Assumes nothing.
use Rattle.std.specs.Prelude.{ℕ, ◌≡◌, Bool, true, false, not, ◌&&◌, drop, eqb, Option, Some, None, Result, Ok, Err}
use Rattle.std.specs.Result.{result_unwrap_or}
use Rattle.std.proofs.Math.Option.{none, some}
use Rattle.std.proofs.Math.Option as maths
use Rattle.forms.specs.Bytes.{Bytes}
use Rattle.forms.specs.Row.{Row, row_form, old_row_form}
use Rattle.forms.specs.Readers.{Read, Reader, when}
use Rattle.rules.specs.declared.records.Kind.{Kind}
use Rattle.rules.specs.declared.records.Kind.TheVariants.{Rollback}
use Rattle.rules.specs.declared.records.Record.{Record}
use Rattle.rules.specs.Box as box
use Rattle.rules.specs.Page.{KeyLock}
use Rattle.rules.specs.Image.{KeyRecord}
use Rattle.rules.specs.Restore.{good_default_by, good_lock, good_write}
use Rattle.rules.specs.Convert.{may_grow}
use Rattle.forms.specs.Places.{Found}
use Rattle.images.specs.Entries.{Raw, entry_from, raw_of, EntryIs}
use Rattle.images.specs.declared.entries.Section.{Section}
use Rattle.images.specs.declared.entries.Section.TheVariants.{Default, Lock, Write}
use Rattle.images.specs.declared.entries.ImageEntry.{ImageEntry}
use Rattle.images.specs.declared.checks.Form.{Form}
use Rattle.images.specs.declared.checks.Form.TheVariants.{Old, New}

-- whether a number says a kind; of one that says none the kind is Rollback
abbrev pub known : Result Kind ℕ → Bool
known (Err n) = false
known (Ok k) = true

abbrev pub kind_of : Result Kind ℕ → Kind
kind_of k = result_unwrap_or k Rollback

abbrev pub default_of : Raw → box.Default
default_of x = record { key = x.key; start = x.first; row = x.piece }

abbrev pub lock_of : Raw → Kind → box.Lock
lock_of x k = record { txn = x.first; primary = x.piece; start = x.second; ttl = x.third; kind = k }

abbrev pub key_lock_of : Raw → KeyLock
key_lock_of x = record { key = x.key; lock = lock_of x (kind_of x.kind) }

abbrev pub record_of : Raw → Record
record_of x = record { stamp = x.first; start = x.second; commit = x.third; kind = kind_of x.kind }

abbrev pub key_record_of : Raw → KeyRecord
key_record_of x = record { key = x.key; write = record_of x }

-- "default start not 0, row decodes"
abbrev pub start_and_row : (Row → Bool) → Raw → Bool
start_and_row form x = not (eqb x.first 0) && form x.piece

-- the form in which a default's row is: that of a row, or document 01's, which a zero count can be added to
abbrev pub form_of : Form → Row → Bool
form_of Old = λ r. old_row_form r && may_grow r
form_of New = row_form

module _ (form : Row → Bool) where
  -- an entry of a section that is good by itself
  unfoldable pub fits : Section → ℕ → Raw → Bool
  fits Default t x = good_default_by form t (default_of x)
  fits Lock t x = known x.kind && good_lock t (key_lock_of x)
  fits Write t x = known x.kind && good_write t (key_record_of x)

-- what was read, if it passes a test
unfoldable pub pass : {A : Type 0} → (A → Bool) → maths.Option (Read A) → maths.Option (Read A)
pass g none = none
pass g (some q) = when (g q.got) q

unfoldable pub good_from : (Row → Bool) → Section → ℕ → Reader Raw
good_from form section t s = pass (fits form section t) (entry_from section s)

pub record GoodIs (form : Row → Bool) (section : Section) (t : ℕ) (s : Bytes) (at : ℕ) (e : ImageEntry) : Type 0 where
  pub read : Found (good_from form section t) s at (raw_of s e) e.next
  pub entry : EntryIs section s at e

abbrev pub GoodAt : (Row → Bool) → Section → ℕ → Bytes → ℕ → Option ImageEntry → Type 0
GoodAt form section t s at None = good_from form section t (drop at s) ≡ none
GoodAt form section t s at (Some e) = GoodIs form section t s at e
