-- The sections of an image as lists of the places of their entries.
-- Assumes nothing.
use Rattle.std.specs.Prelude.{ℕ, ◌+◌, ◌*◌, ◌≤◌, ◌<◌, ◌≡◌, ◌⊎◌, Bool, true, false, List, map, length, take, drop, ltb, Option, Some, None}
use Rattle.std.proofs.Math.Option.{none, some}
use Rattle.std.proofs.Math.Option as maths
use Rattle.seqs.specs.Tables.{All}
use Rattle.forms.specs.Bytes.{Bytes}
use Rattle.forms.specs.Row.{Row}
use Rattle.forms.specs.Readers as readers
use Rattle.forms.specs.Numbers.{number_of}
use Rattle.rules.specs.declared.room.Load.{Load}
use Rattle.rules.specs.Box as box
use Rattle.rules.specs.Room.{sum_of, load_of, Fits}
use Rattle.rules.specs.Image.{Image, sections_from, image, old_image}
use Rattle.rules.specs.Restore.{all_good, good_default_by, good_lock, good_write, good_image_by, good_image, healthy_image, floored_image, box_of}
use Rattle.forms.specs.Places.{Found}
use Rattle.images.specs.Entries.{Raw, raw_at}
use Rattle.images.specs.declared.entries.Section.{Section}
use Rattle.images.specs.declared.entries.Section.TheVariants.{Default, Lock, Write}
use Rattle.images.specs.declared.checks.Form.{Form}
use Rattle.images.specs.declared.checks.Form.TheVariants.{Old, New}
use Rattle.images.specs.Good.{default_of, key_lock_of, key_record_of, form_of, good_from}
use Rattle.images.specs.declared.sections.Span.{Span}
use Rattle.images.specs.declared.sections.Head.{Head}
use Rattle.images.specs.declared.sections.Sections.{Sections}

-- a list of n places has one for every entry that a section of s can have: an entry has at least 9 bytes, and a count 2
abbrev pub Enough : Bytes → ℕ → Type 0
Enough s n = (length s ≤ 9 * n) ⊎ (65535 ≤ n)

-- a good entry stands at p, between two places
pub record Stands (form : Row → Bool) (section : Section) (t : ℕ) (s : Bytes) (from to p : ℕ) : Type 0 where
  pub next : ℕ
  pub read : Found (good_from form section t) s p (raw_at section s p) next
  pub low : from ≤ p
  pub high : p < to

-- "for a default, key plus row; a lock, key plus primary; a record, key"
abbrev pub raw_bytes : Raw → ℕ
raw_bytes x = length x.key + length x.piece

pub record SpanIs (form : Row → Bool) (section : Section) (t : ℕ) (s : Bytes) (at : ℕ) (p : Span) (places : List ℕ) : Type 0 where
  pub read : Found (readers.section (number_of 2) (good_from form section t)) s at (map (raw_at section s) (take p.count places)) p.end
  pub each : All (Stands form section t s at p.end) (take p.count places)
  pub count_fits : p.count ≤ length places
  pub bytes_is : p.bytes ≡ sum_of raw_bytes (map (raw_at section s) (take p.count places))
  pub bytes_few : p.bytes ≤ 34000000
  pub end_near : p.end ≤ at + 35200000

abbrev pub SpanAt : (Row → Bool) → Section → ℕ → Bytes → ℕ → Option Span → List ℕ → Type 0
SpanAt form section t s at None places = readers.section (number_of 2) (good_from form section t) (drop at s) ≡ none
SpanAt form section t s at (Some p) places = SpanIs form section t s at p places

-- ---- the image

-- places for the entries of each section
pub record Room (s : Bytes) (ds ls ws : List ℕ) : Type 0 where
  pub defaults : Enough s (length ds)
  pub locks : Enough s (length ls)
  pub writes : Enough s (length ws)

-- the image that bytes are in that form: document 01's has no floor
abbrev pub image_in : Form → Bytes → maths.Option Image
image_in Old s = old_image s
image_in New s = image s

-- bytes that are an image, and a good one
abbrev pub is_good : (Row → Bool) → maths.Option Image → Bool
is_good form none = false
is_good form (some i) = good_image_by form i

-- "4-byte table number"; "The floor .., 8 bytes, after the table number": what stands before the sections, and where it ends
pub record HeadIs (form : Form) (s : Bytes) (r : Head) : Type 0 where
  pub is : image_in form s ≡ readers.ended (sections_from r.table r.floor (drop r.end s))
  pub near : r.end ≤ 12

abbrev pub HeadAt : Form → Bytes → Option Head → Type 0
HeadAt form s None = image_in form s ≡ none
HeadAt form s (Some r) = HeadIs form s r

-- the image whose entries stand at these places
abbrev pub image_of : Bytes → ℕ → ℕ → List ℕ → List ℕ → List ℕ → Image
image_of s t f ds ls ws = record {
  table = t;
  floor = f;
  defaults = map default_of (map (raw_at Default s) ds);
  locks = map key_lock_of (map (raw_at Lock s) ls);
  writes = map key_record_of (map (raw_at Write s) ws);
}

-- the entries at places
abbrev pub row_at : Bytes → ℕ → box.Default
row_at s p = default_of (raw_at Default s p)

abbrev pub line_if : Bool → Bytes → ℕ → box.KeyLine
line_if true s p = record { key = (key_lock_of (raw_at Lock s p)).key; line = box.Standing (key_lock_of (raw_at Lock s p)).lock }
line_if false s p = record { key = (key_record_of (raw_at Write s p)).key; line = box.Finished (key_record_of (raw_at Write s p)).write }

-- a lock below the place of the writes, else a write
abbrev pub line_at : Bytes → ℕ → ℕ → box.KeyLine
line_at s writesat p = line_if (ltb p writesat) s p

-- an image that restore accepts, its box told by places in its order
pub record Placed (s : Bytes) (load : Load) (floor writesat : ℕ) (rows lines : List ℕ) : Type 0 where
  pub img : Image
  pub is : image s ≡ some img
  pub good : good_image img ≡ true
  pub healthy : healthy_image img ≡ true
  pub floored : floored_image img ≡ true
  pub floor_is : floor ≡ img.floor
  pub fit : Fits load
  pub load_is : load ≡ load_of (box_of img)
  pub rows_are : map (row_at s) (take load.defaults rows) ≡ (box_of img).defaults
  pub lines_are : map (line_at s writesat) (take load.lines lines) ≡ (box_of img).lines

-- an image in form at these places, each of its entries good by itself; its defaults stand from `begin` to `lat`
pub record Listed (form : Form) (s : Bytes) (i : Sections) (ds ls ws : List ℕ) : Type 0 where
  pub table : ℕ
  pub begin : ℕ
  pub lat : ℕ
  pub some_table : table ≡ 0 → ⊥
  pub is : image_in form s ≡ some (image_of s table i.floor ds ls ws)
  pub good_defaults : all_good (good_default_by (form_of form) table) (image_of s table i.floor ds ls ws).defaults ≡ true
  pub good_locks : all_good (good_lock table) (image_of s table i.floor ds ls ws).locks ≡ true
  pub good_writes : all_good (good_write table) (image_of s table i.floor ds ls ws).writes ≡ true
  pub defaults : All (Stands (form_of form) Default table s begin lat) ds
  pub locks : All (Stands (form_of form) Lock table s lat i.writesat) ls
  pub writes : All (Stands (form_of form) Write table s i.writesat (length s)) ws
  pub bytes_is : i.bytes ≡ sum_of raw_bytes (map (raw_at Default s) ds) + sum_of raw_bytes (map (raw_at Lock s) ls) + sum_of raw_bytes (map (raw_at Write s) ws)

pub record SectionsAre (form : Form) (s : Bytes) (i : Sections) (ds ls ws : List ℕ) : Type 0 where
  pub listed : Listed form s i (take i.defaults ds) (take i.locks ls) (take i.writes ws)
  pub few_defaults : i.defaults ≤ length ds
  pub few_locks : i.locks ≤ length ls
  pub few_writes : i.writes ≤ length ws

abbrev pub SectionsAt : Form → Bytes → Option Sections → List ℕ → List ℕ → List ℕ → Type 0
SectionsAt form s None ds ls ws = is_good (form_of form) (image_in form s) ≡ false
SectionsAt form s (Some i) ds ls ws = SectionsAre form s i ds ls ws
