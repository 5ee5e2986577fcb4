-- An image judged whole, and of a sound one its entries in the order of the box.
-- Assumes nothing.
use Rattle.std.specs.Prelude.{◌≡◌, Bool, true, false, ◌&&◌, List, ◌++◌, map, ℕ, ◌+◌, ◌≤◌, length, take, Option, Some, None, ltb}
use Rattle.std.proofs.Math.Option.{none, some}
use Rattle.std.proofs.Math.Option as maths
use Rattle.seqs.specs.Tables.{All}
use Rattle.forms.specs.Bytes.{Bytes}
use Rattle.rules.specs.declared.room.Load.{Load}
use Rattle.rules.specs.Room.{load_of}
use Rattle.rules.specs.Image.{Image, image}
use Rattle.rules.specs.Page.{KeyLock}
use Rattle.rules.specs.Restore.{all_good, good_image, healthy_image, lock_above, floored_image, box_of}
use Rattle.orders.specs.declared.marks.By.TheVariants.{Rows, Lines}
use Rattle.orders.specs.Marks.{before_at}
use Rattle.orders.specs.Sorts.{sorted}
use Rattle.images.specs.declared.entries.Section.TheVariants.{Lock, Write}
use Rattle.images.specs.declared.sections.Sections.{Sections}
use Rattle.images.specs.Entries.{raw_at}
use Rattle.images.specs.Good.{known, key_lock_of}
use Rattle.images.specs.Sections.{row_at, line_at}

-- ---- the entries held against each other

-- bytes that are an image that restore lets in, if it has room
abbrev pub is_sound : maths.Option Image → Bool
is_sound none = false
is_sound (some i) = good_image i && healthy_image i && floored_image i

-- the lock at a place
abbrev pub lock_at : Bytes → ℕ → KeyLock
lock_at s p = key_lock_of (raw_at Lock s p)

-- "an image with such a lock is 13", a lock at or below the image's floor: none of those at these places is
abbrev pub locks_above : Bytes → ℕ → List ℕ → Bool
locks_above s floor ls = all_good (lock_above floor) (map (lock_at s) ls)

-- whether the image is sound; the places of a sound one are sorted
pub record Alike (s : Bytes) (i : Sections) (ds ls ws : List ℕ) (r : Bool) (ds' ps' : List ℕ) : Type 0 where
  pub is : r ≡ is_sound (image s)
  pub rows : r ≡ true → ds' ≡ sorted (before_at Rows s) ds
  pub lines : r ≡ true → ps' ≡ sorted (before_at (Lines i.writesat) s) (ls ++ ws)

-- ---- the image judged

-- the load of an image's box
abbrev pub load_from : Sections → Load
load_from i = record { lines = i.locks + i.writes; locks = i.locks; defaults = i.defaults; bytes = i.bytes }

-- the line at a place says its kind
abbrev pub said_if : Bool → Bytes → ℕ → Bool
said_if true s p = known (raw_at Lock s p).kind
said_if false s p = known (raw_at Write s p).kind

abbrev pub kind_said : Bytes → ℕ → ℕ → Bool
kind_said s writesat p = said_if (ltb p writesat) s p

abbrev pub KindSaid : Bytes → ℕ → ℕ → Type 0
KindSaid s writesat p = kind_said s writesat p ≡ true

-- a sound image, and its box by places
pub record InPlace (s : Bytes) (i : Sections) (ds ps : List ℕ) : Type 0 where
  pub img : Image
  pub is : image s ≡ some img
  pub good : good_image img ≡ true
  pub healthy : healthy_image img ≡ true
  pub floored : floored_image img ≡ true
  pub floor_is : i.floor ≡ img.floor
  pub load_is : load_from i ≡ load_of (box_of img)
  pub rows_are : map (row_at s) ds ≡ (box_of img).defaults
  pub lines_are : map (line_at s i.writesat) ps ≡ (box_of img).lines
  pub said : All (KindSaid s i.writesat) ps

pub record Sound (s : Bytes) (i : Sections) (ds ps : List ℕ) : Type 0 where
  pub in_place : InPlace s i (take i.defaults ds) (take (i.locks + i.writes) ps)
  pub few_rows : i.defaults ≤ length ds
  pub few_lines : i.locks + i.writes ≤ length ps

abbrev pub Judged : Bytes → Option Sections → List ℕ → List ℕ → Type 0
Judged s None ds ps = is_sound (image s) ≡ false
Judged s (Some i) ds ps = Sound s i ds ps
