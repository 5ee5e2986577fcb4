-- What is asked of the lists in which an image's places are kept and sorted.
-- Assumes nothing.
use Rattle.std.specs.Prelude.{◌≡◌, List, ℕ, ◌+◌, ◌≤◌, length}
use Rattle.forms.specs.Bytes.{Bytes}
use Rattle.images.specs.declared.checks.Form.{Form}
use Rattle.images.specs.declared.sections.Sections.{Sections}
use Rattle.images.specs.Sections.{Room, Listed}

-- lists for the places of each section and for those of all lines, and room to sort
pub record JudgeAsk (s : Bytes) (ds ls ws ps room : List ℕ) : Type 0 where
  pub enough : Room s ds ls ws
  pub lines : length ls + length ws ≤ length ps
  pub rows_room : length ds ≤ length room
  pub lines_room : length ps ≤ length room

-- the places of an image whose entries are good, each by itself, with room for those of all lines, and to sort them
pub record AlikeAsk (form : Form) (s : Bytes) (i : Sections) (ds ls ws ps room : List ℕ) : Type 0 where
  pub listed : Listed form s i ds ls ws
  pub lines : length ps ≡ length ls + length ws
  pub rows_room : length ds ≤ length room
  pub lines_room : length ps ≤ length room
