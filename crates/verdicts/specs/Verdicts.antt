-- What restore decides from the bytes of an image alone, and of an image that it accepts its entries in the order of the box.
-- Assumes nothing.
use Rattle.std.specs.Prelude.{◌≡◌, List, ℕ, ◌+◌, ◌≤◌, length, take, Result, Ok, Err}
use Rattle.seqs.specs.Tables.{All}
use Rattle.forms.specs.Bytes.{Bytes}
use Rattle.rules.specs.declared.answers.Refusal.{Refusal}
use Rattle.rules.specs.Answers.{Accepted}
use Rattle.rules.specs.Outcomes.{refusal}
use Rattle.rules.specs.Calls.{State}
use Rattle.rules.specs.Restore.{restore}
use Rattle.images.specs.declared.sections.Sections.{Sections}
use Rattle.images.specs.Sections.{Enough, Placed}
use Rattle.faults.specs.Judged.{KindSaid, Sound}
use Rattle.verdicts.specs.declared.outcome.ImageVerdict.{ImageVerdict}

-- room for the places of a box that is full
pub record Wide (rows lines : List ℕ) : Type 0 where
  pub some_rows : 1024 ≤ length rows
  pub some_lines : 1024 ≤ length lines

-- n places are enough for each section, and m for all lines
pub record PlacesFor (s : Bytes) (n m : ℕ) (rows lines : List ℕ) : Type 0 where
  pub enough : Enough s n
  pub both : n + n ≤ m
  pub few : m ≤ 131072
  pub wide : Wide rows lines

pub record DecideAsk (s : Bytes) (i : Sections) (ds ps rows lines : List ℕ) : Type 0 where
  pub judged : Sound s i ds ps
  pub wide : Wide rows lines

-- an image that restore accepts, whatever it replaces; the two lists have the places of its box, whose lines say their kinds
pub record Accepts (s : Bytes) (v : ImageVerdict) (rows lines : List ℕ) : Type 0 where
  pub answer_is : (st : State) → (restore s st).answer ≡ Accepted
  pub placed : Placed s v.load v.floor v.writesat rows lines
  pub said : All (KindSaid s v.writesat) (take v.load.lines lines)

-- the answer is restore's, whatever the image replaces
abbrev pub Decided : Bytes → Result ImageVerdict Refusal → List ℕ → List ℕ → Type 0
Decided s (Ok v) rows lines = Accepts s v rows lines
Decided s (Err r) rows lines = (st : State) → (restore s st).answer ≡ refusal r
