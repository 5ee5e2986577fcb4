-- Demand 2's sentence about shown rows, said of what the program answers: "with sound records and no lock on the key starting at or before
-- the moment asked, a valid key shows a row exactly when the newest record by that moment, rollbacks passed over, is a Put whose stored row
-- decodes, and shows that row." CR 7: it "then speaks of moments at or above the floor". proofs/ShownLaws.antt has the law.
-- Assumes nothing.
use Rattle.std.specs.Prelude.{ℕ, ◌≤◌, ◌<◌, ◌≡◌, true, ◌↔◌, Some, Ok}
use Rattle.std.proofs.Math.Option.{some}
use Rattle.forms.specs.Bytes.{Bytes}
use Rattle.forms.specs.Key.{Key, key_form}
use Rattle.forms.specs.Row.{Row}
use Rattle.forms.specs.declared.part.Part.{Part}
use Rattle.rules.specs.Box.{Box, Lock, records_of, lock_of}
use Rattle.rules.specs.Sound.{all_sound}
use Rattle.rules.specs.Read.{examine}
use Rattle.rules.specs.Shown.{NewestPut}
use Rattle.store.specs.View.{box_of}
use Rattle.store.specs.Made.{Made}
use Rattle.store.specs.declared.table.Store.{Store}
use Rattle.reads.specs.declared.seen.Reading.{Reading}
use Rattle.reads.specs.Seen.{RowSeen, ReadAs}
use Rattle.reads.specs.Parts.{RowPart}

-- "with sound records and no lock on the key starting at or before the moment asked, a valid key"
pub record AskedOf (floor : ℕ) (key : Key) (moment : ℕ) (b : Box) : Type 0 where
  -- "moments at or above the floor"
  pub above : floor ≤ moment
  pub valid : key_form key ≡ true
  pub sound : all_sound (records_of key b.lines) ≡ true
  pub free : (l : Lock) → lock_of key b.lines ≡ some l → moment < l.start

-- the answer is a row, and that row is the part that it hands back
pub record ShowsRow (s : RowSeen) (part : Bytes) (row : Row) : Type 0 where
  pub place : Part
  pub answers : s ≡ Ok (Some place)
  pub hands : part ≡ row

-- the sentence: `r` is what `read` gives, `part` what `row_of` hands back of it
abbrev pub RowsSeen : Type 0
RowsSeen =
    (store : Store) (area key : Bytes) (moment : ℕ) (r : Reading) (part : Bytes) (row : Row)
    → Made store area
    → AskedOf store.floor key moment (box_of store area)
    → ReadAs (examine store.floor key moment (box_of store area)) area r
    → RowPart area r.seen part
    → ShowsRow r.seen part row ↔ NewestPut key moment (box_of store area) row
