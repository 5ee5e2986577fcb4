-- `pages::entries::put_entry` meets its contract: the key's piece, and what the line has past it.
-- Assumes nothing.
use Rattle.pages.proofs.PutEntryLaws.{key-asks, told-asks, entry-laid}
use native.Mathlib.Omega.{arith}
use Rattle.pages.proofs.entries.put_entry.Goals as goal

pub put_stretch-a-requires : goal.put_stretch-a-requires
put_stretch-a-requires c = rw c.place_of.ensures (key-asks c.requires (omega arith))

pub put_intent-requires : goal.put_intent-requires
put_intent-requires c = told-asks c.requires (rw c.place_of.ensures at c.put_stretch-a.ensures) c.view_of-line.ensures c.in-Standing.is

pub put_stretch-requires : goal.put_stretch-requires
put_stretch-requires c = told-asks c.requires (rw c.place_of.ensures at c.put_stretch-a.ensures) c.view_of-line.ensures c.in-Finished.is

pub returns-in-Standing : goal.returns-in-Standing
returns-in-Standing c = entry-laid c.requires (rw c.place_of.ensures at c.put_stretch-a.ensures) c.view_of-line.ensures c.in-Standing.is c.put_intent.ensures

pub returns-in-Finished : goal.returns-in-Finished
returns-in-Finished c = entry-laid c.requires (rw c.place_of.ensures at c.put_stretch-a.ensures) c.view_of-line.ensures c.in-Finished.is c.put_stretch.ensures
