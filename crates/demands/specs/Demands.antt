-- Demand 3, of the store. `Ran cs w w'`: from the store and area of `w` the changing calls `cs` were made in turn, and each gave back a store,
-- and left an area, that kept its promise (`Kept`); nothing else is known of the code. proofs/Carried.antt has the theorem.
-- Assumes nothing.
use Rattle.std.specs.Prelude.{◌+◌, ◌≡◌, List, [], ◌∷◌}
use Rattle.rules.specs.Call.{Changing, Call}
use Rattle.ledger.specs.Ledger as ledger
use Rattle.ledger.specs.Ledger.{Past, different_pairs}
use Rattle.demands.specs.Calls.{Public, calling, gives, Lent, box_in, floor_in, state_in, Given, after, Kept, MadeIn}

-- ---- a sequence of calls, each of which kept its promise

abbrev pub changing : Changing → Public
changing c = calling (Call.Change c)

pub data Ran : List Changing → Lent → Lent → Type 0 where
  none : (w : Lent) → Ran [] w w
  next : (c : Changing) (cs : List Changing) (w : Lent) (g : Given (gives (changing c))) (w' : Lent) → Kept w (changing c) g → Ran cs (after w g) w'
      → Ran (c ∷ cs) w w'

-- the store after the calls is one that a call may be made on, and shows the box and the floor that the definitions leave
pub record Shows (p : Past) (w : Lent) : Type 0 where
  pub made : MadeIn w
  pub shown : state_in w ≡ ledger.state_in p

-- Demand 3, of the store: its sentence of the box that the store shows, of its floor and of what the calls named; and the store's own tally of
-- lines is the number of different pairs less those whose line a collection dropped. Where `p` is `after cs empty`, the calls were made on a
-- fresh store. Document 02, CR 3: "The third demand then also holds from a restored store, with the image's pairs and rows counted as named
-- before the first call", where `p` is `after cs (restored i)`.
pub record Demand3 (p : Past) (w : Lent) : Type 0 where
  pub demand : ledger.Demand3 (record { box = box_in w; floor = floor_in w; log = p.log; dropped = p.dropped })
  pub tally : w.store.load.lines + different_pairs p.dropped ≡ different_pairs p.log
