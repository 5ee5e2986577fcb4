-- Document 02, CR 6, of the store: "Each read also reports the number of write records it examined", and what the request says of that number
-- (`CountTold`). Said of a call that kept its promise; nothing else is known of the code. proofs/Counts.antt has the theorem.
-- Assumes nothing.
use Rattle.std.specs.Prelude.{ℕ}
use Rattle.forms.specs.Key.{Key}
use Rattle.rules.specs.Examined.{CountTold}
use Rattle.rules.specs.Call.{Call}
use Rattle.demands.specs.Calls.{a_row, calling, Lent, box_in, Given, answer_in, count_in, Kept}

-- "the refusing one included. Other refusals still count 0, as does a key .. with no record by the moment. For an answer from a Put or Delete it is
-- one more than the Rollbacks passed over, and it never exceeds the key's records at or below the moment."
abbrev pub ReadsCounted : Type 0
ReadsCounted = (w : Lent) (k : Key) (m : ℕ) (g : Given a_row) → Kept w (calling (Call.Read k m)) g → CountTold k m (box_in w) (answer_in w g) (count_in g)
