-- Document 02, CR 9, of the store: "Answer 7 shall carry, besides transaction and start, the lock's time to live and kind, in every call that can
-- give it. Every other answer carries zeros there." Said of every public call that kept its promise on a store that our code made.
-- proofs/Holders.antt has the theorem.
-- Assumes nothing.
use Rattle.forms.specs.Key.{Key}
use Rattle.rules.specs.Box.{Box, Lock}
use Rattle.ledger.specs.Holders.{Bars, HolderSays}
use Rattle.demands.specs.Calls.{Public, starting, calling, handing_row, handing_primary, gives, Lent, box_in, Given, answer_in, Kept, MadeIn}

-- why a lock bars a public call: "key locked by another, or at or before the reading moment". Nothing bars `fresh`, `open`, `row_of` and `primary_of`.
abbrev pub BarsAt : Public → Box → Key → Lock → Type 0
BarsAt starting b k l = ⊥
BarsAt (calling c) b k l = Bars c b k l
BarsAt (handing_row s) b k l = ⊥
BarsAt (handing_primary p) b k l = ⊥

-- answer 7 has the four fields of a lock that stood in the box before the call, at a key that the call names or meets, and barred it there; every
-- other answer has four zeros
abbrev pub Holders : Type 0
Holders = (w : Lent) (c : Public) (g : Given (gives c)) → Kept w c g → MadeIn w → HolderSays (BarsAt c (box_in w)) (box_in w) (answer_in w g)
