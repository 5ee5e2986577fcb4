-- The walk over a trace: the calls still to come, and the next of them.
-- Assumes nothing.
use Rattle.std.specs.Prelude.{ℕ, zero, suc, ◌≡◌, List, [], Option as Maybe, None, Some}
use Rattle.std.proofs.Math.Option.{Option, none, some}
use Rattle.forms.specs.Bytes.{Bytes}
use Rattle.forms.specs.Readers.{Read, Reader}
use Rattle.forms.specs.Numbers.{number_of}
use Rattle.forms.specs.Places.{entries}
use Rattle.traces.specs.declared.trace.Calls.{Calls}
use Rattle.traces.specs.Trace.{framed}

-- a count of calls, and their bytes
abbrev pub started : Maybe Calls → Option (Read ℕ)
started None = none
started (Some c) = some (record { got = c.left; rest = c.reader.left.now })

-- all calls of a trace that has a count
pub record Starts (s : Bytes) (o : Maybe Calls) : Type 0 where
  pub is : number_of 2 s ≡ started o

-- the next call, if one is left
abbrev pub framed_if : (left : ℕ) → Reader Bytes
framed_if zero = λ s. none
framed_if (suc n) = framed

-- ---- what is still to come of entries of any sort

abbrev pub list_of : {A : Type 0} → Option (List A) → List A
list_of none = []
list_of (some xs) = xs

unfoldable pub ahead : {A : Type 0} → Reader A → (left : ℕ) → Bytes → List A
ahead r left s = list_of (entries r left s)

-- the bytes s say so many entries, and nothing else
pub record Ahead {A : Type 0} (r : Reader A) (left : ℕ) (s : Bytes) : Type 0 where
  pub is : entries r left s ≡ some (ahead r left s)
