-- What the benchmark's calls ask: a store that our code made, and an area for copies.
-- Assumes nothing.
use Rattle.std.specs.Prelude.{◌≡◌, ℕ, ◌<◌, length, List, Option, Some, None}
use Rattle.forms.specs.Bytes.{Bytes}
use Rattle.store.specs.Made.{Made}
use Rattle.bench.specs.declared.asked.Asked.{Asked}
use Rattle.bench.specs.declared.turning.Subject.{Subject}

-- a turn: the store stands on its area, and the calls that change it are made on a copy
pub record TurnAsks (on : Subject) (copy : Bytes) : Type 0 where
  pub made : Made on.store.now on.area.now
  pub length_is : length copy ≡ 131072
