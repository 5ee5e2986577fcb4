-- What `collect` promises. Assumes nothing.
use Rattle.std.specs.Prelude.{ℕ, ◌≡◌}
use Rattle.forms.specs.Bytes.{Bytes}
use Rattle.rules.specs.Collect.{collect}
use Rattle.store.specs.declared.table.Store.{Store}
use Rattle.store.specs.View.{state_shown}
use Rattle.calls.specs.Settled.{Changed, Untouched, Replaced}

-- the definition's answer and state; and where the state is as it was, nothing has changed
pub record CollectedAs (f : ℕ) (st : Store) (area : Bytes) (r : Changed) (area' : Bytes) : Type 0 where
  pub replaced : Replaced st area (collect f (state_shown st area)) r area'
  pub unchanged : (collect f (state_shown st area)).state ≡ state_shown st area → Untouched st area r.store area'
