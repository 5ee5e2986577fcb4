-- The loop over a trace's calls, whatever is done with the answers: what holds before each of them.
-- Assumes nothing.
use mathlib.Core.Path.{◌≡◌, refl}
use lib.ListN.{length}
use Rattle.forms.specs.Bytes.{Bytes}
use Rattle.store.specs.declared.table.Store.{Store}
use Rattle.store.specs.Made.{Made}
use Rattle.showing.specs.Ran.{Ran, RunCall}
use Rattle.driving.proofs.RunCallLaws.{ran-made}

-- the store is one that a call may be run on, and the buffer is as long as it was
pub record Keeps (out₀ : Bytes) (kept : Store) (area out : Bytes) : Type 0 where
  pub made : Made kept area
  pub out_long : length out ≡ length out₀

pub keeps-start : {st : Store} {area out : Bytes} → Made st area → Keeps out st area out
keeps-start m = record { made = m; out_long = refl }

pub keeps-more : {out₀ : Bytes} {kept : Store} {area out : Bytes} → Keeps out₀ kept area out → {s : Bytes} {r : Ran} {area' out' : Bytes} → RunCall kept area s out r area' out' → length out' ≡ length out₀
    → Keeps out₀ r.store area' out'
keeps-more v u o = record { made = ran-made u v.made; out_long = o }
