-- What `next_trace` read.
-- Assumes nothing.
use Prim.Native.Nat.{ℕ, ◌≤◌}
use mathlib.Core.Path.{◌≡◌, subst}
use lib.ListN.{length}
use Rattle.forms.specs.Bytes.{Bytes}
use Rattle.drive.specs.declared.streams.Next.{Next}
use Rattle.drive.specs.declared.streams.Next.TheVariants.{Trace}
use Rattle.drive.specs.Next.{NextIn}

pub next_in : {x : Next} {n : ℕ} (s : Bytes) → x ≡ Trace n → NextIn x s → n ≤ length s
next_in s e v = subst (λ (y : Next). NextIn y s) e v
