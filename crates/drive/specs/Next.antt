-- A trace that was read lies in the buffer.
-- Assumes nothing.
use Rattle.std.specs.Prelude.{◌≤◌, length}
use Rattle.forms.specs.Bytes.{Bytes}
use Rattle.drive.specs.declared.streams.Next.{Next}
use Rattle.drive.specs.declared.streams.Next.TheVariants.{End, Over, Trace}

abbrev pub NextIn : Next → Bytes → Type 0
NextIn End s = Unit {0}
NextIn Over s = Unit {0}
NextIn (Trace n) s = n ≤ length s
