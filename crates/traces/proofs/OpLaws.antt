-- The table of calls: a byte is in the list of op bytes exactly where the table has a call for it.
-- Assumes nothing.
use Prim.Native.Nat.{ℕ}
use mathlib.Core.Path.{◌≡◌, refl}
use mathlib.Core.Bool.{Bool, true, false, ◌||◌}
use mathlib.Core.Option.{Option}
use Rattle.std.specs.Prelude.{Option as Maybe, None, Some}
use Rattle.std.specs.Option.{is_some as tells}
use Rattle.forms.specs.Readers.{is_some}
use Rattle.traces.specs.Taken.{some_of}
use Rattle.traces.specs.declared.op.Op.{Op}
use Rattle.traces.specs.Ops.{is_in, known_op, ◌⇒◌else◌, op_of}

one_more : (f : Bool) {b : Bool} (op : Op) (o : Option Op) → b ≡ is_some o → f || b ≡ is_some (f ⇒ op else o)
one_more true op o e = refl
one_more false op o e = e

pub known-named : (b : ℕ) → known_op b ≡ is_some (op_of b)
unfolding is_in op_of
known-named b = search (one_more) depth 30

pub some-is : {A : Type 0} (o : Maybe A) → tells o ≡ is_some (some_of o)
some-is None = refl
some-is (Some x) = refl
