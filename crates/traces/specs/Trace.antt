-- docs/TRACE.md: "A trace is a 2-byte count of calls, then each call after its 2-byte length. A length of 65,535 is followed by a 4-byte
-- length, which is then the call's own, since an image can be that long. The driver takes up to 262,144 bytes".
-- "Not in form: .. bytes missing or left over in a call or after the last one, an empty input, more than 262,144 bytes."
-- Assumes nothing.
use Rattle.std.specs.Prelude.{ℕ, Bool, true, false, List, length, leb, eqb}
use Rattle.std.proofs.Math.Option.{Option, none, some}
use Rattle.forms.specs.Bytes.{Bytes}
use Rattle.forms.specs.Readers.{Reader, ◌>>=◌, just, stretch, section, whole, is_some}
use Rattle.forms.specs.Numbers.{number_of}
use Rattle.traces.specs.Calls.{TraceCall, call}

-- "A length of 65,535 is followed by a 4-byte length, which is then the call's own"
unfoldable pub length_if : Bool → ℕ → Reader ℕ
length_if true n = number_of 4
length_if false n = just n

unfoldable pub call_length : Reader ℕ
call_length = do
  n ← number_of 2
  length_if (eqb n 65535) n

-- "each call after its 2-byte length": the call's bytes
unfoldable pub framed : Reader Bytes
framed = do
  n ← call_length
  stretch n

-- what the bytes of a call say, all of them
unfoldable pub taken : {A : Type 0} → Option A → Reader A
taken none = λ s. none
taken (some x) = just x

unfoldable pub framed_call : Reader TraceCall
framed_call = do
  s ← framed
  taken (call s)

-- "A trace is a 2-byte count of calls, then each call"
unfoldable pub calls_from : Reader (List TraceCall)
calls_from = section (number_of 2) framed_call

unfoldable pub up_to_length : {A : Type 0} → Bool → Option A → Option A
up_to_length true o = o
up_to_length false o = none

-- "nothing may follow"; "up to 262,144 bytes". An empty input has no count.
unfoldable pub trace : Bytes → Option (List TraceCall)
trace s = up_to_length (leb (length s) 262144) (whole calls_from s)

unfoldable pub trace_form : Bytes → Bool
trace_form s = is_some (trace s)
