-- What a call, run on a store, leaves: the store, the area, and the buffer with the answer.
-- Assumes nothing.
use Rattle.std.specs.Prelude.{ℕ, ◌≤◌, ◌<◌, ◌≡◌, true, length}
use Rattle.forms.specs.Bytes.{Bytes}
use Rattle.traces.specs.declared.op.Op.{Op}
use Rattle.traces.specs.declared.args.Args.{Args}
use Rattle.traces.specs.Calls.{call}
use Rattle.traces.specs.Put.{Put}
use Rattle.store.specs.declared.table.Store.{Store}
use Rattle.store.specs.View.{state_shown}
use Rattle.store.specs.Made.{Made}
use Rattle.showing.specs.Told.{Told, told_of, told_bytes, lent}

-- what running a call gives: the store after it, and how many bytes its answer has
pub record Ran : Type 0 where
  pub store : Store
  pub len : ℕ

-- the store shows the state that the call leaves; the answer's bytes stand over the front of the buffer, all of them and nothing beyond, and
-- the length is theirs
pub record RanAs (t : Told) (out : Bytes) (r : Ran) (area' out' : Bytes) : Type 0 where
  pub made : Made r.store area'
  pub shown : state_shown r.store area' ≡ t.state
  pub put : Put true (told_bytes t) out r.len out'
  pub within : r.len ≤ length out

-- nothing is run or written
pub record Unrun (st : Store) (area out : Bytes) (r : Ran) (area' out' : Bytes) : Type 0 where
  pub store_is : r.store ≡ st
  pub area_is : area' ≡ area
  pub out_is : out' ≡ out
  pub len_is : r.len ≡ 0

-- the longest answer: 38 bytes, and a long buffer of 262,144
abbrev pub longest : ℕ
longest = 262182

pub record RunCall (st : Store) (area s out : Bytes) (r : Ran) (area' out' : Bytes) : Type 0 where
  pub ran : longest ≤ length out → RanAs (told_of (call s) (state_shown st area)) out r area' out'
  pub short : length out < longest → Unrun st area out r area' out'

-- what running the arguments of a call of this op asks
pub record RunAsks (st : Store) (area : Bytes) (a : Args) (op : Op) (out : Bytes) : Type 0 where
  pub made : Made st area
  pub op_is : a.op ≡ op
  pub length_is : longest ≤ length out

-- ---- a call that shows something

-- what it asks: a buffer for the longest payload but the image
pub record ShowAsks (st : Store) (area : Bytes) (a : Args) (buffer : Bytes) : Type 0 where
  pub made : Made st area
  pub small : a.buffer < 65536
  pub lent_is : buffer ≡ lent 65535

-- what writing the image asks: a long buffer that is within its limit
pub record CaptureAsks (st : Store) (area : Bytes) (len : ℕ) (out : Bytes) : Type 0 where
  pub made : Made st area
  pub small : len < 262145
  pub length_is : longest ≤ length out
