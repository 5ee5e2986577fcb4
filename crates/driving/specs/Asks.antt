-- What the calls that need no store tell, as bytes.
-- Assumes nothing.
use Rattle.std.specs.Prelude.{ℕ}
use Rattle.forms.specs.Bytes.{Bytes}
use Rattle.forms.specs.Row.{Row}
use Rattle.rules.specs.Bones.{Due, bone_shown, bones_shown}
use Rattle.rules.specs.Written.{Written}
use Rattle.traces.specs.declared.op.AskOp.{AskOp}
use Rattle.traces.specs.Payloads.{bone_payload, bones_payload}
use Rattle.traces.specs.Answers.{answer_bytes}

-- a question about a row: its answer, and what it shows
abbrev pub due_bytes : {A : Type 0} → (A → Bytes) → Due A → Bytes
due_bytes payload d = answer_bytes d.answer 0 (payload d.shown)

abbrev pub asked_bytes : AskOp → Row → (n : ℕ) → Bytes
asked_bytes AskOp.Bone r n = due_bytes bone_payload (bone_shown r n)
asked_bytes AskOp.Bones r n = due_bytes bones_payload (bones_shown r)

-- what is written to a lent buffer: "the whole lent buffer as it stands after the call, refused or not"
abbrev pub written_bytes : Written → Bytes
written_bytes w = answer_bytes w.answer w.count w.buffer
