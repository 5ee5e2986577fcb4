-- A call's bytes: the op byte, and the arguments that its table names.
-- Assumes nothing.
use Prim.Native.Nat.{ℕ}
use native.Mathlib.Omega.{arith}
use mathlib.Core.Path.{◌≡◌, refl, sym, ◌∙◌, ap}
use mathlib.Core.Bool.{Bool}
use mathlib.Core.List.{[], ◌∷◌}
use mathlib.Core.Option.{Option, none, some}
use lib.ListN.{length}
use Rattle.std.specs.Prelude.{Option as Maybe, None}
use Rattle.forms.specs.Bytes.{Bytes}
use Rattle.forms.specs.Readers.{read_on, ◌>>=◌, just, byte, ended, whole, is_some}
use Rattle.traces.specs.declared.op.ShowOp.{ShowOp}
use Rattle.traces.specs.declared.op.ChangeOp.{ChangeOp}
use Rattle.traces.specs.declared.op.AskOp.{AskOp}
use Rattle.traces.specs.declared.op.Op.{Op}
use Rattle.traces.specs.declared.shape.Shape.{Shape}
use Rattle.traces.specs.declared.args.Args.{Args}
use Rattle.traces.specs.Ops.{known_op, op_of}
use Rattle.traces.specs.Calls as calls
use Rattle.traces.specs.Calls.{call_from, of_op}
use Rattle.traces.specs.Shapes.{shape_of}
use Rattle.traces.specs.Taken.{Ends}
use Rattle.traces.specs.Args.{shaped, call_of}
use Rattle.traces.proofs.OpLaws.{known-named}

-- the arguments of a call are those that its shape names
ops-shaped : (op : Op) (t : Bytes) → shaped (shape_of op) t ≡ calls.arguments_of op t
unfolding shaped calls.arguments_of ◌>>=◌ read_on just calls.read_arguments calls.page_arguments calls.intent_page_arguments calls.conflicting_intents_arguments calls.one_intent_arguments calls.prewrite_arguments calls.prewrite_batch_arguments calls.commit_arguments calls.commit_batch_arguments calls.rollback_arguments calls.rollback_batch_arguments calls.one_step_arguments calls.collect_arguments calls.restore_arguments calls.statistics_arguments calls.marks_arguments calls.capture_arguments calls.bone_arguments calls.bones_arguments calls.convert_arguments
ops-shaped (Op.Shows ShowOp.Read) t = refl
ops-shaped (Op.Shows ShowOp.Page) t = refl
ops-shaped (Op.Shows ShowOp.IntentPage) t = refl
ops-shaped (Op.Shows ShowOp.ConflictingIntents) t = refl
ops-shaped (Op.Shows ShowOp.OneIntent) t = refl
ops-shaped (Op.Changes ChangeOp.Prewrite) t = refl
ops-shaped (Op.Changes ChangeOp.PrewriteBatch) t = refl
ops-shaped (Op.Changes ChangeOp.Commit) t = refl
ops-shaped (Op.Changes ChangeOp.CommitBatch) t = refl
ops-shaped (Op.Changes ChangeOp.Rollback) t = refl
ops-shaped (Op.Changes ChangeOp.RollbackBatch) t = refl
ops-shaped Op.OneStep t = refl
ops-shaped (Op.Changes ChangeOp.Collect) t = refl
ops-shaped (Op.Asks AskOp.Bone) t = refl
ops-shaped (Op.Asks AskOp.Bones) t = refl
ops-shaped (Op.Changes ChangeOp.Restore) t = refl
ops-shaped (Op.Shows ShowOp.Statistics) t = refl
ops-shaped (Op.Shows ShowOp.Marks) t = refl
ops-shaped Op.Capture t = refl
ops-shaped Op.Convert t = refl

pub call-empty : (s : Bytes) → length s ≡ 0 → Ends call_from call_of s None
unfolding whole call_from ◌>>=◌ read_on byte ended
call-empty [] h = record { is = refl }
call-empty (x ∷ s) h = absurd (omega arith)

-- the op byte, then the arguments of its call
known-as : (b : ℕ) (o : Option Op) → o ≡ op_of b → of_op (known_op b) (op_of b) ≡ of_op (is_some o) o
known-as b o e = ap (λ (k : Bool). of_op k (op_of b)) (known-named b) ∙ ap (λ (o : Option Op). of_op (is_some o) o) (sym e)

module _ {b : ℕ} {s : Bytes} where
  pub call-unknown : none ≡ op_of b → Ends call_from call_of (b ∷ s) None
  unfolding whole call_from ◌>>=◌ read_on byte ended of_op
  call-unknown e = record { is = ap (λ r. ended (r s)) (known-as b none e) }

  pub call_known : {op : Op} {w : Shape} {o : Maybe Args} → some op ≡ op_of b → w ≡ shape_of op → Ends (shaped w) call_of s o → Ends call_from call_of (b ∷ s) o
  unfolding whole call_from ◌>>=◌ read_on byte of_op
  call_known {op} {w} {o} e h v = record { is = ap (λ r. ended (r s)) (known-as b (some op) e) ∙ ap ended (sym (ap (λ (w : Shape). shaped w s) h ∙ ops-shaped op s)) ∙ v.is }
