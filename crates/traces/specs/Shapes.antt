-- Which arguments each call has, as src/shape.rt says it.
-- Assumes nothing.
use Rattle.std.specs.Prelude.{ℕ, Bool, true, false}
use Rattle.traces.specs.declared.op.ShowOp.{ShowOp}
use Rattle.traces.specs.declared.op.ChangeOp.{ChangeOp}
use Rattle.traces.specs.declared.op.AskOp.{AskOp}
use Rattle.traces.specs.declared.op.Op.{Op}
use Rattle.traces.specs.declared.shape.Shape.{Shape}

abbrev pub with_key : Op → ℕ → Bool → Shape
with_key op n prewrite = record { op = op; numbers = n; kind = prewrite; primary = prewrite; key = true; row = prewrite; page = false; rest = false }

abbrev pub with_numbers : Op → ℕ → Shape
with_numbers op n = record { op = op; numbers = n; kind = false; primary = false; key = false; row = false; page = false; rest = false }

abbrev pub with_row : Op → ℕ → Shape
with_row op n = record { op = op; numbers = n; kind = false; primary = false; key = false; row = true; page = false; rest = false }

abbrev pub with_page : Op → ℕ → Shape
with_page op n = record { op = op; numbers = n; kind = false; primary = false; key = false; row = false; page = true; rest = false }

abbrev pub with_rest : Op → ℕ → Bool → Shape
with_rest op n primary = record { op = op; numbers = n; kind = false; primary = primary; key = false; row = false; page = false; rest = true }

abbrev pub shape_of : Op → Shape
shape_of (Op.Shows ShowOp.Read) = with_key (Op.Shows ShowOp.Read) 1 false
shape_of (Op.Shows ShowOp.Page) = with_page (Op.Shows ShowOp.Page) 3
shape_of (Op.Shows ShowOp.IntentPage) = with_page (Op.Shows ShowOp.IntentPage) 1
shape_of (Op.Shows ShowOp.ConflictingIntents) = with_page (Op.Shows ShowOp.ConflictingIntents) 3
shape_of (Op.Shows ShowOp.OneIntent) = with_key (Op.Shows ShowOp.OneIntent) 1 false
shape_of (Op.Changes ChangeOp.Prewrite) = with_key (Op.Changes ChangeOp.Prewrite) 3 true
shape_of (Op.Changes ChangeOp.PrewriteBatch) = with_rest (Op.Changes ChangeOp.PrewriteBatch) 3 true
shape_of (Op.Changes ChangeOp.Commit) = with_key (Op.Changes ChangeOp.Commit) 3 false
shape_of (Op.Changes ChangeOp.CommitBatch) = with_rest (Op.Changes ChangeOp.CommitBatch) 3 false
shape_of (Op.Changes ChangeOp.Rollback) = with_key (Op.Changes ChangeOp.Rollback) 2 false
shape_of (Op.Changes ChangeOp.RollbackBatch) = with_rest (Op.Changes ChangeOp.RollbackBatch) 2 false
shape_of Op.OneStep = with_rest Op.OneStep 3 false
shape_of (Op.Changes ChangeOp.Collect) = with_numbers (Op.Changes ChangeOp.Collect) 1
shape_of (Op.Asks AskOp.Bone) = with_row (Op.Asks AskOp.Bone) 1
shape_of (Op.Asks AskOp.Bones) = with_row (Op.Asks AskOp.Bones) 0
shape_of (Op.Changes ChangeOp.Restore) = with_rest (Op.Changes ChangeOp.Restore) 0 false
shape_of (Op.Shows ShowOp.Statistics) = with_numbers (Op.Shows ShowOp.Statistics) 0
shape_of (Op.Shows ShowOp.Marks) = with_numbers (Op.Shows ShowOp.Marks) 0
shape_of Op.Capture = with_numbers Op.Capture 1
shape_of Op.Convert = with_rest Op.Convert 0 false
