-- docs/TRACE.md, the table of calls: its op bytes. An op byte without a line in `known_ops`, here and in src/op.rt, is unknown.
-- Assumes nothing.
use Rattle.std.specs.Prelude.{ℕ, Bool, true, false, ◌||◌, List, [], ◌∷◌, eqb}
use Rattle.std.proofs.Math.Option.{Option, none, some}
use Rattle.traces.specs.declared.op.ShowOp.{ShowOp}
use Rattle.traces.specs.declared.op.ChangeOp.{ChangeOp}
use Rattle.traces.specs.declared.op.AskOp.{AskOp}
use Rattle.traces.specs.declared.op.Op.{Op}

abbrev pub known_ops : List ℕ
known_ops =
    1 ∷  -- read
    2 ∷  -- page
    3 ∷  -- intent page
    4 ∷  -- conflicting intents
    5 ∷  -- one intent at a point
    6 ∷  -- prewrite
    7 ∷  -- prewrite of a batch
    8 ∷  -- commit
    9 ∷  -- commit of a key batch
    10 ∷  -- rollback
    11 ∷  -- rollback of a key batch
    12 ∷  -- one-step batch
    13 ∷  -- collection
    17 ∷  -- is bone n shown
    18 ∷  -- how many bones are shown
    32 ∷  -- restore
    33 ∷  -- statistics
    34 ∷  -- high-water marks
    35 ∷  -- write the image
    36 ∷  -- convert an old image
    []

unfoldable pub is_in : ℕ → List ℕ → Bool
is_in x [] = false
is_in x (y ∷ ys) = eqb x y || is_in x ys

abbrev pub known_op : ℕ → Bool
known_op b = is_in b known_ops

-- ---- the op byte of each call

infixr 10 ◌⇒◌else◌
abbrev pub ◌⇒◌else◌ : Bool → Op → Option Op → Option Op
true ⇒ op else other = some op
false ⇒ op else other = other

unfoldable pub op_of : ℕ → Option Op
op_of b =
    eqb b 1 ⇒ Op.Shows ShowOp.Read else
    eqb b 2 ⇒ Op.Shows ShowOp.Page else
    eqb b 3 ⇒ Op.Shows ShowOp.IntentPage else
    eqb b 4 ⇒ Op.Shows ShowOp.ConflictingIntents else
    eqb b 5 ⇒ Op.Shows ShowOp.OneIntent else
    eqb b 6 ⇒ Op.Changes ChangeOp.Prewrite else
    eqb b 7 ⇒ Op.Changes ChangeOp.PrewriteBatch else
    eqb b 8 ⇒ Op.Changes ChangeOp.Commit else
    eqb b 9 ⇒ Op.Changes ChangeOp.CommitBatch else
    eqb b 10 ⇒ Op.Changes ChangeOp.Rollback else
    eqb b 11 ⇒ Op.Changes ChangeOp.RollbackBatch else
    eqb b 12 ⇒ Op.OneStep else
    eqb b 13 ⇒ Op.Changes ChangeOp.Collect else
    eqb b 17 ⇒ Op.Asks AskOp.Bone else
    eqb b 18 ⇒ Op.Asks AskOp.Bones else
    eqb b 32 ⇒ Op.Changes ChangeOp.Restore else
    eqb b 33 ⇒ Op.Shows ShowOp.Statistics else
    eqb b 34 ⇒ Op.Shows ShowOp.Marks else
    eqb b 35 ⇒ Op.Capture else
    eqb b 36 ⇒ Op.Convert else
    none

-- ---- the calls that have a long buffer

abbrev pub is_long : Op → Bool
is_long (Op.Shows op) = false
is_long (Op.Changes op) = false
is_long Op.OneStep = false
is_long (Op.Asks op) = false
is_long Op.Capture = true
is_long Op.Convert = true
