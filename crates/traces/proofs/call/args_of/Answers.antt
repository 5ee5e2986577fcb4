-- `traces::call::args_of` meets its contract: the op byte is missing, names no call, or names the arguments, by `CallLaws`.
-- Assumes nothing.
use Rattle.traces.proofs.CallLaws.{call-empty, call-unknown, call_known}
use native.Mathlib.Omega.{arith}
use Rattle.traces.proofs.call.args_of.Goals as goal

pub returns-in_err-byte : goal.returns-in_err-byte
returns-in_err-byte c = rw c.from_residual.ensures (call-empty _ (omega (arith, c.in_err-byte.ensures.cases)))

pub returns-in_err-op_of : goal.returns-in_err-op_of
returns-in_err-op_of c = rw (c.from_residual-in_err-op_of.ensures, c.in_ok-byte.ensures.cases.0) (call-unknown c.in_err-op_of.ensures)

pub returns : goal.returns
returns c = rw c.in_ok-byte.ensures.cases.0 (call_known c.in_ok-op_of.ensures c.shape_of.ensures c.args_for.ensures)
