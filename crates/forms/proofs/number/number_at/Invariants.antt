-- `forms::number::number_at` meets its contract, at every width. The loop's invariant: `value` is what the bytes passed say (`Reading` of
-- `NumberLaws`).
-- Assumes nothing.
use Rattle.forms.proofs.NumberLaws.{Reading}
use Rattle.forms.proofs.number.number_at.Given as goal

abbrev pub invariant-loop-byte : goal.invariant-loop-byte
invariant-loop-byte l = Reading l.bytes l.value l.byte-index
