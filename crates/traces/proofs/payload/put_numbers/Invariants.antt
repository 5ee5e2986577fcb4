-- `traces::payload::put_numbers` meets its contract. The loop's invariant: the numbers so far stand over the front of the buffer (`Listing` of
-- rules' `EntryWriterLaws`).
-- Assumes nothing.
use Rattle.forms.specs.Numbers.{digits}
use Rattle.rules.proofs.EntryWriterLaws.{Listing}
use Rattle.traces.proofs.payload.put_numbers.Given as goal

abbrev pub invariant-loop-value : goal.invariant-loop-value
invariant-loop-value l = Listing (digits 8) l.values 0 l.initial.out l.at l.value-index l.out
