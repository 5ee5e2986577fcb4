-- `pages::sections::put_entries` meets its contract: the loop's invariant is `Listing` of rules' `EntryWriterLaws`: the entries of the lines so far
-- stand over the front.
-- Assumes nothing.
use Rattle.rules.proofs.EntryWriterLaws.{Listing}
use Rattle.walks.specs.Walked.{entry_bytes}
use Rattle.pages.proofs.sections.put_entries.Given as goal

abbrev pub invariant-loop-s : goal.invariant-loop-s
invariant-loop-s l = Listing (entry_bytes l.area) l.slots 0 l.initial.out l.at l.s-index l.out
