-- `images::sections::section_at` meets its contract.
-- Assumes nothing.
use Rattle.images.specs.Good.{form_of}
use Rattle.images.proofs.SpanLaws.{Listing}
use Prim.Native.Nat.{◌+◌}
use Rattle.images.proofs.sections.section_at.Given as goal

abbrev pub invariant-loop-k : goal.invariant-loop-k
invariant-loop-k l = Listing (form_of l.form) l.section l.table l.s (l.at + 2) l.count l.end l.k l.bytes l.initial.places l.places
