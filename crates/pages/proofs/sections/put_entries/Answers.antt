use Rattle.std.proofs.Common.{arith}
use Rattle.seqs.proofs.Alls.{all-at}
use Rattle.rules.proofs.EntryWriterLaws.{listing_start, listing-room, listing-more}
use Rattle.store.specs.View.{no_slot}
use Rattle.pages.proofs.sections.put_entries.Goals as goal

pub loop-s-init : goal.loop-s-init
loop-s-init c = listing_start _ _ 0 _ (omega arith)

pub put_entry-at-requires : goal.put_entry-at-requires
put_entry-at-requires c = record {
  line = all-at _ no_slot _ c.loop-s.s-index c.requires.lines c.loop-s-test.true;
  room = listing-room c.loop-s.invariant no_slot c.loop-s-test.true (omega (arith, c.requires.room));
}

pub loop-s-preserved : goal.loop-s-preserved
loop-s-preserved c = listing-more c.loop-s.invariant no_slot c.loop-s-test.true c.put_entry-at.ensures
