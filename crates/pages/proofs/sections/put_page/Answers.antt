-- `pages::sections::put_page` meets its contract: three sections, each into what remains after the one before.
-- Assumes nothing.
use Rattle.std.proofs.Common.{arith}
use Rattle.pages.proofs.PageLaws.{page-room, entries-asked, more_room, page-laid}
use Rattle.pages.proofs.sections.put_page.Goals as goal

pub put_digits-a-requires : goal.put_digits-a-requires
put_digits-a-requires c = omega (arith, page-room c.requires)

pub put_entries-requires : goal.put_entries-requires
put_entries-requires c = rw c.listed.ensures (entries-asked c.requires c.put_digits-a.ensures)

pub put_byte-requires : goal.put_byte-requires
put_byte-requires c = more_room c.requires c.put_digits-a.ensures (rw c.listed.ensures at c.put_entries.ensures)

pub returns : goal.returns
returns c = page-laid c.requires c.put_digits-a.ensures (rw c.listed.ensures at c.put_entries.ensures) c.from-more.ensures c.put_byte.ensures
