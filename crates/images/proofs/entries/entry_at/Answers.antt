-- `images::entries::entry_at` meets its contract: each way out is a law of `ImageEntryLaws`.
-- Assumes nothing.
use Rattle.images.proofs.ImageEntryLaws.{entry-no-key, entry-no-one, entry-no-piece, entry-no-tail, entry-good}
use Rattle.images.proofs.entries.entry_at.Goals as goal

pub returns-in_err-key : goal.returns-in_err-key
returns-in_err-key c = rw c.from_residual.ensures (entry-no-key _ c.args.s.now c.args.at c.in_err-key.ensures)

pub returns-in_err-first : goal.returns-in_err-first
returns-in_err-first c = rw c.from_residual-in_err-first.ensures (entry-no-one _ _ _ c.in_ok-key.ensures c.in_err-first.ensures)

pub returns-in_err-piece : goal.returns-in_err-piece
returns-in_err-piece c = rw c.from_residual-in_err-piece.ensures (entry-no-piece _ _ _ c.in_ok-key.ensures c.in_ok-first.ensures c.in_err-piece.ensures)

pub returns-in_err-tail : goal.returns-in_err-tail
returns-in_err-tail c = rw c.from_residual-in_err-tail.ensures (entry-no-tail _ _ _ c.in_ok-key.ensures c.in_ok-first.ensures c.in_ok-piece.ensures c.in_err-tail.ensures)

pub returns : goal.returns
returns c = entry-good _ _ _ c.in_ok-key.ensures c.in_ok-first.ensures c.in_ok-piece.ensures c.in_ok-tail.ensures
