-- `reads::rows::lock_lets` meets its contract. Assumes nothing.
use Rattle.reads.proofs.ReadLaws.{lets-nobody, lets-above, lets-held}
use Rattle.reads.proofs.rows.lock_lets.Goals as goal

pub returns-in-Some : goal.returns-in-Some
returns-in-Some c = lets-held c.args.moment c.args.lock _ c.in-Some.is c.if-l-moment.true c.held_by.ensures

pub returns-in_default : goal.returns-in_default
returns-in_default c = lets-above c.args.moment c.args.lock c.in-Some.is c.if-l-moment.false

pub returns-in_default-2 : goal.returns-in_default-2
returns-in_default-2 c = lets-nobody c.args.moment c.args.lock c.in_default.is
