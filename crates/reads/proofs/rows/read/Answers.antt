-- `reads::rows::read` meets its contract: 1, 14, or by what the lookup found. Assumes nothing.
use Rattle.laws.proofs.ChainLaws.{denied, granted}
use Rattle.reads.proofs.ReadLaws.{read-invalid, read_below}
use Rattle.reads.proofs.rows.read.Goals as goal

pub returns-then-not-key_in_form : goal.returns-then-not-key_in_form
returns-then-not-key_in_form c = read-invalid _ _ _ _ _ (denied _ _ c.key_in_form.ensures c.if-not-key_in_form.true-raw) c.refusal.ensures

pub returns-then-moment-store : goal.returns-then-moment-store
returns-then-moment-store c = read_below _ _ _ _ _ (granted _ _ c.key_in_form.ensures c.if-not-key_in_form.false-raw) c.if-moment-store.true c.refusal-then-moment-store.ensures
