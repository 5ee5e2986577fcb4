-- `commits::checks::check_key` meets its contract: each way out is a law of `CommitKeyLaws`.
-- Assumes nothing.
use mathlib.Core.Path.{sym, ◌∙◌}
use Rattle.calls.proofs.SettledLaws.{handed-is}
use Rattle.commits.proofs.CommitKeyLaws.{bad-key, record-refused, record-passed, lock-refused, lock-passed}
use Rattle.commits.proofs.checks.check_key.Goals as goal

pub returns-then-not-key_in_form : goal.returns-then-not-key_in_form
returns-then-not-key_in_form c = bad-key c.args.terms _ c.args.key.now (sym c.key_in_form.ensures ∙ c.if-not-key_in_form.true)

pub returns-in_err-check_record-in-Some : goal.returns-in_err-check_record-in-Some
returns-in_err-check_record-in-Some c = rw (handed-is _ _ c.from_residual.ensures.1) (record-refused c.requires c.args.terms c.args.key.now (sym c.key_in_form.ensures ∙ c.if-not-key_in_form.false) c.look_up-found.ensures c.in-Some.is _ c.in_err-check_record-in-Some.ensures)

pub returns-in_err-check_lock-in-None : goal.returns-in_err-check_lock-in-None
returns-in_err-check_lock-in-None c = rw (handed-is _ _ c.from_residual-in_err-check_lock-in-None.ensures.1) (lock-refused c.requires c.args.terms c.args.key.now (sym c.key_in_form.ensures ∙ c.if-not-key_in_form.false) c.look_up-found.ensures c.in-None.is _ (c.in_err-check_lock-in-None.ensures c.args.area.now))

pub returns-in_ok-check_record-in-Some : goal.returns-in_ok-check_record-in-Some
returns-in_ok-check_record-in-Some c = record-passed c.requires c.args.terms c.args.key.now (sym c.key_in_form.ensures ∙ c.if-not-key_in_form.false) c.look_up-found.ensures c.in-Some.is c.in_ok-check_record-in-Some.ensures

pub returns-in_ok-check_lock-in-None : goal.returns-in_ok-check_lock-in-None
returns-in_ok-check_lock-in-None c = lock-passed c.requires c.args.terms c.args.key.now (sym c.key_in_form.ensures ∙ c.if-not-key_in_form.false) c.look_up-found.ensures c.in-None.is (c.in_ok-check_lock-in-None.ensures c.args.area.now)
