-- `showing::shows::show` meets its contract: `by-show` for each op that shows something.
-- Assumes nothing.
use Rattle.rules.specs.Written.{scan_page, scan_intent_page, scan_conflicting_intents}
use Rattle.traces.specs.declared.op.ShowOp.{ShowOp}
use Rattle.store.specs.View.{box_of}
use Rattle.showing.specs.Told.{told}
use Rattle.showing.proofs.PagingLaws.{page-shown}
use Rattle.showing.proofs.ShowLaws.{by-show}
use mathlib.Core.Path.{refl}
use Rattle.showing.proofs.shows.show.Goals as goal

pub returns-in-Read : goal.returns-in-Read
unfolding told
returns-in-Read c = by-show c.args.args.now _ c.args.op ShowOp.Read c.in-Read.is (record { told = c.show_read.ensures; state_is = refl })

pub returns-in-Page : goal.returns-in-Page
unfolding told
returns-in-Page c = by-show c.args.args.now _ c.args.op ShowOp.Page c.in-Page.is
    (page-shown (λ x buffer. scan_page c.args.store.now.floor x c.args.args.now.first (record { rows = c.args.args.now.second; bytes = c.args.args.now.third }) (box_of c.args.store.now c.args.area.now) buffer) c.args.args.now _ c.requires.lent_is c.requires.small c.scan_page-done.ensures c.written.ensures)

pub returns-in-IntentPage : goal.returns-in-IntentPage
unfolding told
returns-in-IntentPage c = by-show c.args.args.now _ c.args.op ShowOp.IntentPage c.in-IntentPage.is
    (page-shown (λ x buffer. scan_intent_page x c.args.args.now.first (box_of c.args.store.now c.args.area.now) buffer) c.args.args.now _ c.requires.lent_is c.requires.small c.scan_intent_page-done.ensures c.written-in-IntentPage.ensures)

pub returns-in-ConflictingIntents : goal.returns-in-ConflictingIntents
unfolding told
returns-in-ConflictingIntents c = by-show c.args.args.now _ c.args.op ShowOp.ConflictingIntents c.in-ConflictingIntents.is
    (page-shown (λ x buffer. scan_conflicting_intents x c.args.args.now.first (record { rows = c.args.args.now.second; bytes = c.args.args.now.third }) (box_of c.args.store.now c.args.area.now) buffer) c.args.args.now _ c.requires.lent_is c.requires.small c.scan_conflicting_intents-done.ensures c.written-in-ConflictingIntents.ensures)

pub returns-in-OneIntent : goal.returns-in-OneIntent
unfolding told
returns-in-OneIntent c = by-show c.args.args.now _ c.args.op ShowOp.OneIntent c.in-OneIntent.is (record { told = c.show_lock.ensures; state_is = refl })

pub returns-in-Statistics : goal.returns-in-Statistics
unfolding told
returns-in-Statistics c = by-show c.args.args.now _ c.args.op ShowOp.Statistics c.in-Statistics.is (record { told = c.show_stats.ensures; state_is = refl })

pub returns-in-Marks : goal.returns-in-Marks
unfolding told
returns-in-Marks c = by-show c.args.args.now _ c.args.op ShowOp.Marks c.in-Marks.is (record { told = c.show_marks.ensures; state_is = refl })
