-- Document 02, CR 9, carried to the store: what a public call answered is what the definition answers, whose holder proofs/HolderSays of `ledger` tells.
-- Assumes nothing.
use mathlib.Core.Path.{◌≡◌, refl, sym, subst}
use Rattle.rules.specs.Answers.{Answer}
use Rattle.rules.specs.Read.{read}
use Rattle.rules.specs.Call.{Changing, Call, perform}
use Rattle.ledger.specs.Holders.{Bars, HolderSays, answer_to}
use Rattle.ledger.proofs.HolderSays.{accepted-says, holders-told}
use Rattle.store.proofs.TidyLaws.{built-tidy}
use Rattle.demands.specs.Calls.{starting, calling, handing_row, handing_primary, gives, Lent, box_in, state_in, Given, started, seen, pointed, handed, paged, changed, stepped, counted, marked, boned, summed, answer_in, Kept}
use Rattle.demands.specs.Holders.{Holders}

-- what a call answered, by its promise
answer_is : (w : Lent) (c : Call) (g : Given (gives (calling c))) → Kept w (calling c) g → answer_in w g ≡ answer_to c (state_in w) w.buffer
unfolding read perform
answer_is w (Call.Read k m) (seen r part) p = p.0.seen_as.answer_is.case_is
answer_is w (Call.Page a m l) (paged r out) p = p.answer_is.case_is
answer_is w (Call.IntentPage a l) (paged r out) p = p.answer_is.case_is
answer_is w (Call.ConflictingIntents a m l) (paged r out) p = p.answer_is.case_is
answer_is w (Call.OneIntent k m) (pointed s part) p = p.0.answer_is.case_is
answer_is w (Call.Change (Changing.Prewrite h s)) (changed r area) p = p.answer_is.case_is
answer_is w (Call.Change (Changing.Commit h s)) (changed r area) p = p.answer_is.case_is
answer_is w (Call.Change (Changing.Rollback txn start s)) (changed r area) p = p.answer_is.case_is
answer_is w (Call.Change (Changing.OneStep h s)) (stepped r area) p = p.settled.answer_is.case_is
answer_is w (Call.Change (Changing.Collect f)) (changed r area) p = p.replaced.answer_is.case_is
answer_is w (Call.Restore s) (changed r area) p = p.answer_is.case_is
answer_is w Call.Statistics (counted s) p = refl
answer_is w Call.Marks (marked m) p = refl
answer_is w (Call.Capture t) (paged r out) p = p.captured.answer_is.case_is
answer_is w (Call.Convert s) (paged r out) p = p.wrote.answer_is.case_is
answer_is w (Call.Bone r n) (boned b) p = p.answer_is.case_is
answer_is w (Call.Bones r) (summed b) p = p.answer_is.case_is

-- `fresh`, `open`, `row_of` and `primary_of` refuse nothing
pub holders : Holders
holders w starting (started s) p made = accepted-says
holders w (calling c) g p made =
    subst (λ (a : Answer). HolderSays (Bars c (box_in w)) (box_in w) a) (sym (answer_is w c g p))
    (holders-told c (state_in w) w.buffer (built-tidy made.built) made.built.kept.sorted)
holders w (handing_row s) (handed part) p made = accepted-says
holders w (handing_primary s) (handed part) p made = accepted-says
