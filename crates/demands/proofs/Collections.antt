-- Document 02, CR 7, carried to the store by the calls' promises alone: what a collection leaves and leaves to see, and what calls after it answer.
-- Assumes nothing.
use Prim.Native.Nat.{ℕ, ◌≤◌}
use native.Mathlib.Omega.{arith}
use mathlib.Core.Path.{◌≡◌, refl, sym, ap, ap₂, ◌∙◌, subst}
use mathlib.Core.Bool.{true}
use mathlib.Core.List.{List, []}
use lib.Dec.{leb}
use borrow.Author.Tests.{leb-true}
use Rattle.forms.specs.Bytes.{Bytes}
use Rattle.forms.specs.Key.{Key}
use Rattle.rules.specs.Answers.{Answer, Accepted, Reply, answer_of}
use Rattle.rules.specs.Outcomes.{Wrote}
use Rattle.rules.specs.Box.{in_order}
use Rattle.rules.specs.Read.{Examined, examine, read}
use Rattle.rules.specs.Intent.{intent_at}
use Rattle.rules.specs.Page.{Page, KeyRow, KeyLock}
use Rattle.rules.specs.Prewrite.{prewrite_batch}
use Rattle.rules.specs.Commit.{commit_batch}
use Rattle.rules.specs.Rollback.{rollback_batch}
use Rattle.rules.specs.OneStep.{one_step}
use Rattle.rules.specs.Written.{Written, written, key_row_bytes, key_lock_bytes, scan_page, scan_intent_page, scan_conflicting_intents, WroteAs}
use Rattle.rules.specs.Calls.{State, Ended}
use Rattle.rules.specs.Collect.{collected, collect_steps, collect}
use Rattle.rules.specs.Call.{Changing, Call, perform}
use Rattle.laws.proofs.StepLaws.{then-left, need-true}
use Rattle.laws.proofs.SettleLaws.{settle_state-answer, settle_state-new}
use Rattle.ledger.specs.Ledger as ledger
use Rattle.ledger.specs.Ledger.{Past, then}
use Rattle.ledger.specs.Collected.{CollectsTo, AnswersAsBefore, CallsAsBefore, SameUnless11}
use Rattle.ledger.proofs.CollectSays.{collects-to}
use Rattle.ledger.proofs.CollectReads.{answers-as-before}
use Rattle.ledger.proofs.CollectCalls.{calls-as-before}
use Rattle.ledger.proofs.Tidiness.{collected-since}
use Rattle.store.specs.declared.table.Store.{Store}
use Rattle.store.proofs.TidyLaws.{built-tidy}
use Rattle.calls.specs.Settled.{Changed}
use Rattle.demands.specs.Calls.{a_row, a_lock, a_change, calling, gives, Lent, box_in, floor_in, state_in, Given, seen, pointed, paged, changed, stepped, row_in, lock_in, answer_in, count_in, shown_in, after, Kept, Same}
use Rattle.demands.specs.Demands.{changing, Ran, Shows}
use Rattle.demands.specs.Collections.{Collects, left, CollectionSays, SeenAsBefore, AsBefore, CallAbove, ChangesAsBefore, SecondCollection}
use Rattle.demands.proofs.Stays.{stays-made}
use Rattle.demands.proofs.Carried.{ran-shows}
use Rattle.demands.proofs.Alike.{page-same}

module _ {f : ℕ} {w : Lent} {r : Changed} {area : Bytes} (c : Collects f w r area) where
  abbrev new : State
  new = record { box = collected f (box_in w); floor = f }

  passes : collect_steps f (state_in w) ≡ Accepted
  unfolding collect
  passes = sym (settle_state-answer (collect_steps f (state_in w)) new (state_in w)) ∙ sym c.kept.replaced.answer_is.case_is ∙ c.accepted

  -- the store after it shows the box that was collected, on the floor F
  state-left : state_in (left w r area) ≡ new
  unfolding collect
  state-left = c.kept.replaced.shown ∙ settle_state-new new (state_in w) passes

  low : floor_in w ≤ f
  unfolding collect_steps
  low = leb-true (floor_in w) f (need-true (leb (floor_in w) f) 14 (then-left _ _ passes))

  sorted : in_order (box_in w) ≡ true
  sorted = c.made.built.kept.sorted

  box-says : AnswersAsBefore f (floor_in w) (box_in w)
  box-says = answers-as-before f (box_in w) (built-tidy c.made.built) sorted (floor_in w) low

  box-calls : CallsAsBefore f (floor_in w) (box_in w)
  box-calls = calls-as-before f (floor_in w) low (box_in w) (built-tidy c.made.built) sorted

  -- a reply that depends on box and floor, before and after
  reply-left : {A : Type 0} (by : State → A) → by new ≡ by (state_in w) → by (state_in (left w r area)) ≡ by (state_in w)
  reply-left by e = ap by state-left ∙ e

  -- a page that is the same reply is the same call
  page-left : (x : State → Written) → x new ≡ x (state_in w) → (p q : Wrote) (out out' : Bytes) → WroteAs (x (state_in w)) p out → WroteAs (x (state_in (left w r area))) q out' → Same w (paged p out) (paged q out')
  page-left x e p q out out' a b = page-same w a (subst (λ (y : Written). WroteAs y q out') (reply-left x e) b)

  reads-left : (k : Key) (m : ℕ) → f ≤ m → (g q : Given a_row) → Kept w (calling (Call.Read k m)) g → Kept (left w r area) (calling (Call.Read k m)) q
      → (answer_in (left w r area) q ≡ answer_in w g) × (shown_in (left w r area) q ≡ shown_in w g) × (count_in q ≤ count_in g)
  unfolding read
  reads-left k m up (seen s x) (seen t y) a b =
      let e = b.0.seen_as.is ∙ reply-left (λ (st : State). read st.floor k m st.box) (box-says.reads k m up) ∙ sym a.0.seen_as.is in
      let n = ap (λ (st : State). (examine st.floor k m st.box).count) state-left in
      (ap answer_of e, ap row_in e, omega (arith, a.0.count_is, b.0.count_is, n, box-says.counts k m up))

  points-left : (k : Key) (m : ℕ) → (g q : Given a_lock) → Kept w (calling (Call.OneIntent k m)) g → Kept (left w r area) (calling (Call.OneIntent k m)) q
      → (answer_in (left w r area) q ≡ answer_in w g) × (shown_in (left w r area) q ≡ shown_in w g)
  points-left k m (pointed s x) (pointed t y) a b =
      let e = b.0.is ∙ reply-left (λ (st : State). intent_at k m st.box) (box-says.points k m) ∙ sym a.0.is in
      (ap answer_of e, ap lock_in e)

  seen-as-before : SeenAsBefore f w (left w r area)
  unfolding scan_page scan_intent_page scan_conflicting_intents
  seen-as-before = record {
    reads = reads-left;
    pages = λ a m l up. page-left (λ (st : State). scan_page st.floor a m l st.box w.buffer) (ap (λ (x : Reply (Page KeyRow)). written key_row_bytes x w.buffer) (box-says.pages a m l up));
    intents = λ a l. page-left (λ (st : State). scan_intent_page a l st.box w.buffer) (ap (λ (x : Reply (Page KeyLock)). written key_lock_bytes x w.buffer) (box-says.intents a l));
    conflicts = λ a m l. page-left (λ (st : State). scan_conflicting_intents a m l st.box w.buffer) (ap (λ (x : Reply (Page KeyLock)). written key_lock_bytes x w.buffer) (box-says.conflicts a m l));
    points = points-left;
  }

pub collection-says : CollectionSays
collection-says f w r area c = (
  subst (λ (st : State). CollectsTo f (box_in w) st.box) (sym (state-left c)) (collects-to f (box_in w) (built-tidy c.made.built) (sorted c)),
  ap (λ (st : State). st.floor) (state-left c),
)

pub as_before : AsBefore
as_before f w r area c = seen-as-before c

-- the answers of two calls, by the definition's on box and floor
answers-left : {was is new old : Answer} → was ≡ old → is ≡ new → SameUnless11 old new → SameUnless11 was is
answers-left a b s n = b ∙ s (λ e. n (a ∙ e)) ∙ sym a

pub changes-as-before : ChangesAsBefore
changes-as-before f w r area c (Changing.Prewrite h s) up (changed g x) (changed q y) a b =
    answers-left a.answer_is.case_is (b.answer_is.case_is ∙ ap (λ (st : State). (prewrite_batch st.floor h s st.box).answer) (state-left c)) ((box-calls c).prewrites h s up)
changes-as-before f w r area c (Changing.Commit h s) up (changed g x) (changed q y) a b =
    answers-left a.answer_is.case_is (b.answer_is.case_is ∙ ap (λ (st : State). (commit_batch st.floor h s st.box).answer) (state-left c)) (λ n. (box-calls c).commits h s up)
changes-as-before f w r area c (Changing.Rollback txn start s) up (changed g x) (changed q y) a b =
    answers-left a.answer_is.case_is (b.answer_is.case_is ∙ ap (λ (st : State). (rollback_batch st.floor txn start s st.box).answer) (state-left c)) ((box-calls c).rollbacks txn start s up)
changes-as-before f w r area c (Changing.OneStep h s) up (stepped g x) (stepped q y) a b =
    answers-left a.settled.answer_is.case_is (b.settled.answer_is.case_is ∙ ap (λ (st : State). (one_step st.floor h s st.box).done.answer) (state-left c)) ((box-calls c).one_steps h s up)
changes-as-before f w r area c (Changing.Collect g) up a b k l = absurd up

-- what has led to a store, as demand 3 follows it, begun with the store as it stands
abbrev standing : Lent → Past
standing w = record { box = box_in w; floor = floor_in w; log = []; dropped = [] }

pub second-collection : SecondCollection
unfolding then perform
second-collection f w r area c cs v run (changed q x) k =
    let e : (perform (Changing.Collect f) (ledger.state_in (standing w))).answer ≡ Accepted = sym c.kept.replaced.answer_is.case_is ∙ c.accepted in
    let p = then (Changing.Collect f) (standing w) in
    let first : Shows p (left w r area) = record { made = stays-made w (changing (Changing.Collect f)) (changed r area) c.kept c.made; shown = c.kept.replaced.shown } in
    let last = (ran-shows cs p run first).shown in
    let again : collect (floor_in v) (state_in v) ≡ record { answer = Accepted; state = state_in v } =
    subst (λ (st : State). collect st.floor st ≡ record { answer = Accepted; state = st }) (sym last) (collected-since f (standing w) cs e) in
    let u = k.unchanged (ap (λ (d : Ended). d.state) again) in
    (k.replaced.answer_is.case_is ∙ ap (λ (d : Ended). d.answer) again, ap₂ (λ (s : Store) (a : Bytes). record { store = s; area = a; buffer = v.buffer }) u.store_is u.area_is)
