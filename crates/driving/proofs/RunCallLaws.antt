-- A call, run: from the arguments to the call's own definition, and from an answer that fits to what `run_call` promises.
-- Assumes nothing.
use Prim.Native.Nat.{ℕ, ◌≤◌, ◌<◌, ◌^◌}
use native.Mathlib.Omega.{arith}
use mathlib.Core.Path.{◌≡◌, refl, sym, ◌∙◌, ap, ap₂, subst}
use mathlib.Core.Bool.{Bool, true, false}
use mathlib.Core.List.{[]}
use mathlib.Core.Option.{Option}
use lib.ListN.{length, length-replicate}
use lib.Dec.{ltb}
use borrow.Author.Tests.{ltb-true, ltb-false}
use Rattle.std.specs.Prelude.{None, Some}
use Rattle.forms.specs.Bytes.{Bytes}
use Rattle.forms.specs.Readers.{when}
use Rattle.rules.specs.Answers.{Answer, No}
use Rattle.rules.specs.declared.records.Kind.{Kind}
use Rattle.rules.specs.declared.records.Kind.TheVariants.{Put, Delete, Rollback}
use Rattle.rules.specs.Box.{Box, eq_kind}
use Rattle.rules.specs.Calls.{State, Done, Ended, on_floor}
use Rattle.rules.specs.Prewrite.{PrewriteTerms, prewrite}
use Rattle.rules.specs.OneStep.{one_step}
use Rattle.rules.specs.Bones.{bone_shown}
use Rattle.rules.specs.Convert.{convert_image}
use Rattle.rules.specs.Call.{Changing, perform}
use Rattle.rules.specs.Outcomes.{outcome}
use Rattle.calls.specs.Settled.{Changed, Settled, Replaced}
use Rattle.onesteps.specs.Counts.{Stepped, Counts}
use Rattle.traces.specs.declared.args.Args.{Args}
use Rattle.traces.specs.declared.op.ChangeOp.{ChangeOp}
use Rattle.traces.specs.declared.op.AskOp.{AskOp}
use Rattle.traces.specs.declared.op.Op.{Op}
use Rattle.traces.specs.Calls.{TraceCall, one_entry, call_from, call}
use Rattle.traces.specs.Ops.{is_long}
use Rattle.traces.specs.Taken.{first_width, buffer_below, Ends}
use Rattle.traces.specs.Args.{call_of, call_as}
use Rattle.traces.specs.Payloads.{bone_payload}
use Rattle.traces.specs.Answers.{answer_bytes}
use Rattle.store.specs.declared.table.Store.{Store}
use Rattle.store.specs.View.{box_of, state_shown}
use Rattle.store.specs.Made.{Made}
use Rattle.showing.specs.Told.{Told, told, told_in, told_of, told_bytes, not_run, changing, lent, paging, Writes}
use Rattle.driving.specs.Changes.{changed_by, DoneAs}
use Rattle.driving.specs.Asks.{asked_bytes, written_bytes}
use Rattle.showing.specs.Ran.{Ran, RanAs, Unrun, RunCall, RunAsks, CaptureAsks, longest}
use Rattle.showing.specs.Shows.{ShownOf}
use Rattle.showing.specs.declared.shown.Shown.{Shown}
use Rattle.showing.proofs.PagingLaws.{converted-long}
use Rattle.showing.proofs.ShowLaws.{ran-told}

-- what a call that changes the store promises, once its answer is written with its count
counts-told : (count : ℕ) (e : Ended) {st : Store} {a : Answer} {c : ℕ} {area' out out' : Bytes} {n : ℕ} → DoneAs e (record { store = st; answer = a }) area' → c ≡ count → longest ≤ length out → Writes (answer_bytes a c []) out n out'
    → RanAs (changing count e) out (record { store = st; len = n }) area' out'
counts-told count e {a = a} {c = c} {out = out} {out' = out'} {n = n} v k length_is w =
    let s : Writes (answer_bytes e.answer c []) out n out' = subst (λ (x : Answer). Writes (answer_bytes x c []) out n out') v.answer_is w in
    let u : Writes (told_bytes (changing count e)) out n out' = subst (λ (x : ℕ). Writes (answer_bytes e.answer x []) out n out') k s in
    ran-told (changing count e) v.made v.shown (omega arith) length_is u

-- the promise of restore and of a collection, and that of every other changing call, which leaves the floor
pub replaced : {st : Store} {area : Bytes} {e : Ended} {m : Changed} {area' : Bytes} → Replaced st area e m area' → DoneAs e m area'
replaced v = record { answer_is = v.answer_is.case_is; made = v.made; shown = v.shown }

pub settled : {st : Store} {area : Bytes} {d : Done} {m : Changed} {area' : Bytes} → Settled st area d m area' → DoneAs (on_floor st.floor d) m area'
settled v = record { answer_is = v.answer_is.case_is; made = v.made; shown = ap₂ (λ (b : Box) (f : ℕ). record { box = b; floor = f }) v.shown v.floor_is }

-- a single prewrite is its batch of one, in which only the row of a Put stands
pub prewritten : (h : PrewriteTerms) (k r : Bytes) (kind : Kind) {st : Store} {area : Bytes} {m : Changed} {area' : Bytes} → Settled st area (prewrite st.floor h (record { key = k; row = when (eq_kind kind Put) r }) (box_of st area)) m area'
    → DoneAs (perform (Changing.Prewrite h (one_entry kind k r)) (state_shown st area)) m area'
unfolding prewrite perform
prewritten h k r Put v = settled v
prewritten h k r Delete v = settled v
prewritten h k r Rollback v = settled v

-- ---- by the op

-- a call of this op
pub by-change : (o op : ChangeOp) (a : Args) (state : State) {m : Changed} {area' : Bytes} → o ≡ op → DoneAs (changed_by op a state) m area' → DoneAs (changed_by o a state) m area'
by-change o op a state {m} {area'} e v = subst (λ (x : ChangeOp). DoneAs (changed_by x a state) m area') (sym e) v

-- what the arguments of the op say is told
module _ (a : Args) (state : State) where
  change-told : (op : ChangeOp) → changing 0 (changed_by op a state) ≡ told (call_as (Op.Changes op) a) a.buffer state
  unfolding told
  change-told ChangeOp.Prewrite = refl
  change-told ChangeOp.PrewriteBatch = refl
  change-told ChangeOp.Commit = refl
  change-told ChangeOp.CommitBatch = refl
  change-told ChangeOp.Rollback = refl
  change-told ChangeOp.RollbackBatch = refl
  change-told ChangeOp.Collect = refl
  change-told ChangeOp.Restore = refl

  pub change-ran : (op : ChangeOp) {st : Store} {m : Answer} {area' out out' : Bytes} {n : ℕ} → DoneAs (changed_by op a state) (record { store = st; answer = m }) area' → longest ≤ length out → Writes (answer_bytes m 0 []) out n out'
      → RanAs (told (call_as (Op.Changes op) a) a.buffer state) out (record { store = st; len = n }) area' out'
  change-ran op {st} {area' = area'} {out = out} {out' = out'} {n = n} v length_is w =
      subst (λ (d : Told). RanAs d out (record { store = st; len = n }) area' out') (change-told op) (counts-told 0 (changed_by op a state) v refl length_is w)

  -- of a question about a row
  asked-told : (op : AskOp) → asked_bytes op a.row.now a.first ≡ told_bytes (told (call_as (Op.Asks op) a) a.buffer state)
  unfolding told
  asked-told AskOp.Bone = refl
  asked-told AskOp.Bones = refl

  asked-state : (op : AskOp) → state ≡ (told (call_as (Op.Asks op) a) a.buffer state).state
  unfolding told
  asked-state AskOp.Bone = refl
  asked-state AskOp.Bones = refl

  asked-short : (op : AskOp) → length (told (call_as (Op.Asks op) a) a.buffer state).payload ≤ 262144
  unfolding told
  asked-short AskOp.Bone = by-shown (bone_shown a.row.now a.first).shown
    where
      by-shown : (f : Bool) → length (bone_payload f) ≤ 262144
      by-shown true = omega arith
      by-shown false = omega arith
  asked-short AskOp.Bones = omega arith

  pub ask-ran : (op : AskOp) {st : Store} {area out out' : Bytes} {n : ℕ} → Made st area → state_shown st area ≡ state → longest ≤ length out → Writes (asked_bytes op a.row.now a.first) out n out'
      → RanAs (told (call_as (Op.Asks op) a) a.buffer state) out (record { store = st; len = n }) area out'
  ask-ran op {out = out} {out' = out'} {n = n} m k length_is w =
      ran-told _ m (k ∙ asked-state op) (asked-short op) length_is (subst (λ (x : Bytes). Writes x out n out') (asked-told op) w)

  -- of the converter
  pub convert-ran : {st : Store} {area out out' : Bytes} {n : ℕ} → Made st area → state_shown st area ≡ state → longest ≤ length out → a.buffer < 262145 → Writes (written_bytes (convert_image a.rest.now (lent a.buffer))) out n out'
      → RanAs (told (call_as Op.Convert a) a.buffer state) out (record { store = st; len = n }) area out'
  unfolding told
  convert-ran m k length_is small w =
      let i : Bytes = a.rest.now in
      ran-told (paging (convert_image i (lent a.buffer)) state) m k (omega (arith, converted-long i (lent a.buffer), length-replicate {A = ℕ} a.buffer 238)) length_is w

  -- of any call
  pub by-op : (op : Op) {out : Bytes} {x : Ran} {area' out' : Bytes} → a.op ≡ op → RanAs (told (call_as op a) a.buffer state) out x area' out' → RanAs (told_in (call_of a) state) out x area' out'
  by-op op {out} {x} {area'} {out'} e v = subst (λ (o : Op). RanAs (told (call_as o a) a.buffer state) out x area' out') (sym e) v

-- of a one-step batch
pub step-ran : (a : Args) {st : Store} {area : Bytes} {m : Stepped} {area' out out' : Bytes} {r : Shown} {n : ℕ} → Counts st area (one_step st.floor (record { txn = a.first; start = a.second; commit = a.third }) a.rest.now (box_of st area)) m area'
    → ShownOf (record { answer = m.answer; count = m.count }) [] r → longest ≤ length out → Writes (answer_bytes (outcome r.answer) r.count r.payload.now) out n out' → RanAs (told (call_as Op.OneStep a) a.buffer (state_shown st area)) out (record { store = m.store; len = n }) area' out'
unfolding told perform
step-ran a {st} {area} {m} {area'} {out} {out'} {r} {n} v u length_is w =
    let d = settled v.settled in
    let w' : Writes (answer_bytes (outcome r.answer) r.count []) out n out' = subst (λ (p : Bytes). Writes (answer_bytes (outcome r.answer) r.count p) out n out') u.payload_is w in
    counts-told (one_step st.floor (record { txn = a.first; start = a.second; commit = a.third }) a.rest.now (box_of st area)).count _ (record { answer_is = u.answer_is ∙ d.answer_is; made = d.made; shown = d.shown }) (u.count_is ∙ v.count_is) length_is w'

-- ---- the calls that have a long buffer: it is within its limit, and so is the table

pub long-small : (a : Args) {op : Op} → is_long op ≡ true → a.op ≡ op → a.buffer < 262145
long-small a h e = subst (λ (x : Bool). a.buffer < buffer_below x) (ap is_long e ∙ h) a.buffer_fits

pub table_fits : (a : Args) → a.op ≡ Op.Capture → a.first < 4294967296
table_fits a e = subst (λ (x : Op). a.first < 256 ^ first_width (is_long x)) e a.first_fits

pub asks-capture : {st : Store} {area : Bytes} {a : Args} {out : Bytes} → RunAsks st area a a.op out → a.op ≡ Op.Capture → CaptureAsks st area a.buffer out
asks-capture {a = a} v e = record { made = v.made; small = long-small a refl e; length_is = v.length_is }

-- ---- the call's bytes

module _ {st : Store} {area s out : Bytes} where
  pub run_short : length out < longest → RunCall st area s out (record { store = st; len = 0 }) area out
  run_short h = record { ran = λ g. absurd (omega arith); short = λ g. record { store_is = refl; area_is = refl; out_is = refl; len_is = refl } }

  call-ran : {o : Option TraceCall} {r : Ran} {area' out' : Bytes} → call s ≡ o → longest ≤ length out → RanAs (told_of o (state_shown st area)) out r area' out' → RunCall st area s out r area' out'
  call-ran {r = r} {area' = area'} {out' = out'} e length_is v = record {
    ran = λ q. subst (λ (c : Option TraceCall). RanAs (told_of c (state_shown st area)) out r area' out') (sym e) v;
    short = λ q. absurd (omega arith);
  }

  -- "number 6, with zeros and no payload, and nothing is run"
  pub run-formless : {n : ℕ} {out' : Bytes} → Made st area → Ends call_from call_of s None → longest ≤ length out → Writes (answer_bytes (No 6) 0 []) out n out' → RunCall st area s out (record { store = st; len = n }) area out'
  unfolding call told_of
  run-formless m g length_is w = call-ran g.is length_is (ran-told (not_run (state_shown st area)) m refl (omega arith) length_is w)

  pub run-formed : {a : Args} {r : Ran} {area' out' : Bytes} → Ends call_from call_of s (Some a) → longest ≤ length out → RanAs (told_in (call_of a) (state_shown st area)) out r area' out' → RunCall st area s out r area' out'
  unfolding call told_of
  run-formed g length_is v = call-ran g.is length_is v

-- ---- what a run leaves, whatever the buffer

module _ {st : Store} {area s out : Bytes} {r : Ran} {area' out' : Bytes} (v : RunCall st area s out r area' out') where
  unrun-made : Made st area → Unrun st area out r area' out' → Made r.store area'
  unrun-made m u = rw (u.store_is, u.area_is) m

  pub ran-made : Made st area → Made r.store area'
  ran-made m = by_size (ltb (length out) longest) refl
    where
      by_size : (f : Bool) → ltb (length out) longest ≡ f → Made r.store area'
      by_size true e = unrun-made m (v.short (ltb-true (length out) longest e))
      by_size false e = (v.ran (ltb-false (length out) longest e)).made

  pub ran-within : r.len ≤ length out
  ran-within = by_size (ltb (length out) longest) refl
    where
      by_size : (f : Bool) → ltb (length out) longest ≡ f → r.len ≤ length out
      by_size true e = omega (arith, (v.short (ltb-true (length out) longest e)).len_is)
      by_size false e = (v.ran (ltb-false (length out) longest e)).within
