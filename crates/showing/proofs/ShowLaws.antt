-- A call that shows something, run: from what is shown to what a run promises, and from the op to the call that the arguments say.
-- Assumes nothing.
use Prim.Native.Nat.{ℕ, ◌≤◌, ◌<◌}
use native.Mathlib.Omega.{arith}
use mathlib.Core.Path.{◌≡◌, sym, subst}
use lib.ListN.{length, length-replicate}
use Rattle.forms.specs.Bytes.{Bytes}
use Rattle.rules.specs.Outcomes.{outcome}
use Rattle.rules.specs.Answers.{Answer, number, holder}
use Rattle.rules.specs.Calls.{State}
use Rattle.traces.specs.declared.args.Args.{Args}
use Rattle.traces.specs.declared.op.ShowOp.{ShowOp}
use Rattle.traces.specs.declared.op.Op.{Op}
use Rattle.traces.specs.Ops.{is_long}
use Rattle.traces.specs.Taken.{buffer_below}
use Rattle.traces.specs.Args.{call_as}
use Rattle.traces.specs.Answers.{answer_bytes}
use Rattle.traces.proofs.FormLaws.{length-answer}
use Rattle.store.specs.declared.table.Store.{Store}
use Rattle.store.specs.View.{state_shown}
use Rattle.store.specs.Made.{Made}
use Rattle.showing.specs.Told.{Told, told, told_bytes, lent, Writes}
use Rattle.showing.specs.Ran.{RanAs, longest}
use Rattle.showing.specs.Shows.{ShownAs, ShownTold}
use Rattle.showing.specs.declared.shown.Shown.{Shown}
use Rattle.rules.specs.Figures.{stats, marks}
use Rattle.showing.proofs.TellLaws.{written, written_count, stats-fits, marks-fits}
use Rattle.showing.proofs.ReplyLaws.{read_short, intent-short}
use Rattle.showing.proofs.PagingLaws.{bounds_in, page-long, intents-long, conflicts-long}

-- what is shown is told
pub told-as : {a : Answer} {count : ℕ} {payload : Bytes} {r : Shown} {out out' : Bytes} {n : ℕ} → ShownAs a count payload r → Writes (answer_bytes (outcome r.answer) r.count r.payload.now) out n out' → Writes (answer_bytes a count payload) out n out'
told-as {a} {count} {r = r} {out = out} {out' = out'} {n = n} p w =
    let x : Writes (answer_bytes a r.count r.payload.now) out n out' = subst (λ (x : Answer). Writes (answer_bytes x r.count r.payload.now) out n out') p.answer_is w in
    let y : Writes (answer_bytes a count r.payload.now) out n out' = subst (λ (x : ℕ). Writes (answer_bytes a x r.payload.now) out n out') p.count_is x in
    subst (λ (x : Bytes). Writes (answer_bytes a count x) out n out') p.payload_is y

-- what is told, with the store after it, is what running the call promises
pub ran-told : (t : Told) {st : Store} {area out out' : Bytes} {n : ℕ} → Made st area → state_shown st area ≡ t.state → length t.payload ≤ 262144 → longest ≤ length out → Writes (told_bytes t) out n out' → RanAs t out (record { store = st; len = n }) area out'
ran-told t {out = out} m e short length_is w =
    let h : length (told_bytes t) ≤ length out = omega (arith, length-answer (number t.answer) (holder t.answer) t.count t.payload) in
    record { made = m; shown = e; put = written h w; within = omega (arith, written_count h w) }

-- what is shown, once it is told
pub showed : (t : Told) {st : Store} {area : Bytes} {r : Shown} {out out' : Bytes} {n : ℕ} → Made st area → ShownTold t (state_shown st area) r → length t.payload ≤ 262144 → longest ≤ length out → Writes (answer_bytes (outcome r.answer) r.count r.payload.now) out n out'
    → RanAs t out (record { store = st; len = n }) area out'
showed t m v short length_is w = ran-told t m v.state_is short length_is (told-as v.told w)

-- ---- by the op

-- the buffer of a call that shows something has a 2-byte length
pub shown-small : (a : Args) {op : ShowOp} → a.op ≡ Op.Shows op → a.buffer < buffer_below (is_long a.op) → a.buffer < 65536
shown-small a e h = subst (λ (x : Op). a.buffer < buffer_below (is_long x)) e h

-- and no payload of such a call is longer than its buffer can be
module _ (a : Args) (state : State) (small : a.buffer < 65536) where
  pub shown-short : (op : ShowOp) → length (told (call_as (Op.Shows op) a) a.buffer state).payload ≤ 262144
  unfolding told
  shown-short ShowOp.Read = omega (arith, read_short state.floor a.key.now a.first state.box)
  shown-short ShowOp.Page = omega (arith, page-long (bounds_in a) state.box (lent a.buffer) state.floor a.first (record { rows = a.second; bytes = a.third }), length-replicate {A = ℕ} a.buffer 238)
  shown-short ShowOp.IntentPage = omega (arith, intents-long (bounds_in a) state.box (lent a.buffer) a.first, length-replicate {A = ℕ} a.buffer 238)
  shown-short ShowOp.ConflictingIntents = omega (arith, conflicts-long (bounds_in a) state.box (lent a.buffer) a.first (record { rows = a.second; bytes = a.third }), length-replicate {A = ℕ} a.buffer 238)
  shown-short ShowOp.OneIntent = omega (arith, intent-short a.key.now a.first state.box)
  shown-short ShowOp.Statistics = stats-fits (stats state.box) (omega arith)
  shown-short ShowOp.Marks = marks-fits (marks state.box) (omega arith)

-- a call of this op, shown
pub by-show : (a : Args) (state : State) (o op : ShowOp) {r : Shown} → o ≡ op → ShownTold (told (call_as (Op.Shows op) a) a.buffer state) state r → ShownTold (told (call_as (Op.Shows o) a) a.buffer state) state r
by-show a state o op {r} e v = subst (λ (x : ShowOp). ShownTold (told (call_as (Op.Shows x) a) a.buffer state) state r) (sym e) v
