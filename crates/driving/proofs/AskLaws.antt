-- The calls that need no store, told: from what each promises to its bytes.
-- Assumes nothing.
use Prim.Native.Nat.{ℕ, ◌<◌}
use mathlib.Core.Path.{◌≡◌, sym, ◌∙◌, ap, subst}
use lib.ListN.{take}
use Rattle.forms.specs.Bytes.{Bytes}
use Rattle.forms.specs.Row.{Row}
use Rattle.rules.specs.Answers.{Answer}
use Rattle.rules.specs.Outcomes.{outcome, Wrote}
use Rattle.rules.specs.Calls.{fresh_state}
use Rattle.rules.specs.Written.{WroteAs}
use Rattle.rules.specs.Bones.{Due, Tells}
use Rattle.rules.specs.Convert.{convert_image}
use Rattle.traces.specs.declared.op.AskOp.{AskOp}
use Rattle.traces.specs.Answers.{answer_bytes}
use Rattle.showing.specs.Told.{lent, Writes}
use Rattle.showing.specs.Shows.{ShownOf}
use Rattle.showing.specs.declared.shown.Shown.{Shown}
use Rattle.showing.proofs.PagingLaws.{long-in, lent-shown}
use Rattle.showing.proofs.ShowLaws.{told-as}
use Rattle.driving.specs.Asks.{due_bytes, asked_bytes, written_bytes}

-- a question about a row: what it answers, and the byte that it tells
pub due-told : {A : Type 0} (payload : A → Bytes) (d : Due A) {a : Answer} {x : A} → Tells d a x → answer_bytes a 0 (payload x) ≡ due_bytes payload d
due-told payload d {a} {x} t = ap (λ (y : Answer). answer_bytes y 0 (payload x)) t.answer_is.case_is ∙ ap (λ (p : Bytes). answer_bytes d.answer 0 p) (ap payload t.shown_is)

-- which question is known
pub by-ask : (o op : AskOp) (r : Row) (k : ℕ) {b : Bytes} → o ≡ op → b ≡ asked_bytes op r k → b ≡ asked_bytes o r k
by-ask o op r k e w = w ∙ ap (λ (x : AskOp). asked_bytes x r k) (sym e)

-- the bytes of an answer are written, whatever says them
pub writes-as : {b b' out out' : Bytes} {n : ℕ} → b ≡ b' → Writes b out n out' → Writes b' out n out'
writes-as {out = out} {out' = out'} {n = n} e w = subst (λ (x : Bytes). Writes x out n out') e w

-- the converter: the lent buffer is the front of a longer one
pub convert-told : (i : Bytes) (n : ℕ) {buffer : Bytes} {done : Wrote} {page : Bytes} {r : Shown} {out out' : Bytes} {k : ℕ} → buffer ≡ lent 262144 → n < 262145 → WroteAs (convert_image i (take n buffer)) done page → ShownOf done page r → Writes (answer_bytes (outcome r.answer) r.count r.payload.now) out k out'
    → Writes (written_bytes (convert_image i (lent n))) out k out'
convert-told i n e small v u w = told-as (lent-shown (convert_image i) n 262144 fresh_state e (long-in n small) v u).told w
