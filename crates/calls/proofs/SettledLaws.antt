-- The promise of a changing call, made by its ways out: nothing has changed, or the box is another one.
-- Assumes nothing.
use mathlib.Core.Bool.{Bool, true, false, not, false≢true}
use mathlib.Core.Path.{◌≡◌, refl, sym, ◌∙◌, ap}
use Rattle.forms.specs.Bytes.{Bytes}
use Rattle.rules.specs.Answers.{Answer, Accepted, No, Held, ◌▸◌}
use Rattle.rules.specs.declared.answers.Refusal.{Refusal}
use Rattle.rules.specs.Outcomes.{refusal}
use Rattle.rules.proofs.OutcomeLaws.{of-refusals, refusal-first}
use denote.Enum.Bare.{sameb}
use Rattle.rules.specs.contracts.records.Kind.{the_type}
use Rattle.rules.specs.declared.records.Kind.{Kind}
use Rattle.rules.specs.declared.records.Kind.TheVariants.{Put, Delete, Rollback}
use Rattle.rules.specs.Box.{eq_kind}
use Rattle.rules.specs.Calls.{Done}
use Rattle.laws.proofs.StepLaws.{answered}
use Rattle.store.specs.declared.table.Store.{Store}
use Rattle.store.specs.View.{box_of}
use Rattle.store.specs.Made.{Made}
pub use Rattle.rules.proofs.OutcomeLaws.{handed-is, handed}
use Rattle.calls.specs.Settled.{is_accepted, Untouched, Settled}

-- ---- accepted, or a refusal

pub is-accepted : (a : Answer) {t : Bool} → t ≡ is_accepted a → not t ≡ false → a ≡ Accepted
is-accepted Accepted e n = refl
is-accepted (No k) e n = cc
is-accepted (Held o) e n = cc

pub is-refusal : (a : Answer) {t : Bool} → t ≡ is_accepted a → not t ≡ true → a ≡ Accepted → ⊥
is-refusal a {t} e n q =
    let z : false ≡ true = sym (ap not (e ∙ ap is_accepted q)) ∙ n in
    false≢true z

pub then-refused : (a v : Answer) → (a ≡ Accepted → ⊥) → a ≡ a ▸ v
unfolding ◌▸◌
then-refused Accepted v n = absurd (n refl)
then-refused (No k) v n = refl
then-refused (Held o) v n = refl

-- ---- kinds, compared

pub same-kind : (j k : Kind) → sameb the_type j k ≡ eq_kind j k
same-kind Put Put = refl
same-kind Put Delete = refl
same-kind Put Rollback = refl
same-kind Delete Put = refl
same-kind Delete Delete = refl
same-kind Delete Rollback = refl
same-kind Rollback Put = refl
same-kind Rollback Delete = refl
same-kind Rollback Rollback = refl

-- ---- a refusal

pub refused-not : (r : Refusal) → is_accepted (refusal r) ≡ false
refused-not r = of-refusals (λ (a : Answer). is_accepted a ≡ false) (λ n. refl) (λ h. refl) r

-- and so it is the answer of the steps that follow
pub first-out : (r : Refusal) {s : Answer} (v : Answer) → refusal r ≡ s → refusal r ≡ s ▸ v
first-out r v e = sym (refusal-first r v) ∙ ap (λ (x : Answer). x ▸ v) e

-- ---- the promise

pub untouched : {st : Store} {area : Bytes} → Untouched st area st area
untouched = record { store_is = refl; area_is = refl }

-- nothing has changed, and the definition leaves the box
pub settled_same : {st : Store} {area : Bytes} {d : Done} {a : Answer} → Made st area → d ≡ record { answer = a; box = box_of st area } → Settled st area d (record { store = st; answer = a }) area
settled_same {st} {area} {d} m e = record {
  answer_is = answered (sym (ap (λ (x : Done). x.answer) e));
  made = m;
  shown = sym (ap (λ (x : Done). x.box) e);
  floor_is = refl;
  refused = λ n. untouched;
  unchanged = λ s. untouched;
}

-- the box is the definition's, and another one than it was
pub settled-new : {st : Store} {area : Bytes} {d : Done} {r : Store} {area' : Bytes} → Made r area' → r.floor ≡ st.floor → d ≡ record { answer = Accepted; box = box_of r area' } → (box_of r area' ≡ box_of st area → ⊥)
    → Settled st area d (record { store = r; answer = Accepted }) area'
settled-new {st} {area} {d} {r} {area'} m f e n = record {
  answer_is = answered (sym (ap (λ (x : Done). x.answer) e));
  made = m;
  shown = sym (ap (λ (x : Done). x.box) e);
  floor_is = f;
  refused = λ z. absurd (z refl);
  unchanged = λ s. absurd (n (sym (ap (λ (x : Done). x.box) e) ∙ s));
}
