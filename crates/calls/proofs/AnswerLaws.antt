-- What a call does where one of its first steps decides: 6, 5 and the head of a batch, for every kind of entries.
-- Assumes nothing.
use native.Mathlib.Omega.{arith}
use mathlib.Core.Path.{◌≡◌, refl, sym, ap, ◌∙◌, subst}
use mathlib.Core.Bool.{Bool, true, false}
use mathlib.Core.List.{List, [], ◌∷◌}
use mathlib.Core.Option.{Option, none, some}
use lib.ListN.{length}
use Rattle.std.specs.Prelude.{None, Some}
use Rattle.std.specs.Prelude.{Option as Maybe}
use Rattle.forms.specs.Bytes.{Bytes}
use Rattle.forms.specs.Places.{AreEntries, Decoded}
use Rattle.forms.specs.declared.batch.Entry.{Entry}
use Rattle.forms.specs.declared.entries.Entries.{Entries}
use Rattle.rules.specs.Answers.{Answer, Accepted, No, Held, ◌▸◌, need}
use Rattle.rules.specs.Box.{Box}
use Rattle.rules.specs.Calls.{Done, settle, of_batch, non_empty}
use Rattle.laws.proofs.StepLaws.{then-assoc}
use Rattle.laws.proofs.SettleLaws.{settle-old, of_batch-some, of_batch-none}
use Rattle.calls.specs.Steps.{in_form, entries_read}
use Rattle.calls.proofs.SettledLaws.{then-refused}

-- ---- a first step, and the others

-- nothing follows
pub then-end : (a : Answer) → a ▸ Accepted ≡ a
unfolding ◌▸◌
then-end Accepted = refl
then-end (No n) = refl
then-end (Held o) = refl

-- what follows a step matters only where it passes
pub then_same : (a v w : Answer) → (a ≡ Accepted → v ≡ w) → a ▸ v ≡ a ▸ w
unfolding ◌▸◌
then_same Accepted v w f = f refl
then_same (No n) v w f = refl
then_same (Held o) v w f = refl

-- the terms of a call are its head's steps, and 14 the last
pub terms-split : {terms : Answer} (head late : Answer) → terms ≡ head ▸ late → (v : Answer) → terms ▸ v ≡ head ▸ late ▸ v
terms-split head late e v = ap (λ (x : Answer). x ▸ v) e ∙ then-assoc head late v

module _ (a v : Answer) (new old : Box) where
  pub head-out : (a ≡ Accepted → ⊥) → settle (a ▸ v) new old ≡ record { answer = a; box = old }
  head-out n = ap (λ (x : Answer). settle x new old) (sym (then-refused a v n)) ∙ settle-old a new old n

  pub head-on : a ≡ Accepted → settle (a ▸ v) new old ≡ settle v new old
  unfolding ◌▸◌
  head-on e = ap (λ (x : Answer). settle (x ▸ v) new old) e

-- ---- a batch whose entries go through `steps`, and make the box `new` of the one as it came

some_of : {A : Type 0} (xs : List A) → (length xs ≡ 0 → ⊥) → non_empty xs ≡ true
some_of [] n = absurd (n refl)
some_of (x ∷ xs) n = refl

none_of : {A : Type 0} (xs : List A) → length xs ≡ 0 → non_empty xs ≡ false
none_of [] e = refl
none_of (x ∷ xs) e = absurd (omega arith)

module _ {A : Type 0} (steps : List A → Box → Answer) (new : List A → Box → Box) (b : Box) where
  abbrev pub batch_call : List A → Box → Done
  batch_call xs c = settle (need (non_empty xs) 5 ▸ steps xs c) (new xs c) c

  -- "batch not in form"
  pub bad-batch : {o : Option (List A)} → o ≡ none → of_batch o batch_call b ≡ record { answer = No 6; box = b }
  bad-batch {o} n = of_batch-none o batch_call b n

  module _ {o : Option (List A)} (xs : List A) (is : o ≡ some xs) where
    by_count : {t : Bool} → non_empty xs ≡ t → of_batch o batch_call b ≡ settle (need t 5 ▸ steps xs b) (new xs b) b
    by_count e = of_batch-some o batch_call b xs is ∙ ap (λ (t : Bool). settle (need t 5 ▸ steps xs b) (new xs b) b) e

    -- "empty batch where one entry is needed"
    pub empty-batch : length xs ≡ 0 → of_batch o batch_call b ≡ record { answer = No 5; box = b }
    unfolding need ◌▸◌ settle
    empty-batch z = by_count (none_of xs z)

    pub full-batch : (length xs ≡ 0 → ⊥) → of_batch o batch_call b ≡ settle (steps xs b) (new xs b) b
    unfolding need ◌▸◌
    full-batch n = by_count (some_of xs n)

-- ---- a batch as it was decoded: out of form, or the steps of its entries decide

module _ {A : Type 0} {item : Entry → A} {s : Bytes} {o : Option (List A)} where
  pub by-form : (r : Maybe Entries) → Decoded item s o r → {a v : Answer} → a ≡ need (in_form r) 6 ▸ v → (P : Answer → Type 0) → (o ≡ none → P (No 6)) → (AreEntries item s o (entries_read r) → a ≡ v → P a) → P a
  unfolding need ◌▸◌
  by-form None d e P bad good = subst P (sym e) (bad d)
  by-form (Some r) d e P bad good = good d e

  pub form-passed : (r : Maybe Entries) → Decoded item s o r → {a v : Answer} → a ≡ need (in_form r) 6 ▸ v → a ≡ Accepted → AreEntries item s o (entries_read r) × (a ≡ v)
  unfolding need ◌▸◌
  form-passed None d e p = cc
  form-passed (Some r) d e p = (d, e)
