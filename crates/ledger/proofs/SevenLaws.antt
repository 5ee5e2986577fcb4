-- An answer whose number is 7, followed through whatever gives answers: steps and chains of them, entries of a batch, replies, pages. It is a
-- `Held`, and its holder comes from a step that asks for an own lock. `search steps` closes a chain without such a step. Assumes nothing.
use Prim.Native.Nat.{ℕ, suc, ◌+◌}
use mathlib.Core.Path.{◌≡◌, refl, sym, ◌∙◌, subst}
use mathlib.Core.Logic.{inl, inr}
use mathlib.Core.Bool.{Bool, true, false, true≢false}
use mathlib.Core.List.{List, [], ◌∷◌}
use mathlib.Core.Option.{Option, none, some}
use lib.Dec.{leb, eqb}
use lib.ListN.{length}
use borrow.Author.Tests.{eq-eqb}
use Rattle.forms.specs.Bytes.{Bytes}
use Rattle.rules.specs.Answers.{Answer, Accepted, No, Held, Holder, number, ◌▸◌, need, need_own, Reply, nothing, shown, refused, answer_of, if_passed}
use Rattle.rules.specs.Box.{Box}
use Rattle.rules.specs.Calls.{Done, settle, State, settle_state, of_batch}
use Rattle.rules.specs.OneStep.{then_applied}
use Rattle.rules.specs.Page.{Limits, KeyLock, Page, on_page, too_large, cost_step, limit_step, on_judged, page_walk, unless_past, sound_step, intent_walk}
use Rattle.rules.specs.Sound.{sound_lock}
use Rattle.rules.specs.Written.{page_bytes, write_if, written}
use Rattle.laws.proofs.BatchLaws.{check_all}
use Rattle.laws.proofs.SettleLaws.{settle-answer, settle_state-answer}
use Rattle.laws.proofs.Sorted.{In}

-- if the number is 7, there is a holder, and P holds of it
pub record Seven (P : Holder → Type 0) (a : Answer) : Type 0 where
  pub held : number a ≡ 7 → (h : Holder) × (a ≡ Held h) × P h

pub seven-for : {P Q : Holder → Type 0} {a : Answer} → ((h : Holder) → P h → Q h) → Seven P a → Seven Q a
seven-for f p = record { held = λ s. let x = p.held s in (x.0, x.1, f x.0 x.2) }

module _ {P : Holder → Type 0} where
  -- ---- steps

  pub no_seven : (n : ℕ) → eqb n 7 ≡ false → Seven P (No n)
  no_seven n e = record { held = λ s. absurd (true≢false (sym (eq-eqb n 7 s) ∙ e)) }

  pub accepted-seven : Seven P Accepted
  accepted-seven = record { held = λ s. absurd (true≢false (sym (eq-eqb 0 7 s))) }

  pub need-seven : (t : Bool) (n : ℕ) → eqb n 7 ≡ false → Seven P (need t n)
  unfolding need
  need-seven true n e = accepted-seven
  need-seven false n e = no_seven n e

  pub own-seven : (t : Bool) (h : Holder) → (t ≡ false → P h) → Seven P (need_own t h)
  unfolding need_own
  own-seven true h p = accepted-seven
  own-seven false h p = record { held = λ s. (h, refl, p refl) }

  -- the rest is asked only where the step has passed
  pub then_if : (a b : Answer) → Seven P a → (a ≡ Accepted → Seven P b) → Seven P (a ▸ b)
  unfolding ◌▸◌
  then_if Accepted b p q = q refl
  then_if (No n) b p q = p
  then_if (Held h) b p q = p

  pub then-seven : (a b : Answer) → Seven P a → Seven P b → Seven P (a ▸ b)
  then-seven a b p q = then_if a b p (λ e. q)

  -- a test, and then the rest
  pub past-seven : (t : Bool) (n : ℕ) (a : Answer) → eqb n 7 ≡ false → Seven P a → Seven P (need t n ▸ a)
  past-seven t n a e p = then-seven (need t n) a (need-seven t n e) p

  -- each entry of a batch
  check-seven : {A : Type 0} (check : Box → A → Answer) (b : Box) (xs : List A) → ((x : A) → In x xs → Seven P (check b x)) → Seven P (check_all check b xs)
  unfolding check_all
  check-seven check b [] f = accepted-seven
  check-seven check b (x ∷ xs) f = then-seven (check b x) _ (f x (inl refl)) (check-seven check b xs (λ y m. f y (inr m)))

  pub all-seven : {A : Type 0} (check : Box → A → Answer) (b : Box) (xs : List A) {a : Answer} → a ≡ check_all check b xs → ((x : A) → In x xs → Seven P (check b x)) → Seven P a
  all-seven check b xs e f = subst (Seven P) (sym e) (check-seven check b xs f)

  -- ---- what settles a call

  pub settle-seven : (a : Answer) (new old : Box) → Seven P a → Seven P (settle a new old).answer
  settle-seven a new old p = subst (Seven P) (sym (settle-answer a new old)) p

  pub settle_state-seven : (a : Answer) (new old : State) → Seven P a → Seven P (settle_state a new old).answer
  settle_state-seven a new old p = subst (Seven P) (sym (settle_state-answer a new old)) p

  pub applied-seven : (a : Answer) (b : Box) (d : Done) → Seven P a → Seven P d.answer → Seven P (then_applied a b d).answer
  unfolding then_applied
  applied-seven Accepted b d p q = q
  applied-seven (No n) b d p q = p
  applied-seven (Held h) b d p q = p

  pub batch-seven : {A : Type 0} (o : Option (List A)) (call : List A → Box → Done) (b : Box) → ((xs : List A) → o ≡ some xs → Seven P (call xs b).answer) → Seven P (of_batch o call b).answer
  unfolding of_batch
  batch-seven none call b f = no_seven 6 refl
  batch-seven (some xs) call b f = f xs refl

  -- ---- replies

  pub passed-seven : {A : Type 0} (a : Answer) (r : Reply A) → Seven P a → Seven P (answer_of r) → Seven P (answer_of (if_passed a r))
  unfolding if_passed
  passed-seven Accepted r p q = q
  passed-seven (No n) r p q = p
  passed-seven (Held h) r p q = p

  -- ---- pages

  ended-seven : {A : Type 0} (t : Bool) (r : Reply (Page A)) → Seven P (answer_of r) → Seven P (answer_of (unless_past t r))
  unfolding unless_past
  ended-seven true r p = accepted-seven
  ended-seven false r p = p

  pub page-seven : {A : Type 0} (a : Answer) (t : Bool) (r : Reply (Page A)) → Seven P a → Seven P (answer_of r) → Seven P (answer_of (if_passed a (unless_past t r)))
  page-seven a t r p q = passed-seven a (unless_past t r) p (ended-seven t r q)

  on-seven : {A : Type 0} (x : A) (r : Reply (Page A)) → Seven P (answer_of r) → Seven P (answer_of (on_page x r))
  unfolding on_page
  on-seven x nothing p = p
  on-seven x (shown q) p = accepted-seven
  on-seven x (refused v) p = p

  cost-seven : {A : Type 0} (t first : Bool) (x : A) (r : Reply (Page A)) → Seven P (answer_of r) → Seven P (answer_of (cost_step t first x r))
  unfolding cost_step too_large
  cost-seven true first x r p = on-seven x r p
  cost-seven false true x r p = no_seven 10 refl
  cost-seven false false x r p = accepted-seven

  limit-seven : {A : Type 0} (t : Bool) (r : Reply (Page A)) → Seven P (answer_of r) → Seven P (answer_of (limit_step t r))
  unfolding limit_step
  limit-seven true r p = accepted-seven
  limit-seven false r p = p

  pub sound-seven : {A : Type 0} (t : Bool) (r : Reply A) → Seven P (answer_of r) → Seven P (answer_of (sound_step t r))
  unfolding sound_step
  sound-seven true r p = p
  sound-seven false r p = no_seven 9 refl

  pub walk-seven : {X A : Type 0} (judge : X → Reply A) (cost : A → ℕ) (m : Limits) (xs : List X) → ((x : X) → In x xs → Seven P (answer_of (judge x))) → (count sum : ℕ)
      → Seven P (answer_of (page_walk judge cost m xs count sum))
  unfolding page_walk on_judged
  walk-seven judge cost m [] f count sum = accepted-seven
  walk-seven {A = A} judge cost m (x ∷ xs) f count sum = go (judge x) (f x (inl refl)) (walk-seven judge cost m xs (λ y i. f y (inr i)))
    where
      go : (r : Reply A) → Seven P (answer_of r) → ((c s : ℕ) → Seven P (answer_of (page_walk judge cost m xs c s))) → Seven P (answer_of (on_judged m cost count sum (λ c s. page_walk judge cost m xs c s) r))
      go nothing p ih = ih count sum
      go (refused v) p ih = p
      go (shown y) p ih = limit-seven (leb m.rows count) _ (cost-seven (leb (sum + cost y) m.bytes) (eqb count 0) y _ (ih (suc count) (sum + cost y)))

  pub intents-seven : (limit : ℕ) (xs : List KeyLock) (count : ℕ) → Seven P (answer_of (intent_walk limit xs count))
  unfolding intent_walk
  intents-seven limit [] count = accepted-seven
  intents-seven limit (x ∷ xs) count = limit-seven (leb limit count) _ (sound-seven (sound_lock x.lock) _ (on-seven x _ (intents-seven limit xs (suc count))))

  -- "Last, 12"
  pub write-seven : (t : Bool) (bytes buffer : Bytes) → Seven P (write_if t bytes buffer).answer
  unfolding write_if
  write-seven true bytes buffer = accepted-seven
  write-seven false bytes buffer = no_seven 12 refl

  pub written-seven : {A : Type 0} (f : A → Bytes) (r : Reply (Page A)) (buffer : Bytes) → Seven P (answer_of r) → Seven P (written f r buffer).answer
  unfolding written
  written-seven f nothing buffer p = accepted-seven
  written-seven f (refused v) buffer p = p
  written-seven f (shown q) buffer p = write-seven (leb (length (page_bytes f q)) (length buffer)) (page_bytes f q) buffer

-- a chain none of whose steps can be 7
pub ruleset steps = (then-seven, need-seven, accepted-seven)
