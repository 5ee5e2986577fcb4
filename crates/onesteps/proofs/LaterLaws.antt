-- The steps of a one-step batch after its head, in the order in which the code has them: "some applied" and "other kind or row" are one
-- test, and where the entries pass, the newest record lies below the commit.
-- Assumes nothing.
use Prim.Native.Nat.{◌+◌, ◌<◌}
use native.Mathlib.Omega.{arith}
use mathlib.Core.Path.{◌≡◌, refl, sym, ap, ap₂, ◌∙◌}
use mathlib.Core.Bool.{Bool, true, false, not, ◌&&◌, ◌||◌, true≢false, false≢true}
use mathlib.Core.List.{List, [], ◌∷◌}
use lib.ListN.{length, length-append}
use Rattle.forms.specs.Batch.{Mutation, key_inside, ascend}
use Rattle.rules.specs.Answers.{Answer, Accepted, No, Held, ◌▸◌, need}
use Rattle.rules.specs.declared.room.Load.{Load}
use Rattle.rules.specs.Box as box
use Rattle.rules.specs.Room.{room_for}
use Rattle.rules.specs.Sound.{all_sound}
use Rattle.rules.specs.Calls.{settle, kind_of, all_below, record_for}
use Rattle.rules.specs.declared.terms.CommitTerms.{CommitTerms}
use Rattle.rules.specs.OneStep.{Applied, already, not_yet, otherwise, is_other, is_already, applied_in, arguments_step, none_other, all_applied, some_applied, step_lock, step_entry, step_entries, newest_step, apply_step, apply_steps, step_new, step_applied, then_applied}
use Rattle.laws.specs.Adds.{sum_loads, plus}
use Rattle.laws.proofs.StepLaws.{then-left, then-right, then-both, then-assoc, need-true, need-is, and_both, and_left, and_right}
use Rattle.laws.proofs.RecordLaws.{below_more}
use Rattle.laws.proofs.FrameLaws.{ascend-apart}
use Rattle.laws.proofs.BatchLaws.{check_all}
use Rattle.laws.proofs.OneStepLaws.{step_check, step-passed, step-records, steps-check, steps-other}
use Rattle.calls.proofs.AnswerLaws.{then-end}
use Rattle.onesteps.specs.Checks.{is_new, all_new, when_passed}
use Rattle.onesteps.specs.Counts.{later_done}

-- ---- which entries are applied

-- an entry that is applied has no other kind or row
all-clean : (h : CommitTerms) (b : box.Box) (ms : List Mutation) → all_applied h b ms ≡ true → none_other h b ms ≡ true
unfolding all_applied none_other
all-clean h b [] e = refl
all-clean h b (m ∷ ms) e = and_both _ _ (go (applied_in h b m) (and_left _ _ e)) (all-clean h b ms (and_right (is_already (applied_in h b m)) _ e))
  where
    go : (a : Applied) → is_already a ≡ true → not (is_other a) ≡ true
    go already q = refl
    go not_yet q = refl
    go otherwise q = absurd (false≢true q)

-- at no key has the record at commit this start
new_is : (h : CommitTerms) (b : box.Box) (ms : List Mutation) → all_new h b ms ≡ none_other h b ms && not (some_applied h b ms)
unfolding all_new none_other some_applied
new_is h b [] = refl
new_is h b (m ∷ ms) = go (applied_in h b m) (none_other h b ms) (some_applied h b ms) (new_is h b ms)
  where
    never : (t : Bool) → false ≡ t && false
    never true = refl
    never false = refl

    go : (a : Applied) (c s : Bool) → all_new h b ms ≡ c && not s → is_new a && all_new h b ms ≡ (not (is_other a) && c) && not (is_already a || s)
    go already c s e = never c
    go not_yet c s e = e
    go otherwise c s e = refl

not-empty : (h : CommitTerms) (b : box.Box) (ms : List Mutation) → all_applied h b ms ≡ false → 0 < length ms
unfolding all_applied
not-empty h b [] e = absurd (true≢false e)
not-empty h b (m ∷ ms) e = omega arith

-- ---- "newest at or above commit 8": no record is, where each is stamped below the start

newest-passes : (h : CommitTerms) → h.start < h.commit → (b : box.Box) (ms : List Mutation) → step_entries h b ms ≡ Accepted → newest_step h b ms ≡ Accepted
unfolding step_entries newest_step step_entry
newest-passes h p b [] e = refl
newest-passes h p b (m ∷ ms) e =
    let ws = box.records_of m.key b.lines in
    let q = then-left _ (step_entries h b ms) e in
    let below = need-true _ 8 (then-right (need (all_sound ws) 9) _ (then-right (step_lock h (kind_of m.row) (box.lock_of m.key b.lines)) _ q)) in
    then-both _ _ (need-is _ 8 (below_more h.start h.commit ws (omega arith) below)) (newest-passes h p b ms (then-right (step_lock h (kind_of m.row) (box.lock_of m.key b.lines) ▸ need (all_sound ws) 9 ▸ need (all_below h.start ws) 8) _ e))

pub entries-check : (h : CommitTerms) → h.start < h.commit → (b : box.Box) (ms : List Mutation) → step_entries h b ms ≡ Accepted → check_all (step_check h) b ms ≡ Accepted
entries-check h p b ms e = steps-check h b ms e (newest-passes h p b ms e)

-- what follows a step matters only where it passes
pub after-step : (x y z : Answer) → (x ≡ Accepted → y ≡ z) → x ▸ y ≡ x ▸ z
unfolding ◌▸◌
after-step Accepted y z f = f refl
after-step (No n) y z f = refl
after-step (Held o) y z f = refl

-- ---- what the batch does

then-settle : (x y : Answer) (new old : box.Box) → then_applied x old (settle y new old) ≡ settle (x ▸ y) new old
unfolding then_applied ◌▸◌ settle
then-settle Accepted y new old = refl
then-settle (No n) y new old = refl
then-settle (Held o) y new old = refl

then_same : (x : Answer) (b : box.Box) → then_applied x b (record { answer = Accepted; box = b }) ≡ record { answer = x; box = b }
unfolding then_applied
then_same Accepted b = refl
then_same (No n) b = refl
then_same (Held o) b = refl

need-both : (a c : Bool) (v : Answer) → need a 9 ▸ (need c 9 ▸ v) ≡ need (a && c) 9 ▸ v
unfolding need ◌▸◌
need-both true c v = refl
need-both false c v = refl

module _ (h : CommitTerms) (b : box.Box) (ms : List Mutation) where
  -- "All applied: accepted, unchanged"
  pub later-all : all_applied h b ms ≡ true → later_done h ms b ≡ record { answer = arguments_step ms; box = b }
  unfolding later_done step_applied need
  later-all e =
      ap₂ (λ (c t : Bool). then_applied (arguments_step ms ▸ need c 9) b (step_applied t h ms b)) (all-clean h b ms e) e
      ∙ then_same (arguments_step ms ▸ Accepted) b ∙ ap (λ (x : Answer). record { answer = x; box = b }) (then-end (arguments_step ms))

  pub later-new : h.start < h.commit → all_applied h b ms ≡ false
      → later_done h ms b ≡ settle (arguments_step ms ▸ need (all_new h b ms) 9 ▸ step_entries h b ms ▸ need (room_for (apply_steps h ms b)) 11) (apply_steps h ms b) b
  unfolding later_done step_applied step_new ◌▸◌
  later-new p e =
      ap (λ (t : Bool). then_applied (arguments_step ms ▸ need (none_other h b ms) 9) b (step_applied t h ms b)) e
      ∙ then-settle (arguments_step ms ▸ need (none_other h b ms) 9) (need (not (some_applied h b ms)) 9 ▸ step_new h ms b) (apply_steps h ms b) b
      ∙ ap (λ (x : Answer). settle x (apply_steps h ms b) b)
      (then-assoc (arguments_step ms) _ _
      ∙ ap (λ (x : Answer). arguments_step ms ▸ x)
      (need-both (none_other h b ms) (not (some_applied h b ms)) (step_new h ms b)
      ∙ ap₂ (λ (t : Bool) (x : Answer). need t 9 ▸ x) (sym (new_is h b ms))
      (after-step (step_entries h b ms) _ _ (λ q. ap (λ (x : Answer). x ▸ need (room_for (apply_steps h ms b)) 11) (newest-passes h p b ms q)))))

-- where all entries pass, each one's weight counts
pub sums-passed : (h : CommitTerms) (b : box.Box) (f : Mutation → Load) (ms : List Mutation) → step_entries h b ms ≡ Accepted → sum_loads (λ (m : Mutation). when_passed (step_entry h b m) (f m)) ms ≡ sum_loads f ms
unfolding step_entries sum_loads
sums-passed h b f [] e = refl
sums-passed h b f (m ∷ ms) e = ap₂ plus (ap (λ (a : Answer). when_passed a (f m)) (then-left _ _ e)) (sums-passed h b f ms (then-right (step_entry h b m) _ e))

-- ---- the box that a batch leaves is another one: the first entry's key has one record more

first-check : (h : CommitTerms) (m : Mutation) (ms : List Mutation) (b : box.Box) → check_all (step_check h) b (m ∷ ms) ≡ Accepted → step_check h b m ≡ Accepted
unfolding check_all
first-check h m ms b p = then-left _ _ p

one_more : (h : CommitTerms) (m : Mutation) (ms : List Mutation) (b : box.Box) → ascend key_inside (m ∷ ms) ≡ true → step_check h b m ≡ Accepted → box.in_order b ≡ true
    → length (box.records_of m.key (apply_steps h (m ∷ ms) b).lines) ≡ length (box.records_of m.key b.lines) + 1
unfolding apply_steps
one_more h m ms b asc p o =
    ap length ((steps-other h h.start m.key ms (apply_step h m b) (ascend-apart key_inside m ms asc)).records ∙ step-records h m b o (step-passed h b m p).newest)
    ∙ length-append (box.records_of m.key b.lines) (record_for h.start h.commit (kind_of m.row) ∷ [])

pub steps-differ : (h : CommitTerms) (ms : List Mutation) (b : box.Box) → all_applied h b ms ≡ false → ascend key_inside ms ≡ true → check_all (step_check h) b ms ≡ Accepted → box.in_order b ≡ true → apply_steps h ms b ≡ b → ⊥
steps-differ h [] b n asc p o e = let z = not-empty h b [] n in absurd (omega arith)
steps-differ h (m ∷ ms) b n asc p o e = omega (arith, one_more h m ms b asc (first-check h m ms b p) o, ap (λ (x : box.Box). length (box.records_of m.key x.lines)) e)
