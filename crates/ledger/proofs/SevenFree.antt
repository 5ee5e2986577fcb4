-- Calls, and steps of calls, that cannot answer 7: each of their steps has another number. Assumes nothing.
use Prim.Native.Nat.{ℕ}
use mathlib.Core.Path.{refl}
use mathlib.Core.Bool.{Bool, true, false, not}
use mathlib.Core.List.{List, [], ◌∷◌}
use mathlib.Core.Option.{Option, none, some}
use lib.Dec.{ltb, eqb}
use Rattle.forms.specs.Bytes.{Bytes}
use Rattle.forms.specs.Key.{Key}
use Rattle.forms.specs.Row.{Row}
use Rattle.forms.specs.Batch.{Mutation}
use Rattle.rules.specs.Answers.{Holder, answer_of}
use Rattle.rules.specs.declared.records.Record.{Record}
use Rattle.rules.specs.declared.terms.CommitTerms.{CommitTerms}
use Rattle.rules.specs.Box.{Box, Lock, lock_of}
use Rattle.rules.specs.Intent as intent
use Rattle.rules.specs.Page.{Bounds, Limits, locks_of, locks_within, bounds_step, page_arguments, intent_arguments, intent_page, unless_above, conflicting, lock_cost, conflict_page}
use Rattle.rules.specs.Sound.{sound_lock}
use Rattle.rules.specs.Calls.{State, zero_step}
use Rattle.rules.specs.Commit.{commit_terms_step}
use Rattle.rules.specs.Rollback.{rollback_records}
use Rattle.rules.specs.OneStep.{arguments_step, newest_step, step_arguments}
use Rattle.rules.specs.Image.{Image, image, old_image}
use Rattle.rules.specs.Restore.{restore_steps, restore_to, restore}
use Rattle.rules.specs.Capture.{image_of, capture_if, capture_image}
use Rattle.rules.specs.Convert.{converted_bytes, convertible, convert_if, convert_image}
use Rattle.rules.specs.Bones.{bone_steps, bone_shown, bones_shown}
use Rattle.ledger.proofs.SevenLaws.{Seven, steps, no_seven, accepted-seven, need-seven, then-seven, past-seven, settle_state-seven, passed-seven, page-seven, sound-seven, walk-seven, intents-seven, write-seven}

module _ {P : Holder → Type 0} where
  -- ---- whole calls

  pub page-arguments : (limit bytes : ℕ) (a : Bounds) → Seven P (page_arguments limit bytes a)
  unfolding page_arguments bounds_step
  page-arguments limit bytes a = search steps depth 9

  pub intent-page : (a : Bounds) (limit : ℕ) (b : Box) → Seven P (answer_of (intent_page a limit b))
  unfolding intent_page intent_arguments bounds_step
  intent-page a limit b = page-seven _ _ _ (search steps) (intents-seven limit (locks_within a (locks_of b.lines)) 0)

  above-seven : {A : Type 0} (t : Bool) (x : A) → Seven P (answer_of (unless_above t x))
  unfolding unless_above
  above-seven true x = accepted-seven
  above-seven false x = accepted-seven

  pub conflict-page : (a : Bounds) (m : ℕ) (limits : Limits) (b : Box) → Seven P (answer_of (conflict_page a m limits b))
  unfolding conflict_page conflicting
  conflict-page a m limits b =
      page-seven _ _ _ (page-arguments limits.rows limits.bytes a)
      (walk-seven (conflicting m) lock_cost limits (locks_within a (locks_of b.lines)) (λ x i. sound-seven (sound_lock x.lock) _ (above-seven (ltb m x.lock.start) x)) 0 0)

  pub one-intent : (k : Key) (m : ℕ) (b : Box) → Seven P (answer_of (intent.intent_at k m b))
  unfolding intent.intent_at intent.judge_lock intent.unless_above intent.lock_if
  one-intent k m b = passed-seven _ _ (need-seven _ 1 refl) (go (lock_of k b.lines))
    where
      tell : (t u : Bool) (l : Lock) → Seven P (answer_of (intent.unless_above t (intent.lock_if u l)))
      tell true u l = accepted-seven
      tell false true l = accepted-seven
      tell false false l = no_seven 9 refl

      go : (o : Option Lock) → Seven P (answer_of (intent.judge_lock m o))
      go none = accepted-seven
      go (some l) = tell (ltb m l.start) (sound_lock l) l

  pub restored : (s : Bytes) (st : State) → Seven P (restore s st).answer
  unfolding restore restore_to restore_steps
  restored s st = go (image s)
    where
      go : (o : Option Image) → Seven P (restore_to o st).answer
      go none = no_seven 13 refl
      go (some i) = settle_state-seven (restore_steps i) _ st (search steps)

  pub captured : (floor t : ℕ) (b : Box) (buffer : Bytes) → Seven P (capture_image floor t b buffer).answer
  unfolding capture_image capture_if
  captured floor t b buffer = go (not (eqb t 0))
    where
      go : (u : Bool) → Seven P (capture_if u (image_of floor t b) buffer).answer
      go true = write-seven _ (image_of floor t b) buffer
      go false = no_seven 3 refl

  pub converted : (s buffer : Bytes) → Seven P (convert_image s buffer).answer
  unfolding convert_image convert_if
  converted s buffer = go (convertible (old_image s))
    where
      go : (u : Bool) → Seven P (convert_if u (converted_bytes s) buffer).answer
      go true = write-seven _ (converted_bytes s) buffer
      go false = no_seven 13 refl

  pub bone-asked : (r : Row) (n : ℕ) → Seven P (bone_shown r n).answer
  unfolding bone_shown bone_steps
  bone-asked r n = search steps

  pub bones-asked : (r : Row) → Seven P (bones_shown r).answer
  unfolding bones_shown
  bones-asked r = search steps

  -- ---- steps

  pub rollback-records : (start : ℕ) (ws : List Record) → Seven P (rollback_records start ws)
  unfolding rollback_records
  rollback-records start [] = accepted-seven
  rollback-records start (w ∷ ws) = past-seven _ 9 _ refl (past-seven _ 8 _ refl (rollback-records start ws))

  arguments-seven : (ms : List Mutation) → Seven P (arguments_step ms)
  unfolding arguments_step
  arguments-seven [] = accepted-seven
  arguments-seven (m ∷ ms) = past-seven _ 1 _ refl (past-seven _ 2 _ refl (arguments-seven ms))

  pub newest-seven : (h : CommitTerms) (b : Box) (ms : List Mutation) → Seven P (newest_step h b ms)
  unfolding newest_step
  newest-seven h b [] = accepted-seven
  newest-seven h b (m ∷ ms) = past-seven _ 8 _ refl (newest-seven h b ms)

  pub step-arguments : (floor : ℕ) (h : CommitTerms) (ms : List Mutation) (b : Box) → Seven P (step_arguments floor h ms b)
  unfolding step_arguments commit_terms_step zero_step
  step-arguments floor h ms b = then-seven _ _ (search steps) (then-seven _ _ (arguments-seven ms) (need-seven _ 9 refl))
