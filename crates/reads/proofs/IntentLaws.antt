-- An intent at a point: a key's lock is sound, so that it is shown where it starts at or below the moment.
-- Assumes nothing.
use Rattle.std.specs.Prelude.{None, Some, Ok, Err}
use Prim.Native.Nat.{ℕ, ◌≤◌, ◌<◌}
use native.Mathlib.Omega.{arith}
use mathlib.Core.Path.{◌≡◌, sym, ap, ◌∙◌, subst}
use mathlib.Core.Bool.{true, false}
use lib.ListN.{length}
use borrow.Author.Tests.{lt-ltb, le-ltb}
use Rattle.forms.specs.Bytes.{Bytes}
use Rattle.forms.specs.Key.{Key, key_form}
use Rattle.rules.specs.Answers.{No, need, Reply, answer_of, if_passed}
use Rattle.rules.specs.Box.{Box, Lock}
use Rattle.rules.specs.Intent.{lock_if, unless_above, judge_lock, intent_at}
use Rattle.store.specs.declared.table.Store.{Store}
use Rattle.store.specs.declared.views.LockView.{LockView}
use Rattle.lookups.specs.declared.lookup.KeyState.{KeyState}
use Rattle.store.specs.View.{box_of}
use Rattle.store.specs.Made.{Built}
use Rattle.store.specs.Views.{lock_in}
use Rattle.lookups.specs.KeyStates.{Locked, KeyStateAt, LockThere, locked_by}
use Rattle.laws.proofs.StepLaws.{answered}
use Rattle.rules.specs.declared.answers.Refusal.TheVariants.{KeyForm}
use Rattle.reads.specs.Seen.{LockSeen, pointed_in, PointedBelow, PointedAs}
use Rattle.store.proofs.KeySoundLaws.{sound-lock}

point-as : {want : Reply Lock} {area : Bytes} {r : LockSeen} → pointed_in area r ≡ want → PointedBelow (length area) r → PointedAs want area r
point-as e h = record { answer_is = answered (ap (λ (x : Reply Lock). answer_of x) e); is = e; within = h }

pub point-invalid : (k : Key) (m : ℕ) (b : Box) (area : Bytes) → key_form k ≡ false → PointedAs (intent_at k m b) area (Err KeyForm)
unfolding intent_at if_passed need
point-invalid k m b area h = point-as (sym (rw h)) tt

module _ {st : Store} {area k : Bytes} {start m : ℕ} {found : KeyState} (b : Built st area) (form : key_form k ≡ true) (f : KeyStateAt st area k start m found) where
  -- the lock that the lookup found is judged
  judged : {l : Locked} → found.lock ≡ l → judge_lock m (locked_by area l) ≡ intent_at k m (box_of st area)
  unfolding intent_at if_passed need
  judged e = ap (λ (o : Locked). judge_lock m (locked_by area o)) (sym e) ∙ ap (judge_lock m) f.lock_is ∙ sym (rw form)

  pub point-nobody : found.lock ≡ None → PointedAs (intent_at k m (box_of st area)) area (Ok None)
  unfolding judge_lock
  point-nobody e = point-as (judged e) tt

  module _ {i : LockView} (e : found.lock ≡ Some i) where
    pub point-above : m < i.start → PointedAs (intent_at k m (box_of st area)) area (Ok None)
    unfolding judge_lock unless_above
    point-above h = point-as (sym (rw (lt-ltb m i.start h)) ∙ judged e) tt

    pub point-lock : i.start ≤ m
        → PointedAs (intent_at k m (box_of st area)) area (Ok (Some (record { txn = i.txn; start = i.start; ttl = i.ttl; kind = i.kind; primary = record { at = i.at; len = i.len } })))
    unfolding judge_lock unless_above lock_if
    point-lock h =
        let there : LockThere st.top area (box_of st area).defaults k (Some i) = subst (LockThere st.top area (box_of st area).defaults k) e f.lock_there in
        point-as
        (sym (rw (le-ltb m i.start h, sound-lock k (box_of st area).lines (lock_in area i) b.kept.good (sym f.lock_is ∙ ap (locked_by area) e))) ∙ judged e)
        (omega (arith, there.primary_in, b.top_in, b.area_long))
