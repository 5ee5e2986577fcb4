-- What the functions of `passing` return.
-- Assumes nothing.
use Prim.Native.Nat.{ℕ, ◌+◌, ◌≤◌, ◌<◌}
use mathlib.Core.Path.{◌≡◌, refl, sym, ap, ◌∙◌}
use mathlib.Core.List.{[]}
use lib.Dec.{ltb}
use borrow.Author.Tests.{lt-ltb, le-ltb}
use Rattle.forms.specs.Bytes.{Bytes}
use Rattle.rules.specs.Answers.{Answer, Accepted, Held, need_own}
use Rattle.rules.specs.Box.{holder_of}
use Rattle.rules.specs.Collect.{line_above_step}
use Rattle.store.specs.declared.table.Slot.{Slot}
use Rattle.store.specs.declared.table.Line.{Line}
use Rattle.store.specs.declared.table.Line.TheVariants.{Standing, Finished}
use Rattle.store.specs.declared.views.LockView.{LockView}
use Rattle.store.specs.declared.views.RecordView.{RecordView}
use Rattle.store.specs.declared.views.LineView.{LineView}
use Rattle.store.specs.declared.views.LineView.TheVariants as view
use Rattle.store.specs.View.{place_of, line_in, line_of}
use Rattle.store.specs.Views.{view_in, view_of, lock_in}

-- ---- the step of a line, as the code reads it

abbrev step_in : ℕ → LineView → Answer
step_in f (view.Standing l) = need_own (ltb f l.start) (holder_of (lock_in [] l))
step_in f (view.Finished w) = Accepted

view-step : (f : ℕ) (area : Bytes) (at : ℕ) (x : Line) → line_above_step f (line_in area at x) ≡ step_in f (view_in area at x)
view-step f area at (Standing l) = refl
view-step f area at (Finished w) = refl

module _ (f : ℕ) (area : Bytes) (s : Slot) {v : LineView} (e : v ≡ view_of area s) where
  seen : {u : LineView} → v ≡ u → line_above_step f (line_of area s).line ≡ step_in f u
  seen q = view-step f area (place_of s + s.len) s.line ∙ ap (step_in f) (sym e ∙ q)

  pub step-above : {l : LockView} → v ≡ view.Standing l → f < l.start → Accepted ≡ line_above_step f (line_of area s).line
  unfolding need_own
  step-above {l} q h = sym (seen q ∙ rw (lt-ltb f l.start h))

  pub step-low : {l : LockView} → v ≡ view.Standing l → l.start ≤ f → {a : Answer} → ((area : Bytes) → a ≡ Held (holder_of (lock_in area l))) → a ≡ line_above_step f (line_of area s).line
  unfolding need_own
  step-low {l} q h k = k [] ∙ sym (seen q ∙ rw (le-ltb f l.start h))

  pub step-record : {w : RecordView} → v ≡ view.Finished w → Accepted ≡ line_above_step f (line_of area s).line
  step-record q = sym (seen q)
