-- Document 01: "One intent at a point: 1; no lock or one above the moment, nothing; unsound, 9; else the lock, its primary a stretch of
-- the store's bytes."
-- Assumes nothing.
use Rattle.std.specs.Prelude.{ℕ, Bool, true, false, ltb}
use Rattle.std.proofs.Math.Option.{Option, none, some}
use Rattle.forms.specs.Key.{Key, key_form}
use Rattle.rules.specs.Answers.{No, need, Reply, nothing, shown, refused, if_passed}
use Rattle.rules.specs.Box.{Box, Lock, lock_of}
use Rattle.rules.specs.Sound.{sound_lock}

-- "unsound, 9; else the lock"
unfoldable pub lock_if : Bool → Lock → Reply Lock
lock_if true l = shown l
lock_if false l = refused (No 9)

-- "one above the moment, nothing"
unfoldable pub unless_above : Bool → Reply Lock → Reply Lock
unless_above true r = nothing
unless_above false r = r

-- "no lock or one above the moment, nothing; unsound, 9; else the lock"
unfoldable pub judge_lock : ℕ → Option Lock → Reply Lock
judge_lock m none = nothing
judge_lock m (some l) = unless_above (ltb m l.start) (lock_if (sound_lock l) l)

unfoldable pub intent_at : Key → ℕ → Box → Reply Lock
intent_at k m b = if_passed (need (key_form k) 1) (judge_lock m (lock_of k b.lines))
