-- Tests as a program makes them: what a call's answer says of the test that it stands for, and tests that are joined.
-- Assumes nothing.
use mathlib.Core.Path.{◌≡◌, refl, sym, ◌∙◌}
use mathlib.Core.Bool.{Bool, true, false, not, ◌&&◌, false≢true}
use borrow.Author.Tests.{not-true, not-false}

module _ {b p : Bool} (e : b ≡ p) where
  pub fails : not b ≡ true → p ≡ false
  fails h = sym e ∙ not-true b h

  pub holds : not b ≡ false → p ≡ true
  holds h = sym e ∙ not-false b h

pub and-out : (a b : Bool) → a ≡ false → a && b ≡ false
and-out true b e = absurd (false≢true (sym e))
and-out false b e = refl

pub and_last : (a b : Bool) → b ≡ false → a && b ≡ false
and_last true b e = e
and_last false b e = refl
