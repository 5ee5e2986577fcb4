-- `sound_record` by the tests that a program makes of it, one law for each way out. Assumes nothing.
use mathlib.Core.Path.{◌≡◌, ◌∙◌}
use mathlib.Core.Bool.{Bool, false}
use borrow.Author.Tests.{eq-eqb, ne_eqb}
use Rattle.rules.specs.declared.records.Record.{Record}
use Rattle.rules.specs.Sound.{sound_record, kind_fits}

module _ (w : Record) where
  pub sound-commit : (w.commit ≡ w.stamp → ⊥) → false ≡ sound_record w
  sound-commit n = simp (ne_eqb _ _ n)

  pub sound-start : w.commit ≡ w.stamp → w.start ≡ 0 → false ≡ sound_record w
  sound-start e z = simp (eq-eqb _ _ e, eq-eqb _ _ z)

  pub sound-kind : (r : Bool) → w.commit ≡ w.stamp → (w.start ≡ 0 → ⊥) → r ≡ kind_fits w.kind w.start w.commit → r ≡ sound_record w
  sound-kind r e n q = q ∙ simp (eq-eqb _ _ e, ne_eqb _ _ n)

pub ruleset sound-laws = (sound-commit, sound-start, sound-kind)
