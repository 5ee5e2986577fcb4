-- The four rooms: `fits` by the tests that a program makes, and the same said as a record of orders.
-- Assumes nothing.
use Prim.Native.Nat.{◌≤◌, ◌<◌}
use mathlib.Core.Path.{◌≡◌, refl, sym, ◌∙◌}
use mathlib.Core.Bool.{Bool, true, false, ◌&&◌, false≢true}
use lib.Dec.{leb}
use borrow.Author.Tests.{le-leb, lt-leb, leb-true}
use Rattle.rules.specs.declared.room.Load.{Load}
use Rattle.rules.specs.Room.{fits, Fits}

module _ (l : Load) where
  pub fits-lines : 1024 < l.lines → false ≡ fits l
  unfolding fits
  fits-lines a = simp (lt-leb _ _ a)

  pub fits-locks : l.lines ≤ 1024 → 256 < l.locks → false ≡ fits l
  unfolding fits
  fits-locks a b = simp (le-leb _ _ a, lt-leb _ _ b)

  pub fits-defaults : l.lines ≤ 1024 → l.locks ≤ 256 → 1024 < l.defaults → false ≡ fits l
  unfolding fits
  fits-defaults a b c = simp (le-leb _ _ a, le-leb _ _ b, lt-leb _ _ c)

  pub fits_last : l.lines ≤ 1024 → l.locks ≤ 256 → l.defaults ≤ 1024 → leb l.bytes 49152 ≡ fits l
  unfolding fits
  fits_last a b c = rw (le-leb l.lines 1024 a, le-leb l.locks 256 b, le-leb l.defaults 1024 c)

  pub fits_out : fits l ≡ true → Fits l
  unfolding fits
  fits_out h = go (leb l.lines 1024) (leb l.locks 256) (leb l.defaults 1024) (leb l.bytes 49152) refl refl refl refl h
    where
      go : (a b c d : Bool) → leb l.lines 1024 ≡ a → leb l.locks 256 ≡ b → leb l.defaults 1024 ≡ c → leb l.bytes 49152 ≡ d → a && b && c && d ≡ true → Fits l
      go true true true true p q r s e = record { lines = leb-true _ _ p; locks = leb-true _ _ q; defaults = leb-true _ _ r; bytes = leb-true _ _ s }
      go true true true false p q r s e = absurd (false≢true e)
      go true true false d p q r s e = absurd (false≢true e)
      go true false c d p q r s e = absurd (false≢true e)
      go false b c d p q r s e = absurd (false≢true e)

  pub fits_in : Fits l → fits l ≡ true
  fits_in f = sym (fits_last f.lines f.locks f.defaults) ∙ le-leb l.bytes 49152 f.bytes

pub ruleset fits-laws = (fits-lines, fits-locks, fits-defaults, fits_last)
