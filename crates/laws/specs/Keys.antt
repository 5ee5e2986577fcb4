-- A test of every key of a box, of its lines and of its defaults. Assumes nothing.
use Rattle.std.specs.Prelude.{Bool, ◌&&◌}
use Rattle.forms.specs.Key.{Key}
use Rattle.rules.specs.Box.{Box, KeyLine, Default}
use Rattle.rules.specs.Restore.{all_good}

unfoldable pub keys_all : (Key → Bool) → Box → Bool
keys_all p b = all_good (λ (e : KeyLine). p e.key) b.lines && all_good (λ (d : Default). p d.key) b.defaults
