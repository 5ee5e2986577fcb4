-- Lines and defaults, each by key and start: "a Put lock without its default; a default to which no Put lock or Put record of its key and start
-- points", and "every write Put has its default", told by the pairs of the Puts and those of the defaults.
-- Assumes nothing.
use Rattle.std.specs.Prelude.{ℕ, Bool, true, false, ◌&&◌, List, [], ◌∷◌, map}
use Rattle.forms.specs.Bytes.{Bytes}
use Rattle.forms.specs.Key.{Key}
use Rattle.rules.specs.declared.records.Kind.{Kind}
use Rattle.rules.specs.declared.records.Kind.TheVariants.{Put, Delete, Rollback}
use Rattle.rules.specs.Box.{KeyLine, Default, start_of, kind_in}
use Rattle.rules.specs.Restore.{like_default}
use Rattle.images.specs.Entries.{Raw}
use Rattle.images.specs.Sections.{row_at, line_at}

-- a key and a start, as a default without a row
abbrev pub pair_of : Key → ℕ → Default
pair_of k n = record { key = k; start = n; row = [] }

abbrev pub line_pair : KeyLine → Default
line_pair e = pair_of e.key (start_of e.line)

abbrev pub raw_pair : Raw → Default
raw_pair x = pair_of x.key x.second

abbrev pub put_on : Kind → Default → List Default → List Default
put_on Put p ps = p ∷ ps
put_on Delete p ps = ps
put_on Rollback p ps = ps

-- the pairs of the lines that are Puts
unfoldable pub puts_of : List KeyLine → List Default
puts_of [] = []
puts_of (e ∷ es) = put_on (kind_in e.line) (line_pair e) (puts_of es)

-- the same pairs, in the same turn
unfoldable pub same_pairs : List Default → List Default → Bool
same_pairs [] [] = true
same_pairs [] (d ∷ ds) = false
same_pairs (p ∷ ps) [] = false
same_pairs (p ∷ ps) (d ∷ ds) = like_default p d && same_pairs ps ds

-- the Puts of these lines are of the pairs of those defaults, one for one
abbrev pub puts_match : Bytes → ℕ → List ℕ → List ℕ → Bool
puts_match s writes ds ps = same_pairs (puts_of (map (line_at s writes) ps)) (map (row_at s) ds)
