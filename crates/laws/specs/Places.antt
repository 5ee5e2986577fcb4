-- Where things stand in a list in order: how many hold a test that only the first ones hold, and the lines of one key, its standing intent
-- first and then its records. Assumes nothing.
use Rattle.std.specs.Prelude.{ℕ, suc, Bool, true, false, List, [], ◌∷◌, map}
use Rattle.std.proofs.Math.Option.{Option, none, some}
use Rattle.forms.specs.Bytes.{lt_bytes, eq_bytes}
use Rattle.forms.specs.Key.{Key}
use Rattle.forms.specs.Row.{Row}
use Rattle.rules.specs.declared.records.Record.{Record}
use Rattle.rules.specs.Box.{Lock, KeyLine, Default, Standing, Finished, row_before, add_lock, add_row, at_pair}
use Rattle.rules.specs.Read.{those}

abbrev pub one_more : Bool → ℕ → ℕ
one_more true n = suc n
one_more false n = n

-- how many of a list hold a test
unfoldable pub how_many : {A : Type 0} → (A → Bool) → List A → ℕ
how_many p [] = 0
how_many p (x ∷ xs) = one_more (p x) (how_many p xs)

-- how many lines have a key below k: the place of k's first line
abbrev pub lines_before : Key → List KeyLine → ℕ
lines_before k es = how_many (λ (e : KeyLine). lt_bytes e.key k) es

-- how many defaults have a key below k
abbrev pub defaults_before : Key → List Default → ℕ
defaults_before k ds = how_many (λ (d : Default). lt_bytes d.key k) ds

-- how many defaults stand before those of a key and a start
abbrev pub pairs_before : Key → ℕ → List Default → ℕ
pairs_before k s ds = how_many (λ (d : Default). row_before d (record { key = k; start = s; row = [] })) ds

abbrev pub finished_at : Key → Record → KeyLine
finished_at k w = record { key = k; line = Finished w }

-- the lines of a key
unfoldable pub lines_of : Key → Option Lock → List Record → List KeyLine
lines_of k none ws = map (finished_at k) ws
lines_of k (some l) ws = record { key = k; line = Standing l } ∷ map (finished_at k) ws

-- the defaults of a key
abbrev pub defaults_of : Key → List Default → List Default
defaults_of k ds = those (λ (d : Default). eq_bytes k d.key) ds

-- the lock that the first of the lines is, if it is k's
unfoldable pub lock_first : Key → List KeyLine → Option Lock
lock_first k [] = none
lock_first k (e ∷ es) = add_lock (eq_bytes k e.key) e.line none

-- the row of the first of the defaults, if it is that of k and s
unfoldable pub row_first : Key → ℕ → List Default → Option Row
row_first k s [] = none
row_first k s (d ∷ ds) = add_row (at_pair k s d) d.row none

-- how many locks a key has, none or one
abbrev pub lock_place : Option Lock → ℕ
lock_place none = 0
lock_place (some l) = 1
