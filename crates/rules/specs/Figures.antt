-- Document 01: "Statistics: keys with a default, defaults, locks, keys with a record, records; for defaults and for records apart, chains of
-- 1, 2 to 4, 5 to 16 and above 16, and the longest. High-water marks: largest lock transaction, largest stamp or start of any kind, each 0 if
-- none." A chain is one key's defaults, or one key's records.
-- Assumes nothing.
use Rattle.std.specs.Prelude.{ℕ, suc, max, Bool, true, false, ◌&&◌, not, List, [], ◌∷◌, length, leb}
use Rattle.forms.specs.Bytes.{eq_bytes}
use Rattle.forms.specs.Key.{Key}
use Rattle.rules.specs.declared.figures.Figures.{Figures}
use Rattle.rules.specs.declared.figures.Stats.{Stats}
use Rattle.rules.specs.declared.figures.Marks.{Marks}
use Rattle.rules.specs.Box.{Box, Line, Standing, Finished, KeyLine, Default}
use Rattle.rules.specs.Room.{lock_count}
use Rattle.rules.specs.Read.{keep_if}

-- ---- chains

unfoldable pub suc_if : Bool → ℕ → ℕ
suc_if true n = suc n
suc_if false n = n

-- how often a key stands in a list: the length of its chain
unfoldable pub chain_of : Key → List Key → ℕ
chain_of k [] = 0
chain_of k (j ∷ js) = suc_if (eq_bytes k j) (chain_of k js)

-- each key once
unfoldable pub different : List Key → List Key
different [] = []
different (k ∷ ks) = keep_if (leb (chain_of k ks) 0) k (different ks)

unfoldable pub chains_of : List Key → List Key → List ℕ
chains_of all [] = []
chains_of all (k ∷ ks) = chain_of k all ∷ chains_of all ks

-- the chains' lengths, one for each key
unfoldable pub chains : List Key → List ℕ
chains ks = chains_of ks (different ks)

-- how many chains are from a to e long
unfoldable pub from_to : ℕ → ℕ → List ℕ → ℕ
from_to a e [] = 0
from_to a e (n ∷ ns) = suc_if (leb a n && leb n e) (from_to a e ns)

unfoldable pub over : ℕ → List ℕ → ℕ
over a [] = 0
over a (n ∷ ns) = suc_if (not (leb n a)) (over a ns)

unfoldable pub longest : List ℕ → ℕ
longest [] = 0
longest (n ∷ ns) = max n (longest ns)

-- "chains of 1, 2 to 4, 5 to 16 and above 16, and the longest"
unfoldable pub figures : List Key → Figures
figures ks = record {
  keys = length (different ks);
  all = length ks;
  one = from_to 1 1 (chains ks);
  four = from_to 2 4 (chains ks);
  sixteen = from_to 5 16 (chains ks);
  above = over 16 (chains ks);
  longest = longest (chains ks);
}

-- ---- "Statistics"

unfoldable pub default_keys : List Default → List Key
default_keys [] = []
default_keys (d ∷ ds) = d.key ∷ default_keys ds

abbrev pub add_finished : Key → Line → List Key → List Key
add_finished k (Standing l) ks = ks
add_finished k (Finished w) ks = k ∷ ks

unfoldable pub record_keys : List KeyLine → List Key
record_keys [] = []
record_keys (e ∷ es) = add_finished e.key e.line (record_keys es)

unfoldable pub stats : Box → Stats
stats b = record {
  defaults = figures (default_keys b.defaults);
  locks = lock_count b.lines;
  records = figures (record_keys b.lines);
}

-- ---- "High-water marks"

abbrev pub line_txn : Line → ℕ
line_txn (Standing l) = l.txn
line_txn (Finished w) = 0

abbrev pub line_stamp : Line → ℕ
line_stamp (Standing l) = l.start
line_stamp (Finished w) = max w.stamp w.start

unfoldable pub largest : {A : Type 0} → (A → ℕ) → List A → ℕ
largest f [] = 0
largest f (x ∷ xs) = max (f x) (largest f xs)

-- "largest lock transaction, largest stamp or start of any kind"
unfoldable pub marks : Box → Marks
marks b = record {
  txn = largest (λ (e : KeyLine). line_txn e.line) b.lines;
  stamp = max (largest (λ (e : KeyLine). line_stamp e.line) b.lines) (largest (λ (d : Default). d.start) b.defaults);
}
