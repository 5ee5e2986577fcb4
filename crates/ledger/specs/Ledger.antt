-- Demand 3: "From an empty store, after any sequence of prewrites, commits, rollbacks and one-step batches, refused ones included: each pair
-- of key and start that an accepted call named as an entry has exactly one line, no other pair has any (so locks plus records equal the
-- number of different pairs), and a row is stored for exactly the pairs whose line is a Put: the row of the last accepted call that carried
-- one." Document 02, CR 7: "The third demand stays exact for starts above the floor; for starts at or below it there is at most one line a pair.
-- The sum of lines becomes the named pairs less those whose line a collection dropped." It is said here over the calls' own definitions, with
-- collections among them; proofs/Demand3.antt has the theorem, and the sentence as document 01 has it, where the floor is 0.
-- Demand 1, its second half, over the same calls: a refusal leaves the box as it was; proofs/BoxRefusals.antt has that theorem.
-- Assumes nothing.
use Rattle.std.specs.Prelude.{ℕ, suc, ◌+◌, ◌≤◌, ◌<◌, ◌≡◌, Bool, true, false, ◌&&◌, ◌||◌, not, List, [], ◌∷◌, eqb, length}
use Rattle.std.proofs.Math.Option.{Option, none, some}
use Rattle.forms.specs.Bytes.{eq_bytes}
use Rattle.forms.specs.Key.{Key}
use Rattle.forms.specs.Row.{Row}
use Rattle.forms.specs.Batch.{Mutation, mutations, keys}
use Rattle.rules.specs.Answers.{Answer, Accepted, No, Held}
use Rattle.rules.specs.declared.records.Kind.{Kind}
use Rattle.rules.specs.declared.records.Kind.TheVariants.{Put, Delete, Rollback}
use Rattle.rules.specs.Box.{Box, Line, KeyLine, Default, fresh, at_pair, row_of, eq_kind}
pub use Rattle.rules.specs.Box.{start_of, kind_in, line_is}
use Rattle.rules.specs.Calls.{State, Ended}
use Rattle.rules.specs.Collect.{dropped_lines}
use Rattle.rules.specs.Call.{Changing, perform}
use Rattle.rules.specs.Figures.{stats}

-- ---- what a call named

-- "each pair of key and start that an accepted call named as an entry", and the row that the entry carried, if any
pub record Named : Type 0 where
  pub key : Key
  pub start : ℕ
  pub row : Option Row

-- a mutation names its key at the call's start, and carries a Put's row
abbrev pub of_mutation : ℕ → Mutation → Named
of_mutation s m = record { key = m.key; start = s; row = m.row }

-- a key carries no row
abbrev pub of_key : ℕ → Key → Named
of_key s k = record { key = k; start = s; row = none }

-- the entries of a batch are those that its bytes decode to; bytes out of form have none
unfoldable pub entries_in : {A : Type 0} → Option (List A) → List A
entries_in none = []
entries_in (some xs) = xs

-- one name for each entry, in the batch's order
unfoldable pub each_named : {A : Type 0} → (A → Named) → List A → List Named
each_named f [] = []
each_named f (x ∷ xs) = f x ∷ each_named f xs

-- what a call names, if it is accepted
unfoldable pub named_by : Changing → List Named
named_by (Changing.Prewrite h s) = each_named (of_mutation h.start) (entries_in (mutations s))
named_by (Changing.Commit h s) = each_named (of_key h.start) (entries_in (keys s))
named_by (Changing.Rollback txn start s) = each_named (of_key start) (entries_in (keys s))
named_by (Changing.OneStep h s) = each_named (of_mutation h.start) (entries_in (mutations s))
named_by (Changing.Collect f) = []

-- ---- what stands, as if it had been named: one name for each line, its key and start, with its row if it is a Put

-- the row, if the test holds
unfoldable pub row_if : Bool → Option Row → Option Row
row_if true r = r
row_if false r = none

abbrev pub of_line : List Default → KeyLine → Named
of_line ds e = record {
  key = e.key;
  start = start_of e.line;
  row = row_if (eq_kind (kind_in e.line) Put) (row_of e.key (start_of e.line) ds);
}

-- "those whose line a collection dropped": what a call drops, if it is accepted, as names
unfoldable pub dropped_by : Changing → Box → List Named
dropped_by (Changing.Prewrite h s) b = []
dropped_by (Changing.Commit h s) b = []
dropped_by (Changing.Rollback txn start s) b = []
dropped_by (Changing.OneStep h s) b = []
dropped_by (Changing.Collect f) b = each_named (of_line b.defaults) (dropped_lines f b.lines)

-- ---- "after any sequence of .., refused ones included"

-- the entries go onto the log one by one, so that the last stands first
unfoldable pub onto : List Named → List Named → List Named
onto [] log = log
onto (n ∷ ns) log = onto ns (n ∷ log)

-- "refused ones included": they are in the sequence, and name nothing
unfoldable pub logged : Answer → List Named → List Named → List Named
logged Accepted ns log = onto ns log
logged (No n) ns log = log
logged (Held h) ns log = log

-- a box and its floor; what the accepted calls that led to it named, the last first; and the names of the lines that collections dropped
pub record Past : Type 0 where
  pub box : Box
  pub floor : ℕ
  pub log : List Named
  pub dropped : List Named

abbrev pub state_in : Past → State
state_in p = record { box = p.box; floor = p.floor }

-- one more call
unfoldable pub then : Changing → Past → Past
then c p =
    let e : Ended = perform c (state_in p) in
    record { box = e.state.box; floor = e.state.floor; log = logged e.answer (named_by c) p.log; dropped = logged e.answer (dropped_by c p.box) p.dropped }

-- "after any sequence"
unfoldable pub after : List Changing → Past → Past
after [] p = p
after (c ∷ cs) p = after cs (then c p)

-- "From an empty store"; "The floor .. begins at 0"
unfoldable pub empty : Past
empty = record { box = fresh; floor = 0; log = []; dropped = [] }

-- ---- the pair in the log: whether it is named, and its last row

-- the name is of this pair
abbrev pub is_at : Key → ℕ → Named → Bool
is_at k s n = eq_bytes k n.key && eqb s n.start

-- the pair is one "that an accepted call named as an entry"
unfoldable pub named : Key → ℕ → List Named → Bool
named k s [] = false
named k s (n ∷ log) = is_at k s n || named k s log

-- a name without a row leaves the row that was carried before it
unfoldable pub or_older : Option Row → Option Row → Option Row
or_older (some r) older = some r
or_older none older = older

-- "the row of the last accepted call that carried one" for the pair
unfoldable pub last_row : Key → ℕ → List Named → Option Row
last_row k s [] = none
last_row k s (n ∷ log) = or_older (row_if (is_at k s n) n.row) (last_row k s log)

-- a pair that was named before is not counted again
unfoldable pub suc_unless : Bool → ℕ → ℕ
suc_unless true n = n
suc_unless false n = suc n

-- "the number of different pairs"
unfoldable pub different_pairs : List Named → ℕ
different_pairs [] = 0
different_pairs (n ∷ log) = suc_unless (named n.key n.start log) (different_pairs log)

-- ---- the pair in the box: its lines and its rows

-- one more, if it is chosen
unfoldable pub cons_if : {A : Type 0} → Bool → A → List A → List A
cons_if true x xs = x ∷ xs
cons_if false x xs = xs

-- what f shows of those that p chooses, in their order
unfoldable pub chosen : {A B : Type 0} → (A → Bool) → (A → B) → List A → List B
chosen p f [] = []
chosen p f (x ∷ xs) = cons_if (p x) (f x) (chosen p f xs)

-- each line of the box with this key and this start
abbrev pub lines_at : Key → ℕ → List KeyLine → List Line
lines_at k s es = chosen (line_is k s) (λ (e : KeyLine). e.line) es

-- each row that is stored for this key and this start
abbrev pub rows_at : Key → ℕ → List Default → List Row
rows_at k s ds = chosen (at_pair k s) (λ (d : Default). d.row) ds

-- ---- the demand

-- "a row is stored for exactly the pairs whose line is a Put: the row of the last accepted call that carried one"; so one was carried
abbrev pub RowFits : Kind → Option Row → List Row → Type 0
RowFits Put none stored = ⊥
RowFits Put (some r) stored = stored ≡ r ∷ []
RowFits Delete last stored = stored ≡ []
RowFits Rollback last stored = stored ≡ []

-- a pair that was named "has exactly one line", a standing lock or a finished record; "no other pair has any", nor a row
pub data Fate (b : Box) (k : Key) (s : ℕ) (last : Option Row) : Bool → Type 0 where
  absent : lines_at k s b.lines ≡ [] → rows_at k s b.defaults ≡ [] → Fate b k s last false
  present : (x : Line) → lines_at k s b.lines ≡ x ∷ [] → RowFits (kind_in x) last (rows_at k s b.defaults) → Fate b k s last true

-- "each pair .. has exactly one line, no other pair has any ..": the fate of every pair, by what was named
abbrev pub Holds : Box → List Named → Type 0
Holds b log = (k : Key) (s : ℕ) → Fate b k s (last_row k s log) (named k s log)

-- "at most one line a pair": none, and no row; or one, of a pair that was named, and a row exactly if it is a Put, as above
pub data AtMost (b : Box) (k : Key) (s : ℕ) (last : Option Row) : Bool → Type 0 where
  none_left : {t : Bool} → lines_at k s b.lines ≡ [] → rows_at k s b.defaults ≡ [] → AtMost b k s last t
  one_left : (x : Line) → lines_at k s b.lines ≡ x ∷ [] → RowFits (kind_in x) last (rows_at k s b.defaults) → AtMost b k s last true

-- the names whose pair no collection dropped
unfoldable pub undropped : List Named → List Named → List Named
undropped ds [] = []
undropped ds (n ∷ log) = cons_if (not (named n.key n.start ds)) n (undropped ds log)

-- the sentence, of a store and what the accepted calls that led to it named, as `after cs empty`, "From an empty store, after any sequence"
pub record Demand3 (p : Past) : Type 0 where
  -- "stays exact for starts above the floor": every such pair's fate
  pub above : (k : Key) (s : ℕ) → p.floor < s → Fate p.box k s (last_row k s p.log) (named k s p.log)
  -- "for starts at or below it there is at most one line a pair"
  pub at-or-below : (k : Key) (s : ℕ) → s ≤ p.floor → AtMost p.box k s (last_row k s p.log) (named k s p.log)
  -- and whatever the start: "each pair .. that an accepted call named" has its line, but for those whose line a collection dropped
  pub pairs : Holds p.box (undropped p.dropped p.log)
  -- "The sum of lines becomes the named pairs less those whose line a collection dropped", by the statistics' own counts; and so many lines there are
  pub sum : ((stats p.box).locks + (stats p.box).records.all) + different_pairs p.dropped ≡ different_pairs p.log
  pub lines : length p.box.lines + different_pairs p.dropped ≡ different_pairs p.log

-- the sentence as document 01 has it: "each pair .. has exactly one line, no other pair has any (so locks plus records equal the number of
-- different pairs)". It is the one above, where the floor is 0.
pub record OldDemand3 (p : Past) : Type 0 where
  pub pairs : Holds p.box p.log
  pub sum : (stats p.box).locks + (stats p.box).records.all ≡ different_pairs p.log
  pub lines : length p.box.lines ≡ different_pairs p.log

-- Demand 1, "A refusal changes nothing in store or buffers": whatever the call and the state
abbrev pub Refusal : Changing → State → Type 0
Refusal c st = ((perform c st).answer ≡ Accepted → ⊥) → (perform c st).state ≡ st
