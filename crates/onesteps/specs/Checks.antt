-- What the checking pass of a one-step batch asks and finds, an entry at a time and whole, and what that comes to.
-- Assumes nothing.
use Rattle.lookups.specs.KeyStates.{Found, Locked}
use Rattle.std.specs.Prelude.{ℕ, ◌+◌, ◌≤◌, ◌≡◌, Bool, true, false, ◌&&◌, List, [], ◌∷◌, length, None, Some}
use Rattle.std.proofs.Math.Option.{Option, none, some}
use Rattle.forms.specs.Bytes.{Bytes, bytes_at}
use Rattle.forms.specs.Row.{Row}
use Rattle.forms.specs.Batch.{Mutation}
use Rattle.rules.specs.Answers.{Answer, Accepted, No, Held, ◌▸◌, need}
use Rattle.rules.specs.declared.records.Kind.{Kind}
use Rattle.rules.specs.Outcomes.{outcome}
use Rattle.rules.specs.declared.room.Load.{Load}
use Rattle.rules.specs.Box.{Box, Lock, eq_kind}
use Rattle.rules.specs.Room.{fits}
use Rattle.rules.specs.declared.terms.CommitTerms.{CommitTerms}
use Rattle.rules.specs.OneStep.{Applied, already, not_yet, otherwise, applied_in, is_already, arguments_step, all_applied, step_entry, step_entries}
use Rattle.laws.specs.Adds.{no_load, plus, minus, sum_loads, step_adds, step_frees}
use Rattle.store.specs.declared.table.Store.{Store}
use Rattle.store.specs.Made.{Made}
use Rattle.changes.specs.Loads.{record_size, freed_by, FreedAsks}
use Rattle.calls.specs.Steps.{argument_step}
use Rattle.calls.specs.Weights.{no_weight, Light, Checked}
use Rattle.calls.specs.declared.weights.Weight.{Weight}
use Rattle.onesteps.specs.declared.checks.Tally.{Tally}
use Rattle.onesteps.specs.declared.checks.Checks.{Checks}

-- ---- what the checks come to, in the paper's answers

pub record Met : Type 0 where
  pub argument : Answer
  pub tally : Tally
  pub seen : Checked

abbrev pub met : Checks → Met
met c = record { argument = outcome c.argument; tally = c.tally; seen = record { answer = outcome c.steps; weight = c.weight } }

-- ---- the record at commit

-- the row that a record carries
abbrev pub row_held : Bytes → Found → Option Row
row_held area None = none
row_held area (Some w) = some (bytes_at area w.rowat w.rowlen)

-- it ends by n
abbrev pub FoundIn : ℕ → Found → Type 0
FoundIn n None = Unit {0}
FoundIn n (Some w) = w.rowat + w.rowlen ≤ n

abbrev pub is_new : Applied → Bool
is_new already = false
is_new not_yet = true
is_new otherwise = false

abbrev pub tally_of : Applied → Tally
tally_of a = record { all = is_already a; none = is_new a }

unfoldable pub all_new : CommitTerms → Box → List Mutation → Bool
all_new h b [] = true
all_new h b (m ∷ ms) = is_new (applied_in h b m) && all_new h b ms

-- ---- the lock

-- "own lock of other kind 9"
abbrev pub kind_step : Kind → Option Lock → Answer
kind_step kind none = Accepted
kind_step kind (some l) = need (eq_kind l.kind kind) 9

-- ---- what an entry adds and frees

-- where its steps pass
abbrev pub when_passed : Answer → Load → Load
when_passed Accepted l = l
when_passed (No n) l = no_load
when_passed (Held o) l = no_load

abbrev pub adds_of : CommitTerms → Box → Mutation → Load
adds_of h b m = when_passed (step_entry h b m) (step_adds m)

abbrev pub frees_of : CommitTerms → Box → Mutation → Load
frees_of h b m = when_passed (step_entry h b m) (step_frees h b m)

-- parts of a batch, and a lock whose parts lie in the area
pub record Asked (key row : Bytes) (lock : Locked) : Type 0 where
  pub key_short : length key ≤ 255
  pub row_short : length row ≤ 255
  pub freed : FreedAsks lock (length key)

-- the answer, and where it passes what comes and goes, by how long its parts are
pub record Weighed (a : Answer) (key : ℕ) (kind : Kind) (row : ℕ) (lock : Locked) (r : Checked) : Type 0 where
  pub answer_is : r.answer ≡ a
  pub added_is : r.weight.added ≡ when_passed a (record_size kind key row)
  pub freed_is : r.weight.freed ≡ when_passed a (freed_by lock key)

-- ---- one entry

pub record CheckAsks (st : Store) (area key row : Bytes) : Type 0 where
  pub made : Made st area
  pub key_short : length key ≤ 255
  pub row_short : length row ≤ 255

-- at most a key twice and a row come, each in a part of 255 bytes, and what goes was within the limits
pub record CheckedAt (h : CommitTerms) (b : Box) (m : Mutation) (r : Met) : Type 0 where
  pub argument_is : r.argument ≡ argument_step m
  pub tally_is : r.tally ≡ tally_of (applied_in h b m)
  pub answer_is : r.seen.answer ≡ step_entry h b m
  pub added_is : r.seen.weight.added ≡ adds_of h b m
  pub freed_is : r.seen.weight.freed ≡ frees_of h b m
  pub light : Light 1 765 49152 r.seen.weight

-- ---- all entries

abbrev pub nothing_checked : Met
nothing_checked = record { argument = Accepted; tally = record { all = true; none = true }; seen = record { answer = Accepted; weight = no_weight } }

-- what one more makes of it
pub record Joined (t m r : Met) : Type 0 where
  pub argument_is : r.argument ≡ t.argument ▸ m.argument
  pub all_is : r.tally.all ≡ t.tally.all && m.tally.all
  pub none_is : r.tally.none ≡ t.tally.none && m.tally.none
  pub answer_is : r.seen.answer ≡ t.seen.answer ▸ m.seen.answer
  pub added_is : r.seen.weight.added ≡ plus t.seen.weight.added m.seen.weight.added
  pub freed_is : r.seen.weight.freed ≡ plus t.seen.weight.freed m.seen.weight.freed

pub record AllChecked (h : CommitTerms) (b : Box) (ms : List Mutation) (r : Met) : Type 0 where
  pub argument_is : r.argument ≡ arguments_step ms
  pub all_is : r.tally.all ≡ all_applied h b ms
  pub none_is : r.tally.none ≡ all_new h b ms
  pub answer_is : r.seen.answer ≡ step_entries h b ms
  pub added_is : r.seen.weight.added ≡ sum_loads (adds_of h b) ms
  pub freed_is : r.seen.weight.freed ≡ sum_loads (frees_of h b) ms
  pub light : Light 32 765 49152 r.seen.weight

-- ---- what that comes to

-- the load of the box that the call would leave
abbrev pub left_by : Load → Weight → Load
left_by load w = minus (plus load w.added) w.freed

-- "All applied: accepted"
abbrev pub unless_all : Bool → Answer → Answer
unless_all true a = Accepted
unless_all false a = a

-- "each entry in turn 1, 2; .. same start but other kind or row, 9. All applied: accepted, unchanged. Some: 9. None: per entry ..; 11"
abbrev pub judged : Met → Load → Answer
judged t load =
    t.argument ▸
    unless_all t.tally.all
    (need t.tally.none 9 ▸
    t.seen.answer ▸
    need (fits (left_by load t.seen.weight)) 11)
