-- Demand 2: "So, with sound records and no lock on the key starting at or before the moment asked, a valid key shows a row exactly when the
-- newest record by that moment, rollbacks passed over, is a Put whose stored row decodes, and shows that row."
-- Document 02, CR 7: "Demand 2's sentence on shown rows then speaks of moments at or above the floor."
-- The words of that sentence, said without the read's own walk; proofs/ShownRows.antt has the theorem.
-- Assumes nothing.
use Rattle.std.specs.Prelude.{ℕ, ◌≤◌, ◌<◌, ◌≡◌, true, false, ◌↔◌}
use mathlib.Core.List.{List, Memᴰ}
use Rattle.std.proofs.Math.Option.{some}
use Rattle.forms.specs.Key.{Key, key_form}
use Rattle.forms.specs.Row.{Row, row_form}
use Rattle.rules.specs.declared.records.Kind.TheVariants.{Put, Rollback}
use Rattle.rules.specs.declared.records.Record.{Record}
use Rattle.rules.specs.Answers.{shown}
use Rattle.rules.specs.Box.{Box, Lock, Default, eq_kind, records_of, lock_of, row_of, in_order}
use Rattle.rules.specs.Sound.{all_sound}
use Rattle.rules.specs.Read.{read}

-- "with sound records and no lock on the key starting at or before the moment asked, a valid key"
pub record Asked (floor : ℕ) (k : Key) (m : ℕ) (b : Box) : Type 0 where
  -- "moments at or above the floor"
  pub above : floor ≤ m
  pub valid : key_form k ≡ true
  pub sound : all_sound (records_of k b.lines) ≡ true
  pub free : (l : Lock) → lock_of k b.lines ≡ some l → m < l.start
  pub sorted : in_order b ≡ true

abbrev pub Counts : Record → Type 0
Counts w = eq_kind w.kind Rollback ≡ false

-- "the newest record by that moment, rollbacks passed over"
pub record Newest (m : ℕ) (ws : List Record) (w : Record) : Type 0 where
  pub among : Memᴰ w ws
  pub by : w.stamp ≤ m
  pub counts : Counts w
  pub newest : (v : Record) → Memᴰ v ws → v.stamp ≤ m → Counts v → v.stamp ≤ w.stamp

-- "is a Put whose stored row decodes": that row
pub record PutRow (k : Key) (ds : List Default) (w : Record) (r : Row) : Type 0 where
  pub put : w.kind ≡ Put
  pub stored : row_of k w.start ds ≡ some r
  pub decodes : row_form r ≡ true

-- a key shows a row
abbrev pub Shows : ℕ → Key → ℕ → Box → Row → Type 0
Shows floor k m b r = read floor k m b ≡ shown r

-- the newest record by the moment is a Put of that row
abbrev pub NewestPut : Key → ℕ → Box → Row → Type 0
NewestPut k m b r = (w : Record) × Newest m (records_of k b.lines) w × PutRow k b.defaults w r

-- the sentence
abbrev pub ShownRows : Type 0
ShownRows = (floor : ℕ) (k : Key) (m : ℕ) (b : Box) (r : Row) → Asked floor k m b → Shows floor k m b r ↔ NewestPut k m b r
