-- Document 02, CR 6, what it says of the number that a read reports: "the refusing one included. Other refusals still count 0, as does a key ..
-- with no record by the moment. For an answer from a Put or Delete it is one more than the Rollbacks passed over, and it never exceeds the key's
-- records at or below the moment." proofs/ExaminedLaws.antt has the theorem.
-- Assumes nothing.
use Rattle.std.specs.Prelude.{ℕ, suc, ◌≤◌, ◌<◌, ◌≡◌, ◌⊎◌, Bool, true, false, ◌&&◌, List, [], ◌∷◌, ◌++◌, length}
use Rattle.std.proofs.Math.Option.{some}
use Rattle.forms.specs.Key.{Key, key_form}
use Rattle.rules.specs.Answers.{Answer, Accepted, No}
use Rattle.rules.specs.declared.records.Kind.TheVariants.{Rollback}
use Rattle.rules.specs.declared.records.Record.{Record}
use Rattle.rules.specs.Box.{Box, Lock, eq_kind, records_of, lock_of}
use Rattle.rules.specs.Sound.{sound_record}
use Rattle.rules.specs.Read.{at_or_below, newest_first, read_steps, examine}

-- "Rollback, go on": the walk passes over a Rollback that is sound; any other record decides, or refuses
abbrev pub goes_on : Record → Bool
goes_on w = sound_record w && eq_kind w.kind Rollback

unfoldable pub all_go_on : List Record → Bool
all_go_on [] = true
all_go_on (w ∷ ws) = goes_on w && all_go_on ws

-- the key's records by the moment, the newest first
abbrev pub by_moment : Key → ℕ → Box → List Record
by_moment k m b = newest_first m (records_of k b.lines)

pub record CountSays (floor : ℕ) (k : Key) (m : ℕ) (b : Box) : Type 0 where
  -- "Other refusals still count 0": 1, 14 and 7
  pub formless : key_form k ≡ false → (examine floor k m b).count ≡ 0
  pub floored : m < floor → (examine floor k m b).count ≡ 0
  pub locked : (l : Lock) → lock_of k b.lines ≡ some l → l.start ≤ m → (examine floor k m b).count ≡ 0
  -- "as does a key .. with no record by the moment"
  pub none_by : by_moment k m b ≡ [] → (examine floor k m b).count ≡ 0
  -- "For an answer from a Put or Delete it is one more than the Rollbacks passed over"; so it is for a record that refuses, 9
  pub decided : read_steps floor k m b ≡ Accepted → (over : List Record) (w : Record) (older : List Record) → by_moment k m b ≡ over ++ (w ∷ older) → all_go_on over ≡ true → goes_on w ≡ false → (examine floor k m b).count ≡ suc (length over)
  -- where there are only Rollbacks by the moment, each was examined
  pub only : read_steps floor k m b ≡ Accepted → all_go_on (by_moment k m b) ≡ true → (examine floor k m b).count ≡ length (by_moment k m b)
  -- "it never exceeds the key's records at or below the moment"
  pub most : (examine floor k m b).count ≤ length (at_or_below m (records_of k b.lines))

-- of a read of a key at a moment that gave this answer and this count
pub record CountTold (k : Key) (m : ℕ) (b : Box) (answer : Answer) (count : ℕ) : Type 0 where
  -- "Other refusals still count 0": all but the 9 of a record that refuses
  pub others : (answer ≡ Accepted → ⊥) → (answer ≡ No 9 → ⊥) → count ≡ 0
  -- "as does a key .. with no record by the moment"
  pub none_by : by_moment k m b ≡ [] → count ≡ 0
  -- "For an answer from a Put or Delete it is one more than the Rollbacks passed over"; and so it is for 9, "the refusing one included"
  pub decided : (answer ≡ Accepted) ⊎ (answer ≡ No 9) → (over : List Record) (w : Record) (older : List Record) → by_moment k m b ≡ over ++ (w ∷ older) → all_go_on over ≡ true → goes_on w ≡ false → count ≡ suc (length over)
  -- where there are only Rollbacks by the moment, each was examined
  pub only : answer ≡ Accepted → all_go_on (by_moment k m b) ≡ true → count ≡ length (by_moment k m b)
  -- "it never exceeds the key's records at or below the moment"
  pub most : count ≤ length (at_or_below m (records_of k b.lines))
