-- Document 01: "Read: 1; lock with start at or below the moment, 7; then records from the newest at or below the moment downward, each
-- checked (9): Rollback, go on; Delete, nothing; Put, its default must exist and decode (9), shown."
-- Document 02, CR 6: "Each read also reports the number of write records it examined, the refusing one included. Other refusals still count 0,
-- as does a key .. with no record by the moment. .. The definition's own walk gives the number."
-- CR 7: "14, below the floor, for a read .. moment below F (in a read after 1 ..)". The floor is a number beside the box, the store's.
-- Assumes nothing.
use Rattle.std.specs.Prelude.{ℕ, suc, Bool, true, false, List, [], ◌∷◌, reverse, leb, ltb}
use Rattle.std.proofs.Math.Option.{Option, none, some}
use Rattle.forms.specs.Key.{Key, key_form}
use Rattle.forms.specs.Row.{Row, row_form}
use Rattle.rules.specs.Answers.{Answer, Accepted, No, ◌▸◌, need, need_own, Reply, nothing, shown, refused, if_passed, count_if}
use Rattle.rules.specs.declared.records.Kind.{Kind}
use Rattle.rules.specs.declared.records.Kind.TheVariants.{Put, Delete, Rollback}
use Rattle.rules.specs.declared.records.Record.{Record}
use Rattle.rules.specs.Box.{Box, Lock, Default, holder_of, records_of, lock_of, row_of}
use Rattle.rules.specs.Sound.{sound_record}

-- "lock with start at or below the moment, 7"
unfoldable pub lock_lets : ℕ → Option Lock → Answer
lock_lets m none = Accepted
lock_lets m (some l) = need_own (ltb m l.start) (holder_of l)

unfoldable pub keep_if : {A : Type 0} → Bool → A → List A → List A
keep_if true x xs = x ∷ xs
keep_if false x xs = xs

-- those of which a test holds, in their order
unfoldable pub those : {A : Type 0} → (A → Bool) → List A → List A
those p [] = []
those p (x ∷ xs) = keep_if (p x) x (those p xs)

unfoldable pub at_or_below : ℕ → List Record → List Record
at_or_below m [] = []
at_or_below m (w ∷ ws) = keep_if (leb w.stamp m) w (at_or_below m ws)

-- "from the newest at or below the moment downward"
unfoldable pub newest_first : ℕ → List Record → List Record
newest_first m ws = reverse (at_or_below m ws)

unfoldable pub show_if : Bool → Row → Reply Row
show_if true r = shown r
show_if false r = refused (No 9)

-- "Put, its default must exist and decode (9), shown"
unfoldable pub show_row : Option Row → Reply Row
show_row none = refused (No 9)
show_row (some r) = show_if (row_form r) r

-- what a read replies, and "the number of write records it examined"
pub record Examined : Type 0 where
  pub reply : Reply Row
  pub count : ℕ

-- "each checked (9): Rollback, go on; Delete, nothing; Put .."; the record itself is counted, "the refusing one included"
unfoldable pub one_record : Bool → Kind → Reply Row → Examined → Examined
one_record true Put row older = record { reply = row; count = 1 }
one_record true Delete row older = record { reply = nothing; count = 1 }
one_record true Rollback row older = record { reply = older.reply; count = suc older.count }
one_record false kind row older = record { reply = refused (No 9); count = 1 }

unfoldable pub walk : Key → List Default → List Record → Examined
walk k ds [] = record { reply = nothing; count = 0 }
walk k ds (w ∷ ws) = one_record (sound_record w) w.kind (show_row (row_of k w.start ds)) (walk k ds ws)

-- the steps before the walk; "Other refusals still count 0"
unfoldable pub read_steps : ℕ → Key → ℕ → Box → Answer
read_steps floor k m b =
    need (key_form k) 1 ▸
    need (leb floor m) 14 ▸
    lock_lets m (lock_of k b.lines)

unfoldable pub examine : ℕ → Key → ℕ → Box → Examined
examine floor k m b =
    let walked = walk k b.defaults (newest_first m (records_of k b.lines)) in
    record { reply = if_passed (read_steps floor k m b) walked.reply; count = count_if (read_steps floor k m b) walked.count }

-- the reply alone, as pages and demand 2 speak of it
unfoldable pub read : ℕ → Key → ℕ → Box → Reply Row
read floor k m b = (examine floor k m b).reply
