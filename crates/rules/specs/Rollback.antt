-- Document 01: "Rollback: 6, 5; 3; per key: 1; records by ascending stamp, each sound (9), with this start and not Rollback 8; a record
-- stamped with this start that is not its Rollback, 9; its Rollback with lock or default at this start, 9, else accepted and unchanged;
-- another's lock 7; Put lock without decoding default 9; Delete lock or no lock with a default 9; kind Rollback 9. Then 11. Lock and its row
-- go, a Rollback record comes."
-- Document 02, CR 7: "14, below the floor, .. for a start at or below F in any changing call (after the last 3, ..)".
-- Assumes nothing.
use Rattle.std.specs.Prelude.{ℕ, ◌&&◌, ◌||◌, not, List, [], ◌∷◌, ltb, eqb}
use Rattle.std.proofs.Math.Option.{Option, none, some}
use Rattle.forms.specs.Bytes.{Bytes}
use Rattle.forms.specs.Key.{Key, key_form}
use Rattle.forms.specs.Row.{Row}
use Rattle.forms.specs.Readers.{is_some}
use Rattle.forms.specs.Batch.{keys}
use Rattle.forms.specs.Ones.{one_key}
use Rattle.rules.specs.Answers.{Answer, Accepted, ◌▸◌, need, need_own}
use Rattle.rules.specs.declared.records.Kind.TheVariants.{Rollback}
use Rattle.rules.specs.declared.records.Record.{Record}
use Rattle.rules.specs.Box.{Box, Lock, Finished, holder_of, records_of, lock_of, row_of, eq_kind, insert_line, drop_lock, drop_row}
use Rattle.rules.specs.Sound.{sound_record}
use Rattle.rules.specs.Room.{room_for}
use Rattle.rules.specs.Calls.{Done, settle, of_batch, non_empty, owns, zero_step, lock_at, kind_ready, stamped_at, record_for}

-- "3": "zero transaction, start"; "after the last 3" 14
unfoldable pub rollback_terms_step : ℕ → ℕ → ℕ → Answer
rollback_terms_step floor txn start =
    zero_step txn start ▸
    need (ltb floor start) 14

-- "records by ascending stamp, each sound (9), with this start and not Rollback 8"
unfoldable pub rollback_records : ℕ → List Record → Answer
rollback_records s [] = Accepted
rollback_records s (w ∷ ws) =
    need (sound_record w) 9 ▸
    need (not (eqb s w.start && not (eq_kind w.kind Rollback))) 8 ▸
    rollback_records s ws

-- "another's lock 7; Put lock without decoding default 9; Delete lock or no lock with a default 9; kind Rollback 9"
unfoldable pub rollback_lock : ℕ → ℕ → Option Row → Option Lock → Answer
rollback_lock txn start stored none = need (not (is_some stored)) 9
rollback_lock txn start stored (some l) =
    need_own (owns txn start l) (holder_of l) ▸
    need (kind_ready l.kind stored) 9

-- "a record stamped with this start that is not its Rollback, 9; its Rollback with lock or default at this start, 9, else accepted and
-- unchanged"
unfoldable pub rollback_step : ℕ → ℕ → Option Row → Option Lock → Option Record → Answer
rollback_step txn start stored lock (some w) =
    need (eq_kind w.kind Rollback && eqb w.start start) 9 ▸
    need (not (lock_at start lock || is_some stored)) 9
rollback_step txn start stored lock none = rollback_lock txn start stored lock

-- "per key: 1; records by ascending stamp ..; .."
unfoldable pub rollback_key : ℕ → ℕ → Box → Key → Answer
rollback_key txn start b k =
    need (key_form k) 1 ▸
    rollback_records start (records_of k b.lines) ▸
    rollback_step txn start (row_of k start b.defaults) (lock_of k b.lines) (stamped_at start (records_of k b.lines))

unfoldable pub rollback_keys : ℕ → ℕ → Box → List Key → Answer
rollback_keys txn start b [] = Accepted
rollback_keys txn start b (k ∷ ks) = rollback_key txn start b k ▸ rollback_keys txn start b ks

-- "Lock and its row go, a Rollback record comes"
unfoldable pub rollback_to : ℕ → Box → Key → Option Record → Box
rollback_to start b k (some w) = b
rollback_to start b k none =
    record {
      lines = insert_line (record { key = k; line = Finished (record_for start start Rollback) }) (drop_lock k b.lines);
      defaults = drop_row k start b.defaults;
    }

unfoldable pub apply_rollback : ℕ → Key → Box → Box
apply_rollback start k b = rollback_to start b k (stamped_at start (records_of k b.lines))

unfoldable pub apply_rollbacks : ℕ → List Key → Box → Box
apply_rollbacks start [] b = b
apply_rollbacks start (k ∷ ks) b = apply_rollbacks start ks (apply_rollback start k b)

-- "Then 11"
unfoldable pub rollback_room : ℕ → List Key → Box → Answer
rollback_room start ks b = need (room_for (apply_rollbacks start ks b)) 11

-- the steps after 6 and 5
unfoldable pub rollback_steps : ℕ → ℕ → ℕ → List Key → Box → Answer
rollback_steps floor txn start ks b =
    rollback_terms_step floor txn start ▸
    rollback_keys txn start b ks ▸
    rollback_room start ks b

unfoldable pub rollback_all : ℕ → ℕ → ℕ → List Key → Box → Done
rollback_all floor txn start ks b = settle (need (non_empty ks) 5 ▸ rollback_steps floor txn start ks b) (apply_rollbacks start ks b) b

-- "6, 5; 3; per key: .."
unfoldable pub rollback_batch : ℕ → ℕ → ℕ → Bytes → Box → Done
rollback_batch floor txn start s b = of_batch (keys s) (rollback_all floor txn start) b

-- document 02, CR 10: "the single form disappears as a step of its own and is a batch of one"
unfoldable pub rollback : ℕ → ℕ → ℕ → Key → Box → Done
rollback floor txn start k b = rollback_batch floor txn start (one_key k) b
