-- Document 01: "Prewrite: batch 6, 5; transaction, start 3; primary 1; time to live 3; then per entry ascending: 1, 2; each record of the key
-- sound (9); any record stamp at or above start, 8 (the public Percolator paper's rule); a lock of another transaction or start, 7; own lock
-- with any other field, or a Put whose stored row is missing or different, 9; own equal lock, accepted and unchanged; a default without lock,
-- 9. Then 11. Each entry not yet locked gets a lock with the call's fields and the entry's kind, and a Put's row is stored at this start. The
-- primary need not be an entry. Single forms, here and below, take the steps without 6 and 5; the kind is Put or Delete, and a Delete's row
-- argument is ignored."
-- Document 02, CR 7: "14, below the floor, .. for a start at or below F in any changing call (after the last 3, in a prewrite after the time to
-- live, and before any entry is judged)". The floor is a number beside the box, the store's.
-- Assumes nothing.
use Rattle.std.specs.Prelude.{ℕ, Bool, ◌&&◌, not, List, [], ◌∷◌, ltb, eqb}
use Rattle.std.proofs.Math.Option.{Option, none, some}
use Rattle.forms.specs.Bytes.{Bytes, eq_bytes}
use Rattle.forms.specs.Key.{Key, key_form}
use Rattle.forms.specs.Row.{Row}
use Rattle.forms.specs.Readers.{is_some}
use Rattle.forms.specs.Batch.{Mutation, mutations}
use Rattle.forms.specs.Ones.{one_mutation}
use Rattle.rules.specs.Answers.{Answer, Accepted, ◌▸◌, need, need_own}
use Rattle.rules.specs.declared.records.Kind.{Kind}
use Rattle.rules.specs.Box.{Box, Lock, Standing, Default, holder_of, records_of, lock_of, row_of, eq_kind, insert_line, insert_default}
use Rattle.rules.specs.Sound.{all_sound}
use Rattle.rules.specs.Room.{room_for}
use Rattle.rules.specs.Calls.{Done, settle, of_batch, non_empty, kind_of, owns, all_below, row_argument, row_stands}

-- what a call says of its transaction
pub record PrewriteTerms : Type 0 where
  pub txn : ℕ
  pub start : ℕ
  pub primary : Key
  pub ttl : ℕ

-- "transaction, start 3; primary 1; time to live 3"; "in a prewrite after the time to live" 14
unfoldable pub prewrite_terms_step : ℕ → PrewriteTerms → Answer
prewrite_terms_step floor h =
    need (not (eqb h.txn 0)) 3 ▸
    need (not (eqb h.start 0)) 3 ▸
    need (key_form h.primary) 1 ▸
    need (not (eqb h.ttl 0)) 3 ▸
    need (ltb floor h.start) 14

-- own lock with no other field
abbrev pub same_lock : PrewriteTerms → Kind → Lock → Bool
same_lock h kind l = eq_bytes l.primary h.primary && eqb l.ttl h.ttl && eq_kind l.kind kind

-- "a lock of another transaction or start, 7; own lock with any other field, or a Put whose stored row is missing or different, 9; own equal
-- lock, accepted and unchanged; a default without lock, 9"
unfoldable pub lock_step : PrewriteTerms → Option Row → Option Row → Option Lock → Answer
lock_step h row stored none = need (not (is_some stored)) 9
lock_step h row stored (some l) =
    need_own (owns h.txn h.start l) (holder_of l) ▸
    need (same_lock h (kind_of row) l && row_stands row stored) 9

-- "per entry ascending: 1, 2; each record of the key sound (9); any record stamp at or above start, 8; .."
unfoldable pub prewrite_entry : PrewriteTerms → Box → Mutation → Answer
prewrite_entry h b m =
    need (key_form m.key) 1 ▸
    need (row_argument m.row) 2 ▸
    need (all_sound (records_of m.key b.lines)) 9 ▸
    need (all_below h.start (records_of m.key b.lines)) 8 ▸
    lock_step h m.row (row_of m.key h.start b.defaults) (lock_of m.key b.lines)

unfoldable pub prewrite_entries : PrewriteTerms → Box → List Mutation → Answer
prewrite_entries h b [] = Accepted
prewrite_entries h b (m ∷ ms) = prewrite_entry h b m ▸ prewrite_entries h b ms

-- "a lock with the call's fields and the entry's kind"
abbrev pub lock_for : PrewriteTerms → Kind → Lock
lock_for h kind = record { txn = h.txn; primary = h.primary; start = h.start; ttl = h.ttl; kind = kind }

-- "a Put's row is stored at this start"
unfoldable pub store_if : Key → ℕ → Option Row → List Default → List Default
store_if k s none ds = ds
store_if k s (some r) ds = insert_default (record { key = k; start = s; row = r }) ds

unfoldable pub lock_line : PrewriteTerms → Mutation → Box → Box
lock_line h m b =
    record {
      lines = insert_line (record { key = m.key; line = Standing (lock_for h (kind_of m.row)) }) b.lines;
      defaults = store_if m.key h.start m.row b.defaults;
    }

-- "Each entry not yet locked"
unfoldable pub unless_locked : {A : Type 0} → Option Lock → A → A → A
unless_locked none new old = new
unless_locked (some l) new old = old

unfoldable pub apply_prewrite : PrewriteTerms → Mutation → Box → Box
apply_prewrite h m b = unless_locked (lock_of m.key b.lines) (lock_line h m b) b

unfoldable pub apply_prewrites : PrewriteTerms → List Mutation → Box → Box
apply_prewrites h [] b = b
apply_prewrites h (m ∷ ms) b = apply_prewrites h ms (apply_prewrite h m b)

-- "Then 11"
unfoldable pub prewrite_room : PrewriteTerms → List Mutation → Box → Answer
prewrite_room h ms b = need (room_for (apply_prewrites h ms b)) 11

-- the steps after 6 and 5
unfoldable pub prewrite_steps : ℕ → PrewriteTerms → List Mutation → Box → Answer
prewrite_steps floor h ms b =
    prewrite_terms_step floor h ▸
    prewrite_entries h b ms ▸
    prewrite_room h ms b

unfoldable pub prewrite_all : ℕ → PrewriteTerms → List Mutation → Box → Done
prewrite_all floor h ms b = settle (need (non_empty ms) 5 ▸ prewrite_steps floor h ms b) (apply_prewrites h ms b) b

-- "batch 6, 5; .."
unfoldable pub prewrite_batch : ℕ → PrewriteTerms → Bytes → Box → Done
prewrite_batch floor h s b = of_batch (mutations s) (prewrite_all floor h) b

-- document 02, CR 10: "the single form disappears as a step of its own and is a batch of one"
unfoldable pub prewrite : ℕ → PrewriteTerms → Mutation → Box → Done
prewrite floor h m b = prewrite_batch floor h (one_mutation m) b
