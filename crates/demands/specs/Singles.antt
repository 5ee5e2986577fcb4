-- Document 02, CR 10, of the store: "the single form disappears as a step of its own and is a batch of one. For a key and row that fit the batch's
-- length bytes the answers and states are those of before; a longer key is still 1 and a longer row 2, tested where the single form tested them."
-- src/ties.rt ties each single form to its batch's case, at the bytes of the batch of one (`one_mutation`, `one_key`); what such a call leaves is said
-- here. Nothing else is known of the code, and nothing else is asked for. proofs/Singles.antt has the theorems.
-- Assumes nothing.
use Rattle.std.specs.Prelude.{ℕ, ◌<◌, ◌≡◌, [], ◌∷◌, length}
use Rattle.std.proofs.Math.Option.{some}
use Rattle.forms.specs.Bytes.{Bytes}
use Rattle.forms.specs.Key.{Key, key_form}
use Rattle.forms.specs.Row.{Row}
use Rattle.forms.specs.Batch.{Mutation, mutations, keys}
use Rattle.forms.specs.Ones.{one_mutation, one_key}
use Rattle.rules.specs.Answers.{Answer, Accepted, No, ◌▸◌, need}
use Rattle.rules.specs.declared.terms.CommitTerms.{CommitTerms}
use Rattle.rules.specs.Calls.{Done}
use Rattle.rules.specs.Prewrite.{PrewriteTerms, prewrite_terms_step}
use Rattle.rules.specs.Commit.{commit_terms_step}
use Rattle.rules.specs.Rollback.{rollback_terms_step}
use Rattle.rules.specs.Call.{Changing}
use Rattle.laws.specs.Singles.{prewrite_alone, commit_alone, rollback_alone, FitsByte, RowFits}
use Rattle.demands.specs.Calls.{a_change, Lent, box_in, floor_in, state_in, Given, answer_in, after, Kept, Same}
use Rattle.demands.specs.Demands.{changing}

-- a call gave this answer, and left this box on the floor that stood
pub record EndsAs (w : Lent) (g : Given a_change) (d : Done) : Type 0 where
  pub answer : answer_in w g ≡ d.answer
  pub state : state_in (after w g) ≡ record { box = d.box; floor = floor_in w }

-- a call gave this answer, and left store and area
pub record RefusedAs (w : Lent) (g : Given a_change) (a : Answer) : Type 0 where
  pub answer : answer_in w g ≡ a
  pub left : after w g ≡ w

-- ---- prewrite

pub record SinglePrewrite (w : Lent) (h : PrewriteTerms) (m : Mutation) (g : Given a_change) : Type 0 where
  -- "For a key and row that fit the batch's length bytes" the batch of one has this entry
  pub fits : FitsByte m.key → RowFits m.row → mutations (one_mutation m) ≡ some (m ∷ [])
  -- and wherever the call is accepted: what it names, "as an entry", is its own key and row
  pub named : answer_in w g ≡ Accepted → mutations (one_mutation m) ≡ some (m ∷ [])
  -- "is a batch of one": every batch with this one entry ends the same
  pub batch : (s : Bytes) → mutations s ≡ some (m ∷ []) → (q : Given a_change) → Kept w (changing (Changing.Prewrite h s)) q → Same w g q
  -- "the answers and states are those of before"
  pub before : EndsAs w g (prewrite_alone (floor_in w) h m (box_in w))
  -- "a longer key is still 1": after 3, the primary, the time to live and 14
  pub long_key : 255 < length m.key → RefusedAs w g (prewrite_terms_step (floor_in w) h ▸ No 1)
  -- "and a longer row 2": after the key's 1
  pub long_row : (r : Row) → m.row ≡ some r → 255 < length r → RefusedAs w g (prewrite_terms_step (floor_in w) h ▸ need (key_form m.key) 1 ▸ No 2)

abbrev pub SinglePrewrites : Type 0
SinglePrewrites = (w : Lent) (h : PrewriteTerms) (m : Mutation) (g : Given a_change) → Kept w (changing (Changing.Prewrite h (one_mutation m))) g → SinglePrewrite w h m g

-- ---- commit and rollback

-- the same of a call on a key batch: `Batch s q` is what it gave at the bytes s, `alone` what the single form was, and `terms` the steps before its key
pub record SingleKey (w : Lent) (Batch : Bytes → Given a_change → Type 0) (alone : Done) (terms : Answer) (k : Key) (g : Given a_change) : Type 0 where
  pub fits : FitsByte k → keys (one_key k) ≡ some (k ∷ [])
  pub named : answer_in w g ≡ Accepted → keys (one_key k) ≡ some (k ∷ [])
  pub batch : (s : Bytes) → keys s ≡ some (k ∷ []) → (q : Given a_change) → Batch s q → Same w g q
  pub before : EndsAs w g alone
  pub long_key : 255 < length k → RefusedAs w g (terms ▸ No 1)

abbrev pub SingleCommits : Type 0
SingleCommits =
    (w : Lent) (h : CommitTerms) (k : Key) (g : Given a_change)
    → Kept w (changing (Changing.Commit h (one_key k))) g
    → SingleKey w (λ s q. Kept w (changing (Changing.Commit h s)) q) (commit_alone (floor_in w) h k (box_in w)) (commit_terms_step (floor_in w) h) k g

abbrev pub SingleRollbacks : Type 0
SingleRollbacks =
    (w : Lent) (txn start : ℕ) (k : Key) (g : Given a_change)
    → Kept w (changing (Changing.Rollback txn start (one_key k))) g
    → SingleKey w (λ s q. Kept w (changing (Changing.Rollback txn start s)) q) (rollback_alone (floor_in w) txn start k (box_in w)) (rollback_terms_step (floor_in w) txn start) k g
