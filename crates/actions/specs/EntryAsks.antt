-- What applying one entry asks, and what it leaves.
-- Assumes nothing.
use Rattle.std.specs.Prelude.{◌≡◌, Bool, true, ℕ, ◌+◌, ◌≤◌, ◌<◌}
use Rattle.std.proofs.Math.Option.{Option, none}
use Rattle.forms.specs.Bytes.{Bytes}
use Rattle.forms.specs.Key.{Key, key_form}
use Rattle.forms.specs.Row.{Row}
use Rattle.rules.specs.Answers.{Accepted}
use Rattle.rules.specs.Box as box
use Rattle.rules.specs.Calls.{kind_of, all_below, stamped_at}
use Rattle.rules.specs.Prewrite.{PrewriteTerms, prewrite_terms_step, prewrite_entry}
use Rattle.rules.specs.declared.terms.CommitTerms.{CommitTerms}
use Rattle.rules.specs.Commit.{commit_terms_step, commit_key}
use Rattle.rules.specs.Rollback.{rollback_key}
use Rattle.rules.specs.OneStep.{step_entry}
use Rattle.store.specs.declared.table.Store.{Store}
use Rattle.store.specs.View.{box_of}
use Rattle.store.specs.Made.{Built}
use Rattle.changes.specs.Changes.{entry_for, row_bytes, RowFits, Leaves}

-- the definition's box; where that is the box that was, nothing has changed
pub record Applied (st : Store) (area : Bytes) (b : box.Box) (top : ℕ) (r : Store) (area' : Bytes) : Type 0 where
  pub leaves : Leaves b top r area'
  pub still : b ≡ box_of st area → (r ≡ st) × (area' ≡ area)

abbrev pub commit_terms_for : ℕ → ℕ → ℕ → CommitTerms
commit_terms_for txn start commit = record { txn = txn; start = start; commit = commit }

-- at most 376 bytes come: two keys of 48, a row of 255, three numbers, and one where the stretch begins at a pair of bytes
pub record PrewriteAsks (st : Store) (area : Bytes) (h : PrewriteTerms) (key : Key) (row : Option Row) : Type 0 where
  pub built : Built st area
  pub floor : ℕ
  pub head : prewrite_terms_step floor h ≡ Accepted
  pub passed : prewrite_entry h (box_of st area) (entry_for key row) ≡ Accepted
  pub row_fits : RowFits (kind_of row) (row_bytes row)
  pub slot_free : box.lock_of key (box_of st area).lines ≡ none → st.load.lines < 1024
  pub area_room : st.top + 376 ≤ 131072

pub record CommitAsks (st : Store) (area : Bytes) (h : CommitTerms) (key : Key) : Type 0 where
  pub built : Built st area
  pub floor : ℕ
  pub head : commit_terms_step floor h ≡ Accepted
  pub passed : commit_key h (box_of st area) key ≡ Accepted
  pub area_room : st.top + 320 ≤ 131072

pub record RollbackAsks (st : Store) (area : Bytes) (txn start : ℕ) (key : Key) : Type 0 where
  pub built : Built st area
  pub head : start ≡ 0 → ⊥
  pub passed : rollback_key txn start (box_of st area) key ≡ Accepted
  pub slot_free : stamped_at start (box.records_of key (box_of st area).lines) ≡ none → box.lock_of key (box_of st area).lines ≡ none → st.load.lines < 1024
  pub area_room : st.top + 65 ≤ 131072

pub record StepAsks (st : Store) (area : Bytes) (h : CommitTerms) (key : Key) (row : Option Row) : Type 0 where
  pub built : Built st area
  pub floor : ℕ
  pub head : commit_terms_step floor h ≡ Accepted
  pub form : key_form key ≡ true
  pub row_fits : RowFits (kind_of row) (row_bytes row)
  pub passed : step_entry h (box_of st area) (entry_for key row) ≡ Accepted
  pub newest : all_below h.commit (box.records_of key (box_of st area).lines) ≡ true
  pub slot_free : box.lock_of key (box_of st area).lines ≡ none → st.load.lines < 1024
  pub area_room : st.top + 320 ≤ 131072
