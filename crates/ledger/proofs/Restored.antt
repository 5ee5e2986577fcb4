-- The box of an image that restore accepts is tidy, and keeps the claim on pairs with the image's own names; so demand 3 holds from a restored
-- store. Assumes nothing.
use Prim.Native.Nat.{ℕ}
use mathlib.Core.Path.{◌≡◌, refl, sym, ap, ◌∙◌}
use mathlib.Core.Logic.{inl, inr}
use mathlib.Core.Bool.{Bool, true, ◌||◌, true≢false}
use mathlib.Core.List.{List, [], ◌∷◌}
use Rattle.forms.specs.Bytes.{Bytes}
use Rattle.forms.specs.Key.{Key, key_form}
use Rattle.forms.specs.Row.{Row}
use Rattle.forms.specs.Readers.{is_some}
use Rattle.rules.specs.declared.records.Kind.{Kind}
use Rattle.rules.specs.declared.records.Kind.TheVariants.{Put, Delete, Rollback}
use Rattle.rules.specs.Box.{Line, KeyLine, Default, start_of, kind_in, line_is, at_pair, before, row_before, row_of}
use Rattle.rules.specs.Calls.{State}
use Rattle.rules.specs.Image.{Image, KeyRecord}
use Rattle.rules.specs.Restore.{kind_has_default, good_default, good_lock, good_write, like_default, image_lines, points_to, pointed_to, like_line, all_good, good_image, healthy_image, floored_image, box_of, state_of, restore}
use Rattle.laws.proofs.StepLaws.{passed, by-test, and_left, and_right, and_both}
use Rattle.laws.proofs.Sorted.{In, good-weaken}
use Rattle.laws.proofs.RecordLaws.{eq_kind-true}
use Rattle.laws.proofs.ImageBoxLaws.{good-image, healthy-image, restore-keeps, placed-good, placed-defaults, placed-lines, good-lines}
use Rattle.rules.specs.Call.{Changing}
use Rattle.ledger.specs.Ledger.{after, chosen, cons_if, lines_at, rows_at, Demand3}
use Rattle.ledger.specs.Tidy.{RowsOf, Paired, free, taken, good_line, good_row, Sound, Tidy, line_above, LocksAbove}
use Rattle.ledger.specs.Restored.{restored}
use Rattle.ledger.proofs.ChosenLaws.{in-cons, in-nil, sole, chosen-good, Few, count_fits, chosen-placed}
use Rattle.ledger.proofs.PairRowLaws.{first_of, row_first, pair_is, pair-alike}
use Rattle.ledger.proofs.PairLaws.{own-holds}
use Rattle.ledger.proofs.Always.{after_kept}
use Rattle.ledger.proofs.Pairs.{Claim, claims, claim-kept}
use Rattle.ledger.proofs.Demand3.{holding}

-- ---- a default has a Put line of its pair, and a Put line its default

-- a Put among a pair's lines
abbrev PutAt : Key → ℕ → List KeyLine → Type 0
PutAt k s es = (x : Line) × In x (lines_at k s es) × (kind_in x ≡ Put)

put-at : (k : Key) (s : ℕ) (d : Default) (es : List KeyLine) → at_pair k s d ≡ true → pointed_to es d ≡ true → PutAt k s es
unfolding pointed_to chosen cons_if
put-at k s d [] a p = absurd (true≢false (sym p))
put-at k s d (e ∷ es) a p =
    let at = pair_is k d.key s d.start a in
    let here : points_to d e ≡ true → line_is k s e ≡ true = λ q. rw (at.0, at.1) (and_left _ _ q) in
    by-test (λ t. t || pointed_to es d ≡ true → PutAt k s (e ∷ es)) (points_to d e)
    (λ q r. (e.line, rw (here q) (inl refl), eq_kind-true (kind_in e.line) Put (and_right (line_is d.key d.start e) _ q)))
    (λ q r. let x = put-at k s d es a r in (x.0, in-cons (line_is k s e) x.0 e.line (lines_at k s es) x.1, x.2)) p

abbrev has_row : List Default → KeyLine → Bool
has_row ds e = kind_has_default (kind_in e.line) (is_some (row_of e.key (start_of e.line) ds))

-- of a write nothing is asked
all-good : (ws : List KeyRecord) → all_good (λ (x : KeyRecord). true) ws ≡ true
unfolding all_good
all-good [] = refl
all-good (w ∷ ws) = all-good ws

module _ (i : Image) (g : good_image i ≡ true) (h : healthy_image i ≡ true) where
  -- ---- the box's pairs are the image's

  lines_are : (k : Key) (s : ℕ) → lines_at k s (box_of i).lines ≡ lines_at k s (image_lines i)
  unfolding box_of
  lines_are k s = ap (lines_at k s) (placed-lines i.locks i.writes) ∙ chosen-placed (line_is k s) (λ (e : KeyLine). e.line) like_line (λ x y. pair-alike k s _ _ _ _) before (image_lines i) (healthy-image i h).lines_once

  rows_are : (k : Key) (s : ℕ) → rows_at k s (box_of i).defaults ≡ rows_at k s i.defaults
  unfolding box_of
  rows_are k s = ap (rows_at k s) (placed-defaults i.defaults) ∙ chosen-placed (at_pair k s) (λ (d : Default). d.row) like_default (λ x y. pair-alike k s _ _ _ _) row_before i.defaults (good-image i g).defaults_once

  -- a row's line is a Put
  row_put : (k : Key) (s : ℕ) (r : Row) → In r (rows_at k s i.defaults) → PutAt k s (image_lines i)
  row_put k s r m = chosen-good (at_pair k s) (λ (d : Default). d.row) (pointed_to (image_lines i)) (λ r. PutAt k s (image_lines i)) (λ d. put-at k s d (image_lines i)) i.defaults r (healthy-image i h).pointed-to m

  -- a Put has its row
  put-row : (k : Key) (s : ℕ) (x : Line) → In x (lines_at k s (image_lines i)) → kind_has_default (kind_in x) (is_some (first_of (rows_at k s i.defaults))) ≡ true
  put-row k s x m =
      chosen-good (line_is k s) (λ (e : KeyLine). e.line) (has_row i.defaults) (λ x. kind_has_default (kind_in x) (is_some (first_of (rows_at k s i.defaults))) ≡ true) at (image_lines i) x
      (good-lines (has_row i.defaults) i.locks i.writes (healthy-image i h).locks_have (good-image i g).writes-have) m
    where
      at : (e : KeyLine) → line_is k s e ≡ true → has_row i.defaults e ≡ true → kind_has_default (kind_in e.line) (is_some (first_of (rows_at k s i.defaults))) ≡ true
      at e p q = let j = pair_is k e.key s (start_of e.line) p in rw (sym (row_first k s i.defaults), j.0, j.1) q

  image-rows : (k : Key) (s : ℕ) (x : Line) → lines_at k s (image_lines i) ≡ x ∷ [] → Few (rows_at k s i.defaults) → RowsOf (kind_in x) (rows_at k s i.defaults)
  image-rows k s x a fs = go (kind_in x) fs (put-row k s x (rw a (inl refl))) (λ r m. let y = row_put k s r m in ap kind_in (sym (sole y.0 x _ y.1 a)) ∙ y.2)
    where
      go : (kind : Kind) → Few (rows_at k s i.defaults) → kind_has_default kind (is_some (first_of (rows_at k s i.defaults))) ≡ true → ((r : Row) → In r (rows_at k s i.defaults) → kind ≡ Put)
          → RowsOf kind (rows_at k s i.defaults)
      go Put (inl d) p q = absurd (true≢false (cc (rw d at p)))
      go Put (inr d) p q = d
      go Delete (inl d) p q = d
      go Delete (inr d) p q = absurd (true≢false (cc (q d.0 (rw d.1 (inl refl)))))
      go Rollback (inl d) p q = d
      go Rollback (inr d) p q = absurd (true≢false (cc (q d.0 (rw d.1 (inl refl)))))

  image-pairs : (k : Key) (s : ℕ) → Paired (box_of i) k s
  image-pairs k s =
      go (count_fits (line_is k s) (λ (e : KeyLine). e.line) like_line (λ x y. pair-alike k s _ _ _ _) (image_lines i) (healthy-image i h).lines_once)
      (count_fits (at_pair k s) (λ (d : Default). d.row) like_default (λ x y. pair-alike k s _ _ _ _) i.defaults (good-image i g).defaults_once)
    where
      go : Few (lines_at k s (image_lines i)) → Few (rows_at k s i.defaults) → Paired (box_of i) k s
      go (inl a) (inl d) = free (lines_are k s ∙ a) (rows_are k s ∙ d)
      go (inl a) (inr d) = let y = row_put k s d.0 (rw d.1 (inl refl)) in absurd (in-nil y.0 _ y.1 a)
      go (inr x) fs = taken x.0 (lines_are k s ∙ x.1) (rw (rows_are k s) (image-rows k s x.0 x.1 fs))

  -- ---- the box is tidy, and its lines are the image's names

  image-sound : Sound (box_of i)
  unfolding box_of
  image-sound =
      let v = good-image i g in
      record {
        lines = rw (placed-lines i.locks i.writes) (placed-good before good_line (image_lines i) (good-lines good_line i.locks i.writes
            (good-weaken (good_lock i.table) _ (λ x p. and_both (key_form x.key) _ (search passed) (search passed)) i.locks v.locks)
            (good-weaken (good_write i.table) _ (λ x p. and_both (key_form x.key) _ (search passed) (search passed)) i.writes v.writes)));
        rows = rw (placed-defaults i.defaults) (placed-good row_before good_row i.defaults
            (good-weaken (good_default i.table) good_row (λ d p. and_both _ _ (and_both (key_form d.key) _ (search passed) (search passed)) (search passed)) i.defaults v.defaults));
      }

  pub image-tidy : Tidy (box_of i)
  image-tidy = record { pairs = image-pairs; sound = image-sound }

  pub demand3-restored : (cs : List Changing) → Demand3 (after cs (restored i))
  demand3-restored cs =
      holding (after cs (restored i)) (after_kept Claim claim-kept cs (restored i) (claims i.floor (box_of i) _ (own-holds (box_of i) (image_lines i) i.defaults image-pairs lines_are rows_are) image-sound))

  -- document 02, CR 7: "an image with such a lock is 13"
  pub image-above : floored_image i ≡ true → LocksAbove i.floor (box_of i)
  unfolding floored_image box_of
  image-above a = rw (placed-lines i.locks i.writes) (placed-good before (λ (e : KeyLine). line_above i.floor e.line) (image_lines i) (good-lines _ i.locks i.writes a (all-good i.writes)))

-- whatever the image, refused or not
pub restore-tidy : (s : Bytes) (st : State) → Tidy st.box → Tidy (restore s st).state.box
unfolding state_of
restore-tidy s st v = restore-keeps (λ (st : State). Tidy st.box) s st v (λ i e g h a f. image-tidy i g h)

pub restore-above : (s : Bytes) (st : State) → LocksAbove st.floor st.box → LocksAbove (restore s st).state.floor (restore s st).state.box
unfolding state_of
restore-above s st v = restore-keeps (λ (st : State). LocksAbove st.floor st.box) s st v (λ i e g h a f. image-above i g h a)
