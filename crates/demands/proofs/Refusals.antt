-- Demand 1, its second half: whatever the public call, a refusal leaves store, area and buffer as they were, counts nothing and shows nothing.
-- Assumes nothing.
use Prim.Native.Nat.{ℕ}
use mathlib.Core.Path.{◌≡◌, refl, ap, ap₂, ◌∙◌}
use mathlib.Core.Bool.{Bool, true, false, not}
use mathlib.Core.List.{[]}
use lib.ListN.{length}
use lib.Dec.{leb, eqb}
use Rattle.forms.specs.Bytes.{Bytes}
use Rattle.forms.specs.Key.{Key}
use Rattle.forms.specs.Row.{Row, bone, row_form, bones_of, count_below}
use Rattle.rules.specs.Answers.{Answer, Accepted, No, Held, Reply, answer_of, count_if, need}
use Rattle.rules.specs.Answers as answers
use Rattle.rules.specs.Box.{Box}
use Rattle.rules.specs.Read.{examine}
use Rattle.rules.specs.Page.{Page, page, intent_page, conflict_page}
use Rattle.rules.specs.Written.{Written, page_bytes, write_if, written, key_row_bytes, key_lock_bytes, scan_page, scan_intent_page, scan_conflicting_intents, WroteAs}
use Rattle.rules.specs.Call.{Changing, Call}
use Rattle.rules.specs.Capture.{image_of, capture_if, capture_image}
use Rattle.rules.specs.Image.{old_image}
use Rattle.rules.specs.Convert.{converted_bytes, convertible, convert_if, convert_image}
use Rattle.rules.specs.Bones.{Tells, bone_steps, shown_if, bone_shown, bones_shown, BoneShown, BonesShown}
use Rattle.laws.proofs.SettleLaws.{one_step-refused}
use Rattle.ledger.proofs.Unmet.{read_count}
use Rattle.store.specs.declared.table.Store.{Store}
use Rattle.store.proofs.TidyLaws.{built-tidy}
use Rattle.calls.specs.Settled.{Changed, Untouched}
use Rattle.reads.specs.Seen.{RowSeen, LockSeen, seen_in, ReadAs}
use Rattle.std.specs.Prelude.{Some, None, Ok, Err}
use Rattle.reads.specs.declared.seen.Reading.{Reading}
use Rattle.reads.specs.Parts.{row_part, RowPart, PrimaryPart}
use Rattle.rules.specs.Outcomes.{Wrote}
use Rattle.demands.specs.Calls.{Lent, box_in, floor_in, started, seen, pointed, handed, paged, changed, stepped, counted, marked, boned, summed, nothing, row_in, bone_in, bones_in, answer_in, Unchanged, Refusals, starting, calling, handing_row, handing_primary}

-- ---- a page, and an image

-- the definition of one that is not accepted: count 0, and the buffer as it was
pub record Blank (buffer : Bytes) (x : Written) : Type 0 where
  pub count : x.count ≡ 0
  pub buffer_is : x.buffer ≡ buffer

-- a call that writes where there is room: short, it leaves the buffer
short-blank : (t : Bool) (bytes buffer : Bytes) → ((write_if t bytes buffer).answer ≡ Accepted → ⊥) → Blank buffer (write_if t bytes buffer)
unfolding write_if
short-blank true bytes buffer n = absurd (n refl)
short-blank false bytes buffer n = record { count = refl; buffer_is = refl }

written-refused : {A : Type 0} (f : A → Bytes) (r : Reply (Page A)) (buffer : Bytes) → ((written f r buffer).answer ≡ Accepted → ⊥) → Blank buffer (written f r buffer)
unfolding written
written-refused f answers.nothing buffer n = record { count = refl; buffer_is = refl }
written-refused f (answers.refused v) buffer n = record { count = refl; buffer_is = refl }
written-refused f (answers.shown p) buffer n = short-blank (leb (length (page_bytes f p)) (length buffer)) (page_bytes f p) buffer n

-- "a zero table number 3, then a short buffer 12"
captured-refused : (floor t : ℕ) (b : Box) (buffer : Bytes) → ((capture_image floor t b buffer).answer ≡ Accepted → ⊥) → Blank buffer (capture_image floor t b buffer)
unfolding capture_image capture_if
captured-refused floor t b buffer = go (not (eqb t 0))
  where
    go : (k : Bool) → ((capture_if k (image_of floor t b) buffer).answer ≡ Accepted → ⊥) → Blank buffer (capture_if k (image_of floor t b) buffer)
    go true n = short-blank (leb (length (image_of floor t b)) (length buffer)) (image_of floor t b) buffer n
    go false n = record { count = refl; buffer_is = refl }

-- "a fault by 01's image checks or a 255-byte row is 13, then a short buffer 12"
converted-refused : (s buffer : Bytes) → ((convert_image s buffer).answer ≡ Accepted → ⊥) → Blank buffer (convert_image s buffer)
unfolding convert_image convert_if
converted-refused s buffer = go (convertible (old_image s))
  where
    go : (k : Bool) → ((convert_if k (converted_bytes s) buffer).answer ≡ Accepted → ⊥) → Blank buffer (convert_if k (converted_bytes s) buffer)
    go true n = short-blank (leb (length (converted_bytes s)) (length buffer)) (converted_bytes s) buffer n
    go false n = record { count = refl; buffer_is = refl }

module _ (w : Lent) where
  wrote-left : (x : Written) → ((x.answer ≡ Accepted → ⊥) → Blank w.buffer x) → (r : Wrote) (out : Bytes) → WroteAs x r out → (r.answer ≡ Accepted → ⊥) → Unchanged w (paged r out)
  wrote-left x blank r out p n =
      let b = blank (λ e. n (p.answer_is.case_is ∙ e)) in
      record {
        left = ap (λ (x : Bytes). record { store = w.store; area = w.area; buffer = x }) (p.out_is ∙ b.buffer_is);
        box = refl;
        count = λ _. p.count_is ∙ b.count;
        shown = refl;
        part = refl;
      }

  page-left : {A : Type 0} (f : A → Bytes) (reply : Reply (Page A)) (r : Wrote) (out : Bytes) → WroteAs (written f reply w.buffer) r out → (r.answer ≡ Accepted → ⊥) → Unchanged w (paged r out)
  page-left f reply = wrote-left (written f reply w.buffer) (written-refused f reply w.buffer)

  -- ---- a changing call

  pub both : (st : Store) (area : Bytes) → Untouched w.store w.area st area → record { store = st; area = area; buffer = w.buffer } ≡ w
  both st area u =
      ap (λ (s : Store). record { store = s; area = area; buffer = w.buffer }) u.store_is
      ∙ ap (λ (a : Bytes). record { store = w.store; area = a; buffer = w.buffer }) u.area_is

  changed-left : (r : Changed) (area : Bytes) → Untouched w.store w.area r.store area → Unchanged w (changed r area)
  changed-left r area u = record { left = both r.store area u; box = ap box_in (both r.store area u); count = λ _. refl; shown = refl; part = refl }

  -- ---- a read, and an intent at a point: the store is as it was by their types, and no row is shown

  no_row : (s : RowSeen) → (answer_of (seen_in w.area s) ≡ Accepted → ⊥) → (row_in (seen_in w.area s) ≡ nothing) × (row_part w.area s ≡ [])
  no_row (Ok None) n = absurd (n refl)
  no_row (Ok (Some p)) n = absurd (n refl)
  no_row (Err r) n = (refl, refl)

  -- what a made store refuses it refuses before its first record
  read_left : (k : Key) (m : ℕ) (r : Reading) (part : Bytes) → ReadAs (examine (floor_in w) k m (box_in w)) w.area r → RowPart w.area r.seen part → (answer_in w (seen r part) ≡ Accepted → ⊥) → Unchanged w (seen r part)
  read_left k m r part g p n =
      let z = no_row r.seen n in
      record {
        left = refl;
        box = refl;
        count = λ made. g.count_is ∙ read_count (box_in w) (built-tidy made.built) (floor_in w) k m (λ e. n (g.seen_as.answer_is.case_is ∙ e));
        shown = z.0;
        part = p.is ∙ z.1;
      }

  intent-left : (s : LockSeen) (part : Bytes) → PrimaryPart w.area s part → (answer_in w (pointed s part) ≡ Accepted → ⊥) → Unchanged w (pointed s part)
  intent-left (Ok None) part p n = absurd (n refl)
  intent-left (Ok (Some i)) part p n = absurd (n refl)
  intent-left (Err r) part p n = record { left = refl; box = refl; count = λ _. refl; shown = refl; part = p.is }

-- ---- bones: refused, a question tells `false` or 0

no-bone : (a : Answer) (b : Bool) → (a ≡ Accepted → ⊥) → bone_in a (shown_if a b) ≡ nothing
no-bone Accepted b n = absurd (n refl)
no-bone (No m) b n = refl
no-bone (Held h) b n = refl

no-bones : (a : Answer) (k : ℕ) → (a ≡ Accepted → ⊥) → bones_in a (count_if a k) ≡ nothing
unfolding count_if
no-bones Accepted k n = absurd (n refl)
no-bones (No m) k n = refl
no-bones (Held h) k n = refl

module _ (w : Lent) where
  bone-left : (r : Row) (n : ℕ) (b : BoneShown) → Tells (bone_shown r n) b.answer b.shown → (b.answer ≡ Accepted → ⊥) → Unchanged w (boned b)
  unfolding bone_shown
  bone-left r n b p h = let e = p.answer_is.case_is in record { left = refl; box = refl; count = λ _. refl; shown = ap₂ bone_in e p.shown_is ∙ no-bone (bone_steps r n) (bone (bones_of r).mask n) (λ a. h (e ∙ a)); part = refl }

  bones-left : (r : Row) (b : BonesShown) → Tells (bones_shown r) b.answer b.shown → (b.answer ≡ Accepted → ⊥) → Unchanged w (summed b)
  unfolding bones_shown
  bones-left r b p h = let e = p.answer_is.case_is in record { left = refl; box = refl; count = λ _. refl; shown = ap₂ bones_in e p.shown_is ∙ no-bones (need (row_form r) 2) (count_below (bone (bones_of r).mask) (bones_of r).count) (λ a. h (e ∙ a)); part = refl }

-- ---- the theorem

-- `fresh`, `open`, `row_of`, `primary_of` and the figures refuse nothing
pub refusals : Refusals
unfolding scan_page scan_intent_page scan_conflicting_intents
refusals w starting (started s) p n = absurd (n refl)
refusals w (calling (Call.Read k m)) (seen r part) p n = read_left w k m r part p.0 p.1 n
refusals w (calling (Call.OneIntent k m)) (pointed s part) p n = intent-left w s part p.1 n
refusals w (handing_row s) (handed part) p n = absurd (n refl)
refusals w (handing_primary s) (handed part) p n = absurd (n refl)
refusals w (calling (Call.Page a m l)) (paged r out) p n = page-left w key_row_bytes (page (floor_in w) a m l (box_in w)) r out p n
refusals w (calling (Call.IntentPage a l)) (paged r out) p n = page-left w key_lock_bytes (intent_page a l (box_in w)) r out p n
refusals w (calling (Call.ConflictingIntents a m l)) (paged r out) p n = page-left w key_lock_bytes (conflict_page a m l (box_in w)) r out p n
refusals w (calling (Call.Change (Changing.Prewrite h s))) (changed r area) p n = changed-left w r area (p.refused n)
refusals w (calling (Call.Change (Changing.Commit h s))) (changed r area) p n = changed-left w r area (p.refused n)
refusals w (calling (Call.Change (Changing.Rollback txn start s))) (changed r area) p n = changed-left w r area (p.refused n)
refusals w (calling (Call.Change (Changing.OneStep h s))) (stepped r area) p n =
    let l = both w r.store area (p.settled.refused n) in
    record {
      left = l;
      box = ap box_in l;
      count = λ _. p.count_is ∙ one_step-refused (floor_in w) h s (box_in w) (λ e. n (p.settled.answer_is.case_is ∙ e));
      shown = refl;
      part = refl;
    }
refusals w (calling (Call.Change (Changing.Collect f))) (changed r area) p n = changed-left w r area (p.replaced.refused n)
refusals w (calling (Call.Restore s)) (changed r area) p n = changed-left w r area (p.refused n)
refusals w (calling Call.Statistics) (counted s) p n = absurd (n refl)
refusals w (calling Call.Marks) (marked m) p n = absurd (n refl)
refusals w (calling (Call.Capture t)) (paged r out) p n = wrote-left w (capture_image (floor_in w) t (box_in w) w.buffer) (captured-refused (floor_in w) t (box_in w) w.buffer) r out p.captured n
refusals w (calling (Call.Convert s)) (paged r out) p n = wrote-left w (convert_image s w.buffer) (converted-refused s w.buffer) r out p.wrote n
refusals w (calling (Call.Bone r n)) (boned b) p h = bone-left w r n b p h
refusals w (calling (Call.Bones r)) (summed b) p h = bones-left w r b p h
