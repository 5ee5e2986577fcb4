-- A read of a store whose records are sound and whose rows are in form: the newest record that is no Rollback tells all, and the count is one
-- more than the Rollbacks passed over.
-- Assumes nothing.
use Rattle.std.specs.Prelude.{Option as CodeOption, None, Some, Result, Ok, Err}
use Prim.Native.Nat.{ℕ, suc, ◌≤◌, ◌<◌}
use native.Mathlib.Omega.{arith}
use native.Mathlib.Numerals.{add-one}
use mathlib.Core.Path.{◌≡◌, refl, sym, ap, ◌∙◌, subst}
use mathlib.Core.Bool.{Bool, true, false, not}
use mathlib.Core.List.{List, [], ◌∷◌, reverse_aux}
use mathlib.Core.Option.{Option, none, some}
use lib.Dec.{leb}
use lib.ListN.{length}
use borrow.Author.Tests.{lt-ltb, le-ltb, lt-leb}
use Rattle.forms.specs.Bytes.{Bytes, bytes_at}
use Rattle.forms.specs.Key.{Key, key_form}
use Rattle.forms.specs.Row.{Row}
use Rattle.rules.specs.Answers.{Answer, Accepted, No, Held, Holder, ◌▸◌, need, need_own, Reply, nothing, answer_of, if_passed, count_if}
use Rattle.rules.specs.declared.records.Kind.{Kind}
use Rattle.rules.specs.declared.records.Kind.TheVariants.{Put, Delete, Rollback}
use Rattle.rules.specs.declared.records.Record.{Record}
use Rattle.rules.specs.Box as box
use Rattle.rules.specs.Calls.{found_if}
use Rattle.rules.specs.Sound.{sound_record, all_sound}
use Rattle.rules.specs.Read.{lock_lets, keep_if, at_or_below, newest_first, show_row, Examined, one_record, walk, read_steps, examine, read}
use Rattle.rules.proofs.FloorLaws.{steps-above, read-on-0}
use Rattle.laws.proofs.StepLaws.{answered, and_left, and_right, and_both}
use Rattle.store.specs.declared.table.Store.{Store}
use Rattle.store.specs.declared.views.LockView.{LockView}
use Rattle.lookups.specs.declared.lookup.KeyState.{KeyState}
use Rattle.store.specs.View.{row_if, box_of}
use Rattle.store.specs.Made.{Built}
use Rattle.store.specs.Views.{lock_in}
use Rattle.lookups.specs.KeyStates.{Found, Locked, said, locked_by, not_rolled, examined_if, examined_in, FoundThere, KeyStateAt}
use Rattle.reads.specs.declared.seen.Reading.{Reading}
use Rattle.rules.specs.declared.answers.Refusal.{Refusal}
use Rattle.rules.specs.declared.answers.Refusal.TheVariants.{KeyForm, BelowFloor}
use Rattle.rules.specs.Outcomes.{refusal, outcome}
use Rattle.rules.proofs.OutcomeLaws.{refusal-count, refusal-reply}
use Rattle.forms.specs.declared.part.Part.{Part}
use Rattle.reads.specs.Seen.{RowSeen, seen_in, SeenBelow, ReadAs, unread, newest_seen}
use Rattle.store.proofs.KeySoundLaws.{sound-records, row-shown}

-- ---- "lock with start at or below the moment, 7"

module _ (m : ℕ) (lock : Locked) where
  pub lets-nobody : lock ≡ None → (area : Bytes) → Accepted ≡ lock_lets m (locked_by area lock)
  unfolding lock_lets
  lets-nobody e area = rw e

  pub lets-above : {i : LockView} → lock ≡ Some i → m < i.start → (area : Bytes) → Accepted ≡ lock_lets m (locked_by area lock)
  unfolding lock_lets need_own
  lets-above {i} e h area = rw (e, lt-ltb m i.start h)

  pub lets-held : {i : LockView} (r : Refusal) → lock ≡ Some i → i.start ≤ m → ((area : Bytes) → refusal r ≡ Held (box.holder_of (lock_in area i))) → (area : Bytes) → refusal r ≡ lock_lets m (locked_by area lock)
  unfolding lock_lets need_own
  lets-held {i} r e h held area = held area ∙ rw (e, le-ltb m i.start h)

-- ---- the walk

sound-newest : (m : ℕ) (ws : List Record) → all_sound ws ≡ true → all_sound (newest_first m ws) ≡ true
unfolding newest_first at_or_below keep_if all_sound
sound-newest m ws s = aux (at_or_below m ws) [] (kept ws s) refl
  where
    kept : (ws : List Record) → all_sound ws ≡ true → all_sound (at_or_below m ws) ≡ true
    kept [] s = refl
    kept (w ∷ ws) s = go (leb w.stamp m) (kept ws (and_right (sound_record w) _ s))
      where
        go : (t : Bool) → all_sound (at_or_below m ws) ≡ true → all_sound (keep_if t w (at_or_below m ws)) ≡ true
        go true r = and_both (sound_record w) _ (and_left _ _ s) r
        go false r = r

    aux : (ws acc : List Record) → all_sound ws ≡ true → all_sound acc ≡ true → all_sound (reverse_aux ws acc) ≡ true
    aux [] acc s a = a
    aux (w ∷ ws) acc s a = aux ws (w ∷ acc) (and_right (sound_record w) _ s) (and_both (sound_record w) _ (and_left _ _ s) a)

abbrev by_kind : Kind → Reply Row → Reply Row
by_kind Put r = r
by_kind Delete r = nothing
by_kind Rollback r = nothing

abbrev show_newest : Key → List box.Default → Option Record → Reply Row
show_newest k ds none = nothing
show_newest k ds (some w) = by_kind w.kind (show_row (box.row_of k w.start ds))

walk-newest : (k : Key) (ds : List box.Default) (ws : List Record) → all_sound ws ≡ true → show_newest k ds (not_rolled ws) ≡ (walk k ds ws).reply
unfolding all_sound not_rolled found_if walk one_record
walk-newest k ds [] s = refl
walk-newest k ds (w ∷ ws) s = go (sound_record w) w.kind refl (and_left _ _ s) (walk-newest k ds ws (and_right (sound_record w) _ s))
  where
    go : (t : Bool) (n : Kind) → w.kind ≡ n → t ≡ true → show_newest k ds (not_rolled ws) ≡ (walk k ds ws).reply
        → show_newest k ds (found_if (not (box.eq_kind n Rollback)) w (not_rolled ws)) ≡ (one_record t n (show_row (box.row_of k w.start ds)) (walk k ds ws)).reply
    go t Put e h ih = rw (e, h)
    go t Delete e h ih = rw (e, h)
    go t Rollback e h ih = rw h ih

walk-examined : (k : Key) (ds : List box.Default) (ws : List Record) → all_sound ws ≡ true → examined_in ws ≡ (walk k ds ws).count
unfolding all_sound examined_in walk one_record
walk-examined k ds [] s = refl
walk-examined k ds (w ∷ ws) s = go (sound_record w) w.kind (and_left _ _ s) (walk-examined k ds ws (and_right (sound_record w) _ s))
  where
    go : (t : Bool) (n : Kind) → t ≡ true → examined_in ws ≡ (walk k ds ws).count → examined_if true (box.eq_kind n Rollback) (examined_in ws) ≡ (one_record t n (show_row (box.row_of k w.start ds)) (walk k ds ws)).count
    go t Put h ih = rw h
    go t Delete h ih = rw h
    go t Rollback h ih = rw h (add-one (examined_in ws) ∙ ap suc ih)

-- ---- the answers

read_as : {want : Examined} {area : Bytes} {r : Reading} → seen_in area r.seen ≡ want.reply → SeenBelow (length area) r.seen → r.count ≡ want.count → ReadAs want area r
read_as e h n = record { seen_as = record { answer_is = answered (ap (λ (x : Reply Row). answer_of x) e); is = e; within = h }; count_is = n }

if-then : {A : Type 0} (a b : Answer) (r : Reply A) → if_passed (a ▸ b) r ≡ if_passed a (if_passed b r)
unfolding if_passed ◌▸◌
if-then Accepted b r = refl
if-then (No n) b r = refl
if-then (Held h) b r = refl

-- a page asks for the floor once, so its keys are read on the floor 0
pub read-steps : (k : Key) (m : ℕ) (b : box.Box) (t : Bool) → key_form k ≡ t
    → read 0 k m b ≡ if_passed (need t 1) (if_passed (lock_lets m (box.lock_of k b.lines)) (walk k b.defaults (newest_first m (box.records_of k b.lines))).reply)
unfolding read examine
read-steps k m b t e =
    ap (λ (a : Answer). if_passed a (walk k b.defaults (newest_first m (box.records_of k b.lines))).reply) (read-on-0 k m b)
    ∙ if-then (need (key_form k) 1) (lock_lets m (box.lock_of k b.lines)) _ ∙ rw e

module _ (floor : ℕ) (k : Key) (m : ℕ) (b : box.Box) where
  -- by what the steps before the walk answer
  reply-is : {a : Answer} → read_steps floor k m b ≡ a → if_passed a (walk k b.defaults (newest_first m (box.records_of k b.lines))).reply ≡ (examine floor k m b).reply
  unfolding examine
  reply-is e = ap (λ (a : Answer). if_passed a (walk k b.defaults (newest_first m (box.records_of k b.lines))).reply) (sym e)

  count_is : {a : Answer} → read_steps floor k m b ≡ a → count_if a (walk k b.defaults (newest_first m (box.records_of k b.lines))).count ≡ (examine floor k m b).count
  unfolding examine
  count_is e = ap (λ (a : Answer). count_if a (walk k b.defaults (newest_first m (box.records_of k b.lines))).count) (sym e)

  refused-by : (area : Bytes) {w : Refusal} {r : Reading} → read_steps floor k m b ≡ refusal w → r ≡ unread w → ReadAs (examine floor k m b) area r
  refused-by area {w} e q = subst (ReadAs (examine floor k m b) area) (sym q) (read_as (sym (refusal-reply w _) ∙ reply-is e) tt (sym (refusal-count w _) ∙ count_is e))

  pub read-invalid : (area : Bytes) {r : Reading} → key_form k ≡ false → r ≡ unread KeyForm → ReadAs (examine floor k m b) area r
  unfolding read_steps need ◌▸◌
  read-invalid area h q = refused-by area (rw h) q

  -- "14, below the floor, for a read .. moment below F (in a read after 1 ..)"
  pub read_below : (area : Bytes) {r : Reading} → key_form k ≡ true → m < floor → r ≡ unread BelowFloor → ReadAs (examine floor k m b) area r
  unfolding read_steps need ◌▸◌
  read_below area form h q = refused-by area (rw (form, lt-leb floor m h)) q

module _ {st : Store} {area k : Bytes} {start m : ℕ} {found : KeyState} (b : Built st area) (form : key_form k ≡ true) (above : st.floor ≤ m) (f : KeyStateAt st area k start m found) (lets : Result (Unit {0}) Refusal) (l : (area : Bytes) → outcome lets ≡ lock_lets m (locked_by area found.lock)) where
  abbrev ds : List box.Default
  ds = (box_of st area).defaults

  abbrev ws : List Record
  ws = box.records_of k (box_of st area).lines

  steps : {a : Answer} → outcome lets ≡ a → read_steps st.floor k m (box_of st area) ≡ a
  unfolding need ◌▸◌
  steps {a} e = steps-above st.floor k m (box_of st area) above ∙ rw (form, ← f.lock_is, ← l area, e)

  pub read_refused : {w : Refusal} {r : Reading} → lets ≡ Err w → r ≡ unread w → ReadAs (examine st.floor k m (box_of st area)) area r
  read_refused e q = refused-by st.floor k m (box_of st area) area (steps (ap outcome e)) q

  -- what the newest record that counts shows, with its row
  newest-is : (n : Found) → FoundThere st.top area ds k n → seen_in area (Ok (newest_seen n)) ≡ show_newest k ds (said n)
  newest-is None r = refl
  newest-is (Some w) r = go w.kind refl
    where
      go : (a : Kind) → w.kind ≡ a → seen_in area (Ok (newest_seen (Some w))) ≡ by_kind a (show_row (box.row_of k w.start ds))
      go Put e = rw e (sym (row-shown k w.start ds _ b.kept.rows (r.is ∙ ap (λ (a : Kind). row_if a (bytes_at area w.rowat w.rowlen)) e)))
      go Delete e = rw e
      go Rollback e = rw e

  newest-in : (n : Found) → FoundThere st.top area ds k n → SeenBelow (length area) (Ok (newest_seen n))
  newest-in None r = tt
  newest-in (Some w) r = go w.kind refl
    where
      go : (a : Kind) → w.kind ≡ a → SeenBelow (length area) (Ok (newest_seen (Some w)))
      go Put e = rw e (omega (arith, r.within, b.top_in, b.area_long))
      go Delete e = rw e tt
      go Rollback e = rw e tt

  sound-by : all_sound (newest_first m ws) ≡ true
  sound-by = sound-newest m ws (sound-records k (box_of st area).lines b.kept.good)

  pub read-newest : {s : CodeOption Part} → outcome lets ≡ Accepted → s ≡ newest_seen found.history.visible → ReadAs (examine st.floor k m (box_of st area)) area (record { seen = Ok s; count = found.history.examined })
  unfolding if_passed count_if
  read-newest e q =
      subst (λ (s : CodeOption Part). ReadAs (examine st.floor k m (box_of st area)) area (record { seen = Ok s; count = found.history.examined })) (sym q)
      (read_as
      (newest-is found.history.visible f.history.visible_row ∙ ap (show_newest k ds) f.history.visible ∙ walk-newest k ds (newest_first m ws) sound-by ∙ reply-is st.floor k m (box_of st area) (steps e))
      (newest-in found.history.visible f.history.visible_row)
      (f.history.examined ∙ walk-examined k ds (newest_first m ws) sound-by ∙ count_is st.floor k m (box_of st area) (steps e)))
